-- 02, Q-2, "in this order: 1 spare bits, 2 ASID against type, 3 flags, 4 address": the reasons, whole. Only this file gives them their
-- numbers.
use Rattle.std.specs.Prelude.{ℕ}
use Rattle.entries.specs.declared.reason.Reason.{Reason}
use Rattle.entries.specs.declared.reason.Reason.TheVariants.{SpareBits, Asid, Flags, Address, NoEntry}

abbrev pub reason_number : Reason → ℕ
-- a bit of word 0 above the fields is set
reason_number SpareBits = 1
-- SHARED or LEAF with an ASID, or PRIVATE or MERGEABLE with none or one above 511
reason_number Asid = 2
-- SHARED or LEAF with a flag, PRIVATE and FIXED, or FIXED and not VALIDATED
reason_number Flags = 3
-- word 1: not zero where it must be, no address, or FIXED and not the address of a frame below N
reason_number Address = 4
-- no reason: there is no entry, since the table does not cover the frame
reason_number NoEntry = 0
