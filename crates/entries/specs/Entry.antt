-- 01, "Sizes and layout": an entry, its two words, and when it is well formed; 02, Q-2: what is bad in one that is not. All are over the
-- code's `Entry`, a record of the five fields. `kind` is the paper's TYPE; `address` is word 1: the guest's address, or where FIXED the
-- leaf's.
use Rattle.std.specs.Prelude.{◌≡◌, Bool, true, false, not, ℕ, ◌+◌, ◌*◌, ◌/◌, ◌%◌, leb, ltb, eqb, Result, Ok, Err}
use Rattle.words.specs.Choice.{pick, ◌and◌, ◌or◌}
use Rattle.entries.specs.Reasons.{reason_number}
use Rattle.entries.specs.declared.entry.Entry.{Entry}
use Rattle.entries.specs.declared.entry.Words.{Words}
use Rattle.entries.specs.declared.reason.Reason.{Reason}
use Rattle.entries.specs.declared.reason.Reason.TheVariants.{SpareBits, Asid, Flags, Address}

-- "Types: SHARED 0, PRIVATE 1, MERGEABLE 2, LEAF 3."
abbrev pub SHARED : ℕ
SHARED = 0

abbrev pub PRIVATE : ℕ
PRIVATE = 1

abbrev pub MERGEABLE : ℕ
MERGEABLE = 2

abbrev pub LEAF : ℕ
LEAF = 3

-- "Addresses (hpa of a frame, gpa of a guest page) are multiples of 4,096 below 2^52."
abbrev pub address_limit : ℕ
address_limit = 0x10000000000000

unfoldable pub is_address : ℕ → Bool
is_address a = eqb (a % 4096) 0 and ltb a address_limit

-- "Frame number = hpa / 4,096."
unfoldable pub frame_of : ℕ → ℕ
frame_of hpa = hpa / 4096

-- "Guest numbers (ASID) are 1 to 511; 0 is the host."
unfoldable pub is_party : ℕ → Bool
is_party asid = leb asid 511

unfoldable pub is_guest : ℕ → Bool
is_guest asid = leb 1 asid and leb asid 511

-- types of pages that belong to a guest, and to none
unfoldable pub is_owned : ℕ → Bool
is_owned kind = eqb kind PRIVATE or eqb kind MERGEABLE

unfoldable pub is_unowned : ℕ → Bool
is_unowned kind = eqb kind SHARED or eqb kind LEAF

-- an entry from its fields, in the words' order; and the entry of two zero words, which is SHARED
unfoldable pub entry : ℕ → ℕ → Bool → Bool → ℕ → Entry
entry asid kind validated fixed address =
    record { asid = asid; kind = kind; validated = validated; fixed = fixed; address = address }

unfoldable pub zero_entry : Entry
zero_entry = entry 0 SHARED false false 0

-- "SHARED and LEAF have ASID 0 .. PRIVATE and MERGEABLE have ASID 1 to 511"
unfoldable pub asid_fits : Entry → Bool
asid_fits e = (is_unowned e.kind and eqb e.asid 0) or (is_owned e.kind and is_guest e.asid)

-- ".. both flags 0 .. PRIVATE is never FIXED; FIXED needs VALIDATED"
unfoldable pub flags_fit : Entry → Bool
flags_fit e =
    (is_unowned e.kind and not e.validated and not e.fixed)
    or (is_owned e.kind and (not e.fixed or (eqb e.kind MERGEABLE and e.validated)))

-- ".. word 1 zero .. an address in word 1 .. and then word 1 is the address of a frame below N, the leaf"
unfoldable pub address_fits : ℕ → Entry → Bool
address_fits n e =
    (is_unowned e.kind and eqb e.address 0)
    or (is_owned e.kind and is_address e.address and (not e.fixed or ltb (frame_of e.address) n))

-- Q-2: "Decoding an entry shall say which rule broke first": an entry, or the reason of a bad one
abbrev pub Decoded : Type 0
Decoded = Result Entry Reason

-- where this rule is broken, its reason; else what the rules after it say
unfoldable pub rule : Bool → Reason → Decoded → Decoded
rule holds reason rest = pick holds rest (Err reason)

-- ".. in this order: 1 spare bits, 2 ASID against type, 3 flags, 4 address." In a table of n frames, whether the spare bits are clear, and
-- the fields: the entry, or bad with the reason
unfoldable pub by_rules : ℕ → Bool → Entry → Decoded
by_rules n clear e =
    rule clear SpareBits
    (rule (asid_fits e) Asid
    (rule (flags_fit e) Flags
    (rule (address_fits n e) Address
    (Ok e))))

-- "Well formed", in a table of n frames: there is no reason
abbrev pub WellFormed : ℕ → Entry → Type 0
WellFormed n e = by_rules n true e ≡ Ok e

-- the reason; 0 for none
unfoldable pub reason_of : Decoded → ℕ
reason_of (Ok e) = 0
reason_of (Err reason) = reason_number reason

-- "Entry, word 0: bits 15:0 ASID, 17:16 TYPE, 18 VALIDATED, 19 FIXED, the rest zero. Word 1: GPA." These are the fields, whatever the
-- rest is
unfoldable pub fields : ℕ → ℕ → Entry
fields word0 word1 =
    entry (word0 % 0x10000) (word0 / 0x10000 % 4) (eqb (word0 / 0x40000 % 2) 1) (eqb (word0 / 0x80000 % 2) 1) word1

-- what two words hold, in a table of n frames. The spare bits are "the rest" of word 0; what is wrong in word 1 is the address
unfoldable pub decoded : ℕ → ℕ → ℕ → Decoded
decoded n word0 word1 = by_rules n (eqb (word0 / 0x100000) 0) (fields word0 word1)

-- the two words of an entry, a flag as a bit
unfoldable pub bit : Bool → ℕ
bit b = pick b 1 0

unfoldable pub encoded : Entry → Words
encoded e =
    record {
      0 = e.asid % 0x10000 + 0x10000 * (e.kind % 4) + 0x40000 * bit e.validated + 0x80000 * bit e.fixed;
      1 = e.address;
    }

-- "validating, fixing or moving it gives a new value". To move a page is to give it to a guest, at the guest's address and unfixed:
-- PUNMERGE's entry 2 is entry 1 moved, and PUNFIX moves a page to the one guest that is left in it.
unfoldable pub to_validated : Entry → Entry
to_validated e = entry e.asid e.kind true e.fixed e.address

unfoldable pub to_fixed : Entry → ℕ → Entry
to_fixed e leaf = entry e.asid e.kind e.validated true leaf

unfoldable pub to_moved : Entry → ℕ → ℕ → Entry
to_moved e asid gpa = entry asid e.kind e.validated false gpa
