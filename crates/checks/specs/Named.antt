-- 01, "The calls": "An entry is decoded before use; a call goes on only with a decoded entry." What the decoding of the named frames'
-- entries comes to, in code: the entries, or a refusal.
use Rattle.std.specs.Prelude.{Result, Ok, Err}
use Rattle.entries.specs.Entry.{Decoded}
use Rattle.entries.specs.declared.entry.Entry.{Entry}
use Rattle.checks.specs.declared.refusal.Refusal.{Refusal}
use Rattle.checks.specs.declared.refusal.Refusal.TheVariants.{BadEntry}

unfoldable pub named : Decoded → Result Entry Refusal
named (Ok e) = Ok e
named (Err reason) = Err (BadEntry reason)

-- of two frames: the first, then the second
unfoldable pub and_named : Result Entry Refusal → Decoded → Result (Entry × Entry) Refusal
and_named (Err r) d = Err r
and_named (Ok one) (Err reason) = Err (BadEntry reason)
and_named (Ok one) (Ok two) = Ok (one, two)

abbrev pub both_named : Decoded → Decoded → Result (Entry × Entry) Refusal
both_named d1 d2 = and_named (named d1) d2
