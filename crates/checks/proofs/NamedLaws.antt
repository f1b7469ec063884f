-- The entries of named frames: what the code has of them is what the rule's chain comes to, whatever follows; and entries that come out of
-- it are those that stand in the table. By cases.
-- Assumes nothing.
use Rattle.std.proofs.Common.{◌≡◌, refl, sym, ap, ◌∙◌}
use Rattle.std.specs.Prelude.{Result, Ok, Err}
use Rattle.std.specs.Result.{result_and}
use Rattle.entries.specs.Entry.{Decoded}
use Rattle.entries.specs.declared.entry.Entry.{Entry}
use Rattle.rules.specs.Answers.{Verdict, entered, both_entered}
use Rattle.checks.specs.Named.{named, and_named, both_named}
use Rattle.checks.specs.Passed.{passed, past}
use Rattle.checks.specs.declared.refusal.Refusal.{Refusal}

pub entered-named : (d : Decoded) (rest : Entry → Verdict) → entered d rest ≡ passed (named d) rest
unfolding entered named passed
entered-named (Ok e) rest = refl
entered-named (Err reason) rest = refl

pub both_entered-named :
    (d1 d2 : Decoded) (rest : Entry → Entry → Verdict)
    → both_entered d1 d2 rest ≡ passed (both_named d1 d2) (λ both. rest both.0 both.1)
unfolding both_entered entered named and_named passed
both_entered-named (Err reason) d2 rest = refl
both_entered-named (Ok one) (Err reason) rest = refl
both_entered-named (Ok one) (Ok two) rest = refl

pub first_of_both : (d1 d2 : Decoded) (both : Entry × Entry) → both_named d1 d2 ≡ Ok both → d1 ≡ Ok both.0
unfolding named and_named
first_of_both (Err reason) d2 both h = cc
first_of_both (Ok one) (Err reason) both h = cc
first_of_both (Ok one) (Ok two) both h = let same : (one, two) ≡ both = cc in rw (← same)

-- the same past the checks that a call begins with: a call with one named frame, and one with two
pub one_checked :
    {one : Result Entry Refusal} (begun : Result Unit Refusal) (d : Decoded) → one ≡ result_and begun (named d) → (rest : Entry → Verdict)
    → past begun (entered d rest) ≡ passed one rest
unfolding past passed
one_checked (Ok _) d of_one rest = rw of_one (entered-named d rest)
one_checked (Err r) d of_one rest = rw of_one

module _
    {one : Result Entry Refusal} {both : Result (Entry × Entry) Refusal} (begun : Result Unit Refusal) (d1 d2 : Decoded)
    (of_one : one ≡ result_and begun (named d1)) (of_both : both ≡ and_named one d2) where
  pub two_checked : (rest : Entry → Entry → Verdict) → past begun (both_entered d1 d2 rest) ≡ passed both (λ p. rest p.0 p.1)
  unfolding past passed and_named
  two_checked rest = go begun of_one
    where
      go : (g : Result Unit Refusal) → one ≡ result_and g (named d1) → past g (both_entered d1 d2 rest) ≡ passed both (λ p. rest p.0 p.1)
      go (Ok _) first = rw (of_both, first) (both_entered-named d1 d2 rest)
      go (Err r) first = rw (of_both, first)

  pub first_entry : (p : Entry × Entry) → both ≡ Ok p → d1 ≡ Ok p.0
  unfolding and_named
  first_entry p good = go begun of_one
    where
      go : (g : Result Unit Refusal) → one ≡ result_and g (named d1) → d1 ≡ Ok p.0
      go (Ok _) first = first_of_both d1 d2 p (rw (← first, ← of_both) good)
      go (Err r) first = absurd (is_none (ap (λ o. and_named o d2) (sym first) ∙ sym of_both ∙ good))
        where
          is_none : Err r ≡ Ok p → ⊥
          is_none h = cc
