-- `fixing::unfix::of_guest` meets its contract: each exit is a case of the rule.
use mathlib.Core.Path.{◌≡◌, refl, sym}
use Prim.Native.Nat.{ℕ}
use Rattle.entries.specs.declared.leaf.LeafWord.{LeafWord}
use Rattle.entries.specs.declared.leaf.LeafWord.TheVariants.{Absent, Present, Misshapen}
use Rattle.rules.specs.Answers.{Verdict, refuse}
use Rattle.rules.specs.Leaves.{of_guest}
use Rattle.rules.specs.Refusals.{BROKEN_LEAF}
use Rattle.checks.proofs.PassedLaws.{refuses}
use Rattle.checks.specs.Passed.{passed, past}
use Rattle.fixing.proofs.unfix.of_guest.Goals as goal

not_present :
    (index : ℕ) (word : LeafWord) (rest : ℕ → Verdict) → ((gpa : ℕ) → word ≡ Present gpa → ⊥) → of_guest index word rest ≡ refuse BROKEN_LEAF
unfolding of_guest
not_present index (Present gpa) rest other = absurd (other gpa refl)
not_present index Absent rest other = refl
not_present index Misshapen rest other = refl

pub returns-in_default : goal.returns-in_default
unfolding passed
returns-in_default c = λ rest. sym (not_present _ _ rest c.in_default.not-Present)

pub returns-in_err-ensure : goal.returns-in_err-ensure
unfolding of_guest past
returns-in_err-ensure c = λ rest. rw (
  c.in-Present.is,
  ← c.is_guest.ensures,
  ← c.in_err-ensure.ensures,
  refuses _ _ c.from_residual.ensures.1,
)

pub returns : goal.returns
unfolding of_guest passed past
returns c = λ rest. rw (c.in-Present.is, ← c.is_guest.ensures, ← c.in_ok-ensure.ensures)
