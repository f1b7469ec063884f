-- The first reason among frames: a bad frame has it, a good one leaves it to those after it, and of two lists the first with one has it.
-- Assumes nothing.
use mathlib.Core.Path.{◌≡◌, refl, sym, ◌∙◌}
use mathlib.Core.List.{List, [], ◌∷◌, ◌++◌}
use mathlib.Core.Logic.{⊎_elim}
use Prim.Native.Nat.{ℕ, ◌≤◌}
use native.Mathlib.Omega.{arith}
use lib.Dec.{eqb}
use borrow.Author.Tests.{eqb-false, ne_eqb}
use Rattle.words.specs.Choice.{pick}
use Rattle.words.proofs.ChoiceLaws.{true_or_false, pick_true, pick_false}
use Rattle.entries.specs.Entry.{reason_of}
use Rattle.entries.specs.declared.entry.Entry.{Entry}
use Rattle.entries.specs.declared.reason.Reason.{Reason}
use Rattle.entries.specs.Reasons.{reason_number}
use Rattle.std.specs.Prelude.{Ok, Err}
use Rattle.rules.specs.Reasons.{first_reason}
use Rattle.rules.specs.State.{State, entry_at}

module _ (s : State) where
  pub named_bad :
      (f : ℕ) (reason : Reason) (rest : List ℕ) → entry_at s f ≡ Err reason → 1 ≤ reason_number reason
      → first_reason s (f ∷ rest) ≡ reason_number reason
  unfolding first_reason reason_of
  named_bad f reason rest here some = rw here (pick_false _ _ (ne_eqb (reason_number reason) 0 (λ e. omega arith)))

  pub named_good : (f : ℕ) (e : Entry) (rest : List ℕ) → entry_at s f ≡ Ok e → first_reason s (f ∷ rest) ≡ first_reason s rest
  unfolding first_reason reason_of pick
  named_good f e rest here = rw here

  pub none_before : (a b : List ℕ) → first_reason s a ≡ 0 → first_reason s (a ++ b) ≡ first_reason s b
  unfolding first_reason
  none_before [] b h = refl
  none_before (f ∷ a) b h =
      ⊎_elim
      (λ t. pick_true _ _ t ∙ none_before a b (sym (pick_true _ _ t) ∙ h))
      (λ t. absurd (eqb-false _ _ t (sym (pick_false _ _ t) ∙ h)))
      (true_or_false (eqb (reason_of (entry_at s f)) 0))

  pub some_before : (a b : List ℕ) → 1 ≤ first_reason s a → first_reason s (a ++ b) ≡ first_reason s a
  unfolding first_reason
  some_before [] b h = let z : ⊥ = omega arith in absurd z
  some_before (f ∷ a) b h =
      ⊎_elim
      (λ t. pick_true _ _ t ∙ some_before a b (rw (pick_true _ _ t) at h) ∙ sym (pick_true _ _ t))
      (λ t. pick_false _ _ t ∙ sym (pick_false _ _ t))
      (true_or_false (eqb (reason_of (entry_at s f)) 0))
