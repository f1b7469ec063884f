-- The bytes up to the first mark: of a run without it and then the mark, the run; and from a place on, what is left up to the mark.
-- By induction on the bytes.
-- Assumes nothing.
use mathlib.Core.Path.{◌≡◌, refl, ap, ◌∙◌}
use mathlib.Core.List.{List, [], ◌∷◌, ◌++◌}
use mathlib.Core.Logic.{◌≢◌, ⊎_elim}
use Prim.Native.Nat.{ℕ, ◌+◌, ◌≤◌}
use native.Mathlib.Omega.{arith}
use lib.ListN.{length, take, drop, length-drop}
use borrow.Author.Tests.{eq-eqb, ne_eqb}
use Rattle.words.proofs.ChoiceLaws.{same_or_not, pick_true, pick_false}
use Rattle.format.specs.Place.{up_to}
use Rattle.format.proofs.Without.{Without}

module _ (mark : ℕ) where
  -- ---- no byte, and a byte in front
  pub up_to_none : up_to mark [] ≡ []
  unfolding up_to
  up_to_none = refl

  pub up_to_here : (byte : ℕ) (rest : List ℕ) → byte ≡ mark → up_to mark (byte ∷ rest) ≡ []
  unfolding up_to
  up_to_here byte rest e = pick_true _ _ (eq-eqb byte mark e)

  pub up_to_past : (byte : ℕ) (rest : List ℕ) → byte ≢ mark → up_to mark (byte ∷ rest) ≡ byte ∷ up_to mark rest
  unfolding up_to
  up_to_past byte rest e = pick_false _ _ (ne_eqb byte mark e)

  -- ---- a run of bytes
  pub up_to_mark : (run rest : List ℕ) → Without mark run → up_to mark (run ++ (mark ∷ rest)) ≡ run
  up_to_mark [] rest none = up_to_here mark rest refl
  up_to_mark (byte ∷ run) rest none = up_to_past byte _ none.0 ∙ ap (λ l. byte ∷ l) (up_to_mark run rest none.1)

  pub up_to_short : (bytes : List ℕ) → length (up_to mark bytes) ≤ length bytes
  up_to_short [] = rw up_to_none (omega arith)
  up_to_short (byte ∷ rest) =
      let on = up_to_short rest in
      ⊎_elim (λ e. rw (up_to_here byte rest e) (omega arith)) (λ e. rw (up_to_past byte rest e) (omega arith)) (same_or_not byte mark)

  pub up_to_take : (bytes : List ℕ) → take (length (up_to mark bytes)) bytes ≡ up_to mark bytes
  up_to_take [] = rw up_to_none
  up_to_take (byte ∷ rest) =
      ⊎_elim (λ e. rw (up_to_here byte rest e)) (λ e. rw (up_to_past byte rest e, up_to_take rest)) (same_or_not byte mark)

  -- from a place on
  pub up_to_within : (bytes : List ℕ) (at : ℕ) → at ≤ length bytes → at + length (up_to mark (drop at bytes)) ≤ length bytes
  up_to_within bytes at h = let short = rw (length-drop at bytes) at (up_to_short (drop at bytes)) in omega arith
