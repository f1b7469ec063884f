-- The indexes of a page's number, from the top: where the bits that a walk has used are shifted out, the next index is on top.
-- Assumes nothing.
use mathlib.Core.Path.{◌≡◌}
use mathlib.Core.Logic.{◌⊎◌, ⊎_elim}
use Prim.Native.Nat.{ℕ, ◌*◌, ◌/◌, ◌%◌, ◌^◌, ◌-◌, ◌<◌, ◌≤◌}
use native.Mathlib.Omega.{arith}
use Rattle.words.proofs.ChoiceLaws.{same_or_not}
use Rattle.paging.specs.Entry.{index_at}

-- the indexes of so many levels, on top of 36 bits
unfoldable pub shifted : ℕ → ℕ → ℕ
shifted level page = page % 512 ^ level * 512 ^ (4 - level)

pub shifted_all : (page : ℕ) → shifted 4 page ≡ page % 0x1000000000
unfolding shifted
shifted_all page = omega arith

module _ (P : ℕ → Type 0) (at_1 : P 1) (at_2 : P 2) (at_3 : P 3) (at_4 : P 4) where
  one_of_four : (level : ℕ) → 0 < level → level ≤ 4 → P level
  one_of_four level some most =
      ⊎_elim (λ e. rw e at_1)
      (λ (not_1 : level ≡ 1 → ⊥). ⊎_elim (λ e. rw e at_2)
      (λ (not_2 : level ≡ 2 → ⊥). ⊎_elim (λ e. rw e at_3)
      (λ (not_3 : level ≡ 3 → ⊥). let e : level ≡ 4 = omega (arith, not_1, not_2, not_3) in rw e at_4)
      (same_or_not level 3)) (same_or_not level 2)) (same_or_not level 1)

module _ (page : ℕ) where
  pub top_index : (level : ℕ) → 0 < level → level ≤ 4 → shifted level page / 0x8000000 ≡ index_at (level - 1) page
  unfolding shifted index_at
  top_index =
      one_of_four (λ level. shifted level page / 0x8000000 ≡ index_at (level - 1) page)
      (omega arith) (omega arith) (omega arith) (omega arith)

  pub shift_on : (level : ℕ) → 0 < level → level ≤ 4 → shifted level page % 0x8000000 * 512 ≡ shifted (level - 1) page
  unfolding shifted
  shift_on =
      one_of_four (λ level. shifted level page % 0x8000000 * 512 ≡ shifted (level - 1) page)
      (omega arith) (omega arith) (omega arith) (omega arith)
