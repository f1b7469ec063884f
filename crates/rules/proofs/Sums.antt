-- Sums of the first n terms, by induction on n: of two that differ in no term, in one, or in two; that a term, or two, are no more than
-- the whole, and one alone is the whole; two added term by term; a sum of sums, taken the other way round; and a bound.
-- Assumes nothing.
use mathlib.Core.Path.{◌≡◌, refl}
use mathlib.Core.Logic.{◌≢◌}
use Prim.Native.Nat.{ℕ, zero, suc, ◌+◌, ◌≤◌, ◌<◌}
use native.Mathlib.Decide.{ℕ_discrete}
use native.Mathlib.Omega.{arith}
use lib.Dec.{eqb}
use borrow.Author.Tests.{eq-eqb, ne_eqb}
use Rattle.words.specs.Choice.{pick}
use Rattle.words.proofs.ChoiceLaws.{pick_true, pick_false}
use Rattle.rules.specs.Balance.{sum}

-- ---- two sums
pub sum_same : (t u : ℕ → ℕ) (n : ℕ) → ((f : ℕ) → f < n → u f ≡ t f) → sum u n ≡ sum t n
unfolding sum
sum_same t u zero same = refl
sum_same t u (suc n) same = rw (sum_same t u n (λ f h. same f (omega arith)), same n (omega arith))

-- the terms are the same but at p
pub sum_one : (t u : ℕ → ℕ) (p n : ℕ) → p < n → ((f : ℕ) → f ≢ p → u f ≡ t f) → sum u n + t p ≡ sum t n + u p
unfolding sum
sum_one t u p zero h same = omega arith
sum_one t u p (suc n) h same =
    elim (ℕ_discrete p n) [
      | yes e ↦ let below = sum_same t u n (λ f l. same f (omega arith)) in rw (e, below) (omega arith)
      | no e ↦ let below = sum_one t u p n (omega (arith, e)) same in omega (arith, same n (λ k. e (omega arith)))
    ]

-- the terms are the same but at p and q: they differ one after the other
module _ (t u : ℕ → ℕ) (p : ℕ) where
  between : ℕ → ℕ
  between f = pick (eqb f p) (u f) (t f)

  between_at : between p ≡ u p
  unfolding between
  between_at = pick_true _ _ (eq-eqb p p refl)

  between_beside : (f : ℕ) → f ≢ p → between f ≡ t f
  unfolding between
  between_beside f e = pick_false _ _ (ne_eqb f p e)

pub sum_two :
    (t u : ℕ → ℕ) (p q n : ℕ) → p < n → q < n → p ≢ q → ((f : ℕ) → f ≢ p → f ≢ q → u f ≡ t f)
    → sum u n + (t p + t q) ≡ sum t n + (u p + u q)
sum_two t u p q n h l apart same =
    let one = sum_one t (between t u p) p n h (between_beside t u p) in
    let two = sum_one (between t u p) u q n l last in
    omega (arith, between_at t u p, between_beside t u p q (λ e. apart (omega arith)))
  where
    last : (f : ℕ) → f ≢ q → u f ≡ between t u p f
    last f e =
        elim (ℕ_discrete f p) [
          | yes k ↦ rw (k, between_at t u p)
          | no k ↦ rw (between_beside t u p f k) (same f k e)
        ]

-- ---- a sum and its terms
pub sum_none : (t : ℕ → ℕ) (n : ℕ) → ((f : ℕ) → f < n → t f ≡ 0) → sum t n ≡ 0
unfolding sum
sum_none t zero none = refl
sum_none t (suc n) none = rw (sum_none t n (λ f h. none f (omega arith)), none n (omega arith))

pub sum_term : (t : ℕ → ℕ) (p n : ℕ) → p < n → t p ≤ sum t n
unfolding sum
sum_term t p zero h = omega arith
sum_term t p (suc n) h =
    elim (ℕ_discrete p n) [
      | yes e ↦ rw e (omega arith)
      | no e ↦ let below = sum_term t p n (omega (arith, e)) in omega arith
    ]

pub sum_pair : (t : ℕ → ℕ) (p q n : ℕ) → p < n → q < n → p ≢ q → t p + t q ≤ sum t n
unfolding sum
sum_pair t p q zero h l apart = omega arith
sum_pair t p q (suc n) h l apart =
    elim (ℕ_discrete p n) [
      | yes e ↦ let other = sum_term t q n (omega (arith, apart)) in rw e (omega arith)
      | no e ↦ elim (ℕ_discrete q n) [
        | yes k ↦ let other = sum_term t p n (omega (arith, e)) in rw k (omega arith)
        | no k ↦ let below = sum_pair t p q n (omega (arith, e)) (omega (arith, k)) apart in omega arith
      ]
    ]

-- where no other term counts, the sum is one term
pub sum_single : (t : ℕ → ℕ) (p n : ℕ) → p < n → ((f : ℕ) → f ≢ p → t f ≡ 0) → sum t n ≡ t p
sum_single t p n h none = omega (arith, sum_one (λ f. 0) t p n h none, sum_none (λ f. 0) n (λ f l. refl))

-- ---- sums of sums
pub sum_add : (t u v : ℕ → ℕ) (n : ℕ) → ((f : ℕ) → t f + u f ≡ v f) → sum t n + sum u n ≡ sum v n
unfolding sum
sum_add t u v zero add = refl
sum_add t u v (suc n) add = let below = sum_add t u v n add in omega (arith, add n)

pub sum_swap : (t : ℕ → ℕ → ℕ) (m n : ℕ) → sum (λ a. sum (t a) n) m ≡ sum (λ f. sum (λ a. t a f) m) n
unfolding sum
sum_swap t m zero = sum_none (λ a. 0) m (λ a h. refl)
sum_swap t m (suc n) = let below = sum_swap t m n in omega (arith, sum_add (λ a. sum (t a) n) (λ a. t a n) _ m (λ a. refl))

pub sum_most : (t : ℕ → ℕ) (n : ℕ) → ((i : ℕ) → t i ≤ 1) → sum t n ≤ n
unfolding sum
sum_most t zero h = omega arith
sum_most t (suc n) h = omega (arith, sum_most t n h, h n)
