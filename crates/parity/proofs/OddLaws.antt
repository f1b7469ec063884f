-- The odd words of a run, of any length: how many there are among the first n, and the last of them.
-- Assumes nothing.
use Rattle.std.proofs.Common.{◌≡◌, ℕ, zero, suc, ◌+◌, ◌%◌, ◌<◌, ◌≤◌, ◌≢◌, ◌⊎◌, List, [], length, get_or, sym, refl, ◌∙◌, inl, inr, ⊎_elim, add-zero, add-one, arith, eq-eqb, ne_eqb}
use Rattle.words.specs.Choice.{pick}
use Rattle.parity.specs.Columns.{odd_in_front, with_odd}
use Rattle.parity.specs.Odd.{odd, last_odd, odd_of}
use Rattle.parity.specs.declared.Odd.TheVariants.{None, One, Several}
use Rattle.words.proofs.ChoiceLaws.{lt_or_le, same_or_not, pick_true, pick_false}

-- none of no words is odd, and the next word adds its bit 0
pub odd_none : (words : List ℕ) → odd words 0 ≡ 0
unfolding odd
odd_none words = refl

pub odd_next : (words : List ℕ) (n : ℕ) → odd words (n + 1) ≡ odd words n + get_or words n 0 % 2
unfolding odd
odd_next words n = rw (add-one n)

-- a run with no words has no odd one
pub odd_of_none : (n : ℕ) → odd [] n ≡ 0
unfolding odd
odd_of_none zero = refl
odd_of_none (suc n) = rw (odd_of_none n)

pub last_of_none : (n : ℕ) → last_odd [] n ≡ 0
unfolding last_odd pick
last_of_none zero = refl
last_of_none (suc n) = last_of_none n

pub odd_most : (words : List ℕ) (n : ℕ) → odd words n ≤ n
unfolding odd
odd_most words zero = omega arith
odd_most words (suc n) = let before = odd_most words n in omega arith

pub odd_grows : (words : List ℕ) (n k : ℕ) → odd words n ≤ odd words (n + k)
odd_grows words n zero = rw add-zero (omega arith)
odd_grows words n (suc k) =
    let next : n + suc k ≡ n + k + 1 = omega arith in
    rw next (omega (arith, odd_grows words n k, odd_next words (n + k)))

-- the next word is the last odd one, or leaves it as it was
module _ (words : List ℕ) (n : ℕ) where
  pub last_here : get_or words n 0 % 2 ≡ 1 → last_odd words (n + 1) ≡ n
  unfolding last_odd
  last_here is = rw (add-one n) (pick_true {A = ℕ} n (last_odd words n) (eq-eqb _ _ is))

  pub last_stays : get_or words n 0 % 2 ≢ 1 → last_odd words (n + 1) ≡ last_odd words n
  unfolding last_odd
  last_stays is = rw (add-one n) (pick_false {A = ℕ} n (last_odd words n) (ne_eqb _ _ is))

  pub last_next :
      ((get_or words n 0 % 2 ≡ 1) × (last_odd words (n + 1) ≡ n)) ⊎ ((get_or words n 0 % 2 ≡ 0) × (last_odd words (n + 1) ≡ last_odd words n))
  last_next =
      ⊎_elim (λ is. inl (is, last_here is)) (λ (is : get_or words n 0 % 2 ≢ 1). inr (omega (arith, is), last_stays is))
      (same_or_not (get_or words n 0 % 2) 1)

module _ (words : List ℕ) where
  -- where none is odd, each is even
  pub none_odd : (n : ℕ) → odd words n ≡ 0 → (i : ℕ) → i < n → get_or words i 0 % 2 ≡ 0
  unfolding odd
  none_odd zero none i below = absurd (omega arith)
  none_odd (suc n) none i below =
      ⊎_elim (λ same. rw same (omega arith)) (λ other. none_odd n (omega arith) i (omega (arith, other))) (same_or_not i n)

  -- where one is, the last is odd
  pub last_is_odd : (n : ℕ) → 1 ≤ odd words n → (last_odd words n < n) × (get_or words (last_odd words n) 0 % 2 ≡ 1)
  unfolding odd
  last_is_odd zero some = absurd (omega arith)
  last_is_odd (suc n) some =
      rw (← (add-one n))
      (⊎_elim
      (λ here. rw here.1 (omega arith, here.0))
      (λ stays.
      let even = stays.0 in
      let before = last_is_odd n (omega arith) in
      rw stays.1 (omega (arith, before.0), before.1))
      (last_next words n))

  -- where no more than one is, every other is even
  pub others_even : (n : ℕ) → odd words n ≤ 1 → (i : ℕ) → i < n → i ≢ last_odd words n → get_or words i 0 % 2 ≡ 0
  unfolding odd
  others_even zero few i below other = absurd (omega arith)
  others_even (suc n) few i below other =
      ⊎_elim
      (λ here.
      let is = here.0 in
      let off : i ≢ n = λ same. other (same ∙ sym (rw (add-one n) at here.1)) in
      none_odd n (omega arith) i (omega (arith, off)))
      (λ stays.
      let even = stays.0 in
      ⊎_elim (λ same. rw same even)
      (λ off. others_even n (omega arith) i (omega (arith, off)) (λ same. other (same ∙ sym (rw (add-one n) at stays.1))))
      (same_or_not i n))
      (last_next words n)

-- where one is odd among more words, it is the one among the first n, or stands behind them
module _ (words : List ℕ) (n m : ℕ) (more : n ≤ m) (one : odd words m ≡ 1) where
  pub last_kept : odd words n ≡ 1 → last_odd words m ≡ last_odd words n
  last_kept had =
      let was = last_is_odd words n (omega (arith, had)) in
      ⊎_elim (λ same. sym same)
      (λ (other : last_odd words n ≢ last_odd words m).
      let even = others_even words m (omega (arith, one)) (last_odd words n) (omega (arith, was.0)) other in
      absurd (omega (arith, even, was.1)))
      (same_or_not (last_odd words n) (last_odd words m))

  pub last_behind : odd words n ≡ 0 → (n ≤ last_odd words m) × (last_odd words m < m)
  last_behind none =
      let is = last_is_odd words m (omega (arith, one)) in
      ⊎_elim (λ (h : last_odd words m < n). absurd (omega (arith, none_odd words n none (last_odd words m) h, is.1))) (λ h. (h, is.0))
      (lt_or_le (last_odd words m) n)

-- ---- which of the first n are odd
module _ (words : List ℕ) (n : ℕ) where
  pub front_none : odd words n ≡ 0 → odd_in_front words n ≡ None
  unfolding odd_in_front
  front_none e = pick_true _ _ (eq-eqb _ _ e)

  pub front_one : odd words n ≡ 1 → odd_in_front words n ≡ One (last_odd words n)
  unfolding odd_in_front
  front_one e = let some : odd words n ≢ 0 = omega arith in pick_false _ _ (ne_eqb _ _ some) ∙ pick_true _ _ (eq-eqb _ _ e)

  pub front_several : odd words n ≢ 0 → odd words n ≢ 1 → odd_in_front words n ≡ Several
  unfolding odd_in_front
  front_several some more = pick_false _ _ (ne_eqb _ _ some) ∙ pick_false _ _ (ne_eqb _ _ more)

-- the next word is odd, or tells nothing
module _ (words : List ℕ) (n : ℕ) where
  pub front_with : get_or words n 0 % 2 ≡ 1 → with_odd (odd_in_front words n) n ≡ odd_in_front words (n + 1)
  front_with is =
      let next = odd_next words n in
      ⊎_elim
      (λ (none : odd words n ≡ 0).
      let one : odd words (n + 1) ≡ 1 = omega arith in
      rw (front_none words n none) (sym (front_one words (n + 1) one ∙ rw (last_here words n is)))
      )
      (λ (some : odd words n ≢ 0).
      ⊎_elim
      (λ (one : odd words n ≡ 1). rw (front_one words n one) (sym (front_several words (n + 1) (omega (arith, one)) (omega (arith, one)))))
      (λ (more : odd words n ≢ 1). rw (front_several words n some more) (sym (front_several words (n + 1) (omega (arith, some, more)) (omega (arith, some, more)))))
      (same_or_not (odd words n) 1))
      (same_or_not (odd words n) 0)

  pub front_stays : get_or words n 0 % 2 ≢ 1 → odd_in_front words (n + 1) ≡ odd_in_front words n
  unfolding odd_in_front
  front_stays is =
      let same : odd words (n + 1) ≡ odd words n = omega (arith, odd_next words n) in
      rw (same, last_stays words n is)

-- the front is all of the run
pub front_all : (words : List ℕ) → odd_in_front words (length words) ≡ odd_of words
unfolding odd_in_front odd_of
front_all words = refl
