-- 02, Q-3: the present words of a leaf frame. Where none is, each word is absent; where one is, it is the last, and every other is absent;
-- and how many there are where one word changes.
-- Assumes nothing.
use mathlib.Core.Path.{◌≡◌, refl, sym, ◌∙◌}
use mathlib.Core.Bool.{false≢true}
use mathlib.Core.Logic.{◌≢◌, ⊎_elim}
use Prim.Native.Nat.{ℕ, zero, suc, ◌+◌, ◌-◌, ◌%◌, ◌<◌, ◌≤◌}
use native.Mathlib.Omega.{arith}
use lib.ListN.{get_or}
use borrow.Author.Tests.{eq-eqb, ne_eqb}
use Rattle.words.specs.Choice.{pick}
use Rattle.parity.specs.Odd.{odd}
use Rattle.words.proofs.ChoiceLaws.{same_or_not, pick_true, pick_false, pick_either}
use Rattle.parity.proofs.OddLaws.{none_odd, last_is_odd, others_even}
use Rattle.entries.specs.Entry.{is_address}
use Rattle.entries.specs.Leaf.{leaf_word}
use Rattle.entries.specs.declared.leaf.LeafWord.TheVariants.{Absent, Present, Misshapen}
use Rattle.rules.specs.Balance.{sum}
use Rattle.rules.specs.Leaves.{present_words, last_present}
use Rattle.rules.specs.State.{State, M, word_at, frame_at}
use Rattle.rules.proofs.StateLaws.{frame_has}
use Rattle.rules.proofs.Sums.{sum_one}

-- ---- one word
even_absent : (w : ℕ) → w % 2 ≡ 0 → leaf_word w ≡ Absent
unfolding leaf_word
even_absent w h = pick_true _ _ (eq-eqb (w % 2) 0 h)

odd_not_absent : (w : ℕ) → w % 2 ≡ 1 → leaf_word w ≢ Absent
unfolding leaf_word
odd_not_absent w h k =
    let shapes : pick (is_address (w - 1)) (Present (w - 1)) Misshapen ≡ Absent = sym (pick_false _ _ (ne_eqb (w % 2) 0 (λ z. absurd (omega arith)))) ∙ k in
    pick_either (λ x. x ≡ Absent → ⊥) _ _ _ (λ is h. absurd (false≢true (cc))) (λ is h. absurd (false≢true (cc))) shapes

absent_even : (w : ℕ) → leaf_word w ≡ Absent → w % 2 ≡ 0
absent_even w h = ⊎_elim (λ even. even) (λ (other : w % 2 ≢ 0). absurd (odd_not_absent w (omega (arith, other)) h)) (same_or_not (w % 2) 0)

present_odd : (w : ℕ) → leaf_word w ≢ Absent → w % 2 ≡ 1
present_odd w h = ⊎_elim (λ is. is) (λ (other : w % 2 ≢ 1). absurd (h (even_absent w (omega (arith, other))))) (same_or_not (w % 2) 1)

-- ---- a frame that memory has
module _ (s : State) (f : ℕ) (has : f < M s) where
  word_of : (i : ℕ) → get_or (frame_at s f) i 0 ≡ word_at s f i
  word_of = (frame_has s f has).1

  pub none_present : present_words s f ≡ 0 → (i : ℕ) → i < 512 → leaf_word (word_at s f i) ≡ Absent
  unfolding present_words
  none_present none i below = even_absent _ (rw (word_of i) at (none_odd (frame_at s f) 512 none i below))

  pub last_present_lem : 1 ≤ present_words s f → (last_present s f < 512) × (leaf_word (word_at s f (last_present s f)) ≢ Absent)
  unfolding present_words last_present
  last_present_lem some =
      let last = last_is_odd (frame_at s f) 512 some in
      (last.0, odd_not_absent _ (rw (word_of _) at last.1))

  pub others_absent : present_words s f ≤ 1 → (i : ℕ) → i < 512 → i ≢ last_present s f → leaf_word (word_at s f i) ≡ Absent
  unfolding present_words last_present
  others_absent few i below other = even_absent _ (rw (word_of i) at (others_even (frame_at s f) 512 few i below other))

  -- ---- how many
  sum_of : (n : ℕ) → odd (frame_at s f) n ≡ sum (λ i. word_at s f i % 2) n
  unfolding odd sum
  sum_of zero = refl
  sum_of (suc n) = rw (sum_of n, word_of n)

  pub present_sum : present_words s f ≡ sum (λ i. word_at s f i % 2) 512
  unfolding present_words
  present_sum = sum_of 512

-- a present word that becomes absent, where the others stay
pub one_fewer :
    (s u : State) (f i : ℕ) → f < M s → f < M u → i < 512 → leaf_word (word_at s f i) ≢ Absent → leaf_word (word_at u f i) ≡ Absent
    → ((j : ℕ) → j ≢ i → word_at u f j ≡ word_at s f j) → present_words s f ≡ present_words u f + 1
one_fewer s u f i has has_too below was is same =
    let one = sum_one (λ j. word_at s f j % 2) (λ j. word_at u f j % 2) i 512 below (λ j other. rw (same j other)) in
    omega (arith, one, present_odd (word_at s f i) was, absent_even (word_at u f i) is, present_sum s f has, present_sum u f has_too)
