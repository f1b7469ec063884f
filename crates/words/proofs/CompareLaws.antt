-- Two runs compared: how many words differ, word by word, and with the words counted that are the same; no more differ than there are; and
-- where none differs, the runs agree at every place, and else they do not. For runs of any length.
-- Assumes nothing.
use Rattle.std.proofs.Common.{◌≡◌, refl, sym, ◌∙◌, Bool, true, false, List, ◌⊎◌, inl, inr, ℕ, zero, suc, ◌+◌, ◌≤◌, ◌<◌, length, set, sum, add-zero, add-one, arith, ◌&&◌, eqb, get_or, eqb-true, eq-eqb, ne_eqb}
use Rattle.std.specs.Int.{from_bool}
use Rattle.std.proofs.Math.Bool.{and-true, and-false}
use Rattle.std.proofs.lemmas.List.Sums.{sum_by-set}
use Rattle.words.specs.Choice.{pick, ◌and◌}
use Rattle.words.specs.Run.{differing}
use Rattle.words.proofs.ChoiceLaws.{lt_or_le, pick_either}

-- none of no words differ, and the next word differs or not
pub differing_none : (a b : List ℕ) → differing a b 0 ≡ 0
unfolding differing
differing_none a b = refl

pub differing_same : (a b : List ℕ) (n : ℕ) → get_or a n 0 ≡ get_or b n 0 → differing a b (n + 1) ≡ differing a b n
unfolding differing pick
differing_same a b n e = rw (add-one n, eq-eqb _ _ e) (omega arith)

pub differing_more : (a b : List ℕ) (n : ℕ) → (get_or a n 0 ≡ get_or b n 0 → ⊥) → differing a b (n + 1) ≡ differing a b n + 1
unfolding differing pick
differing_more a b n e = rw (add-one n, ne_eqb _ _ e)

-- a word more is counted in a column where it is the same, and else differs
pub word_counted :
    (a b same : List ℕ) (n j bit : ℕ) → j < length same → bit ≡ from_bool (eqb (get_or a n 0) (get_or b n 0))
    → sum same + differing a b n ≡ n → sum (set same j (get_or same j 0 + bit)) + differing a b (n + 1) ≡ n + 1
unfolding differing pick
word_counted a b same n j bit inside is counted = rw add-one (go (eqb (get_or a n 0) (get_or b n 0)) is)
  where
    put : sum (set same j (get_or same j 0 + bit)) + get_or same j 0 ≡ sum same + (get_or same j 0 + bit)
    put = sum_by-set (λ x. x) same j (get_or same j 0 + bit) 0 inside

    go : (t : Bool) → bit ≡ from_bool t → sum (set same j (get_or same j 0 + bit)) + (differing a b n + pick t 0 1) ≡ suc n
    go true e = omega (arith, put)
    go false e = omega (arith, put)

-- no more words differ than there are
pub differing_most : (a b : List ℕ) (n : ℕ) → differing a b n ≤ n
unfolding differing
differing_most a b zero = omega arith
differing_most a b (suc n) =
    pick_either (λ (k : ℕ). differing a b n + k ≤ suc n) (eqb (get_or a n 0) (get_or b n 0)) 0 1
    (λ same. omega (arith, differing_most a b n))
    (λ other. omega (arith, differing_most a b n))

-- two runs with no differing word among the first n agree at every place below n
pub none_differ : (a b : List ℕ) (n : ℕ) → differing a b n ≡ 0 → (k : ℕ) → k < n → get_or a k 0 ≡ get_or b k 0
unfolding differing pick
none_differ a b zero e k h = omega arith
none_differ a b (suc n) e k h = go (eqb (get_or a n 0) (get_or b n 0)) refl e (none_differ a b n) (lt_or_le k n)
  where
    go :
        (t : Bool) → eqb (get_or a n 0) (get_or b n 0) ≡ t → differing a b n + pick t 0 1 ≡ 0
        → (differing a b n ≡ 0 → (k : ℕ) → k < n → get_or a k 0 ≡ get_or b k 0) → (k < n) ⊎ (n ≤ k) → get_or a k 0 ≡ get_or b k 0
    go t q z rest (inl l) = rest (omega arith) k l
    go true q z rest (inr l) = let i : k ≡ n = omega arith in rw i (eqb-true _ _ q)
    go false q z rest (inr l) = omega arith

-- no word differs among one more where none did, and that one is the same
pub none_of_next :
    (a b : List ℕ) (n : ℕ) → eqb (differing a b (suc n)) 0 ≡ eqb (differing a b n) 0 and eqb (get_or a n 0) (get_or b n 0)
unfolding differing pick ◌and◌
none_of_next a b n = go (eqb (get_or a n 0) (get_or b n 0)) (differing a b n)
  where
    go : (t : Bool) (d : ℕ) → eqb (d + pick t 0 1) 0 ≡ eqb d 0 && t
    go true d = rw (add-zero d, and-true)
    go false d = ne_eqb (d + 1) 0 (λ e. omega arith) ∙ sym (and-false (eqb d 0))
