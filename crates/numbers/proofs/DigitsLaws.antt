-- The digits of a number, put into a run of bytes one at a time from the last: the next one goes before those that stand there.
-- Assumes nothing.
use mathlib.Core.Path.{◌≡◌}
use mathlib.Core.List.{List, ◌∷◌, ◌++◌, append_assoc}
use Prim.Native.Nat.{ℕ, suc, ◌-◌, ◌/◌, ◌%◌, ◌≤◌, ◌<◌}
use native.Mathlib.Nat.{mod-eq_of_lt}
use native.Mathlib.Omega.{arith}
use lib.ListN.{length, take, drop, set, length-drop}
use lib.Seq.{set_split, drop_at, length-take-le, take_all}
use Rattle.format.specs.Number.{digit, digits}
use Rattle.format.proofs.Digits.{digits_few, digits_more}

put : (spelt : List ℕ) (k d : ℕ) → k < length spelt → drop k (set spelt k d) ≡ d ∷ drop (suc k) spelt
put spelt k d h =
    rw (set_split spelt k d h) (drop_at (take k spelt) (d ∷ drop (suc k) spelt) k (length-take-le k spelt (omega arith)))

-- `spelt` has room for i digits, and d is the last digit of n: it is put at k, which is i less one
module _ (base n : ℕ) (spelt : List ℕ) (i k d : ℕ) (next : suc k ≡ i) (room : i ≤ length spelt) (last : d ≡ digit (n % base)) where
  pub spelt_last : n < base → drop k (set spelt k d) ≡ digits base i n ++ drop i spelt
  spelt_last h = rw (put spelt k d (omega arith), ← next, digits_few base k n h, last, mod-eq_of_lt h)

  pub spelt_more : base ≤ n → digits base k (n / base) ++ drop k (set spelt k d) ≡ digits base i n ++ drop i spelt
  spelt_more h = rw (put spelt k d (omega arith), ← next, digits_more base k n h, last, append_assoc)

-- no digit is left to spell where there is no room for one
pub spelt_full : (base n : ℕ) (spelt : List ℕ) (i : ℕ) → i ≤ 0 → drop i spelt ≡ digits base i n ++ drop i spelt
unfolding digits
spelt_full base n spelt i none = let e : i ≡ 0 = omega arith in rw e

-- the end of n bytes, as it is lent
pub lent_end : (spelt : List ℕ) (at n : ℕ) → length spelt ≡ n → take (n - at) (drop at spelt) ≡ drop at spelt
lent_end spelt at n long = take_all (n - at) (drop at spelt) (simp length-drop (omega arith))
