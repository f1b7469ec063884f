-- The digits of a number in a base: what they are worth, how many they are, that each is a digit and none a mark. By induction on the
-- digits allowed: a number below the base has one digit, and any other has the digits of its quotient and one for the remainder.
-- Assumes nothing.
use mathlib.Core.Path.{◌≡◌, refl}
use mathlib.Core.Bool.{true}
use mathlib.Core.List.{List, [], ◌∷◌, ◌++◌}
use mathlib.Core.Logic.{⊎_elim}
use Prim.Native.Nat.{ℕ, zero, suc, ◌+◌, ◌*◌, ◌/◌, ◌%◌, ◌≤◌, ◌<◌, ◌^◌}
use native.Mathlib.Nat.{mul-zero, one-mul, pow-zero, pow-suc, mod-lt, mod-eq_of_lt, div-add-mod, div-lt_iff_lt-mul}
use native.Mathlib.Omega.{arith}
use lib.Dec.{ltb}
use lib.ListN.{length, length-append}
use borrow.Author.Tests.{lt-ltb, le-ltb}
use Rattle.words.specs.Choice.{◌and◌}
use Rattle.words.proofs.ChoiceLaws.{lt_or_le, pick_true, pick_false, and_left, and_right}
use Rattle.format.specs.Number.{digit_value, are_digits, digit, digits}
use Rattle.format.proofs.Digit.{digit_least, value_digit}
use Rattle.format.proofs.Without.{Without, without_append}

-- ---- one digit, or the digits of the quotient and one more
pub digits_few : (base most n : ℕ) → n < base → digits base (suc most) n ≡ digit n ∷ []
unfolding digits
digits_few base most n h = rw (pick_true _ (digits base most (n / base)) (lt-ltb n base h), mod-eq_of_lt h)

pub digits_more :
    (base most n : ℕ) → base ≤ n → digits base (suc most) n ≡ digits base most (n / base) ++ (digit (n % base) ∷ [])
unfolding digits
digits_more base most n h = rw (pick_false [] (digits base most (n / base)) (le-ltb n base h))

pub digits_either :
    (P : List ℕ → Type 0) (base most n : ℕ) → (n < base → P (digit n ∷ []))
    → (base ≤ n → P (digits base most (n / base) ++ (digit (n % base) ∷ []))) → P (digits base (suc most) n)
digits_either P base most n few more =
    ⊎_elim (λ h. rw (digits_few base most n h) (few h)) (λ h. rw (digits_more base most n h) (more h)) (lt_or_le n base)

-- ---- how many
pub length_digits : (base most n : ℕ) → length (digits base most n) ≤ most
unfolding digits
length_digits base zero n = omega arith
length_digits base (suc most) n =
    digits_either (λ l. length l ≤ suc most) base most n (λ h. omega arith)
    (λ h. rw length-append (omega (arith, length_digits base most (n / base))))

pub some_digit : (base most n : ℕ) → 1 ≤ length (digits base (suc most) n)
some_digit base most n = digits_either (λ l. 1 ≤ length l) base most n (λ h. omega arith) (λ h. rw length-append (omega arith))

-- ---- none is a byte below the first digit
digit_without : (mark d : ℕ) → mark < 48 → Without mark (digit d ∷ [])
digit_without mark d low = (λ e. omega (arith, digit_least d), tt)

pub digits_without : (mark base most n : ℕ) → mark < 48 → Without mark (digits base most n)
unfolding digits
digits_without mark base zero n low = tt
digits_without mark base (suc most) n low =
    let before = digits_without mark base most (n / base) low in
    digits_either (Without mark) base most n (λ h. digit_without mark n low)
    (λ h. without_append mark (digits base most (n / base)) (digit (n % base) ∷ []) before (digit_without mark (n % base) low))

-- ---- what digits are worth after those of `high`
unfoldable pub worth : ℕ → ℕ → List ℕ → ℕ
worth base high [] = high
worth base high (byte ∷ rest) = worth base (base * high + digit_value byte) rest

pub worth_append : (base high : ℕ) (a b : List ℕ) → worth base high (a ++ b) ≡ worth base (worth base high a) b
unfolding worth
worth_append base high [] b = refl
worth_append base high (byte ∷ a) b = worth_append base (base * high + digit_value byte) a b

are_digits_append : (a b : List ℕ) → are_digits a ≡ true → are_digits b ≡ true → are_digits (a ++ b) ≡ true
unfolding are_digits ◌and◌
are_digits_append [] b h k = k
are_digits_append (byte ∷ a) b h k =
    let here = and_left (ltb (digit_value byte) 16) (are_digits a) h in
    rw (here, are_digits_append a b (and_right (ltb (digit_value byte) 16) (are_digits a) h) k)

-- ---- in a base of at most 16
module _ (base : ℕ) (some : 0 < base) (most_sixteen : base ≤ 16) where
  one_digit : (d : ℕ) → d < base → are_digits (digit d ∷ []) ≡ true
  unfolding are_digits ◌and◌
  one_digit d h = rw (value_digit d (omega arith), lt-ltb d 16 (omega arith))

  pub are_digits_lem : (most n : ℕ) → are_digits (digits base most n) ≡ true
  unfolding digits are_digits
  are_digits_lem zero n = refl
  are_digits_lem (suc most) n =
      let last = one_digit (n % base) (mod-lt n some) in
      digits_either (λ l. are_digits l ≡ true) base most n (one_digit n)
      (λ h. are_digits_append (digits base most (n / base)) (digit (n % base) ∷ []) (are_digits_lem most (n / base)) last)

  -- of a number below a power
  quotient_below : (n k : ℕ) → n < base ^ suc k → n / base < base ^ k
  quotient_below n k h = (div-lt_iff_lt-mul some).1 (rw (pow-suc base k) at h)

  pub worth_digits : (most n : ℕ) → n < base ^ most → worth base 0 (digits base most n) ≡ n
  unfolding worth digits
  worth_digits zero n h = omega (arith, pow-zero base)
  worth_digits (suc most) n h =
      let last = value_digit (n % base) (omega (arith, mod-lt n some)) in
      digits_either (λ l. worth base 0 l ≡ n) base most n
      (λ l. rw (mul-zero base, value_digit n (omega arith)) (omega arith))
      (λ l. rw (worth_append, worth_digits most (n / base) (quotient_below n most h), last) (div-add-mod n base))

  pub length_below : (most k n : ℕ) → n < base ^ suc k → length (digits base most n) ≤ suc k
  unfolding digits
  length_below zero k n h = omega arith
  length_below (suc most) zero n h =
      rw (digits_few base most n (rw (pow-suc base 0, pow-zero base, one-mul base) at h)) (omega arith)
  length_below (suc most) (suc k) n h =
      digits_either (λ l. length l ≤ suc (suc k)) base most n (λ l. omega arith)
      (λ l. rw length-append (omega (arith, length_below most k (n / base) (quotient_below n (suc k) h))))
