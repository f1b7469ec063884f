-- Digits read one by one: what is left to test and to add at a place, how large the value of so many digits is, and when a field is a
-- number.
-- Assumes nothing.
use mathlib.Core.Path.{◌≡◌}
use mathlib.Core.Bool.{false}
use mathlib.Core.List.{List}
use Prim.Native.Nat.{ℕ, suc, ◌+◌, ◌*◌, ◌^◌, ◌≤◌, ◌<◌}
use native.Mathlib.Omega.{arith}
use lib.Dec.{ltb}
use lib.ListN.{length, drop, get_or}
use lib.Pow.{pow-add, pow_mono}
use lib.Seq.{drop-cons}
use borrow.Author.Tests.{le-leb, lt-leb}
use Rattle.words.specs.Choice.{◌and◌}
use Rattle.format.specs.Number.{digit_value, are_digits, is_number, value_after}

module _ (field : List ℕ) (at : ℕ) (h : at < length field) where
  pub digits_at : are_digits (drop at field) ≡ ltb (digit_value (get_or field at 0)) 16 and are_digits (drop (at + 1) field)
  unfolding are_digits
  digits_at = let more : at + 1 ≡ suc at = omega arith in rw (more, drop-cons field at 0 h)

  pub value_at : (high : ℕ) → value_after high (drop at field) ≡ value_after (16 * high + digit_value (get_or field at 0)) (drop (at + 1) field)
  unfolding value_after
  value_at high = let more : at + 1 ≡ suc at = omega arith in rw (more, drop-cons field at 0 h)

-- `count` digits have a value below 2 ^ (4 * count)
pub value_grows : (high count digit : ℕ) → high < 2 ^ (4 * count) → digit < 16 → 16 * high + digit < 2 ^ (4 * (count + 1))
value_grows high count digit h d =
    let sum : 4 * (count + 1) ≡ 4 * count + 4 = omega arith in
    let power : 2 ^ (4 * count + 4) ≡ 2 ^ (4 * count) * 16 = pow-add 2 (4 * count) 4 in
    rw (sum, power) (omega arith)

pub value_fits : (count : ℕ) → count ≤ 16 → 2 ^ (4 * count) ≤ 2 ^ 64
value_fits count h = pow_mono {i = 4 * count} {j = 64} (omega arith)

-- when a field is a number
module _ (field : List ℕ) where
  pub too_short : length field < 1 → is_number field ≡ false
  unfolding is_number ◌and◌
  too_short h = rw (lt-leb 1 (length field) h)

  pub too_long : 16 < length field → is_number field ≡ false
  unfolding is_number ◌and◌
  too_long h = rw (le-leb 1 (length field) (omega arith), lt-leb (length field) 16 h)

  pub by_its_digits : 1 ≤ length field → length field ≤ 16 → is_number field ≡ are_digits field
  unfolding is_number ◌and◌
  by_its_digits h l = rw (le-leb 1 (length field) h, le-leb (length field) 16 l)
