-- 64-bit numbers as they are printed: hex digits, 1 to 16 of them, are a number and have its value, and so have decimal digits; and no digit
-- is a space or a line feed. What digits are worth, and how many they are, is said of every base.
-- Assumes nothing.
use mathlib.Core.Path.{◌≡◌, refl, ◌∙◌}
use mathlib.Core.Bool.{true}
use mathlib.Core.List.{List, [], ◌∷◌}
use Prim.Native.Nat.{ℕ, ◌+◌, ◌*◌, ◌≤◌, ◌<◌, ◌^◌}
use native.Mathlib.Omega.{arith}
use lib.ListN.{length}
use borrow.Author.Tests.{le-leb}
use Rattle.words.specs.Choice.{◌and◌}
use Rattle.format.specs.Number.{digit_value, is_number, value_after, value, hex, decimal}
use Rattle.format.proofs.Digits.{worth, length_digits, some_digit, digits_without, worth_digits, are_digits_lem, length_below}
use Rattle.format.proofs.Without.{Without}

-- ---- hex
value_is_worth : (high : ℕ) (field : List ℕ) → value_after high field ≡ worth 16 high field
unfolding value_after worth
value_is_worth high [] = refl
value_is_worth high (byte ∷ rest) = value_is_worth (16 * high + digit_value byte) rest

pub hex_value : (n : ℕ) → n < 2 ^ 64 → value (hex n) ≡ n
unfolding value hex
hex_value n h = value_is_worth 0 (hex n) ∙ worth_digits 16 (omega arith) (omega arith) 20 n (omega arith)

pub hex_short : (n : ℕ) → n < 2 ^ 64 → length (hex n) ≤ 16
unfolding hex
hex_short n h = length_below 16 (omega arith) (omega arith) 20 15 n (omega arith)

pub hex_number : (n : ℕ) → n < 2 ^ 64 → is_number (hex n) ≡ true
unfolding is_number hex ◌and◌
hex_number n h =
    let all = are_digits_lem 16 (omega arith) (omega arith) 20 n in
    rw (le-leb 1 (length (hex n)) (some_digit 16 19 n), le-leb (length (hex n)) 16 (hex_short n h), all)

pub hex_without : (mark n : ℕ) → mark < 48 → Without mark (hex n)
unfolding hex
hex_without mark n low = digits_without mark 16 20 n low

-- ---- decimal
pub decimal_worth : (n : ℕ) → n < 2 ^ 64 → worth 10 0 (decimal n) ≡ n
unfolding decimal
decimal_worth n h = worth_digits 10 (omega arith) (omega arith) 20 n (omega arith)

pub decimal_without : (mark n : ℕ) → mark < 48 → Without mark (decimal n)
unfolding decimal
decimal_without mark n low = digits_without mark 10 20 n low

-- ---- both have room in 20 bytes, whatever the number
pub hex_most : (n : ℕ) → length (hex n) ≤ 20
unfolding hex
hex_most n = length_digits 16 20 n

pub decimal_most : (n : ℕ) → length (decimal n) ≤ 20
unfolding decimal
decimal_most n = length_digits 10 20 n
