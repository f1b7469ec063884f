-- 01, "The script program": a number as it is read, "1 to 16 lower-case hex digits", and as it is printed, "hex numbers (no leading
-- zeros)" and "the refusal in decimal".
use Rattle.std.specs.Prelude.{Bool, true, List, [], ◌∷◌, ◌++◌, ℕ, zero, suc, ◌+◌, ◌-◌, ◌*◌, ◌/◌, ◌%◌, leb, ltb, length}
use Prim.Native.Char.{code}
use Rattle.words.specs.Choice.{pick, ◌and◌}

-- the value of a digit, `0` to `9` and `a` to `f`; 16 for any other byte
unfoldable pub digit_value : ℕ → ℕ
digit_value byte =
    pick (leb (code "0") byte and leb byte (code "9")) (byte - code "0")
    (pick (leb (code "a") byte and leb byte (code "f")) (byte - code "a" + 10) 16)

unfoldable pub are_digits : List ℕ → Bool
are_digits [] = true
are_digits (byte ∷ rest) = ltb (digit_value byte) 16 and are_digits rest

unfoldable pub is_number : List ℕ → Bool
is_number field = leb 1 (length field) and leb (length field) 16 and are_digits field

-- the value of digits that follow those of `high`, the most significant first
unfoldable pub value_after : ℕ → List ℕ → ℕ
value_after high [] = high
value_after high (byte ∷ rest) = value_after (16 * high + digit_value byte) rest

unfoldable pub value : List ℕ → ℕ
value field = value_after 0 field

-- the digit of a value below 16
unfoldable pub digit : ℕ → ℕ
digit n = pick (ltb n 10) (code "0" + n) (code "a" + (n - 10))

-- n in a base up to 16, the most significant digit first, with no leading zeros; no more than `most` digits
unfoldable pub digits : ℕ → ℕ → ℕ → List ℕ
digits base zero n = []
digits base (suc most) n = pick (ltb n base) [] (digits base most (n / base)) ++ (digit (n % base) ∷ [])

-- 20 digits hold every 64-bit number in either base
unfoldable pub hex : ℕ → List ℕ
hex n = digits 16 20 n

unfoldable pub decimal : ℕ → List ℕ
decimal n = digits 10 20 n
