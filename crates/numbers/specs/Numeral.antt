-- What the code reads in a field, in the words of the format.
use Rattle.std.specs.Prelude.{List, ℕ, ltb, Option, Some, None}
use Rattle.words.specs.Choice.{pick}
use Rattle.format.specs.Number.{digit_value, is_number, value}

-- the value of a digit
unfoldable pub digit_of : ℕ → Option ℕ
digit_of byte = pick (ltb (digit_value byte) 16) (Some (digit_value byte)) None

-- the number of a field
unfoldable pub number_of : List ℕ → Option ℕ
number_of field = pick (is_number field) (Some (value field)) None
