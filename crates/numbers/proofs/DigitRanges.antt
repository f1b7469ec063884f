-- The value of a byte as a digit, by where the byte lies.
-- Assumes nothing.
use mathlib.Core.Path.{◌≡◌}
use Prim.Native.Nat.{ℕ, ◌+◌, ◌-◌, ◌≤◌, ◌<◌}
use native.Mathlib.Omega.{arith}
use borrow.Author.Tests.{lt-ltb, le-leb, lt-leb}
use Rattle.std.specs.Prelude.{Some, None}
use Rattle.words.specs.Choice.{pick, ◌and◌}
use Rattle.format.specs.Number.{digit_value}
use Rattle.numbers.specs.Numeral.{digit_of}

module _ (byte : ℕ) where
  pub from_zero_to_nine : 48 ≤ byte → byte ≤ 57 → digit_of byte ≡ Some (byte - 48)
  unfolding digit_of digit_value pick ◌and◌
  from_zero_to_nine h k = rw (le-leb 48 byte h, le-leb byte 57 k, lt-ltb (byte - 48) 16 (omega arith))

  pub from_a_to_f : 97 ≤ byte → byte ≤ 102 → digit_of byte ≡ Some (byte - 97 + 10)
  unfolding digit_of digit_value pick ◌and◌
  from_a_to_f h k =
      let small = lt-ltb (byte - 97 + 10) 16 (omega arith) in
      rw (le-leb 48 byte (omega arith), lt-leb byte 57 (omega arith), le-leb 97 byte h, le-leb byte 102 k, small)

  pub before_zero : byte < 48 → digit_of byte ≡ None
  unfolding digit_of digit_value pick ◌and◌
  before_zero h = rw (lt-leb 48 byte h, lt-leb 97 byte (omega arith))

  pub before_a : 57 < byte → byte < 97 → digit_of byte ≡ None
  unfolding digit_of digit_value pick ◌and◌
  before_a h k = rw (le-leb 48 byte (omega arith), lt-leb byte 57 h, lt-leb 97 byte k)

  pub after_f : 102 < byte → digit_of byte ≡ None
  unfolding digit_of digit_value pick ◌and◌
  after_f h = rw (le-leb 48 byte (omega arith), lt-leb byte 57 (omega arith), le-leb 97 byte (omega arith), lt-leb byte 102 h)

-- where a byte may lie
pub ruleset digit_ranges = (from_zero_to_nine, from_a_to_f, before_zero, before_a, after_f)
