-- 02, Q-3: "Count the present words": a word is present where it is odd. Which words of a run are odd, for a run of any length.
use Rattle.std.specs.Prelude.{ℕ, zero, suc, ◌+◌, ◌%◌, List, length, ◌==◌, slice_index}
use Rattle.words.specs.Choice.{pick}
use Rattle.parity.specs.declared.Odd.{Odd}
use Rattle.parity.specs.declared.Odd.TheVariants.{None, One, Several}

-- bit 0 of a word of a run; past its end a run counts as zero
abbrev pub bit_at : List ℕ → ℕ → ℕ
bit_at words n = slice_index words n % 2

-- how many of the first n words of a run are odd
unfoldable pub odd : List ℕ → ℕ → ℕ
odd words zero = 0
odd words (suc n) = odd words n + bit_at words n

-- the place of the last odd word among the first n; 0 where none is odd
unfoldable pub last_odd : List ℕ → ℕ → ℕ
last_odd words zero = 0
last_odd words (suc n) = pick (bit_at words n == 1) n (last_odd words n)

-- which words of a run are odd: none, one, at its place, or several
unfoldable pub odd_of : List ℕ → Odd
odd_of words =
    pick (odd words (length words) == 0) None (pick (odd words (length words) == 1) (One (last_odd words (length words))) Several)
