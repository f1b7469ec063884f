-- How the code counts: named by contracts of private functions alone.
use Rattle.std.specs.Prelude.{ℕ, List, ◌==◌}
use Rattle.words.specs.Choice.{pick}
use Rattle.parity.specs.Odd.{odd, last_odd}
use Rattle.parity.specs.declared.Odd.{Odd}
use Rattle.parity.specs.declared.Odd.TheVariants.{None, One, Several}

-- which of the first n words of a run are odd
unfoldable pub odd_in_front : List ℕ → ℕ → Odd
odd_in_front words n = pick (odd words n == 0) None (pick (odd words n == 1) (One (last_odd words n)) Several)

-- which are, with one more, at this place
abbrev pub with_odd : Odd → ℕ → Odd
with_odd None n = One n
with_odd (One _) n = Several
with_odd Several n = Several
