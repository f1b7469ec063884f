-- `parity::find_odd` meets its contract: the turns, and the words behind them up to i, tell of the first i words.
use Rattle.std.proofs.Common.{◌≡◌}
use Rattle.parity.specs.Columns.{odd_in_front}
use Rattle.parity.proofs.find_odd.Given as goal

abbrev pub invariant-loop-i : goal.invariant-loop-i
invariant-loop-i l = l.odd ≡ odd_in_front l.run l.i
