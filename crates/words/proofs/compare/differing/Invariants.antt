-- `words::compare::differing` meets its contract: the turns, and the words behind them up to i, tell of the first i words.
use Rattle.std.proofs.Common.{◌≡◌}
use Rattle.words.specs.Run as Run
use Rattle.words.proofs.compare.differing.Given as goal

abbrev pub invariant-loop-i : goal.invariant-loop-i
invariant-loop-i l = l.count ≡ Run.differing l.a l.b l.i
