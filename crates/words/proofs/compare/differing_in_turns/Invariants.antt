-- `words::compare::differing_in_turns` meets its contract: the columns' counts, and how many of the words so far differ, make as many as
-- there are.
use Rattle.std.proofs.Common.{◌≡◌, ◌+◌, ◌*◌, length, sum}
use Rattle.words.specs.Run as Run
use Rattle.words.proofs.compare.differing_in_turns.Given as goal

abbrev pub invariant-loop-turn : goal.invariant-loop-turn
invariant-loop-turn l = (length l.same ≡ 4) × (sum l.same + Run.differing l.a l.b (16 * l.turn) ≡ 16 * l.turn)

abbrev pub invariant-loop-k : goal.invariant-loop-k
invariant-loop-k l = (length l.same ≡ 4) × (sum l.same + Run.differing l.a l.b (16 * l.turn + l.k) ≡ 16 * l.turn + l.k)
