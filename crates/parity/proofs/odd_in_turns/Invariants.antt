-- `parity::odd_in_turns` meets its contract: the counts are of the words so far, and the sums of the turns so far.
use Rattle.std.proofs.Common.{◌≡◌, ◌+◌, ◌*◌, ◌^◌, ◌<◌, length, sum, take}
use Rattle.parity.proofs.ColumnLaws.{Counted, Summed}
use Rattle.parity.proofs.odd_in_turns.Given as goal

abbrev pub invariant-loop-turn : goal.invariant-loop-turn
invariant-loop-turn l = Counted l.run (16 * l.turn) l.counts × Summed l.run l.turn l.sums

abbrev pub invariant-loop-k : goal.invariant-loop-k
invariant-loop-k l = Counted l.run (16 * l.turn + l.k) l.counts

-- the counts of the columns below k are added, with no carry out of 32 bits where they are few
abbrev pub invariant-loop-k-2 : goal.invariant-loop-k-2
invariant-loop-k-2 l = (length l.sums ≡ 4)
    × (sum l.initial.sums + sum l.counts < 2 ^ 32 → sum l.sums ≡ sum l.initial.sums + sum (take l.k l.counts))
