-- `words::compare::differing` meets its contract: the turns, and the words behind them up to i, tell of the first i words.
use Rattle.std.proofs.Common.{arith}
use Rattle.words.proofs.CompareLaws.{differing_same, differing_more, differing_most}
use Rattle.words.proofs.compare.differing.Goals as goal
use Rattle.words.proofs.compare.differing.Goals.{else-a-i, then-a-i}

pub overflow_add-count : goal.overflow_add-count
overflow_add-count c = omega (arith, differing_most c.args.a.now c.args.b.now c.loop-i.i)

pub loop-i-preserved : goal.loop-i-preserved
loop-i-preserved c = let a = c.args.a.now in
    let b = c.args.b.now in
    let i = c.loop-i.i in
    elim c.if-a-i.branch [
      | then-a-i w ↦ omega (arith, differing_more a b i w.if-a-i.true)
      | else-a-i w ↦ omega (arith, differing_same a b i w.if-a-i.false)
    ]
