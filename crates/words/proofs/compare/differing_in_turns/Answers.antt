-- `words::compare::differing_in_turns` meets its contract: the columns' counts, and how many of the words so far differ, make as many as
-- there are.
use Rattle.std.proofs.Common.{refl, arith, add_assoc, length-set}
use Rattle.words.proofs.CompareLaws.{differing_none, word_counted}
use Rattle.words.proofs.compare.differing_in_turns.Goals as goal

pub loop-turn-init : goal.loop-turn-init
loop-turn-init c = (refl, omega (arith, differing_none c.args.a.now c.args.b.now))

pub loop-k-preserved : goal.loop-k-preserved
loop-k-preserved c = let l = c.loop-k in
    let a = c.args in
    (simp length-set l.invariant.0, rw (← add_assoc) (word_counted a.a.now a.b.now l.same _ _ _ (omega arith) c.from.ensures l.invariant.1))
