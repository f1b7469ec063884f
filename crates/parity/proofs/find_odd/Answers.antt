-- `parity::find_odd` meets its contract: the turns, and the words behind them up to i, tell of the first i words.
use Rattle.std.proofs.Common.{◌≡◌, length, sym, ◌∙◌, arith}
use Rattle.parity.proofs.OddLaws.{front_with, front_stays, front_all}
use Rattle.parity.proofs.find_odd.Goals as goal
use Rattle.parity.proofs.find_odd.Goals.{else-run-i-eq1, then-run-i-eq1}

pub loop-i-preserved : goal.loop-i-preserved
loop-i-preserved c = let l = c.loop-i in
    let run = c.args.run.now in
    elim c.if-run-i-eq1.branch [
      | then-run-i-eq1 w ↦ w.odd-is ∙ w.with-odd.ensures ∙ rw l.invariant (front_with run l.i w.if-run-i-eq1.true)
      | else-run-i-eq1 w ↦ w.odd-is ∙ l.invariant ∙ sym (front_stays run l.i w.if-run-i-eq1.false)
    ]

pub returns : goal.returns
returns c = let run = c.args.run.now in
    let all : c.loop-i.i ≡ length run = omega arith in
    c.loop-i.invariant ∙ rw all (front_all run)
