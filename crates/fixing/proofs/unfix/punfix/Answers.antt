-- `fixing::unfix::punfix` meets its contract: the rule is what its checks come to: a refusal, with nothing changed, or what is then done.
use Rattle.rules.specs.Answers.{settle}
use Rattle.checks.proofs.CallLaws.{err_is}
use Rattle.checks.specs.Passed.{passed}
use Rattle.fixing.specs.Left.{by_left}
use Rattle.fixing.proofs.unfix.punfix.Goals as goal

pub returns-in_err-old : goal.returns-in_err-old
unfolding passed settle
returns-in_err-old c = rw (← c.new.ensures, c.in_err-old.ensures, err_is _ _ c.from_residual.ensures.1)

pub returns-in-Some : goal.returns-in-Some
unfolding passed settle by_left
returns-in-Some c = rw (c.unfix.ensures, ← c.new.ensures, c.in_ok-old.ensures, c.in-Some.is, c.frame_of-frame.ensures, c.to_moved.ensures)

pub returns-in-None : goal.returns-in-None
unfolding passed settle by_left
returns-in-None c = rw (c.free.ensures, ← c.new.ensures, c.in_ok-old.ensures, c.in-None.is, c.frame_of-frame.ensures)
