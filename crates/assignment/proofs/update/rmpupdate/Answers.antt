-- `assignment::update::rmpupdate` meets its contract: the rule is what its checks come to: a refusal, with nothing changed, or what is
-- then done.
use Rattle.rules.specs.Answers.{settle}
use Rattle.checks.proofs.CallLaws.{err_is}
use Rattle.checks.specs.Passed.{passed}
use Rattle.assignment.proofs.update.rmpupdate.Goals as goal

pub returns-in_err-old : goal.returns-in_err-old
unfolding passed settle
returns-in_err-old c = rw (← c.new.ensures, c.in_err-old.ensures, err_is _ _ c.from_residual.ensures.1)

pub returns : goal.returns
unfolding passed settle
returns c = rw (c.assign.ensures, ← c.new.ensures, c.in_ok-old.ensures, c.frame_of.ensures, c.update_answer.ensures)
