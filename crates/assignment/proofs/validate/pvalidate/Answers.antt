-- `assignment::validate::pvalidate` meets its contract: the rule is what its checks come to: a refusal, with nothing changed, or what is
-- then done.
use Rattle.rules.specs.Answers.{settle}
use Rattle.rules.specs.Assignment.{validating}
use Rattle.rules.specs.State.{with_entry}
use Rattle.checks.proofs.CallLaws.{err_is}
use Rattle.checks.specs.Passed.{passed}
use Rattle.assignment.proofs.validate.pvalidate.Goals as goal

pub returns-in_err-page : goal.returns-in_err-page
unfolding passed settle
returns-in_err-page c = rw (← c.new.ensures, c.in_err-page.ensures, err_is _ _ c.from_residual.ensures.1)

pub returns : goal.returns
unfolding passed settle validating with_entry
returns c = rw (
  ← c.new.ensures,
  c.in_ok-page.ensures,
  c.new.ensures,
  c.put.ensures,
  c.frame_of.ensures,
  c.to_validated.ensures,
  c.validate_answer.ensures,
)
