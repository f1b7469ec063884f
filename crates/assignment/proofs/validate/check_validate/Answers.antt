-- `assignment::validate::check_validate` meets its contract: each exit is a case of the rule.
use Rattle.rules.specs.Assignment.{pvalidate}
use Rattle.checks.proofs.CallLaws.{one_entered, one_refused}
use Rattle.checks.proofs.PassedLaws.{refuses}
use Rattle.checks.specs.Passed.{passed, past}
use Rattle.assignment.proofs.validate.check_validate.Goals as goal

pub returns-in_err-begin_validate : goal.returns-in_err-begin_validate
unfolding pvalidate past
returns-in_err-begin_validate c = rw (← c.in_err-begin_validate.ensures, refuses _ _ c.from_residual.ensures.1)

pub returns-in_err-page : goal.returns-in_err-page
unfolding pvalidate
returns-in_err-page c = rw (
  one_refused c.in_ok-begin_validate.ensures _ c.in_err-page.ensures,
  refuses _ _ c.from_residual-in_err-page.ensures.1,
)

pub returns-in_err-validate_needs_met : goal.returns-in_err-validate_needs_met
unfolding pvalidate past
returns-in_err-validate_needs_met c = rw (
  one_entered c.in_ok-begin_validate.ensures _ c.in_ok-page.ensures,
  ← c.in_err-validate_needs_met.ensures,
  refuses _ _ c.from_residual-in_err-validate_needs_met.ensures.1,
)

pub returns : goal.returns
unfolding pvalidate passed past
returns c = rw (one_entered c.in_ok-begin_validate.ensures _ c.in_ok-page.ensures, ← c.in_ok-validate_needs_met.ensures)
