-- `assignment::update::check_update` meets its contract: each exit is a case of the rule.
use Rattle.rules.specs.Assignment.{rmpupdate}
use Rattle.checks.proofs.CallLaws.{one_entered, one_refused}
use Rattle.checks.proofs.PassedLaws.{refuses}
use Rattle.checks.specs.Passed.{passed, past}
use Rattle.assignment.proofs.update.check_update.Goals as goal

pub returns-in_err-begin_update : goal.returns-in_err-begin_update
unfolding rmpupdate past
returns-in_err-begin_update c = rw (← c.in_err-begin_update.ensures, refuses _ _ c.from_residual.ensures.1)

pub returns-in_err-old : goal.returns-in_err-old
unfolding rmpupdate
returns-in_err-old c = rw (
  one_refused c.in_ok-begin_update.ensures _ c.in_err-old.ensures,
  refuses _ _ c.from_residual-in_err-old.ensures.1,
)

pub returns-in_err-update_needs_met : goal.returns-in_err-update_needs_met
unfolding rmpupdate past
returns-in_err-update_needs_met c = rw (
  one_entered c.in_ok-begin_update.ensures _ c.in_ok-old.ensures,
  ← c.in_err-update_needs_met.ensures,
  refuses _ _ c.from_residual-in_err-update_needs_met.ensures.1,
)

pub returns : goal.returns
unfolding rmpupdate passed past
returns c = rw (one_entered c.in_ok-begin_update.ensures _ c.in_ok-old.ensures, ← c.in_ok-update_needs_met.ensures)
