-- `census::census` meets its contract: each exit is a case of the rule.
use Rattle.rules.specs.Answers.{settle}
use Rattle.rules.specs.Census.{census, reported}
use Rattle.checks.proofs.CallLaws.{err_is}
use Rattle.checks.specs.Passed.{past}
use Rattle.census.proofs.census.Goals as goal

pub returns-in_err-begin_census : goal.returns-in_err-begin_census
unfolding census settle past
returns-in_err-begin_census c = rw (← c.new-state.ensures, ← c.in_err-begin_census.ensures, err_is _ _ c.from_residual.ensures.1)

pub returns-in_err-places : goal.returns-in_err-places
unfolding census settle past reported
returns-in_err-places c = rw (
  ← c.new-state.ensures,
  ← c.in_ok-begin_census.ensures,
  ← c.in_err-places.ensures,
  err_is _ _ c.from_residual-in_err-places.ensures.1,
)

pub returns : goal.returns
unfolding census settle past reported
returns c = rw (← c.new-state.ensures, ← c.in_ok-begin_census.ensures, ← c.in_ok-places.ensures)
