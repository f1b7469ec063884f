-- `access::check::fixed_checked` meets its contract: each return is a case of the rule. What the calls before it promise, and the arm taken
-- at each, rewrite the rule to it.
use Rattle.rules.specs.Access.{fixed_access}
use Rattle.checks.specs.Passed.{passed, past}
use Rattle.checks.proofs.CallLaws.{err_is}
use Rattle.access.proofs.check.fixed_checked.Goals as goal

pub returns-in_err-held : goal.returns-in_err-held
unfolding fixed_access passed past
returns-in_err-held c = λ v. rw (
  err_is _ _ c.from_residual-in_err-held.ensures.1,
  ← c.fixed_access_met.ensures,
  c.in_ok-fixed_access_met.was,
  ← c.consulted.ensures,
  ← c.placed.ensures,
  c.in_err-held.was,
)

pub returns : goal.returns
unfolding fixed_access passed past
returns c = λ v. rw (
  ← c.fixed_access_met.ensures,
  c.in_ok-fixed_access_met.was,
  ← c.consulted.ensures,
  ← c.placed.ensures,
  c.in_ok-held.was,
  c.ensure.ensures,
)
