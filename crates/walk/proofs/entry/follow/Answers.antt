-- `walk::entry::follow` meets its contract: its checks are the definition's, in the same order.
use Rattle.words.specs.Choice.{◌and◌, ◌or◌}
use Rattle.paging.specs.Walk.{follow}
use Rattle.checks.proofs.CallLaws.{err_is}
use Rattle.walk.proofs.CheckLaws.{through, ensured}
use Rattle.walk.proofs.entry.follow.Goals as goal

pub returns-in_err-ensure : goal.returns-in_err-ensure
unfolding follow through
returns-in_err-ensure c = rw (
  err_is _ _ c.from_residual.ensures.1,
  ← c.is_present.ensures,
  ensured _ _ _ _ c.ensure.ensures,
  c.in_err-ensure.was,
)

pub returns-in_err-ensure-2 : goal.returns-in_err-ensure-2
unfolding follow through ◌or◌
returns-in_err-ensure-2 c = rw (
  err_is _ _ c.from_residual-in_err-ensure-2.ensures.1,
  ← c.is_present.ensures,
  ensured _ _ _ _ c.ensure.ensures,
  c.in_ok-ensure.was,
  ← c.is_large.ensures,
  ensured _ _ _ _ c.ensure-2.ensures,
  c.in_err-ensure-2.was,
)

pub returns-in_err-ensure-3 : goal.returns-in_err-ensure-3
unfolding follow through ◌or◌ ◌and◌
returns-in_err-ensure-3 c = rw (
  err_is _ _ c.from_residual-in_err-ensure-3.ensures.1,
  ← c.is_present.ensures,
  ensured _ _ _ _ c.ensure.ensures,
  c.in_ok-ensure.was,
  ← c.is_large.ensures,
  ensured _ _ _ _ c.ensure-2.ensures,
  c.in_ok-ensure-2.was,
  ← c.type_of-kind.ensures,
  ensured _ _ _ _ c.ensure-3.ensures,
  c.in_err-ensure-3.was,
)

pub returns : goal.returns
unfolding follow through ◌or◌ ◌and◌
returns c = rw (
  ← c.is_present.ensures,
  ensured _ _ _ _ c.ensure.ensures,
  c.in_ok-ensure.was,
  ← c.is_large.ensures,
  ensured _ _ _ _ c.ensure-2.ensures,
  c.in_ok-ensure-2.was,
  ← c.type_of-kind.ensures,
  ensured _ _ _ _ c.ensure-3.ensures,
  c.in_ok-ensure-3.was,
  ← c.address_of-address.ensures,
)
