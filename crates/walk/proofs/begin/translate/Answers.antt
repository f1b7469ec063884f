-- `walk::begin::translate` meets its contract: the walk goes on where the checks passed.
use Rattle.words.specs.Choice.{◌and◌}
use Rattle.paging.specs.Walk.{translated}
use Rattle.checks.proofs.CallLaws.{err_is}
use Rattle.walk.proofs.CheckLaws.{through, ensured, through-and}
use Rattle.walk.proofs.begin.translate.Goals as goal

pub returns-in_err-and : goal.returns-in_err-and
unfolding translated through ◌and◌
returns-in_err-and c = rw (
  err_is _ _ c.from_residual.ensures.1,
  ← c.new-state.ensures,
  ← c.sizes_hold.ensures,
  ensured _ _ _ _ c.ensure.ensures,
  ← c.virtual_arguments.ensures,
  ensured _ _ _ _ c.ensure-2.ensures,
  ← c.is_host.ensures,
  ensured _ _ _ _ c.ensure-3.ensures,
  ← through-and,
  ← through-and,
  ← c.and.ensures,
  ← c.and-2.ensures,
  c.in_err-and.was,
)

pub returns : goal.returns
unfolding translated through ◌and◌
returns c = rw (
  ← c.new-state.ensures,
  ← c.sizes_hold.ensures,
  ensured _ _ _ _ c.ensure.ensures,
  ← c.virtual_arguments.ensures,
  ensured _ _ _ _ c.ensure-2.ensures,
  ← c.is_host.ensures,
  ensured _ _ _ _ c.ensure-3.ensures,
  ← through-and,
  ← through-and,
  ← c.and.ensures,
  ← c.and-2.ensures,
  c.in_ok-and.was,
) c.walk.ensures
