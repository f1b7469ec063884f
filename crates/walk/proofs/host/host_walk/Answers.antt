-- `walk::host::host_walk` meets its contract: at each level the rest of the walk, from the table that was reached, is the whole walk.
use mathlib.Core.Path.{◌≡◌, refl}
use native.Mathlib.Omega.{arith}
use Rattle.paging.specs.Walk.{onward, walk, host_walk}
use Rattle.paging.proofs.WalkLaws.{walk_down}
use Rattle.checks.proofs.CallLaws.{err_is}
use Rattle.walk.proofs.host.host_walk.Goals as goal

pub loop-level-init : goal.loop-level-init
unfolding host_walk
loop-level-init c = refl

pub returns-in_err-at : goal.returns-in_err-at
unfolding onward
returns-in_err-at c = rw (
  err_is _ _ c.from_residual.ensures.1,
  ← c.loop-level.invariant,
  walk_down _ _ c.loop-level.level _ _ (omega arith),
  ← c.index_at.ensures,
  ← c.host_down.ensures,
  c.in_err-at.was,
)

pub loop-level-preserved : goal.loop-level-preserved
unfolding onward
loop-level-preserved c = rw (
  ← c.loop-level.invariant,
  walk_down _ _ c.loop-level.level _ _ (omega arith),
  ← c.index_at.ensures,
  ← c.host_down.ensures,
  c.in_ok-at.was,
)

pub returns : goal.returns
unfolding walk
returns c = let none : c.loop-level.level ≡ 0 = omega arith in rw (← c.loop-level.invariant, none)
