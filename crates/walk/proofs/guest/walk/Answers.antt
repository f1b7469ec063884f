-- `walk::guest::walk` meets its contract: at each turn what is left of the walk, from the table that was reached, is the whole walk.
use mathlib.Core.Path.{sym}
use native.Mathlib.Omega.{arith}
use Rattle.paging.specs.Entry.{page_of}
use Rattle.paging.specs.Walk.{onward}
use Rattle.paging.proofs.WalkLaws.{all_left, none_left, left_stops, left_by_index}
use Rattle.checks.proofs.CallLaws.{err_is}
use Rattle.walk.proofs.guest.walk.Goals as goal

pub loop-frame-init : goal.loop-frame-init
loop-frame-init c = record { few = omega arith; on_the_way = all_left _ _ }

pub returns-in_err-frame : goal.returns-in_err-frame
returns-in_err-frame c = rw (err_is _ _ c.from_residual.ensures.1, ← c.loop-frame.invariant.on_the_way)
    (sym (left_stops _ _ c.loop-frame.level _ _ (sym (rw c.in_err-frame.was at c.host_half.ensures))))

pub returns-then-level-eq0 : goal.returns-then-level-eq0
unfolding onward
returns-then-level-eq0 c = rw (
  ← c.loop-frame.invariant.on_the_way,
  c.if-level-eq0.true,
  none_left,
  ← c.host_half.ensures,
  c.in_ok-frame.was,
)

pub returns-in_err-from : goal.returns-in_err-from
unfolding onward page_of
returns-in_err-from c = rw (
  err_is _ _ c.from_residual-in_err-from.ensures.1,
  ← c.loop-frame.invariant.on_the_way,
  left_by_index _ _ c.loop-frame.level _ (omega arith),
  ← c.host_half.ensures,
  c.in_ok-frame.was,
  ← c.index_at.ensures,
  ← c.guest_down.ensures,
  c.in_err-from.was,
)

pub loop-frame-preserved : goal.loop-frame-preserved
unfolding onward page_of
loop-frame-preserved c = record {
  few = omega arith;
  on_the_way = rw (
    ← c.loop-frame.invariant.on_the_way,
    left_by_index _ _ c.loop-frame.level _ (omega arith),
    ← c.host_half.ensures,
    c.in_ok-frame.was,
    ← c.index_at.ensures,
    ← c.guest_down.ensures,
    c.in_ok-from.was,
  );
}
