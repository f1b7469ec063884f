-- `walk::guest::walk` meets its contract: at each turn what is left of the walk, from the table that was reached, is the whole walk.
use mathlib.Core.Path.{◌≡◌}
use Prim.Native.Nat.{◌≤◌}
use Rattle.paging.specs.Walk.{walked}
use Rattle.paging.proofs.WalkLaws.{left}
use Rattle.walk.specs.Walked.{points, virtual_of}
use Rattle.walk.proofs.guest.walk.Given as goal

abbrev pub invariant-loop-frame : goal.invariant-loop-frame
invariant-loop-frame l = record {
  few : l.level ≤ 4;
  on_the_way : left l.state (virtual_of l.at) l.level (points l.from) ≡ walked l.state (virtual_of l.at);
}

abbrev pub decreases-loop-frame : goal.decreases-loop-frame
decreases-loop-frame l = l.level
