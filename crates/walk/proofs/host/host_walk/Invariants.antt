-- `walk::host::host_walk` meets its contract: at each level the rest of the walk, from the table that was reached, is the whole walk.
use mathlib.Core.Path.{◌≡◌}
use Rattle.paging.specs.Walk.{walk, host_reads, at_last, host_walk}
use Rattle.walk.specs.Walked.{points}
use Rattle.walk.proofs.host.host_walk.Given as goal

abbrev pub invariant-loop-level : goal.invariant-loop-level
invariant-loop-level l = walk (host_reads l.state) at_last l.level l.page (points l.at) ≡ host_walk l.state l.host_root l.page
