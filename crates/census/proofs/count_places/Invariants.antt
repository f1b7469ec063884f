-- `census::count_places` meets its contract: the loop keeps the tally of the frames passed. A frame adds one place at most, so that the
-- count does not wrap.
use Rattle.std.proofs.Common.{◌≡◌, ◌≤◌}
use Rattle.rules.specs.Census.{tally, total}
use Rattle.census.proofs.count_places.Given as goal

abbrev pub invariant-loop-frame : goal.invariant-loop-frame
invariant-loop-frame l = (l.places ≤ l.frame) × (tally l.state l.guest l.frame ≡ total l.places)
