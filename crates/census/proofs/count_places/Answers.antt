-- `census::count_places` meets its contract: a frame stops the count, adds a place to it, or leaves it.
use Rattle.std.proofs.Common.{refl, sym, arith}
use Rattle.rules.specs.Census.{tally}
use Rattle.checks.proofs.CallLaws.{err_is}
use Rattle.census.proofs.TallyLaws.{one_more, no_more, stops_here}
use Rattle.census.proofs.count_places.Goals as goal
use Rattle.census.proofs.count_places.Goals.{then-is_some, else-is_some}

pub loop-frame-init : goal.loop-frame-init
unfolding tally
loop-frame-init c = (omega arith, refl)

pub returns-in_err-holding_at : goal.returns-in_err-holding_at
returns-in_err-holding_at c = rw (err_is _ _ c.from_residual.ensures.1)
    (sym (stops_here _ _ _ _ c.loop-frame.invariant.1 _ _ c.in_err-holding_at.ensures (omega (arith, c.covered-frame-end.ensures))))

pub loop-frame-preserved : goal.loop-frame-preserved
loop-frame-preserved c =
    let here = c.in_ok-holding_at in
    let more = one_more _ _ _ _ c.loop-frame.invariant.1 _ here.ensures in
    let same = no_more _ _ _ _ c.loop-frame.invariant.1 _ here.ensures in
    elim c.if-is_some.branch [
      | then-is_some w ↦ (omega arith, rw w.places-is (more cc))
      | else-is_some w ↦ (omega arith, rw w.places-is (same cc))
    ]
