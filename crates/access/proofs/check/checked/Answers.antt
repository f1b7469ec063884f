-- `access::check::checked` meets its contract: a refusal of the first part is the rule's, and past it the rule is the other two.
use Rattle.access.proofs.AccessLaws.{access_stops, access_passes}
use Rattle.access.proofs.check.checked.Goals as goal

pub returns-in_err-begun : goal.returns-in_err-begun
returns-in_err-begun c = access_stops _ _ _ _ _ _ _ _ _ c.begun.ensures _ c.from_residual.ensures.1 c.in_err-begun.was

pub returns : goal.returns
returns c = access_passes _ _ _ _ _ _ _ _ _ c.begun.ensures _ _ c.reach_named-frame.ensures c.allowed.ensures c.in_ok-begun.was
