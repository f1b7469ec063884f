-- `pages::shared_checked` meets its contract: a refusal of the first part is the rule's, and past it the rule is the other two.
use Rattle.std.proofs.Common.{refl, ◌∙◌}
use Rattle.requests.specs.Pages.{shared_access}
use Rattle.access.proofs.AccessLaws.{access_stops, access_passes}
use Rattle.pages.proofs.shared_checked.Goals as goal

pub returns-in_err-begun : goal.returns-in_err-begun
unfolding shared_access
returns-in_err-begun c = access_stops _ _ _ _ _ _ _ _ _ c.begun.ensures _ c.from_residual.ensures.1 c.in_err-begun.was

pub returns : goal.returns
unfolding shared_access
returns c =
    access_passes _ _ _ _ _ _ _ _ _ c.begun.ensures _ _
    (λ v page. c.reach-frame.ensures v page ∙ rw (c.requires, c.shared_entry-here.ensures, c.frame_of.ensures) refl)
    c.allowed.ensures c.in_ok-begun.was
