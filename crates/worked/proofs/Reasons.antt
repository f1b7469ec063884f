-- The definitions give the worked examples of reasons, reply, table and memory of each: computed.
-- Assumes nothing.
use mathlib.Core.Path.{◌≡◌, refl}
use mathlib.Core.List.{map}
use Rattle.requests.specs.Pages.{shared_access, readable, handed, page_read, page_check, page_write}
use Rattle.requests.specs.Requests.{respond}
use Rattle.worked.specs.Examples.{blank, page, fixed_page}
use Rattle.worked.specs.Pages.{RequestExample}
use Rattle.worked.specs.Reasons.{two_bad, later_bad, bad_leaf, reason_examples}
use Rattle.worked.proofs.Computed.{computed}

pub reasons_as_worked :
    map (λ (x : RequestExample). respond x.before x.request) reason_examples ≡ map (λ (x : RequestExample). x.gives) reason_examples
unfolding computed respond shared_access readable handed page_read page_check page_write
    reason_examples two_bad later_bad bad_leaf blank page fixed_page
reasons_as_worked = refl
