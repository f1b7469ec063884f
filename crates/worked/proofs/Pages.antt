-- The definitions give the worked examples of pages, reply, table and memory of each: computed.
-- Assumes nothing.
use mathlib.Core.Path.{◌≡◌, refl}
use mathlib.Core.List.{map}
use Rattle.requests.specs.Pages.{shared_access, readable, handed, page_read, page_check, page_write}
use Rattle.requests.specs.Requests.{respond}
use Rattle.worked.specs.Examples.{blank, page, page_of_two, merged_page, half_entry, bad_entry}
use Rattle.worked.specs.Pages.{RequestExample, disk, page_examples}
use Rattle.worked.proofs.Computed.{computed}

pub pages_as_worked :
    map (λ (x : RequestExample). respond x.before x.request) page_examples ≡ map (λ (x : RequestExample). x.gives) page_examples
unfolding computed respond shared_access readable handed page_read page_check page_write
    page_examples disk blank page page_of_two merged_page half_entry bad_entry
pages_as_worked = refl
