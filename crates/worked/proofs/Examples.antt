-- The definitions give the worked examples of the nine calls, answer, table and memory of each, and those of places: computed.
-- Assumes nothing.
use mathlib.Core.Path.{◌≡◌, refl}
use mathlib.Core.List.{map}
use Rattle.rules.specs.Calls.{step}
use Rattle.rules.specs.Census.{place_in, places_below, places}
use Rattle.worked.specs.Examples.{Example, blank, page, page_of_two, owned, unopened, lone, apart, fixed_page, unfixed_page, merged_page}
use Rattle.worked.specs.Examples.{owner_gone}
use Rattle.worked.specs.Examples.{half_entry, bad_entry, no_leaf, leaf_taken, examples, Placed, place_examples}
use Rattle.worked.proofs.Computed.{computed}

pub as_worked : map (λ (x : Example). step x.before x.call) examples ≡ map (λ (x : Example). x.gives) examples
unfolding computed examples blank page page_of_two owned unopened lone apart fixed_page unfixed_page merged_page owner_gone
    half_entry bad_entry no_leaf leaf_taken
as_worked = refl

pub placed_as_worked : map (λ (x : Placed). places x.box x.guest x.gpa) place_examples ≡ map (λ (x : Placed). x.number) place_examples
unfolding computed places places_below place_in place_examples blank page page_of_two owned unopened merged_page
placed_as_worked = refl
