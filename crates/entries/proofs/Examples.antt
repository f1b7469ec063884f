-- The examples follow from the definitions themselves: both sides compute.
-- Assumes nothing.
use mathlib.Core.Path.{◌≡◌, refl}
use mathlib.Core.List.{map}
use lib.ListN.{length}
use Rattle.words.specs.Choice.{pick, ◌and◌, ◌or◌}
use Rattle.entries.specs.Entry.{is_address, frame_of, is_guest, is_owned, is_unowned, entry, asid_fits, flags_fit, address_fits}
use Rattle.entries.specs.Entry.{rule, by_rules, fields, decoded}
use Rattle.entries.specs.Leaf.{leaf_word}
use Rattle.entries.specs.Examples.{Example, of_entry, of_leaf, judged, examples}

-- the paper's sixteen, and three more
pub nineteen : length examples ≡ 19
unfolding examples
nineteen = refl

-- The one statement: the definitions say of each example what the papers say.
pub as_the_papers_say : map (λ (x : Example). judged x.given) examples ≡ map (λ (x : Example). x.says) examples
unfolding examples judged is_guest frame_of of_entry of_leaf decoded by_rules rule asid_fits flags_fit address_fits is_owned is_unowned is_address
    fields entry leaf_word pick ◌and◌ ◌or◌
as_the_papers_say = refl
