-- The definitions give the worked walks, each computed down to the words.
-- Assumes nothing.
use mathlib.Core.Path.{◌≡◌, refl}
use mathlib.Core.Bool.{true}
use mathlib.Core.List.{map}
use Rattle.words.specs.Choice.{pick, ◌and◌, ◌or◌}
use Rattle.frames.specs.Frame.{frame_count, is_framed, word_in}
use Rattle.entries.specs.Entry.{is_address, frame_of, is_party, is_guest, is_owned, is_unowned, entry, asid_fits, flags_fit, address_fits, rule}
use Rattle.entries.specs.Entry.{by_rules, fields, decoded}
use Rattle.entries.specs.Leaf.{leaf_word}
use Rattle.rmp.specs.Table.{covered, is_whole, entry_in}
use Rattle.rules.specs.Access.{unfixed_access, fixed_access, covered_access, access}
use Rattle.rules.specs.Answers.{unless, when, begins, entered}
use Rattle.rules.specs.Arguments.{is_host, access_arguments, may_access}
use Rattle.rules.specs.Leaves.{leaf_frame, is_leaf, consulted, placed}
use Rattle.rules.specs.State.{N, M, sized, covers, entry_at, word_at}
use Rattle.paging.specs.Entry.{is_present, is_large, address_of, type_of, page_of, index_at, is_virtual}
use Rattle.paging.specs.Examples.{table, host_table, guest_table, lower_table, box, half_entry, bad_host, bad_guest, merged}
use Rattle.paging.specs.Examples.{other_type, above, Example, examples}
use Rattle.paging.specs.Walk.{onward, provided, follow, down, walk, let_through, look, host_reads, at_last, host_walk, host_half}
use Rattle.paging.specs.Walk.{guest_reads, always, guest_walk, walked, virtual_arguments, translated}

pub walks_as_worked :
    map (λ (x : Example). translated x.state x.at true) examples ≡ map (λ (x : Example). x.comes_to) examples
unfolding pick ◌and◌ ◌or◌ frame_count is_framed word_in is_address frame_of is_party is_guest is_owned is_unowned entry asid_fits flags_fit
    address_fits rule by_rules fields decoded leaf_word covered is_whole entry_in unfixed_access fixed_access covered_access access unless when
    begins entered is_host access_arguments may_access leaf_frame is_leaf consulted placed N M sized covers entry_at word_at
    is_present is_large address_of type_of page_of index_at is_virtual onward provided follow down walk let_through look host_reads at_last host_walk
    host_half guest_reads always guest_walk walked virtual_arguments translated
    examples table host_table guest_table lower_table box half_entry bad_host bad_guest merged other_type above
walks_as_worked = refl
