-- A call as it computes: to unfold `computed` is to unfold every definition of the rules, down to the words. Only examples do so.
-- Assumes nothing.
use Rattle.words.specs.Choice.{pick, ◌and◌, ◌or◌}
use Rattle.words.specs.Run.{differing}
use Rattle.parity.specs.Odd.{odd, last_odd}
use Rattle.frames.specs.Frame.{frame_count, is_framed, word_in, frame_in, zeros, put_word, put_frame, differing_in}
use Rattle.entries.specs.Entry.{is_address, frame_of, is_party, is_guest, is_owned, is_unowned, entry, zero_entry, asid_fits, flags_fit}
use Rattle.entries.specs.Entry.{address_fits, rule, by_rules, fields, decoded, bit, encoded, to_validated, to_fixed, to_moved}
use Rattle.entries.specs.Leaf.{leaf_word, present_at}
use Rattle.rmp.specs.Table.{covered, is_whole, entry_in, put_entry}
use Rattle.rules.specs.Access.{unfixed_access, fixed_access, covered_access, access, read, write}
use Rattle.rules.specs.Answers.{Outcome, settle, unless, when, begins, entered, both_entered}
use Rattle.rules.specs.Arguments.{is_host, update_arguments, validate_arguments, two_frame_arguments, unmerge_arguments}
use Rattle.rules.specs.Arguments.{one_frame_arguments, access_arguments, may_access}
use Rattle.rules.specs.Assignment.{assigning, update_answer, rmpupdate, validating, validate_answer, pvalidate}
use Rattle.rules.specs.Calls.{Call, step}
use Rattle.rules.specs.Census.{in_leaf, in_entry, holding, counted, tally, reported, census}
use Rattle.rules.specs.Leaves.{leaf_frame, is_leaf, consulted, placed, vacant, names_leaf, leaf_in_use, present_words, last_present}
use Rattle.rules.specs.Leaves.{of_guest, remaining}
use Rattle.rules.specs.Merging.{fixing, pfix, merging, pmerge_by, pmerge, unmerging, punmerge, unfixing, punfix}
use Rattle.rules.specs.State.{State, N, M, sized, covers, entry_at, word_at, frame_at, differing_at, with_entry, with_word, with_frame}

unfoldable pub computed : State → Call → Outcome
unfolding pick ◌and◌ ◌or◌ differing odd last_odd frame_count is_framed word_in frame_in zeros put_word put_frame differing_in
    is_address is_owned is_unowned entry zero_entry asid_fits flags_fit address_fits rule by_rules fields decoded bit encoded to_validated
    to_fixed to_moved leaf_word present_at covered is_whole entry_in put_entry unfixed_access fixed_access covered_access access read
    write settle unless when begins entered both_entered is_party is_guest is_host update_arguments
    validate_arguments two_frame_arguments unmerge_arguments one_frame_arguments
    access_arguments may_access assigning update_answer rmpupdate validating validate_answer pvalidate step in_leaf in_entry holding counted tally
    reported census leaf_frame is_leaf consulted placed vacant names_leaf leaf_in_use present_words last_present of_guest remaining fixing pfix merging pmerge_by
    pmerge unmerging punmerge unfixing punfix N M sized covers frame_of entry_at word_at frame_at differing_at with_entry with_word with_frame
computed s call = step s call
