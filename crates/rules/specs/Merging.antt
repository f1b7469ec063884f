-- 01, "The calls": PFIX, PMERGE, PUNMERGE and PUNFIX, with 02, Q-5, for PMERGE and Q-3 for PUNFIX.
use Rattle.std.specs.Prelude.{Bool, true, false, ℕ, eqb}
use Rattle.words.specs.Choice.{◌and◌}
use Rattle.frames.specs.Frame.{zeros}
use Rattle.entries.specs.Entry.{SHARED, MERGEABLE, LEAF, frame_of, entry, zero_entry, to_fixed, to_moved}
use Rattle.entries.specs.Leaf.{present_at}
use Rattle.entries.specs.declared.entry.Entry.{Entry}
use Rattle.rules.specs.Answers.{done, unfixed, Outcome, grant, settle, unless, when, begins, entered, both_entered}
use Rattle.rules.specs.Arguments.{is_host, two_frame_arguments, unmerge_arguments, one_frame_arguments}
use Rattle.rules.specs.Leaves.{leaf_frame, is_leaf, consulted, placed, vacant, leaf_in_use, remaining}
use Rattle.rules.specs.Refusals.{TYPE, NOT_VALIDATED, FIXED, NOT_FIXED, BROKEN_LEAF, LEAF_IN_USE, CONTENTS}
use Rattle.rules.specs.State.{State, N, covers, entry_at, frame_at, differing_at, with_entry, with_word, with_frame}

-- "the leaf frame is zeroed, the owner's word in it is GPA + 1, the entry is FIXED with the leaf's address"
unfoldable pub fixing : State → ℕ → Entry → ℕ → State
fixing s frame old leaf =
    with_entry (with_word (with_frame s (frame_of leaf) zeros) (frame_of leaf) old.asid (present_at old.address)) frame (to_fixed old leaf)

-- PFIX: "5 (both), 6 (hpa not MERGEABLE or leaf not LEAF), 10, 9, 15."
unfoldable pub pfix : State → ℕ → ℕ → ℕ → Outcome
pfix s caller hpa leaf =
    settle s
    (begins s (two_frame_arguments caller hpa leaf) (is_host caller) (covers s hpa and covers s leaf)
    (both_entered (entry_at s (frame_of hpa)) (entry_at s (frame_of leaf)) λ old leaf_entry.
    unless (eqb old.kind MERGEABLE and eqb leaf_entry.kind LEAF) TYPE
    (when old.fixed FIXED
    (unless old.validated NOT_VALIDATED
    (when (leaf_in_use s leaf (N s)) LEAF_IN_USE
    (grant done (fixing s (frame_of hpa) old leaf)))))))

-- "that word is hpa2's GPA + 1; frame 2 is zeroed and its entry becomes two zero words"
unfoldable pub merging : State → Entry → ℕ → Entry → State
merging s one frame2 two =
    with_entry (with_frame (with_word s (leaf_frame one) two.asid (present_at two.address)) frame2 zeros) frame2 zero_entry

-- PMERGE: "5 (both), 6 (either not MERGEABLE), 11 (hpa1), 10 (hpa2), 9 (hpa2), 12, 14 (word of hpa2's ASID in hpa1's leaf), 16", the last by
-- whether the two frames are equal
unfoldable pub pmerge_by : Bool → State → ℕ → ℕ → ℕ → Outcome
pmerge_by equal s caller hpa1 hpa2 =
    settle s
    (begins s (two_frame_arguments caller hpa1 hpa2) (is_host caller) (covers s hpa1 and covers s hpa2)
    (both_entered (entry_at s (frame_of hpa1)) (entry_at s (frame_of hpa2)) λ one two.
    unless (eqb one.kind MERGEABLE and eqb two.kind MERGEABLE) TYPE
    (unless one.fixed NOT_FIXED
    (when two.fixed FIXED
    (unless two.validated NOT_VALIDATED
    (vacant (consulted s one two.asid)
    (unless equal CONTENTS
    (grant done (merging s one (frame_of hpa2) two)))))))))

-- 02, Q-5: "it answers exactly how many of them differ, and 16 is given in its old place when that is not zero."
unfoldable pub pmerge : State → ℕ → ℕ → ℕ → Outcome
pmerge s caller hpa1 hpa2 = pmerge_by (eqb (differing_at s (frame_of hpa1) (frame_of hpa2)) 0) s caller hpa1 hpa2

-- "frame 1 is copied to frame 2; entry 2 is asid, MERGEABLE, VALIDATED, unfixed, with the leaf word's address; the leaf word is zeroed"
unfoldable pub unmerging : State → ℕ → Entry → ℕ → ℕ → ℕ → State
unmerging s frame1 one frame2 asid gpa =
    with_word (with_entry (with_frame s frame2 (frame_at s frame1)) frame2 (entry asid MERGEABLE true false gpa)) (leaf_frame one) asid 0

-- PUNMERGE: "5 (both), 6 (hpa1 not MERGEABLE or hpa2 not SHARED), 11, 12, 13."
unfoldable pub punmerge : State → ℕ → ℕ → ℕ → ℕ → Outcome
punmerge s caller hpa1 hpa2 asid =
    settle s
    (begins s (unmerge_arguments caller hpa1 hpa2 asid) (is_host caller) (covers s hpa1 and covers s hpa2)
    (both_entered (entry_at s (frame_of hpa1)) (entry_at s (frame_of hpa2)) λ one two.
    unless (eqb one.kind MERGEABLE and eqb two.kind SHARED) TYPE
    (unless one.fixed NOT_FIXED
    (placed (consulted s one asid) λ gpa.
    grant done (unmerging s (frame_of hpa1) one (frame_of hpa2) asid gpa)))))

-- the page gets another entry; "the leaf's entry and frame are zeroed"
unfoldable pub unfixing : State → ℕ → Entry → Entry → State
unfixing s frame old new =
    with_frame (with_entry (with_entry s frame new) (leaf_frame old) zero_entry) (leaf_frame old) zeros

-- PUNFIX: "5, 6 (not MERGEABLE), 11, 12", and 02, Q-3: "17 and 12 follow the count, after the leaf's entry check." "One, at the ASID of any
-- guest: that guest becomes the owner, with that word's address" (01: "FIXED 0, VALIDATED stays"). "None: page and leaf are both zeroed and
-- turn SHARED."
unfoldable pub punfix : State → ℕ → ℕ → Outcome
punfix s caller hpa =
    settle s
    (begins s (one_frame_arguments caller hpa) (is_host caller) (covers s hpa)
    (entered (entry_at s (frame_of hpa)) λ old.
    unless (eqb old.kind MERGEABLE) TYPE
    (unless old.fixed NOT_FIXED
    (unless (is_leaf (entry_at s (leaf_frame old))) BROKEN_LEAF
    (remaining s (leaf_frame old)
    (λ guest gpa. grant (unfixed guest) (unfixing s (frame_of hpa) old (to_moved old guest gpa)))
    (grant (unfixed 0) (unfixing (with_frame s (frame_of hpa) zeros) (frame_of hpa) old zero_entry)))))))
