-- PUNMERGE's change with entry 2 as entry 1 moved, which is what the rule says where entry 1 is a fixed page.
use Rattle.std.specs.Prelude.{ℕ}
use Rattle.entries.specs.Entry.{to_moved}
use Rattle.entries.specs.declared.entry.Entry.{Entry}
use Rattle.rules.specs.Leaves.{leaf_frame}
use Rattle.rules.specs.State.{State, frame_at, with_entry, with_word, with_frame}

unfoldable pub moving : State → ℕ → Entry → ℕ → ℕ → ℕ → State
moving s frame1 one frame2 asid gpa =
    with_word (with_entry (with_frame s frame2 (frame_at s frame1)) frame2 (to_moved one asid gpa)) (leaf_frame one) asid 0
