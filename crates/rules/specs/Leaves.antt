-- 01, "Sizes and layout" and "Refusal numbers", 12 to 15, and 02, Q-3: the leaf of a fixed page, the word consulted in it, who uses it, and
-- who is left in it.
use Rattle.std.specs.Prelude.{Bool, false, ℕ, zero, suc, leb, eqb, Ok, Err}
use Rattle.words.specs.Choice.{pick, ◌and◌, ◌or◌}
use Rattle.parity.specs.Odd.{odd, last_odd}
use Rattle.entries.specs.Entry.{Decoded, LEAF, frame_of, is_guest}
use Rattle.entries.specs.Leaf.{leaf_word}
use Rattle.entries.specs.declared.entry.Entry.{Entry}
use Rattle.entries.specs.declared.leaf.LeafWord.{LeafWord}
use Rattle.entries.specs.declared.leaf.LeafWord.TheVariants.{Absent, Present, Misshapen}
use Rattle.rules.specs.Answers.{Verdict, refuse, unless, when}
use Rattle.rules.specs.Refusals.{BROKEN_LEAF, NO_PLACE, PLACE_TAKEN, STILL_SHARED}
use Rattle.rules.specs.State.{State, entry_at, word_at, frame_at}

-- the frame of a fixed page's leaf
unfoldable pub leaf_frame : Entry → ℕ
leaf_frame page = frame_of page.address

unfoldable pub is_leaf : Decoded → Bool
is_leaf (Ok e) = eqb e.kind LEAF
is_leaf (Err reason) = false

-- the word consulted: the guest's in the page's leaf. A leaf whose entry is not a well formed LEAF says as little as a misshapen word.
unfoldable pub consulted : State → Entry → ℕ → LeafWord
consulted s page guest = pick (is_leaf (entry_at s (leaf_frame page))) (leaf_word (word_at s (leaf_frame page) guest)) Misshapen

-- 12, then 13: a call goes on only with a word that is present, at its address
unfoldable pub placed : LeafWord → (ℕ → Verdict) → Verdict
placed Misshapen rest = refuse BROKEN_LEAF
placed Absent rest = refuse NO_PLACE
placed (Present gpa) rest = rest gpa

-- 12, then 14: a call goes on only with a word that is absent
unfoldable pub vacant : LeafWord → Verdict → Verdict
vacant Misshapen rest = refuse BROKEN_LEAF
vacant (Present gpa) rest = refuse PLACE_TAKEN
vacant Absent rest = rest

-- 15: one of the first n frames has a well formed FIXED entry that names the leaf at this address
unfoldable pub names_leaf : Decoded → ℕ → Bool
names_leaf (Ok e) leaf = e.fixed and eqb e.address leaf
names_leaf (Err reason) leaf = false

unfoldable pub leaf_in_use : State → ℕ → ℕ → Bool
leaf_in_use s leaf zero = false
leaf_in_use s leaf (suc n) = leaf_in_use s leaf n or names_leaf (entry_at s n) leaf

-- 02, Q-3: "Count the present words among all 512": how many words of a leaf frame have bit 0 set, whatever else is in them, and the index
-- of the last of these
unfoldable pub present_words : State → ℕ → ℕ
present_words s leaf = odd (frame_at s leaf) 512

unfoldable pub last_present : State → ℕ → ℕ
last_present s leaf = last_odd (frame_at s leaf) 512

-- "One, at the ASID of any guest: ..; at index 0, or misshapen: 12." (The one is present, so that it is not absent.)
unfoldable pub of_guest : ℕ → LeafWord → (ℕ → Verdict) → Verdict
of_guest index (Present gpa) rest = unless (is_guest index) BROKEN_LEAF (rest gpa)
of_guest index Misshapen rest = refuse BROKEN_LEAF
of_guest index Absent rest = refuse BROKEN_LEAF

-- "Two or more: 17. One ..: .. None: ..": what follows where one guest is left, with its number and its address, and where nobody is
unfoldable pub remaining : State → ℕ → (ℕ → ℕ → Verdict) → Verdict → Verdict
remaining s leaf one none =
    when (leb 2 (present_words s leaf)) STILL_SHARED
    (pick (eqb (present_words s leaf) 1)
    (of_guest (last_present s leaf) (leaf_word (word_at s leaf (last_present s leaf))) (one (last_present s leaf)))
    none)
