-- 01, "The calls": worked examples of the nine calls, each with the whole table and memory before and after it; of every refusal that a
-- call can give; of the order of checks; and of places. They are worked by hand from 01, and those of PUNFIX from 02, Q-3; that the
-- definitions give them is shown in proofs/Examples.
use Rattle.std.specs.Prelude.{List, [], ◌∷◌, ◌++◌, ℕ, ◌-◌, replicate}
use Rattle.rules.specs.Answers.{Told, refused, done, none, closed, opened, already, unfixed, word, count, Outcome, outcome}
use Rattle.rules.specs.Calls.{Call, RMPUPDATE, PVALIDATE, PFIX, PMERGE, PUNMERGE, PUNFIX, READ, WRITE, CENSUS}
use Rattle.rules.specs.Refusals.{alone, BAD_ENTRY}
use Rattle.rules.specs.State.{State, state}

pub record Example : Type 0 where
  pub before : State
  pub call : Call
  pub gives : Outcome

-- an accepted call, with its answer and the state after it; a refused one, with its number; and one refused with 5, with the reason
abbrev pub accepts : State → Call → Told → State → Example
accepts before call told after = record { before = before; call = call; gives = outcome told after }

abbrev pub refuses : State → Call → ℕ → Example
refuses before call number = record { before = before; call = call; gives = outcome (refused (alone number)) before }

abbrev pub finds : State → Call → ℕ → Example
finds before call reason = record { before = before; call = call; gives = outcome (refused (BAD_ENTRY reason)) before }

-- frames: all zero; one word that is not; two words that are not
unfoldable pub blank : List ℕ
blank = replicate 512 0

unfoldable pub page : ℕ → ℕ → List ℕ
page index value = replicate index 0 ++ (value ∷ replicate (511 - index) 0)

unfoldable pub page_of_two : ℕ → ℕ → ℕ → ℕ → List ℕ
page_of_two index value later value2 =
    replicate index 0 ++ (value ∷ (replicate (later - index - 1) 0 ++ (value2 ∷ replicate (511 - later) 0)))

-- one frame, guest 7's: MERGEABLE at 50000, validated, with 2a in word 3
unfoldable pub owned : State
owned = state (0x60007 ∷ 0x50000 ∷ []) (page 3 0x2a)

-- `owned` before it was validated
unfoldable pub unopened : State
unopened = state (0x20007 ∷ 0x50000 ∷ []) (page 3 0x2a)

-- `owned` with a second frame that the table does not cover
unfoldable pub lone : State
lone = state (0x60007 ∷ 0x50000 ∷ []) (page 3 0x2a ++ blank)

-- `owned`, then guest 9's frame with the same contents at 60000, and a LEAF whose frame holds what an earlier use left
unfoldable pub apart : State
apart =
    state (0x60007 ∷ 0x50000 ∷ 0x60009 ∷ 0x60000 ∷ 0x30000 ∷ 0 ∷ []) (page 3 0x2a ++ (page 3 0x2a ++ page 1 0x90001))

-- `apart` with frame 0 fixed, its leaf at frame 2
unfoldable pub fixed_page : State
fixed_page =
    state (0xe0007 ∷ 0x2000 ∷ 0x60009 ∷ 0x60000 ∷ 0x30000 ∷ 0 ∷ []) (page 3 0x2a ++ (page 3 0x2a ++ page 7 0x50001))

-- `fixed_page` with frame 0 unfixed
unfoldable pub unfixed_page : State
unfixed_page = state (0x60007 ∷ 0x50000 ∷ 0x60009 ∷ 0x60000 ∷ 0 ∷ 0 ∷ []) (page 3 0x2a ++ (page 3 0x2a ++ blank))

-- `fixed_page` with frame 1 merged into frame 0
unfoldable pub merged_page : State
merged_page =
    state (0xe0007 ∷ 0x2000 ∷ 0 ∷ 0 ∷ 0x30000 ∷ 0 ∷ []) (page 3 0x2a ++ (blank ++ page_of_two 7 0x50001 9 0x60001))

-- frame 0 is fixed, and its owner, guest 7, was unmerged into frame 1: what is left in the leaf are these words
unfoldable pub owner_gone : List ℕ → State
owner_gone leaf = state (0xe0007 ∷ 0x2000 ∷ 0x60007 ∷ 0x50000 ∷ 0x30000 ∷ 0 ∷ []) (page 3 0x2a ++ (page 3 0x2a ++ leaf))

-- half an entry; one frame whose entry has a spare bit; two frames, the first fixed with the second, which is no LEAF, as its leaf
unfoldable pub half_entry : State
half_entry = state (0 ∷ []) blank

unfoldable pub bad_entry : State
bad_entry = state (0x160007 ∷ 0x50000 ∷ []) blank

unfoldable pub no_leaf : State
no_leaf = state (0xe0007 ∷ 0x1000 ∷ 0 ∷ 0 ∷ []) (page 3 0x2a ++ blank)

-- `apart` with frame 1, and not frame 0, fixed with that leaf
unfoldable pub leaf_taken : State
leaf_taken =
    state (0x60007 ∷ 0x50000 ∷ 0xe0009 ∷ 0x2000 ∷ 0x30000 ∷ 0 ∷ []) (page 3 0x2a ++ (page 3 0x2a ++ page 9 0x60001))

unfoldable pub examples : List Example
examples =
    -- the guest changed, so the frame is zeroed; and where it did not, the contents stay
    accepts owned (RMPUPDATE 0 0 0x60000 9 2) (closed 7 0x50000) (state (0x20009 ∷ 0x60000 ∷ []) blank)
    ∷ accepts owned (RMPUPDATE 0 0 0x60000 7 1) (closed 7 0x50000) (state (0x10007 ∷ 0x60000 ∷ []) (page 3 0x2a))
    ∷ accepts unopened (RMPUPDATE 0 0 0 0 3) none (state (0x30000 ∷ 0 ∷ []) blank)
    ∷ refuses fixed_page (RMPUPDATE 0 0 0x60000 9 2) 10
    ∷ refuses fixed_page (RMPUPDATE 0 0x2000 0 0 0) 6
    ∷ accepts unopened (PVALIDATE 7 0x50000 0 2) opened owned
    ∷ accepts owned (PVALIDATE 7 0x50000 0 2) already owned
    ∷ refuses unopened (PVALIDATE 7 0x50000 0 1) 6
    ∷ refuses unopened (PVALIDATE 9 0x60000 0 2) 7
    ∷ accepts apart (PFIX 0 0 0x2000) done fixed_page
    ∷ refuses leaf_taken (PFIX 0 0 0x2000) 15
    ∷ accepts fixed_page (PMERGE 0 0 0x1000) done merged_page
    ∷ refuses (state fixed_page.table (page 3 0x2a ++ (page 3 0x2b ++ page 7 0x50001))) (PMERGE 0 0 0x1000) 16
    ∷ refuses (state fixed_page.table (page 3 0x2a ++ (page_of_two 0 1 3 0x2a ++ page 7 0x50001))) (PMERGE 0 0 0x1000) 16
    ∷ refuses (state fixed_page.table (page 3 0x2a ++ (page_of_two 3 0x2a 511 1 ++ page 7 0x50001))) (PMERGE 0 0 0x1000) 16
    ∷ refuses (state fixed_page.table (page 3 0x2a ++ (page 3 0x2a ++ page_of_two 7 0x50001 9 0x70001))) (PMERGE 0 0 0x1000) 14
    ∷ accepts merged_page (PUNMERGE 0 0 0x1000 9) done fixed_page
    ∷ refuses merged_page (PUNMERGE 0 0 0x1000 8) 13
    ∷ accepts fixed_page (PUNFIX 0 0) (unfixed 7) unfixed_page
    ∷ refuses merged_page (PUNFIX 0 0) 17
    -- another guest is left in the page, which keeps its contents; and nobody: bit 0 is clear in every word of the leaf
    ∷ accepts (owner_gone (page 9 0x60001)) (PUNFIX 0 0) (unfixed 9)
    (state (0x60009 ∷ 0x60000 ∷ 0x60007 ∷ 0x50000 ∷ 0 ∷ 0 ∷ []) (page 3 0x2a ++ (page 3 0x2a ++ blank)))
    ∷ accepts (owner_gone (page 511 0x1)) (PUNFIX 0 0) (unfixed 511)
    (state (0x601ff ∷ 0 ∷ 0x60007 ∷ 0x50000 ∷ 0 ∷ 0 ∷ []) (page 3 0x2a ++ (page 3 0x2a ++ blank)))
    ∷ accepts (owner_gone (page 9 0x60002)) (PUNFIX 0 0) (unfixed 0)
    (state (0 ∷ 0 ∷ 0x60007 ∷ 0x50000 ∷ 0 ∷ 0 ∷ []) (blank ++ (page 3 0x2a ++ blank)))
    ∷ refuses (owner_gone (page 0 0x60001)) (PUNFIX 0 0) 12
    ∷ refuses (owner_gone (page 9 0x60003)) (PUNFIX 0 0) 12
    ∷ refuses (owner_gone (page_of_two 0 0x60001 9 0x60001)) (PUNFIX 0 0) 17
    ∷ accepts merged_page (READ 9 0x60000 0 2 2 3) (word 0x2a) merged_page
    ∷ refuses merged_page (READ 9 0x50000 0 2 2 3) 8
    ∷ accepts owned (WRITE 7 0x50000 0 2 2 3 0x2b) done (state (0x60007 ∷ 0x50000 ∷ []) (page 3 0x2b))
    ∷ refuses merged_page (WRITE 7 0x50000 0 2 2 3 0x2b) 10
    ∷ accepts merged_page (CENSUS 9) (count 1) merged_page
    ∷ refuses (state merged_page.table (page 3 0x2a ++ (blank ++ page 9 0x60003))) (CENSUS 9) 12
    -- a frame above the table
    ∷ accepts lone (WRITE 0 0 0x1000 0 0 3 0x2b) done (state (0x60007 ∷ 0x50000 ∷ []) (page 3 0x2a ++ page 3 0x2b))
    ∷ refuses lone (WRITE 7 0x50000 0x1000 2 2 3 0x2b) 6
    -- the sizes: half an entry, a part of a frame, more entries than frames
    ∷ refuses half_entry (CENSUS 7) 1
    ∷ refuses (state (0 ∷ 0 ∷ []) (0 ∷ blank)) (CENSUS 7) 1
    ∷ refuses (state (0 ∷ 0 ∷ 0 ∷ 0 ∷ []) blank) (CENSUS 7) 1
    -- the other numbers, on READ and PMERGE
    ∷ refuses owned (READ 7 0x50001 0 2 2 3) 2
    ∷ refuses owned (READ 0 0x50000 0 2 2 3) 3
    ∷ refuses owned (READ 7 0x50000 0x1000 2 2 3) 4
    ∷ finds bad_entry (READ 7 0x50000 0 2 2 3) 1
    ∷ refuses owned (READ 9 0x50000 0 2 2 3) 7
    ∷ refuses unopened (READ 7 0x50000 0 2 2 3) 9
    ∷ refuses apart (PMERGE 0 0 0x1000) 11
    -- arguments and parties at their limits
    ∷ refuses owned (READ 512 0x50000 0 2 2 3) 2
    ∷ refuses owned (READ 7 0x50000 0 2 2 512) 2
    ∷ refuses owned (READ 7 0x50000 0 3 3 3) 2
    ∷ refuses owned (READ 0 0x50000 0 0 2 3) 3
    ∷ refuses owned (RMPUPDATE 0 0 0x60000 9 4) 2
    ∷ refuses owned (RMPUPDATE 0 0 0x60000 0 0) 2
    ∷ refuses owned (RMPUPDATE 0 0 0x60000 0 1) 2
    ∷ refuses owned (PVALIDATE 7 0x50000 0 0) 2
    ∷ refuses merged_page (PUNMERGE 0 0 0x1000 0) 2
    ∷ refuses owned (CENSUS 0) 2
    ∷ refuses owned (CENSUS 512) 2
    -- what counts as a place, as present, as a LEAF and as a leaf's user
    ∷ accepts unopened (CENSUS 7) (count 0) unopened
    ∷ refuses (state fixed_page.table (page 3 0x2a ++ (page 3 0x2a ++ page_of_two 7 0x50001 9 0x60003))) (PUNFIX 0 0) 17
    ∷ refuses (state (0xe0007 ∷ 0x2000 ∷ 0x60009 ∷ 0x60000 ∷ 0x130000 ∷ 0 ∷ []) fixed_page.memory) (READ 7 0x50000 0 2 2 3) 12
    ∷ accepts (state (0x60007 ∷ 0x50000 ∷ 0xa0009 ∷ 0x2000 ∷ 0x30000 ∷ 0 ∷ []) fixed_page.memory) (PFIX 0 0 0x2000) done
    (state (0xe0007 ∷ 0x2000 ∷ 0xa0009 ∷ 0x2000 ∷ 0x30000 ∷ 0 ∷ []) fixed_page.memory)
    -- the order of two checks that both fail
    ∷ refuses owned (PUNFIX 512 0x1000) 2
    ∷ refuses owned (RMPUPDATE 7 0 0x60000 0 1) 2
    ∷ refuses owned (PUNFIX 7 0x1000) 3
    ∷ refuses owned (READ 0 0x50000 0x1000 2 2 3) 3
    ∷ refuses owned (READ 7 0x50000 0x1000 0 2 3) 4
    ∷ refuses bad_entry (PFIX 0 0 0x1000) 4
    ∷ refuses fixed_page (PVALIDATE 9 0x50000 0 2) 7
    ∷ refuses fixed_page (PVALIDATE 7 0x50000 0 2) 10
    ∷ refuses unopened (READ 9 0x60000 0 2 2 3) 7
    ∷ refuses unopened (READ 7 0x60000 0 2 2 3) 8
    ∷ refuses (state (0xe0007 ∷ 0x2000 ∷ 0x20009 ∷ 0x60000 ∷ 0 ∷ 0 ∷ []) fixed_page.memory) (PMERGE 0 0 0x1000) 9
    ∷ refuses (state fixed_page.table (page 3 0x2a ++ (page 3 0x2b ++ page_of_two 7 0x50001 9 0x70001))) (PMERGE 0 0 0x1000) 14
    ∷ refuses (state (0xe0007 ∷ 0x1000 ∷ 0 ∷ 0 ∷ []) (page 3 0x2a ++ page_of_two 7 0x50001 9 0x60001)) (PUNFIX 0 0) 12
    ∷ refuses no_leaf (WRITE 7 0x50000 0 2 2 3 0x2b) 10
    ∷ refuses (state (0xe0007 ∷ 0x1000 ∷ 0x130000 ∷ 0 ∷ []) (blank ++ blank)) (CENSUS 7) 12
    ∷ finds (state (0x130000 ∷ 0 ∷ 0xe0007 ∷ 0 ∷ []) (blank ++ blank)) (CENSUS 7) 1
    -- the refusals that are left, each where a later check fails too, if there is one that can
    ∷ refuses half_entry (RMPUPDATE 7 1 1 1 4) 1
    ∷ refuses owned (RMPUPDATE 7 0x1000 0 0 0) 3
    ∷ refuses owned (RMPUPDATE 0 0x1000 0 0 0) 4
    ∷ finds bad_entry (RMPUPDATE 0 0 0 0 0) 1
    ∷ refuses half_entry (PVALIDATE 0 1 1 0) 1
    ∷ refuses owned (PVALIDATE 0 0x50000 0x1000 2) 3
    ∷ refuses owned (PVALIDATE 7 0x50000 0x1000 2) 4
    ∷ finds bad_entry (PVALIDATE 7 0x50000 0 2) 1
    ∷ refuses unopened (PVALIDATE 9 0x50000 0 1) 6
    ∷ refuses unopened (PVALIDATE 7 0x60000 0 2) 8
    ∷ refuses half_entry (PFIX 7 1 0) 1
    ∷ refuses owned (PFIX 7 0 1) 2
    ∷ refuses owned (PFIX 7 0 0x1000) 3
    ∷ finds bad_entry (PFIX 0 0 0) 1
    ∷ refuses fixed_page (PFIX 0 0 0x1000) 6
    ∷ refuses (state (0x20007 ∷ 0x50000 ∷ 0 ∷ 0 ∷ []) (blank ++ blank)) (PFIX 0 0 0x1000) 6
    ∷ refuses fixed_page (PFIX 0 0 0x2000) 10
    ∷ refuses (state (0x20007 ∷ 0x50000 ∷ 0xe0009 ∷ 0x2000 ∷ 0x30000 ∷ 0 ∷ []) leaf_taken.memory) (PFIX 0 0 0x2000) 9
    ∷ refuses half_entry (PMERGE 7 1 0) 1
    ∷ refuses owned (PMERGE 7 0 1) 2
    ∷ refuses owned (PMERGE 7 0 0x1000) 3
    ∷ refuses bad_entry (PMERGE 0 0 0x1000) 4
    ∷ finds bad_entry (PMERGE 0 0 0) 1
    ∷ refuses unfixed_page (PMERGE 0 0 0x2000) 6
    ∷ refuses leaf_taken (PMERGE 0 0 0x1000) 11
    ∷ refuses (state (0x60007 ∷ 0x50000 ∷ 0x20009 ∷ 0x60000 ∷ []) (blank ++ blank)) (PMERGE 0 0 0x1000) 11
    ∷ refuses fixed_page (PMERGE 0 0 0) 10
    ∷ refuses (state (0xe0007 ∷ 0x2000 ∷ 0x60009 ∷ 0x60000 ∷ 0 ∷ 0 ∷ []) merged_page.memory) (PMERGE 0 0 0x1000) 12
    ∷ refuses half_entry (PUNMERGE 7 1 0 0) 1
    ∷ refuses owned (PUNMERGE 7 0 0x1000 9) 3
    ∷ refuses bad_entry (PUNMERGE 0 0 0x1000 9) 4
    ∷ finds bad_entry (PUNMERGE 0 0 0 9) 1
    ∷ refuses apart (PUNMERGE 0 0 0x1000 9) 6
    ∷ refuses unfixed_page (PUNMERGE 0 0 0x2000 7) 11
    ∷ refuses no_leaf (PUNMERGE 0 0 0x1000 7) 12
    ∷ refuses half_entry (PUNFIX 7 1) 1
    ∷ refuses bad_entry (PUNFIX 0 0x1000) 4
    ∷ finds bad_entry (PUNFIX 0 0) 1
    ∷ refuses apart (PUNFIX 0 0x2000) 6
    ∷ refuses owned (PUNFIX 0 0) 11
    ∷ refuses no_leaf (PUNFIX 0 0) 12
    ∷ refuses half_entry (READ 512 1 0 2 2 3) 1
    ∷ refuses bad_entry (READ 7 0x50000 0 2 1 3) 6
    ∷ refuses no_leaf (READ 9 0x60000 0 2 2 3) 12
    ∷ refuses merged_page (READ 8 0x60000 0 2 2 3) 13
    ∷ refuses half_entry (WRITE 512 1 0 2 2 3 0x2b) 1
    ∷ refuses owned (WRITE 0 1 0 2 2 3 0x2b) 2
    ∷ refuses owned (WRITE 0 0x50000 0x1000 2 2 3 0x2b) 3
    ∷ refuses owned (WRITE 7 0x50000 0x1000 1 2 3 0x2b) 4
    ∷ finds bad_entry (WRITE 7 0x50000 0 2 2 3 0x2b) 1
    ∷ refuses unopened (WRITE 9 0x60000 0 2 2 3 0x2b) 7
    ∷ refuses unopened (WRITE 7 0x60000 0 2 2 3 0x2b) 8
    ∷ refuses unopened (WRITE 7 0x50000 0 2 2 3 0x2b) 9
    ∷ []

-- places: the state, the guest, the address, and how many
pub record Placed : Type 0 where
  pub box : State
  pub guest : ℕ
  pub gpa : ℕ
  pub number : ℕ

abbrev pub has : State → ℕ → ℕ → ℕ → Placed
has box guest gpa number = record { box = box; guest = guest; gpa = gpa; number = number }

unfoldable pub place_examples : List Placed
place_examples =
    has owned 7 0x50000 1
    ∷ has owned 7 0x60000 0
    ∷ has owned 9 0x50000 0
    ∷ has unopened 7 0x50000 0
    ∷ has merged_page 7 0x50000 1
    ∷ has merged_page 9 0x60000 1
    ∷ has merged_page 9 0x50000 0
    ∷ has (state (0x60007 ∷ 0x50000 ∷ 0x50007 ∷ 0x50000 ∷ []) (blank ++ blank)) 7 0x50000 2
    ∷ []
