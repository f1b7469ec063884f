-- 01, "The calls": places and CENSUS. Both are counts of what the frames are to a guest, from one definition of a holding.
use Rattle.std.specs.Prelude.{ℕ, zero, suc, ◌+◌, eqb, Ok, Err}
use Rattle.words.specs.Choice.{pick, ◌and◌}
use Rattle.entries.specs.Entry.{Decoded, is_guest}
use Rattle.entries.specs.declared.leaf.LeafWord.{LeafWord}
use Rattle.entries.specs.declared.leaf.LeafWord.TheVariants.{Absent, Present, Misshapen}
use Rattle.entries.specs.Reasons.{reason_number}
use Rattle.rules.specs.Answers.{count, Outcome, Verdict, refuse, grant, settle, unless}
use Rattle.rules.specs.Leaves.{consulted}
use Rattle.rules.specs.Refusals.{Refusal, GEOMETRY, ARGUMENT, BAD_ENTRY, BROKEN_LEAF}
use Rattle.rules.specs.State.{State, N, sized, entry_at}

-- what a frame is to a guest: the guest's place at an address, no place of it, or what a census refuses with
pub data Holding : Type 0 where
  holds : (gpa : ℕ) → Holding
  nothing : Holding
  fails : (refusal : Refusal) → Holding

-- ".. or a fixed page in whose leaf its word is present with that address"
unfoldable pub in_leaf : LeafWord → Holding
in_leaf Absent = nothing
in_leaf (Present gpa) = holds gpa
in_leaf Misshapen = fails BROKEN_LEAF

-- "A *place* of a guest at an address: an unfixed VALIDATED entry with both, or a fixed page .."
unfoldable pub in_entry : State → ℕ → Decoded → Holding
in_entry s guest (Ok page) =
    pick page.fixed
    (in_leaf (consulted s page guest))
    (pick (page.validated and eqb page.asid guest) (holds page.address) nothing)
in_entry s guest (Err reason) = fails (BAD_ENTRY (reason_number reason))

unfoldable pub holding : State → ℕ → ℕ → Holding
holding s guest frame = in_entry s guest (entry_at s frame)

-- the places of a guest at an address, among the first n frames and in all
unfoldable pub place_in : Holding → ℕ → ℕ
place_in (holds here) gpa = pick (eqb here gpa) 1 0
place_in nothing gpa = 0
place_in (fails refusal) gpa = 0

unfoldable pub places_below : State → ℕ → ℕ → ℕ → ℕ
places_below s guest gpa zero = 0
places_below s guest gpa (suc n) = places_below s guest gpa n + place_in (holding s guest n) gpa

unfoldable pub places : State → ℕ → ℕ → ℕ
places s guest gpa = places_below s guest gpa (N s)

-- "Frames in rising order; the first 5 or 12 met refuses": how many places among the first n frames, or that refusal
pub data Tally : Type 0 where
  total : (places : ℕ) → Tally
  stopped : (refusal : Refusal) → Tally

unfoldable pub counted : Tally → Holding → Tally
counted (total n) (holds gpa) = total (n + 1)
counted (total n) nothing = total n
counted (total n) (fails refusal) = stopped refusal
counted (stopped refusal) holding = stopped refusal

unfoldable pub tally : State → ℕ → ℕ → Tally
tally s guest zero = total 0
tally s guest (suc n) = counted (tally s guest n) (holding s guest n)

-- "Answer: the number of places of this guest." (CENSUS has only 1 and 2: "2 if asid is 0 or above 511")
unfoldable pub reported : State → Tally → Verdict
reported s (total n) = grant (count n) s
reported s (stopped refusal) = refuse refusal

unfoldable pub census : State → ℕ → Outcome
census s asid =
    settle s
    (unless (sized s) GEOMETRY
    (unless (is_guest asid) ARGUMENT
    (reported s (tally s asid (N s)))))
