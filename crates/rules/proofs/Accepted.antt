-- An accepted call as one relation: the call with what it has passed, what it answers and what it leaves. And what a call comes to: it is
-- refused for a cause, with the state as it was, or accepted. What holds of every accepted call is a function on the relation.
-- Assumes nothing.
use mathlib.Core.Bool.{false, true}
use Prim.Native.Nat.{ℕ}
use Rattle.frames.specs.Frame.{zeros}
use Rattle.entries.specs.Entry.{frame_of, zero_entry, to_moved}
use Rattle.entries.specs.declared.entry.Entry.{Entry}
use Rattle.rules.specs.Answers.{Told, refused, done, unfixed, word, count, Outcome, outcome}
use Rattle.rules.specs.Assignment.{assigning, update_answer, validating, validate_answer}
use Rattle.rules.specs.Calls.{Call, RMPUPDATE, PVALIDATE, PFIX, PMERGE, PUNMERGE, PUNFIX, READ, WRITE, CENSUS}
use Rattle.rules.specs.Merging.{fixing, merging, unmerging, unfixing}
use Rattle.rules.specs.Reasons.{frames_of}
use Rattle.rules.specs.Refusals.{Refusal}
use Rattle.rules.specs.State.{State, word_at, with_word, with_frame}
use Rattle.rules.proofs.Passed.{Updated, Validated, Fixed, Merged, Unmerged, Unfixed, Freed, Accessed, Counted}
use Rattle.rules.proofs.Cause.{Cause}

pub data Accepted (s : State) : Call → Told → State → Type 0 where
  by_update :
      {caller hpa gpa asid kind : ℕ} {old : Entry} → Updated s caller hpa gpa asid kind old
      → Accepted s (RMPUPDATE caller hpa gpa asid kind) (update_answer old) (assigning s (frame_of hpa) old gpa asid kind)
  by_validate :
      {caller gpa hpa kind : ℕ} {old : Entry} → Validated s caller gpa hpa kind old
      → Accepted s (PVALIDATE caller gpa hpa kind) (validate_answer old) (validating s (frame_of hpa) old)
  by_fix :
      {caller hpa leaf : ℕ} {old : Entry} → Fixed s caller hpa leaf old
      → Accepted s (PFIX caller hpa leaf) done (fixing s (frame_of hpa) old leaf)
  by_merge :
      {caller hpa1 hpa2 : ℕ} {one two : Entry} → Merged s caller hpa1 hpa2 one two
      → Accepted s (PMERGE caller hpa1 hpa2) done (merging s one (frame_of hpa2) two)
  by_unmerge :
      {caller hpa1 hpa2 asid : ℕ} {one two : Entry} {gpa : ℕ} → Unmerged s caller hpa1 hpa2 asid one two gpa
      → Accepted s (PUNMERGE caller hpa1 hpa2 asid) done (unmerging s (frame_of hpa1) one (frame_of hpa2) asid gpa)
  by_unfix :
      {caller hpa : ℕ} {old : Entry} {guest gpa : ℕ} → Unfixed s caller hpa old guest gpa
      → Accepted s (PUNFIX caller hpa) (unfixed guest) (unfixing s (frame_of hpa) old (to_moved old guest gpa))
  by_free :
      {caller hpa : ℕ} {old : Entry} → Freed s caller hpa old
      → Accepted s (PUNFIX caller hpa) (unfixed 0) (unfixing (with_frame s (frame_of hpa) zeros) (frame_of hpa) old zero_entry)
  by_read :
      {caller gpa hpa gtype ntype index : ℕ} → Accessed s false caller gpa hpa gtype ntype index
      → Accepted s (READ caller gpa hpa gtype ntype index) (word (word_at s (frame_of hpa) index)) s
  by_write :
      {caller gpa hpa gtype ntype index value : ℕ} → Accessed s true caller gpa hpa gtype ntype index
      → Accepted s (WRITE caller gpa hpa gtype ntype index value) done (with_word s (frame_of hpa) index value)
  by_census : {asid n : ℕ} → Counted s asid n → Accepted s (CENSUS asid) (count n) s

pub data Stepped (s : State) (c : Call) : Outcome → Type 0 where
  refuses : (r : Refusal) → Cause s (frames_of s c) r → Stepped s c (outcome (refused r) s)
  accepts : {told : Told} {after : State} → Accepted s c told after → Stepped s c (outcome told after)
