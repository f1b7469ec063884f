-- 01, "Refusal numbers" and "The calls": what a call answers, and a call as a chain of checks, each with the number of its refusal,
-- and then what is done. "A refusal returns its number alone and changes no word of table or memory": that is said once, in `settle`. (02,
-- Q-2: "5 no longer comes alone".)
use Rattle.std.specs.Prelude.{Bool, not, ℕ, Ok, Err}
use Rattle.words.specs.Choice.{pick}
use Rattle.entries.specs.declared.entry.Entry.{Entry}
use Rattle.entries.specs.Entry.{Decoded}
use Rattle.entries.specs.Reasons.{reason_number}
use Rattle.rules.specs.Refusals.{Refusal, GEOMETRY, ARGUMENT, CALLER, OUTSIDE, BAD_ENTRY}
use Rattle.rules.specs.State.{State, sized}

-- the answers, in the paper's words: `done` is the plain `ok` of PFIX, PMERGE, PUNMERGE and WRITE
pub data Told : Type 0 where
  refused : (refusal : Refusal) → Told
  done : Told
  -- RMPUPDATE
  none : Told
  closed : (asid gpa : ℕ) → Told
  -- PVALIDATE
  opened : Told
  already : Told
  -- PUNFIX. 02, Q-3: "The answer names the new owner, 0 for none".
  unfixed : (owner : ℕ) → Told
  -- READ
  word : (value : ℕ) → Told
  -- CENSUS
  count : (places : ℕ) → Told

-- the answer of a call, with table and memory after it
pub record Outcome : Type 0 where
  pub told : Told
  pub after : State

abbrev pub outcome : Told → State → Outcome
outcome told after = record { told = told; after = after }

-- what the checks come to: the refusal of the first that fails, or an answer with what was done
pub data Verdict : Type 0 where
  refuse : (refusal : Refusal) → Verdict
  grant : (answer : Told) (after : State) → Verdict

unfoldable pub settle : State → Verdict → Outcome
settle s (refuse refusal) = outcome (refused refusal) s
settle s (grant answer after) = outcome answer after

-- a check: unless the test passes, its refusal; else what follows. And the other way: when the test holds, its refusal.
unfoldable pub unless : Bool → Refusal → Verdict → Verdict
unless passes refusal rest = pick passes rest (refuse refusal)

unfoldable pub when : Bool → Refusal → Verdict → Verdict
when holds refusal rest = unless (not holds) refusal rest

-- "Each begins with 1, 2, 3, 4": the sizes, the arguments, the party, the named frames
unfoldable pub begins : State → Bool → Bool → Bool → Verdict → Verdict
begins s arguments party inside rest =
    unless (sized s) GEOMETRY
    (unless arguments ARGUMENT
    (unless party CALLER
    (unless inside OUTSIDE rest)))

-- "An entry is decoded before use; a call goes on only with a decoded entry." A bad one refuses with 5 and its reason.
unfoldable pub entered : Decoded → (Entry → Verdict) → Verdict
entered (Ok e) rest = rest e
entered (Err reason) rest = refuse (BAD_ENTRY (reason_number reason))

-- "5 (both)": the entry of the first named frame, then that of the second. So the reason is "the first-named bad frame's".
unfoldable pub both_entered : Decoded → Decoded → (Entry → Entry → Verdict) → Verdict
both_entered one two rest = entered one λ e. entered two λ f. rest e f
