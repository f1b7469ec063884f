-- 01, "The calls": READ and WRITE. `index` is the paper's word.
use Rattle.std.specs.Prelude.{Bool, true, false, ℕ, ltb, eqb}
use Rattle.words.specs.Choice.{pick}
use Rattle.entries.specs.Entry.{SHARED, frame_of}
use Rattle.entries.specs.declared.entry.Entry.{Entry}
use Rattle.rules.specs.Answers.{done, word, Outcome, Verdict, grant, settle, unless, when, begins, entered}
use Rattle.rules.specs.Arguments.{access_arguments, may_access}
use Rattle.rules.specs.Leaves.{consulted, placed}
use Rattle.rules.specs.Refusals.{TYPE, OWNER, ADDRESS, NOT_VALIDATED, FIXED}
use Rattle.rules.specs.State.{State, M, covers, entry_at, word_at, with_word}

-- whether an access writes
abbrev pub reading : Bool
reading = false

abbrev pub writing : Bool
writing = true

-- "Unfixed: 7, 8, 9, done."
unfoldable pub unfixed_access : ℕ → ℕ → Entry → Verdict → Verdict
unfixed_access caller gpa page rest =
    unless (eqb page.asid caller) OWNER
    (unless (eqb page.address gpa) ADDRESS
    (unless page.validated NOT_VALIDATED rest))

-- "Fixed: WRITE 10; then 12, 13, 8, done."
unfoldable pub fixed_access : State → Bool → ℕ → ℕ → Entry → Verdict → Verdict
fixed_access s writes caller gpa page rest =
    when writes FIXED
    (placed (consulted s page caller) λ held.
    unless (eqb held gpa) ADDRESS rest)

-- "Below N: 5, 6; SHARED is done with no more checks."
unfoldable pub covered_access : State → Bool → ℕ → ℕ → ℕ → ℕ → Verdict → Verdict
covered_access s writes caller gpa hpa gtype rest =
    entered (entry_at s (frame_of hpa)) λ page.
    unless (eqb page.kind gtype) TYPE
    (pick (eqb gtype SHARED)
    rest
    (pick page.fixed (fixed_access s writes caller gpa page rest) (unfixed_access caller gpa page rest)))

-- the checks of READ and WRITE: "4. 6 if gtype differs from ntype. Frame N or above: 6 unless SHARED, else done."
unfoldable pub access : State → Bool → ℕ → ℕ → ℕ → ℕ → ℕ → ℕ → Verdict → Verdict
access s writes caller gpa hpa gtype ntype index rest =
    begins s (access_arguments caller gpa hpa gtype ntype index) (may_access caller gtype ntype) (ltb (frame_of hpa) (M s))
    (unless (eqb gtype ntype) TYPE
    (pick (covers s hpa)
    (covered_access s writes caller gpa hpa gtype rest)
    (unless (eqb gtype SHARED) TYPE rest)))

-- "READ answers the word."
unfoldable pub read : State → ℕ → ℕ → ℕ → ℕ → ℕ → ℕ → Outcome
read s caller gpa hpa gtype ntype index =
    settle s (access s reading caller gpa hpa gtype ntype index (grant (word (word_at s (frame_of hpa) index)) s))

unfoldable pub write : State → ℕ → ℕ → ℕ → ℕ → ℕ → ℕ → ℕ → Outcome
write s caller gpa hpa gtype ntype index value =
    settle s (access s writing caller gpa hpa gtype ntype index (grant done (with_word s (frame_of hpa) index value)))
