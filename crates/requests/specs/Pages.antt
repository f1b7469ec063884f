-- 02, Q-1, "Whole shared pages for the disk driver": a reading, a writing and a check of a whole frame. "Each takes caller, gpa and hpa."
use Rattle.std.specs.Prelude.{Bool, List, [], ℕ, eqb, length}
use Rattle.entries.specs.Entry.{SHARED, frame_of}
use Rattle.rules.specs.Access.{reading, writing, access}
use Rattle.rules.specs.Answers.{done, Outcome, Verdict, refuse, grant, settle, unless}
use Rattle.rules.specs.Refusals.{GEOMETRY, ARGUMENT}
use Rattle.rules.specs.State.{State, sized, frame_at, with_frame}

-- "The checks are those of READ and WRITE for a SHARED access with word index 0."
unfoldable pub shared_access : State → Bool → ℕ → ℕ → ℕ → Verdict → Verdict
shared_access s writes caller gpa hpa rest = access s writes caller gpa hpa SHARED SHARED 0 rest

-- what the checks of a reading come to: it changes nothing
unfoldable pub readable : State → ℕ → ℕ → ℕ → Verdict
readable s caller gpa hpa = shared_access s reading caller gpa hpa (grant done s)

-- "A refused reading hands back an empty part"
unfoldable pub handed : Verdict → List ℕ → List ℕ
handed (refuse refusal) part = []
handed (grant answer after) part = part

-- "For host or guest, a SHARED access to a frame hands back the part of memory that is this frame, all 512 words"
unfoldable pub page_read : State → ℕ → ℕ → ℕ → List ℕ
page_read s caller gpa hpa = handed (readable s caller gpa hpa) (frame_at s (frame_of hpa))

-- "a second call writes 512 given words to it"; "a written run that is not 512 words is 2". That is one of the 2s, which come after 1.
unfoldable pub page_write : State → ℕ → ℕ → ℕ → List ℕ → Outcome
page_write s caller gpa hpa words =
    settle s
    (unless (sized s) GEOMETRY
    (unless (eqb (length words) 512) ARGUMENT
    (shared_access s writing caller gpa hpa (grant done (with_frame s (frame_of hpa) words)))))

-- "a third call only checks it and answers the number, or 0": `done` stands for the 0. Q-2: it passes the reason on, "Q-1's reading by its
-- third call".
unfoldable pub page_check : State → ℕ → ℕ → ℕ → Outcome
page_check s caller gpa hpa = settle s (readable s caller gpa hpa)
