-- 02, Q-2: "Every call that refuses with 5 passes the reason on, the first-named bad frame's (in CENSUS the first met; Q-1's reading by its
-- third call); else it is zero", of every request on any table and memory; and Q-4, "a refused read's own number", with its reason.
use Rattle.std.specs.Prelude.{◌≡◌, List, [], ◌∷◌, ◌++◌, ℕ}
use Rattle.entries.specs.Entry.{frame_of}
use Rattle.rules.specs.Answers.{refused}
use Rattle.rules.specs.Reasons.{frames_of, Carries}
use Rattle.rules.specs.Refusals.{Refusal}
use Rattle.rules.specs.State.{State}
use Rattle.paging.specs.Met.{beyond, frames_met}
use Rattle.paging.specs.Walk.{Mapping, translated}
use Rattle.requests.specs.Requests.{Request, CALL, PAGE_READ, PAGE_WRITE, PAGE_CHECK, WALK, BY_VA, tells, respond}
use Rattle.requests.specs.Virtual.{form_fits}

-- the frames that a request names, in the order of its arguments, or meets: a walk those of the entries that it reads, and a call by
-- virtual address then the frame that the walk yields
unfoldable pub frames_named : State → Request → List ℕ
frames_named s (CALL call) = frames_of s call
frames_named s (PAGE_READ caller gpa hpa) = frame_of hpa ∷ []
frames_named s (PAGE_WRITE caller gpa hpa words) = frame_of hpa ∷ []
frames_named s (PAGE_CHECK caller gpa hpa) = frame_of hpa ∷ []
frames_named s (WALK at) = frames_met s at
frames_named s (BY_VA at form) = frames_met s at ++ beyond (translated s at (form_fits form)) λ (m : Mapping). frame_of m.hpa ∷ []

abbrev pub ReasonsCarried : Type 0
ReasonsCarried =
    (s : State) (request : Request) (r : Refusal) → (respond s request).reply ≡ tells (refused r) → Carries s (frames_named s request) r
