-- 02, Q-2: "Every call that refuses with 5 passes the reason on, the first-named bad frame's (in CENSUS the first met ..); else it is
-- zero." The rules of the calls do that; here is what they come to, as a claim of any call.
use Rattle.std.specs.Prelude.{◌≡◌, List, [], ◌∷◌, ◌++◌, ◌≢◌, ℕ, zero, suc, ◌≤◌, eqb}
use Rattle.words.specs.Choice.{pick}
use Rattle.entries.specs.Entry.{frame_of, reason_of}
use Rattle.rules.specs.Calls.{Call, RMPUPDATE, PVALIDATE, PFIX, PMERGE, PUNMERGE, PUNFIX, READ, WRITE, CENSUS}
use Rattle.rules.specs.Refusals.{Refusal}
use Rattle.rules.specs.State.{State, N, entry_at}

-- the first n frames, rising
unfoldable pub rising : ℕ → List ℕ
rising zero = []
rising (suc n) = rising n ++ (n ∷ [])

-- the frames that a call names, in the order of its arguments; CENSUS meets all that the table covers
unfoldable pub frames_of : State → Call → List ℕ
frames_of s (RMPUPDATE caller hpa gpa asid kind) = frame_of hpa ∷ []
frames_of s (PVALIDATE caller gpa hpa kind) = frame_of hpa ∷ []
frames_of s (PFIX caller hpa leaf) = frame_of hpa ∷ (frame_of leaf ∷ [])
frames_of s (PMERGE caller hpa1 hpa2) = frame_of hpa1 ∷ (frame_of hpa2 ∷ [])
frames_of s (PUNMERGE caller hpa1 hpa2 asid) = frame_of hpa1 ∷ (frame_of hpa2 ∷ [])
frames_of s (PUNFIX caller hpa) = frame_of hpa ∷ []
frames_of s (READ caller gpa hpa gtype ntype index) = frame_of hpa ∷ []
frames_of s (WRITE caller gpa hpa gtype ntype index value) = frame_of hpa ∷ []
frames_of s (CENSUS asid) = rising (N s)

-- the first reason that is met in their entries; 0 where there is none
unfoldable pub first_reason : State → List ℕ → ℕ
first_reason s [] = 0
first_reason s (frame ∷ rest) =
    pick (eqb (reason_of (entry_at s frame)) 0) (first_reason s rest) (reason_of (entry_at s frame))

-- what a refusal of a call that names or meets these frames carries: 5 their first reason, which is one of the four; any other 0
pub data Carries (s : State) (frames : List ℕ) (r : Refusal) : Type 0 where
  its_reason : r.number ≡ 5 → r.reason ≡ first_reason s frames → 1 ≤ r.reason → r.reason ≤ 4 → Carries s frames r
  none : r.number ≢ 5 → r.reason ≡ 0 → Carries s frames r
