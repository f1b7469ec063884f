-- A SHARED access, to whichever word: a chain of checks that looks at sizes, arguments and the frame's entry alone. So every access to one
-- frame passes, or every one is refused alike, and writing words changes nothing of that.
-- Assumes nothing.
use mathlib.Core.Path.{◌≡◌, sym}
use mathlib.Core.Bool.{Bool, true}
use Prim.Native.Nat.{ℕ, ◌<◌}
use native.Mathlib.Omega.{arith}
use lib.Dec.{eqb, ltb}
use borrow.Author.Tests.{le-leb}
use Rattle.words.specs.Choice.{pick, ◌and◌}
use Rattle.words.proofs.ChoiceLaws.{or_true}
use Rattle.entries.specs.Entry.{SHARED, frame_of}
use Rattle.rules.specs.Access.{reading, covered_access, access}
use Rattle.rules.specs.Answers.{Verdict, unless, begins, entered}
use Rattle.rules.specs.Arguments.{access_arguments, may_access}
use Rattle.rules.specs.Refusals.{GEOMETRY, TYPE}
use Rattle.rules.specs.State.{State, M, sized, covers, entry_at}
use Rattle.rules.proofs.Chain.{check_twice}
use Rattle.rules.proofs.Settled.{Settled, settled_as, Sane, access_settled}
use Rattle.rules.proofs.StateLaws.{SameSize}

-- the checks of a SHARED access to a frame
unfoldable pub shared : State → ℕ → ℕ → ℕ → Verdict → Verdict
shared s caller gpa hpa v =
    begins s (access_arguments caller gpa hpa SHARED SHARED 0) true (ltb (frame_of hpa) (M s))
    (pick (covers s hpa) (entered (entry_at s (frame_of hpa)) λ page. unless (eqb page.kind SHARED) TYPE v) v)

-- ---- reading or writing, and whichever word of the frame
any_word : (caller gpa hpa index : ℕ) → index < 512
    → access_arguments caller gpa hpa SHARED SHARED index ≡ access_arguments caller gpa hpa SHARED SHARED 0
unfolding access_arguments
any_word caller gpa hpa index h = rw (le-leb index 511 (omega arith))

any_party : (caller : ℕ) → may_access caller SHARED SHARED ≡ true
unfolding may_access ◌and◌
any_party caller = or_true _

pub access_shared :
    (s : State) (writes : Bool) (caller gpa hpa index : ℕ) (v : Verdict) → index < 512
    → access s writes caller gpa hpa SHARED SHARED index v ≡ shared s caller gpa hpa v
unfolding access covered_access shared unless pick
access_shared s writes caller gpa hpa index v h = rw (any_word caller gpa hpa index h, any_party caller)

-- ---- so they pass whatever follows, or refuse it in one way
pub shared_settled : (s : State) (caller gpa hpa : ℕ) → Settled (Sane s (frame_of hpa)) (shared s caller gpa hpa)
shared_settled s caller gpa hpa =
    settled_as _ _ (λ v. sym (access_shared s reading caller gpa hpa 0 v (omega arith)))
    (access_settled s reading caller gpa hpa SHARED SHARED 0)

-- ---- another state of the same sizes, with the same entries
pub shared_same :
    {s u : State} (caller gpa hpa : ℕ) (v : Verdict) → SameSize s u → ((f : ℕ) → entry_at u f ≡ entry_at s f)
    → shared u caller gpa hpa v ≡ shared s caller gpa hpa v
unfolding shared begins covers
shared_same caller gpa hpa v size entries = rw (size.same_sized, size.same_M, size.same_N, entries (frame_of hpa))

-- ---- sizes that are checked first, and then again
pub sized_again :
    (s : State) (caller gpa hpa : ℕ) (v : Verdict)
    → unless (sized s) GEOMETRY (shared s caller gpa hpa v) ≡ shared s caller gpa hpa v
unfolding shared begins
sized_again s caller gpa hpa v = check_twice _ _ _
