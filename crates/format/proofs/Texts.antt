-- What is printed for a text, and what it leaves: of a whole text and what follows it, first the one and then the other, by induction on
-- what its lines say; and the same for two texts that say the same.
-- Assumes nothing.
use mathlib.Core.Path.{◌≡◌, refl}
use mathlib.Core.List.{List, [], ◌∷◌, ◌++◌, map-append, append_assoc}
use Prim.Native.Nat.{ℕ}
use Rattle.rules.specs.Calls.{step}
use Rattle.rules.specs.History.{history, finally}
use Rattle.rules.specs.State.{State}
use Rattle.format.specs.Line.{Said, says, wrong, said}
use Rattle.format.specs.Text.{lines, said_by, calls_of, replies, calls, printed, after}
use Rattle.format.proofs.Lines.{Whole}

-- ---- one list of what lines say after another
replies_append :
    (s : State) (a b : List Said)
    → replies (a ++ b) (history s (calls_of (a ++ b)))
    ≡ replies a (history s (calls_of a)) ++ replies b (history (finally s (calls_of a)) (calls_of b))
unfolding replies history calls_of finally
replies_append s [] b = refl
replies_append s (wrong ∷ a) b = rw (replies_append s a b, append_assoc)
replies_append s (says call ∷ a) b = rw (replies_append (step s call).after a b, append_assoc)

finally_append : (s : State) (a b : List Said) → finally s (calls_of (a ++ b)) ≡ finally (finally s (calls_of a)) (calls_of b)
unfolding calls_of finally
finally_append s [] b = refl
finally_append s (wrong ∷ a) b = finally_append s a b
finally_append s (says call ∷ a) b = finally_append (step s call).after a b

-- ---- one text after another
pub said_append : (a b : List ℕ) → Whole a → said_by (a ++ b) ≡ said_by a ++ said_by b
unfolding said_by
said_append a b whole = rw (whole b) (map-append said (lines a) (lines b))

pub printed_append : (s : State) (a b : List ℕ) → Whole a → printed s (a ++ b) ≡ printed s a ++ printed (after s a) b
unfolding printed calls after
printed_append s a b whole = rw (said_append a b whole) (replies_append s (said_by a) (said_by b))

pub after_append : (s : State) (a b : List ℕ) → Whole a → after s (a ++ b) ≡ after (after s a) b
unfolding calls after
after_append s a b whole = rw (said_append a b whole) (finally_append s (said_by a) (said_by b))

-- texts that say the same
pub same_printed : (s : State) (a b : List ℕ) → said_by a ≡ said_by b → printed s a ≡ printed s b
unfolding printed calls
same_printed s a b same = rw same

pub same_after : (s : State) (a b : List ℕ) → said_by a ≡ said_by b → after s a ≡ after s b
unfolding after calls
same_after s a b same = rw same
