-- What is printed does not depend on a refusal's reason: by induction on what the lines say.
-- Assumes nothing.
use mathlib.Core.Path.{◌≡◌, refl, ap}
use mathlib.Core.List.{List, [], ◌∷◌, ◌++◌}
use Prim.Native.Nat.{ℕ}
use Rattle.rules.specs.Answers.{Told, refused, done, none, closed, opened, already, unfixed, word, count}
use Rattle.rules.specs.Calls.{Call}
use Rattle.format.specs.Line.{says, wrong}
use Rattle.format.specs.Reply.{answered, reply, wrong_reply}
use Rattle.format.specs.Tells.{bare, ReasonUnprinted}
use Rattle.format.specs.Text.{replies}

bare_reply : (call : Call) (told : Told) → reply call told ≡ reply call (bare told)
unfolding reply answered
bare_reply call (refused refusal) = refl
bare_reply call done = refl
bare_reply call none = refl
bare_reply call (closed asid gpa) = refl
bare_reply call opened = refl
bare_reply call already = refl
bare_reply call (unfixed owner) = refl
bare_reply call (word value) = refl
bare_reply call (count places) = refl

pub reason_unprinted : ReasonUnprinted
unfolding replies
reason_unprinted [] all = refl
reason_unprinted (wrong ∷ rest) all = ap (λ (l : List ℕ). wrong_reply ++ l) (reason_unprinted rest all)
reason_unprinted (says call ∷ rest) [] = refl
reason_unprinted (says call ∷ rest) (m ∷ all) = rw (bare_reply m.call m.told, reason_unprinted rest all)
