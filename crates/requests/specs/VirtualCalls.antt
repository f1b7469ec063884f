-- What ties Q-4's calls to 01's: the walk changes nothing; and a call by virtual address is refused, and changes nothing, or is 01's call
-- at the guest address that its answer names, with the same answer, table and memory.
use Rattle.std.specs.Prelude.{◌≡◌}
use Rattle.rules.specs.Answers.{Told, refused, outcome}
use Rattle.rules.specs.Calls.{step}
use Rattle.rules.specs.Refusals.{Refusal}
use Rattle.rules.specs.State.{State}
use Rattle.paging.specs.Walk.{reaches, Virtual, Mapping, translated}
use Rattle.requests.specs.Requests.{WALK, BY_VA, Response, response, tells, names, respond}
use Rattle.requests.specs.Virtual.{Form, form_fits, call_on}

abbrev pub WalkChangesNothing : Type 0
WalkChangesNothing = (s : State) (at : Virtual) → (respond s (WALK at)).after ≡ s

pub data RefusedOrCall (s : State) (at : Virtual) (form : Form) : Response → Type 0 where
  is_refused : (r : Refusal) → RefusedOrCall s at form (response (tells (refused r)) s)
  is_call :
      (m : Mapping) (told : Told) (after : State) → translated s at (form_fits form) ≡ reaches m
      → step s (call_on at.caller form m) ≡ outcome told after
      → RefusedOrCall s at form (response (names m.gpa told) after)

abbrev pub VirtualIsCall : Type 0
VirtualIsCall = (s : State) (at : Virtual) (form : Form) → RefusedOrCall s at form (respond s (BY_VA at form))
