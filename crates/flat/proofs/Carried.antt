-- What every exported function does: a call's promise, carried through the flattening of its answer. The flattening loses nothing, so what
-- is returned and left makes a request of a run.
-- Assumes nothing.
use mathlib.Core.Path.{◌≡◌, refl}
use mathlib.Core.List.{List}
use Prim.Native.Nat.{ℕ}
use Rattle.words.specs.Choice.{pick}
use Rattle.rules.specs.Answers.{Told, refused, done, none, closed, opened, already, unfixed, word, count, Outcome, outcome}
use Rattle.rules.specs.State.{state}
use Rattle.requests.specs.Requests.{telling}
use Rattle.flat.specs.Flat.{flat, returned, flattened, says, FlatSays, said}
use Rattle.flat.specs.declared.Flat.{Flat}

pub flat_says : FlatSays
unfolding flat says pick
flat_says (refused refusal) = refl
flat_says done = refl
flat_says none = refl
flat_says (closed asid gpa) = refl
flat_says opened = refl
flat_says already = refl
flat_says (unfixed owner) = refl
flat_says (word value) = refl
flat_says (count places) = refl

pub carried :
    {told : Told} {r : Flat} {table memory : List ℕ} {o : Outcome} → outcome told (state table memory) ≡ o → r ≡ flat told
    → (returned r table memory ≡ flattened o) × (telling (said r table memory) ≡ telling o)
unfolding flattened
carried given flat_so = (rw (← given, flat_so), rw (← given, flat_so, flat_says))
