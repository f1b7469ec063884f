-- What the exported functions of walks do: the promise of a walk, or of a call by virtual address, carried through the flattening, which
-- loses nothing. No refusal has the number 0.
-- Assumes nothing.
use mathlib.Core.Path.{◌≡◌, refl, ap, ◌∙◌}
use mathlib.Core.List.{List}
use Prim.Native.Nat.{ℕ}
use Rattle.std.specs.Prelude.{Result, Ok, Err}
use Rattle.words.specs.Choice.{pick, ◌or◌}
use Rattle.rules.specs.Answers.{Told, refused, done, none, closed, opened, already, unfixed, word, count, Outcome, outcome}
use Rattle.rules.specs.State.{State, state}
use Rattle.checks.specs.Answer.{means}
use Rattle.checks.specs.declared.refusal.Refusal.{Refusal}
use Rattle.checks.specs.declared.refusal.Refusal.TheVariants.{Geometry, Argument, Caller, Outside, BadEntry, PageType, Owner, Address}
use Rattle.checks.specs.declared.refusal.Refusal.TheVariants.{NotValidated, Fixed, NotFixed, BrokenLeaf, NoPlace, PlaceTaken, LeafInUse}
use Rattle.checks.specs.declared.refusal.Refusal.TheVariants.{Contents, StillShared, AbsentEntry, LargePage}
use Rattle.paging.specs.Walk.{Walked, stops, Mapping}
use Rattle.requests.specs.Requests.{response, telling, mapped, named, naming}
use Rattle.walk.specs.Walked as walk
use Rattle.walk.specs.declared.guest.Mapping as code
use Rattle.flat.specs.Flat.{flat, returned, says}
use Rattle.flat.specs.Virtual.{flat_mapping, says_mapping, flat_reply, may_name, name_in, NameIsNamed, says_named, NamedSays}
use Rattle.flat.specs.Virtual.{flattened_reply, said_named}
use Rattle.flat.specs.declared.Flat.{Flat}
use Rattle.flat.specs.declared.virtual_address.FlatMapping.{FlatMapping}

-- ---- the walk
refusal_says : (r : Refusal) → says_mapping (flat_mapping (stops (means r))) ≡ mapped (stops (means r))
unfolding flat_mapping says_mapping mapped pick
refusal_says Geometry = refl
refusal_says Argument = refl
refusal_says Caller = refl
refusal_says Outside = refl
refusal_says (BadEntry reason) = refl
refusal_says PageType = refl
refusal_says Owner = refl
refusal_says Address = refl
refusal_says NotValidated = refl
refusal_says Fixed = refl
refusal_says NotFixed = refl
refusal_says BrokenLeaf = refl
refusal_says NoPlace = refl
refusal_says PlaceTaken = refl
refusal_says LeafInUse = refl
refusal_says Contents = refl
refusal_says StillShared = refl
refusal_says AbsentEntry = refl
refusal_says LargePage = refl

mapping_says : (found : Result code.Mapping Refusal) → says_mapping (flat_mapping (walk.mapped found)) ≡ mapped (walk.mapped found)
unfolding flat_mapping says_mapping mapped pick
mapping_says (Ok m) = refl
mapping_says (Err r) = refusal_says r

pub carried_mapping :
    (found : Result code.Mapping Refusal) {r : FlatMapping} {w : Walked Mapping} (after : State) → walk.mapped found ≡ w → r ≡ flat_mapping (walk.mapped found)
    → (r ≡ flat_mapping w) × (response (says_mapping r) after ≡ response (mapped w) after)
carried_mapping found after given flat_so =
    (flat_so ∙ ap flat_mapping given, rw (flat_so, ← given) (ap (λ reply. response reply after) (mapping_says found)))

-- ---- the calls
pub name_is_named : NameIsNamed
unfolding name_in may_name flat_reply named flat pick ◌or◌
name_is_named gpa (refused refusal) = refl
name_is_named gpa done = refl
name_is_named gpa none = refl
name_is_named gpa (closed asid address) = refl
name_is_named gpa opened = refl
name_is_named gpa already = refl
name_is_named gpa (unfixed owner) = refl
name_is_named gpa (word value) = refl
name_is_named gpa (count places) = refl

pub named_says : NamedSays
unfolding flat_reply says_named may_name named flat says pick ◌or◌
named_says gpa (refused refusal) = refl
named_says gpa done = refl
named_says gpa none = refl
named_says gpa (closed asid address) = refl
named_says gpa opened = refl
named_says gpa already = refl
named_says gpa (unfixed owner) = refl
named_says gpa (word value) = refl
named_says gpa (count places) = refl

-- 01's call on what the walk yields, with the guest address
pub carried_named :
    (gpa : ℕ) {told : Told} {answer r : Flat} {table memory : List ℕ} {o : Outcome} → outcome told (state table memory) ≡ o
    → answer ≡ flat told → r ≡ name_in gpa answer
    → (returned r table memory ≡ flattened_reply (naming gpa o)) × (said_named r table memory ≡ naming gpa o)
unfolding flattened_reply
carried_named gpa {told} {r = r} given flat_so name_so =
    let reply_so : r ≡ flat_reply (named gpa told) = rw (name_so, flat_so) (name_is_named gpa told) in
    (rw (← given, reply_so), rw (← given, reply_so, named_says gpa told))

-- the walk's refusal
pub carried_stop :
    (refusal : Refusal) {r : Flat} (after : State) → r ≡ flat (refused (means refusal))
    → let o = telling (outcome (refused (means refusal)) after) in
    (record { answer = r; after = after } ≡ flattened_reply o) × (response (says_named r) after ≡ o)
unfolding flattened_reply flat_reply says_named may_name flat says pick ◌or◌
carried_stop refusal after flat_so = (rw flat_so, rw flat_so)
