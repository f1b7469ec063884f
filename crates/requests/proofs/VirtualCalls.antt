-- A call by virtual address is refused, and changes nothing, or is 01's call on what its walk yields: an accepted PVALIDATE, READ or WRITE
-- has an answer that names the address.
-- Assumes nothing.
use mathlib.Core.Path.{◌≡◌, refl}
use Prim.Native.Nat.{ℕ}
use Rattle.words.proofs.ChoiceLaws.{pick_either}
use Rattle.rules.specs.Answers.{Told}
use Rattle.rules.specs.Assignment.{validate_answer}
use Rattle.rules.specs.Calls.{Call, RMPUPDATE, PVALIDATE, PFIX, PMERGE, PUNMERGE, PUNFIX, READ, WRITE, CENSUS, step}
use Rattle.rules.specs.State.{State}
use Rattle.rules.proofs.Accepted.{Accepted, by_update, by_validate, by_fix, by_merge, by_unmerge, by_unfix, by_free, by_read, by_write}
use Rattle.rules.proofs.Accepted.{by_census}
use Rattle.rules.proofs.Stepped.{step_cases}
use Rattle.paging.specs.Walk.{Walked, reaches, stops, Virtual, Mapping, translated}
use Rattle.requests.specs.Requests.{names, named, naming, by_virtual, respond}
use Rattle.requests.specs.Virtual.{Form, VALIDATE, LOAD, STORE, form_fits, call_on}
use Rattle.requests.specs.VirtualCalls.{WalkChangesNothing, RefusedOrCall, is_refused, is_call, VirtualIsCall}

pub walk_changes_nothing : WalkChangesNothing
unfolding respond
walk_changes_nothing s at = refl

-- an accepted answer names the address, of the three calls
abbrev Named : Told → Type 0
Named told = (gpa : ℕ) → named gpa told ≡ names gpa told

abbrev NamedBy : Call → Told → Type 0
NamedBy (RMPUPDATE caller hpa gpa asid kind) told = Unit {0}
NamedBy (PVALIDATE caller gpa hpa kind) told = Named told
NamedBy (PFIX caller hpa leaf) told = Unit {0}
NamedBy (PMERGE caller hpa1 hpa2) told = Unit {0}
NamedBy (PUNMERGE caller hpa1 hpa2 asid) told = Unit {0}
NamedBy (PUNFIX caller hpa) told = Unit {0}
NamedBy (READ caller gpa hpa gtype ntype index) told = Named told
NamedBy (WRITE caller gpa hpa gtype ntype index value) told = Named told
NamedBy (CENSUS asid) told = Unit {0}

accepted_named : {s after : State} {c : Call} {told : Told} → Accepted s c told after → NamedBy c told
unfolding named validate_answer
accepted_named (by_update p) = tt
accepted_named (by_validate p) = λ gpa. pick_either (λ told. named gpa told ≡ names gpa told) _ _ _ (λ v. refl) (λ v. refl)
accepted_named (by_fix p) = tt
accepted_named (by_merge p) = tt
accepted_named (by_unmerge p) = tt
accepted_named (by_unfix p) = tt
accepted_named (by_free p) = tt
accepted_named (by_read p) = λ gpa. refl
accepted_named (by_write p) = λ gpa. refl
accepted_named (by_census p) = tt

form_named :
    {s after : State} {told : Told} (caller : ℕ) (form : Form) (m : Mapping) → Accepted s (call_on caller form m) told after → Named told
unfolding call_on
form_named caller (VALIDATE type) m p = accepted_named p
form_named caller (LOAD index) m p = accepted_named p
form_named caller (STORE index value) m p = accepted_named p

module _ (s : State) (at : Virtual) (form : Form) where
  by_walk : (w : Walked Mapping) → translated s at (form_fits form) ≡ w → RefusedOrCall s at form (by_virtual s at.caller form w)
  unfolding by_virtual named
  by_walk (stops r) e = is_refused r
  by_walk (reaches m) e =
      let call = call_on at.caller form m in
      step_cases (λ o. step s call ≡ o → RefusedOrCall s at form (naming m.gpa o)) s call
      (λ r why same. is_refused r)
      (λ told after p same. rw (form_named at.caller form m p m.gpa) (is_call m told after e same))
      refl

pub virtual_is_call : VirtualIsCall
unfolding respond
virtual_is_call s at form = by_walk s at form (translated s at (form_fits form)) refl
