-- What any call does to the places of a guest, from a sound state: by the call's own case, and a refused call does nothing. And that an
-- accepted private or mergeable read is a READ, which answers a word of a place.
-- Assumes nothing.
use mathlib.Core.Path.{◌≡◌, refl, sym}
use mathlib.Core.Bool.{Bool, true, false, false≢true}
use Prim.Native.Nat.{ℕ}
use Rattle.words.specs.Choice.{pick}
use Rattle.words.proofs.ChoiceLaws.{pick_either, pick_same}
use Rattle.entries.specs.Entry.{is_guest}
use Rattle.rules.specs.Answers.{Told, refused, done, none, closed, opened, already, unfixed, word, count}
use Rattle.rules.specs.Calls.{Call, RMPUPDATE, PVALIDATE, PFIX, PMERGE, PUNMERGE, PUNFIX, READ, WRITE, CENSUS, step}
use Rattle.rules.specs.History.{Event, opens, closes, reads, writes, no_event, by_answer, accepted, event_of}
use Rattle.rules.specs.Refusals.{Refusal}
use Rattle.rules.specs.State.{State}
use Rattle.rules.proofs.Accepted.{Accepted, by_update, by_validate, by_fix, by_merge, by_unmerge, by_unfix, by_free, by_read}
use Rattle.rules.proofs.Accepted.{by_write, by_census}
use Rattle.rules.proofs.AccessChanges.{ReadPlace, read_of_place, read_change, write_change}
use Rattle.rules.proofs.AssignmentChanges.{update_change, validate_change}
use Rattle.rules.proofs.Changes.{Change}
use Rattle.rules.proofs.MergingChanges.{fix_change, merge_change, unmerge_change, unfix_change, free_change}
use Rattle.rules.proofs.PlaceChanges.{unchanged}
use Rattle.rules.proofs.Sound.{Sound}
use Rattle.rules.proofs.Stepped.{step_cases}

-- a refused call is no event
refused_event : (c : Call) (r : Refusal) → event_of c (refused r) ≡ no_event
unfolding event_of by_answer accepted
refused_event (RMPUPDATE caller hpa gpa asid kind) r = refl
refused_event (PVALIDATE caller gpa hpa kind) r = refl
refused_event (PFIX caller hpa leaf) r = refl
refused_event (PMERGE caller hpa1 hpa2) r = refl
refused_event (PUNMERGE caller hpa1 hpa2 asid) r = refl
refused_event (PUNFIX caller hpa) r = refl
refused_event (READ caller gpa hpa gtype ntype index) r = pick_same _ _
refused_event (WRITE caller gpa hpa gtype ntype index value) r = pick_same _ _
refused_event (CENSUS asid) r = refl

accepted_change :
    {s after : State} {c : Call} {told : Told} (guest : ℕ) → Sound s → is_guest guest ≡ true → Accepted s c told after
    → Change s after (event_of c told) guest
unfolding event_of
accepted_change guest sound range (by_update p) = update_change sound p guest
accepted_change guest sound range (by_validate p) = validate_change sound p guest
accepted_change guest sound range (by_fix p) = fix_change sound p guest
accepted_change guest sound range (by_merge p) = merge_change sound p guest
accepted_change guest sound range (by_unmerge p) = unmerge_change sound p guest
accepted_change guest sound range (by_unfix p) = unfix_change sound p guest range
accepted_change guest sound range (by_free p) = free_change sound p guest range
accepted_change guest sound range (by_read p) = read_change p guest
accepted_change guest sound range (by_write p) = write_change sound _ p guest
accepted_change guest sound range (by_census p) = unchanged _ guest

pub step_change :
    (s : State) (guest : ℕ) (c : Call) → Sound s → is_guest guest ≡ true → Change s (step s c).after (event_of c (step s c).told) guest
step_change s guest c sound range =
    step_cases (λ o. Change s o.after (event_of c o.told) guest) s c (λ r why. rw (refused_event c r) (unchanged s guest))
    (λ told after. accepted_change guest sound range)

-- ---- a read: no other call is one
unfoldable is_read_event : Event → Bool
is_read_event (opens guest gpa frame) = false
is_read_event (closes guest gpa) = false
is_read_event (reads guest gpa index) = true
is_read_event (writes guest gpa index value) = false
is_read_event no_event = false

no_read : {A : Type 0} (e : Event) (guest gpa index : ℕ) → is_read_event e ≡ false → e ≡ reads guest gpa index → A
unfolding is_read_event
no_read e guest gpa index h same = absurd (false≢true (sym (rw same at h)))

answered_else :
    (t : Told) (if_closed : ℕ → ℕ → Event) (if_opened if_else : Event) → ((g a : ℕ) → is_read_event (if_closed g a) ≡ false)
    → is_read_event if_opened ≡ false → is_read_event if_else ≡ false → is_read_event (by_answer t if_closed if_opened if_else) ≡ false
unfolding by_answer is_read_event
answered_else (refused number) c o e hc ho he = refl
answered_else done c o e hc ho he = he
answered_else none c o e hc ho he = he
answered_else (closed guest gpa) c o e hc ho he = hc guest gpa
answered_else opened c o e hc ho he = ho
answered_else already c o e hc ho he = he
answered_else (unfixed owner) c o e hc ho he = he
answered_else (word value) c o e hc ho he = he
answered_else (count number) c o e hc ho he = he

chosen_else : (t : Bool) (e : Event) → is_read_event e ≡ false → is_read_event (pick t e no_event) ≡ false
unfolding is_read_event
chosen_else t e h = pick_either (λ e. is_read_event e ≡ false) t _ _ (λ owned. h) (λ other. refl)

accepted_read :
    {s after : State} {c : Call} {told : Told} {guest gpa index : ℕ} → Accepted s c told after → event_of c told ≡ reads guest gpa index
    → ReadPlace s guest gpa index told
unfolding event_of is_read_event accepted
accepted_read (by_update p) = no_read _ _ _ _ (answered_else _ _ _ _ (λ g a. refl) refl refl)
accepted_read (by_validate p) = no_read _ _ _ _ (answered_else _ _ _ _ (λ g a. refl) refl refl)
accepted_read (by_fix p) = no_read _ _ _ _ refl
accepted_read (by_merge p) = no_read _ _ _ _ refl
accepted_read (by_unmerge p) = no_read _ _ _ _ refl
accepted_read (by_unfix p) = no_read _ _ _ _ refl
accepted_read (by_free p) = no_read _ _ _ _ refl
accepted_read (by_read p) = read_of_place p
accepted_read (by_write p) = no_read _ _ _ _ (chosen_else _ _ (answered_else _ _ _ _ (λ g a. refl) refl refl))
accepted_read (by_census p) = no_read _ _ _ _ refl

pub read_place :
    (s : State) (c : Call) (guest gpa index : ℕ) → event_of c (step s c).told ≡ reads guest gpa index
    → ReadPlace s guest gpa index (step s c).told
unfolding is_read_event
read_place s c guest gpa index =
    step_cases (λ o. event_of c o.told ≡ reads guest gpa index → ReadPlace s guest gpa index o.told) s c
    (λ n why. no_read _ guest gpa index (rw (refused_event c n))) (λ told after. accepted_read)
