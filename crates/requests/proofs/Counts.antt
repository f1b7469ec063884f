-- Openings and closings, as requests and their replies tell them: request by request, since each counts as one call of 01 or as none.
-- Assumes nothing.
use mathlib.Core.Path.{◌≡◌, refl}
use mathlib.Core.Bool.{Bool, true, false}
use mathlib.Core.List.{List, [], ◌∷◌}
use Prim.Native.Nat.{ℕ}
use native.Mathlib.Omega.{arith}
use Rattle.words.specs.Choice.{pick}
use Rattle.entries.specs.Entry.{bit}
use Rattle.rules.specs.Answers.{Told, refused, done, none, closed, opened, already, unfixed, word, count}
use Rattle.rules.specs.Calls.{step}
use Rattle.rules.specs.History.{Made, Event, reads, writes, no_event, by_answer, accepted, event_of, event, is_opening, is_closing}
use Rattle.rules.specs.History.{openings, closings}
use Rattle.rules.specs.State.{State}
use Rattle.rules.proofs.HistoryLists.{openings_append, closings_append}
use Rattle.paging.specs.Walk.{Walked, reaches, stops, Virtual, Mapping, translated}
use Rattle.requests.specs.Asked.{requested, call_there, comes_to, made_as, counts_as, counted}
use Rattle.requests.specs.Counts.{plain_event, form_event, named_event, event_told, openings_told, closings_told, CountsAreTold}
use Rattle.requests.specs.Requests.{Request, CALL, PAGE_READ, PAGE_WRITE, PAGE_CHECK, WALK, BY_VA}
use Rattle.requests.specs.Requests.{mapped, named, by_virtual, respond}
use Rattle.requests.specs.Virtual.{Form, VALIDATE, LOAD, STORE, form_fits, call_on}
use Rattle.requests.proofs.AsCalls.{named_made}

module _ (guest gpa : ℕ) where
  -- two events that count alike; one that is neither an opening nor a closing
  abbrev Alike : Event → Event → Type 0
  Alike e f = (is_opening e guest gpa ≡ is_opening f guest gpa) × (is_closing e guest gpa ≡ is_closing f guest gpa)

  -- ---- 01's call there, and what the answer tells
  validate_alike :
      (at : Virtual) (type : ℕ) (m : Mapping) (told : Told)
      → Alike (event_of (call_on at.caller (VALIDATE type) m) told) (event_told (BY_VA at (VALIDATE type)) (named m.gpa told))
  unfolding event_of by_answer call_on event_told plain_event named_event form_event named is_opening is_closing
  validate_alike at type m (refused r) = (refl, refl)
  validate_alike at type m done = (refl, refl)
  validate_alike at type m none = (refl, refl)
  validate_alike at type m (closed asid address) = (refl, refl)
  validate_alike at type m opened = (refl, refl)
  validate_alike at type m already = (refl, refl)
  validate_alike at type m (unfixed owner) = (refl, refl)
  validate_alike at type m (word value) = (refl, refl)
  validate_alike at type m (count places) = (refl, refl)

  quiet_accepted : (t : Bool) (told : Told) (e : Event) → Alike e no_event → Alike (pick t (accepted told e) no_event) no_event
  unfolding pick accepted by_answer
  quiet_accepted false told e quiet = (refl, refl)
  quiet_accepted true (refused r) e quiet = (refl, refl)
  quiet_accepted true done e quiet = quiet
  quiet_accepted true none e quiet = quiet
  quiet_accepted true (closed asid address) e quiet = quiet
  quiet_accepted true opened e quiet = quiet
  quiet_accepted true already e quiet = quiet
  quiet_accepted true (unfixed owner) e quiet = quiet
  quiet_accepted true (word value) e quiet = quiet
  quiet_accepted true (count places) e quiet = quiet

  quiet_told : (at : Virtual) (form : Form) (address : ℕ) (told : Told) → form_event form at.caller address told ≡ no_event
      → event_told (BY_VA at form) (named address told) ≡ no_event
  unfolding event_told plain_event named_event named
  quiet_told at form address (refused r) quiet = refl
  quiet_told at form address done quiet = quiet
  quiet_told at form address none quiet = refl
  quiet_told at form address (closed asid there) quiet = refl
  quiet_told at form address opened quiet = quiet
  quiet_told at form address already quiet = quiet
  quiet_told at form address (unfixed owner) quiet = refl
  quiet_told at form address (word value) quiet = quiet
  quiet_told at form address (count places) quiet = refl

  form_alike :
      (at : Virtual) (form : Form) (m : Mapping) (told : Told)
      → Alike (event_of (call_on at.caller form m) told) (event_told (BY_VA at form) (named m.gpa told))
  unfolding event_of call_on form_event is_opening is_closing
  form_alike at (VALIDATE type) m told = validate_alike at type m told
  form_alike at (LOAD index) m told =
      rw (quiet_told at (LOAD index) m.gpa told refl) (quiet_accepted _ told (reads at.caller m.gpa index) (refl, refl))
  form_alike at (STORE index value) m told =
      rw (quiet_told at (STORE index value) m.gpa told refl)
      (quiet_accepted _ told (writes at.caller m.gpa index value) (refl, refl))

  -- ---- a request
  abbrev Counts : List Made → Event → Type 0
  Counts made e = (openings made guest gpa ≡ bit (is_opening e guest gpa)) × (closings made guest gpa ≡ bit (is_closing e guest gpa))

  one_counts : (m : Made) (e : Event) → Alike (event m) e → Counts (m ∷ []) e
  unfolding openings closings
  one_counts m e alike = rw (← alike.0, ← alike.1) (omega arith, omega arith)

  none_counts : Counts [] no_event
  unfolding openings closings is_opening is_closing bit pick
  none_counts = (refl, refl)

  there_counts :
      (s : State) (at : Virtual) (form : Form) (w : Walked Mapping)
      → let r = by_virtual s at.caller form w in
      Counts (made_as (call_there at.caller form w) r.reply s r.after) (event_told (BY_VA at form) r.reply)
  unfolding call_there by_virtual made_as event_told plain_event event
  there_counts s at form (reaches m) =
      let call = call_on at.caller form m in
      rw (named_made (call ∷ []) m.gpa (step s call).told s (step s call).after)
      (one_counts _ _ (form_alike at form m (step s call).told))
  there_counts s at form (stops r) = none_counts

  walk_counts : (s : State) (at : Virtual) (w : Walked Mapping) → Counts (made_as [] (mapped w) s s) (event_told (WALK at) (mapped w))
  unfolding mapped made_as event_told plain_event
  walk_counts s at (reaches m) = none_counts
  walk_counts s at (stops r) = none_counts

  request_counts :
      (s : State) (request : Request)
      → let r = respond s request in Counts (counts_as request r.reply s r.after) (event_told request r.reply)
  unfolding counts_as comes_to made_as respond event_told plain_event event
  request_counts s (CALL call) = one_counts _ _ (refl, refl)
  request_counts s (PAGE_READ caller address hpa) = none_counts
  request_counts s (PAGE_WRITE caller address hpa words) = none_counts
  request_counts s (PAGE_CHECK caller address hpa) = none_counts
  request_counts s (WALK at) = walk_counts s at (translated s at true)
  request_counts s (BY_VA at form) = there_counts s at form (translated s at (form_fits form))

pub counts_are_told : CountsAreTold
unfolding requested counted openings closings openings_told closings_told
counts_are_told s [] guest gpa = (refl, refl)
counts_are_told s (request ∷ rest) guest gpa =
    let one = request_counts guest gpa s request in
    let others = counts_are_told (respond s request).after rest guest gpa in
    (rw (openings_append, one.0, others.0), rw (closings_append, one.1, others.1))
