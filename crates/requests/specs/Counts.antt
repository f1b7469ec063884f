-- 01, "Openings and closings are counted from the list and its answers alone": that of requests too. A call by virtual address counts as
-- 01's call at the address that its answer names, so that a request and its reply tell whether it was an opening or a closing, without the
-- table and memory that it got.
use Rattle.std.specs.Prelude.{◌≡◌, List, [], ◌∷◌, ℕ, ◌+◌}
use Rattle.entries.specs.Entry.{bit}
use Rattle.rules.specs.Answers.{Told}
use Rattle.rules.specs.Calls.{PVALIDATE}
use Rattle.rules.specs.History.{Event, no_event, event_of, is_opening, is_closing, openings, closings}
use Rattle.rules.specs.State.{State}
use Rattle.requests.specs.Asked.{Asked, requested, counted}
use Rattle.requests.specs.Requests.{Request, CALL, PAGE_READ, PAGE_WRITE, PAGE_CHECK, WALK, BY_VA, Reply, tells, hands, names, maps}
use Rattle.requests.specs.Virtual.{Form, VALIDATE, LOAD, STORE}

-- an answer of 01 to a call of 01
unfoldable pub plain_event : Request → Told → Event
plain_event (CALL call) told = event_of call told
plain_event (PAGE_READ caller gpa hpa) told = no_event
plain_event (PAGE_WRITE caller gpa hpa words) told = no_event
plain_event (PAGE_CHECK caller gpa hpa) told = no_event
plain_event (WALK at) told = no_event
plain_event (BY_VA at form) told = no_event

-- an answer that names a guest address: of a PVALIDATE it tells everything but the frame, which nothing counts. A READ or WRITE is neither
-- an opening nor a closing.
unfoldable pub form_event : Form → ℕ → ℕ → Told → Event
form_event (VALIDATE type) caller gpa told = event_of (PVALIDATE caller gpa 0 type) told
form_event (LOAD index) caller gpa told = no_event
form_event (STORE index value) caller gpa told = no_event

unfoldable pub named_event : Request → ℕ → Told → Event
named_event (CALL call) gpa told = no_event
named_event (PAGE_READ caller address hpa) gpa told = no_event
named_event (PAGE_WRITE caller address hpa words) gpa told = no_event
named_event (PAGE_CHECK caller address hpa) gpa told = no_event
named_event (WALK at) gpa told = no_event
named_event (BY_VA at form) gpa told = form_event form at.caller gpa told

unfoldable pub event_told : Request → Reply → Event
event_told request (tells told) = plain_event request told
event_told request (names gpa told) = named_event request gpa told
event_told request (hands part) = no_event
event_told request (maps mapping) = no_event

unfoldable pub openings_told : List Asked → ℕ → ℕ → ℕ
openings_told [] guest gpa = 0
openings_told (a ∷ rest) guest gpa = bit (is_opening (event_told a.request a.reply) guest gpa) + openings_told rest guest gpa

unfoldable pub closings_told : List Asked → ℕ → ℕ → ℕ
closings_told [] guest gpa = 0
closings_told (a ∷ rest) guest gpa = bit (is_closing (event_told a.request a.reply) guest gpa) + closings_told rest guest gpa

abbrev pub CountsAreTold : Type 0
CountsAreTold =
    (s : State) (requests : List Request) (guest gpa : ℕ)
    → let all = requested s requests in
    (openings (counted all) guest gpa ≡ openings_told all guest gpa) × (closings (counted all) guest gpa ≡ closings_told all guest gpa)
