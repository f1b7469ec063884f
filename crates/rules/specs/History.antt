-- 01, "Demand 3 speaks of histories": the claim that no counter goes back, about the rules' own `step`, its answers and its memory.
use Rattle.std.specs.Prelude.{◌≡◌, Bool, true, false, List, [], ◌∷◌, ◌++◌, ℕ, ◌+◌, ◌≤◌, eqb}
use Rattle.words.specs.Choice.{pick, ◌and◌}
use Rattle.entries.specs.Entry.{frame_of, is_guest, is_owned, bit}
use Rattle.rules.specs.Answers.{Told, refused, done, none, closed, opened, already, unfixed, word, count, Outcome, outcome}
use Rattle.rules.specs.Calls.{Call, RMPUPDATE, PVALIDATE, PFIX, PMERGE, PUNMERGE, PUNFIX, READ, WRITE, CENSUS, step}
use Rattle.rules.specs.Census.{places}
use Rattle.rules.specs.State.{State, empty_table, word_at}

-- a call as it was made: with the table and memory that it got, its answer, and table and memory as it left them
pub record Made : Type 0 where
  pub call : Call
  pub got : State
  pub told : Told
  pub left : State

abbrev pub made : Call → State → Outcome → Made
made call s o = record { call = call; got = s; told = o.told; left = o.after }

-- what is promised of a call as it was made: that its answer, and table and memory as it left them, are the rules'
abbrev pub Promised : Made → Type 0
Promised m = outcome m.told m.left ≡ step m.got m.call

-- "Each call gets both as the call before left them": a list of calls, as they were made
unfoldable pub history : State → List Call → List Made
history s [] = []
history s (call ∷ rest) = made call s (step s call) ∷ history (step s call).after rest

-- table and memory after a list of calls
unfoldable pub finally : State → List Call → State
finally s [] = s
finally s (call ∷ rest) = finally (step s call).after rest

-- what a call was to a guest at an address
pub data Event : Type 0 where
  opens : (guest gpa frame : ℕ) → Event
  closes : (guest gpa : ℕ) → Event
  reads : (guest gpa index : ℕ) → Event
  writes : (guest gpa index value : ℕ) → Event
  -- any other call, and any refused one
  no_event : Event

-- the event of an answer: none for a refusal, one for *closed*, one for *opened*, one for every other answer
unfoldable pub by_answer : Told → (ℕ → ℕ → Event) → Event → Event → Event
by_answer (refused refusal) if_closed if_opened if_else = no_event
by_answer done if_closed if_opened if_else = if_else
by_answer none if_closed if_opened if_else = if_else
by_answer (closed guest gpa) if_closed if_opened if_else = if_closed guest gpa
by_answer opened if_closed if_opened if_else = if_opened
by_answer already if_closed if_opened if_else = if_else
by_answer (unfixed owner) if_closed if_opened if_else = if_else
by_answer (word value) if_closed if_opened if_else = if_else
by_answer (count number) if_closed if_opened if_else = if_else

-- the event of any answer but a refusal
unfoldable pub accepted : Told → Event → Event
accepted told e = by_answer told (λ guest gpa. e) e e

-- "*Opening*: a PVALIDATE answered *opened*, for its caller and gpa. *Closing*: an RMPUPDATE answered *closed*, for the guest and address
-- that the answer names." "A read or write belongs to its caller and its gpa, whichever frame it names, and is private or mergeable if its
-- gtype is 1 or 2." It is accepted unless it was refused.
unfoldable pub event_of : Call → Told → Event
event_of (RMPUPDATE caller hpa gpa asid kind) told = by_answer told closes no_event no_event
event_of (PVALIDATE caller gpa hpa kind) told = by_answer told (λ guest address. no_event) (opens caller gpa (frame_of hpa)) no_event
event_of (PFIX caller hpa leaf) told = no_event
event_of (PMERGE caller hpa1 hpa2) told = no_event
event_of (PUNMERGE caller hpa1 hpa2 asid) told = no_event
event_of (PUNFIX caller hpa) told = no_event
event_of (READ caller gpa hpa gtype ntype index) told = pick (is_owned gtype) (accepted told (reads caller gpa index)) no_event
event_of (WRITE caller gpa hpa gtype ntype index value) told =
    pick (is_owned gtype) (accepted told (writes caller gpa index value)) no_event
event_of (CENSUS asid) told = no_event

unfoldable pub event : Made → Event
event m = event_of m.call m.told

-- openings and closings of a guest at an address, "counted from the list and its answers alone"
unfoldable pub is_opening : Event → ℕ → ℕ → Bool
is_opening (opens who at frame) guest gpa = eqb who guest and eqb at gpa
is_opening (closes who at) guest gpa = false
is_opening (reads who at index) guest gpa = false
is_opening (writes who at index value) guest gpa = false
is_opening no_event guest gpa = false

unfoldable pub is_closing : Event → ℕ → ℕ → Bool
is_closing (opens who at frame) guest gpa = false
is_closing (closes who at) guest gpa = eqb who guest and eqb at gpa
is_closing (reads who at index) guest gpa = false
is_closing (writes who at index value) guest gpa = false
is_closing no_event guest gpa = false

unfoldable pub openings : List Made → ℕ → ℕ → ℕ
openings [] guest gpa = 0
openings (m ∷ rest) guest gpa = bit (is_opening (event m) guest gpa) + openings rest guest gpa

unfoldable pub closings : List Made → ℕ → ℕ → ℕ
closings [] guest gpa = 0
closings (m ∷ rest) guest gpa = bit (is_closing (event m) guest gpa) + closings rest guest gpa

-- "The last such write: the value of the latest accepted private or mergeable WRITE .. with the read's caller, gpa and word index", and
-- what was there before where there is none
unfoldable pub written : Event → ℕ → ℕ → ℕ → ℕ → ℕ
written (opens who at frame) guest gpa index before = before
written (closes who at) guest gpa index before = before
written (reads who at which) guest gpa index before = before
written (writes who at which value) guest gpa index before = pick (eqb who guest and eqb at gpa and eqb which index) value before
written no_event guest gpa index before = before

unfoldable pub last_write : List Made → ℕ → ℕ → ℕ → ℕ → ℕ
last_write [] guest gpa index before = before
last_write (m ∷ rest) guest gpa index before = last_write rest guest gpa index (written (event m) guest gpa index before)

-- the claim, of a list of calls whole: the calls as they were made, and the table and memory after the last
pub record NoCounterGoesBack (all : List Made) (end : State) : Type 0 where
  -- "for each guest and address, places plus closings are exactly the openings"
  pub counted : (guest gpa : ℕ) → is_guest guest ≡ true → places end guest gpa + closings all guest gpa ≡ openings all guest gpa
  -- a private or mergeable read is accepted only at an address that was opened before it
  pub opened_before :
      (past rest : List Made) (read : Made) (guest gpa index : ℕ)
      → all ≡ past ++ (read ∷ rest) → event read ≡ reads guest gpa index
      → 1 ≤ openings past guest gpa
  -- "If the address was opened at most once before it, the read returns the guest's own last accepted such write to that word since the
  -- opening, or, where there is none, the word found at the opening", "as memory held it at that call"
  pub kept :
      (past since rest : List Made) (opening read : Made) (guest gpa frame index : ℕ)
      → all ≡ past ++ (opening ∷ (since ++ (read ∷ rest)))
      → event opening ≡ opens guest gpa frame → event read ≡ reads guest gpa index
      → openings (past ++ (opening ∷ since)) guest gpa ≤ 1
      → read.told ≡ word (last_write since guest gpa index (word_at opening.got frame index))

-- demand 3: "for every list of the nine calls of document 01, refused ones among them, from an empty table and any memory"
abbrev pub Demand3 : Type 0
Demand3 =
    (length : ℕ) (memory : List ℕ) (calls : List Call)
    → NoCounterGoesBack (history (empty_table length memory) calls) (finally (empty_table length memory) calls)
