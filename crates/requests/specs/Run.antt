-- 00, demand 3, "Premise: each call gets the table and memory, whole, as the call before left them": demand 3 of whatever takes requests
-- one after the other and keeps to the rules. Of each request only this is known, that its reply, and table and memory as it left them,
-- are the rules'. The code promises it of each function that takes one.
use Rattle.std.specs.Prelude.{◌≡◌, List, [], ◌∷◌, map, ℕ}
use Rattle.rules.specs.Answers.{outcome}
use Rattle.rules.specs.History.{Made, Promised, NoCounterGoesBack}
use Rattle.rules.specs.State.{State, empty_table}
use Rattle.requests.specs.Asked.{Asked, asked, requested, afterwards, counted}
use Rattle.requests.specs.Requests.{Request, CALL, response, telling, respond}

-- what is promised of a request as it was made
abbrev pub Ruled : Asked → Type 0
Ruled a = response a.reply a.left ≡ respond a.got a.request

-- what `monitor::step` promises of a call of 01 is that
abbrev pub CallIsRuled : Type 0
CallIsRuled = (m : Made) → Promised m → Ruled (asked (CALL m.call) m.got (telling (outcome m.told m.left)))

-- a run: "Each call gets both as the call before left them"
pub data Run : State → List Asked → Type 0 where
  none : {s : State} → Run s []
  next : {s : State} {a : Asked} {rest : List Asked} → a.got ≡ s → Ruled a → Run a.left rest → Run s (a ∷ rest)

-- the requests of a run; and table and memory after the last
unfoldable pub requests_of : List Asked → List Request
requests_of run = map (λ (a : Asked). a.request) run

unfoldable pub ended : State → List Asked → State
ended s [] = s
ended s (a ∷ rest) = ended a.left rest

-- a run is what the rules make of its requests, and ends in the same table and memory
abbrev pub RunIsHistory : Type 0
RunIsHistory =
    (s : State) (run : List Asked) → Run s run → (run ≡ requested s (requests_of run)) × (ended s run ≡ afterwards s (requests_of run))

-- demand 3, of every run from an empty table and any memory
abbrev pub RunDemand3 : Type 0
RunDemand3 =
    (length : ℕ) (memory : List ℕ) (run : List Asked) → Run (empty_table length memory) run
    → NoCounterGoesBack (counted run) (ended (empty_table length memory) run)
