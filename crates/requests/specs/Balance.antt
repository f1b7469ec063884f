-- 01, "demand 3 ties places to openings and closings": the census of a guest after a list of requests, as its places at all addresses
-- together.
use Rattle.std.specs.Prelude.{◌≡◌, true, false, List, ℕ, ◌+◌}
use Rattle.entries.specs.Entry.{is_address, is_guest}
use Rattle.rules.specs.Answers.{count, outcome}
use Rattle.rules.specs.Balance.{over_addresses}
use Rattle.rules.specs.Calls.{CENSUS, step}
use Rattle.rules.specs.Census.{places}
use Rattle.rules.specs.History.{openings, closings}
use Rattle.rules.specs.State.{State, empty_table, sized}
use Rattle.requests.specs.Asked.{requested, afterwards, counted}
use Rattle.requests.specs.Requests.{Request}

pub record CensusKept (s : State) (requests : List Request) (guest : ℕ) : Type 0 where
  -- it is answered
  pub answered :
      let end = afterwards s requests in
      step end (CENSUS guest) ≡ outcome (count (over_addresses (places end guest))) end
  -- "places plus closings are exactly the openings", at all addresses together
  pub balanced :
      let all = counted (requested s requests) in
      over_addresses (places (afterwards s requests) guest) + over_addresses (closings all guest) ≡ over_addresses (openings all guest)
  -- nothing is closed or opened at what is no address
  pub nowhere_else :
      let all = counted (requested s requests) in
      (gpa : ℕ) → is_address gpa ≡ false → (closings all guest gpa ≡ 0) × (openings all guest gpa ≡ 0)

-- after any list of requests from an empty table and any memory, of the right sizes
abbrev pub CensusClaim : Type 0
CensusClaim =
    (length : ℕ) (memory : List ℕ) (requests : List Request) (guest : ℕ) → sized (empty_table length memory) ≡ true → is_guest guest ≡ true
    → CensusKept (empty_table length memory) requests guest
