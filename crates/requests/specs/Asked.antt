-- 02, Q-1, "Demand 3 is unchanged, and its lists may hold these three calls too", and Q-4, "demand 3 counts it as 01's call there": lists
-- of requests, the calls of 01 that they count as, and what is claimed of them.
use Rattle.std.specs.Prelude.{◌≡◌, List, [], ◌∷◌, ◌++◌, map, ◌≢◌, ℕ}
use Rattle.rules.specs.Answers.{refused, outcome}
use Rattle.rules.specs.Calls.{Call}
use Rattle.rules.specs.History.{Made, made, NoCounterGoesBack}
use Rattle.rules.specs.Refusals.{BAD_ENTRY, BROKEN_LEAF}
use Rattle.rules.specs.State.{State, empty_table, N, M, sized}
use Rattle.paging.specs.Walk.{Walked, reaches, stops, Mapping, translated}
use Rattle.requests.specs.Requests.{Request, CALL, PAGE_READ, PAGE_WRITE, PAGE_CHECK, WALK, BY_VA, Reply, tells, hands, names, maps}
use Rattle.requests.specs.Requests.{Response, respond}
use Rattle.requests.specs.Virtual.{Form, form_fits, call_on}

-- a request as it was made: with the table and memory that it got, its reply, and table and memory as it left them
pub record Asked : Type 0 where
  pub request : Request
  pub got : State
  pub reply : Reply
  pub left : State

abbrev pub asked : Request → State → Response → Asked
asked request s r = record { request = request; got = s; reply = r.reply; left = r.after }

-- "Each call gets both as the call before left them": a list of requests, as they were made
unfoldable pub requested : State → List Request → List Asked
requested s [] = []
requested s (request ∷ rest) = asked request s (respond s request) ∷ requested (respond s request).after rest

-- table and memory after a list of requests
unfoldable pub afterwards : State → List Request → State
afterwards s [] = s
afterwards s (request ∷ rest) = afterwards (respond s request).after rest

-- the call of 01 that a request comes to, or none. Those of Q-1 are no opening, no closing, and no private or mergeable read or write, and
-- the walk is none. A call by virtual address is 01's call on what its walk yields; one that is refused on the way is none.
unfoldable pub call_there : ℕ → Form → Walked Mapping → List Call
call_there caller form (reaches m) = call_on caller form m ∷ []
call_there caller form (stops refusal) = []

unfoldable pub comes_to : State → Request → List Call
comes_to s (CALL call) = call ∷ []
comes_to s (PAGE_READ caller gpa hpa) = []
comes_to s (PAGE_WRITE caller gpa hpa words) = []
comes_to s (PAGE_CHECK caller gpa hpa) = []
comes_to s (WALK at) = []
comes_to s (BY_VA at form) = call_there at.caller form (translated s at (form_fits form))

-- the calls as they were made, with the answer of 01 in the reply. (No reply to them is a part of memory or a mapping.)
unfoldable pub made_as : List Call → Reply → State → State → List Made
made_as calls (tells told) got left = map (λ (call : Call). made call got (outcome told left)) calls
made_as calls (names gpa told) got left = map (λ (call : Call). made call got (outcome told left)) calls
made_as calls (hands part) got left = []
made_as calls (maps mapping) got left = []

unfoldable pub counts_as : Request → Reply → State → State → List Made
counts_as request reply got left = made_as (comes_to got request) reply got left

unfoldable pub counted : List Asked → List Made
counted [] = []
counted (a ∷ rest) = counts_as a.request a.reply a.got a.left ++ counted rest

-- demand 3: of every list of requests, refused ones among them, from an empty table and any memory
abbrev pub RequestsDemand3 : Type 0
RequestsDemand3 =
    (length : ℕ) (memory : List ℕ) (requests : List Request)
    → NoCounterGoesBack (counted (requested (empty_table length memory) requests)) (afterwards (empty_table length memory) requests)

-- from an empty table and any memory no request is refused with 5 or 12
abbrev pub NeverBroken : Type 0
NeverBroken =
    (length : ℕ) (memory : List ℕ) (requests : List Request) (past rest : List Asked) (a : Asked)
    → requested (empty_table length memory) requests ≡ past ++ (a ∷ rest)
    → ((reason : ℕ) → a.reply ≢ tells (refused (BAD_ENTRY reason))) × (a.reply ≢ tells (refused BROKEN_LEAF))

-- no list of requests changes a size, from any table and memory
abbrev pub SizesStay : Type 0
SizesStay =
    (s : State) (requests : List Request)
    → let end = afterwards s requests in (N end ≡ N s) × (M end ≡ M s) × (sized end ≡ sized s)
