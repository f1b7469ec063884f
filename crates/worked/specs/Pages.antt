-- 02, Q-1: worked examples of a page that is read, checked and written, each with the whole reply, and table and memory after it; of every
-- refusal that these calls can give; and of the order of checks. They are worked by hand from 02.
use Rattle.std.specs.Prelude.{List, [], ◌∷◌, ◌++◌, ℕ, replicate}
use Rattle.rules.specs.Answers.{refused, done}
use Rattle.rules.specs.Refusals.{alone, BAD_ENTRY}
use Rattle.rules.specs.State.{State, state}
use Rattle.requests.specs.Requests.{Request, PAGE_READ, PAGE_WRITE, PAGE_CHECK, tells, hands, Response, response}
use Rattle.worked.specs.Examples.{page, merged_page, half_entry, bad_entry}

pub record RequestExample : Type 0 where
  pub before : State
  pub request : Request
  pub gives : Response

abbrev pub gives : State → Request → Response → RequestExample
gives before request r = record { before = before; request = request; gives = r }

-- a page that is handed back, the check that it passes, a refusal, and 5 with the reason
abbrev pub reads : State → Request → List ℕ → RequestExample
reads before request part = gives before request (response (hands part) before)

abbrev pub passes : State → Request → RequestExample
passes before request = gives before request (response (tells done) before)

abbrev pub stops : State → Request → ℕ → RequestExample
stops before request number = gives before request (response (tells (refused (alone number))) before)

abbrev pub finds : State → Request → ℕ → RequestExample
finds before request reason = gives before request (response (tells (refused (BAD_ENTRY reason))) before)

-- a SHARED frame, guest 7's page at 50000, a LEAF, and a frame that the table does not cover
unfoldable pub disk : State
disk =
    state (0 ∷ 0 ∷ 0x60007 ∷ 0x50000 ∷ 0x30000 ∷ 0 ∷ []) (page 3 0x2a ++ (page 3 0x2b ++ (page 9 0x60001 ++ page 5 0x2c)))

unfoldable pub page_examples : List RequestExample
page_examples =
    -- the host and a guest
    reads disk (PAGE_READ 0 0 0) (page 3 0x2a)
    ∷ reads disk (PAGE_READ 7 0x50000 0) (page 3 0x2a)
    ∷ passes disk (PAGE_CHECK 7 0x50000 0)
    ∷ gives disk (PAGE_WRITE 0 0 0 (page 4 0x2d))
    (response (tells done) (state disk.table (page 4 0x2d ++ (page 3 0x2b ++ (page 9 0x60001 ++ page 5 0x2c)))))
    -- a frame above the table
    ∷ reads disk (PAGE_READ 0 0 0x3000) (page 5 0x2c)
    ∷ gives disk (PAGE_WRITE 9 0x60000 0x3000 (page 4 0x2d))
    (response (tells done) (state disk.table (page 3 0x2a ++ (page 3 0x2b ++ (page 9 0x60001 ++ page 4 0x2d)))))
    -- a guest's page, also the guest's own, and a LEAF
    ∷ reads disk (PAGE_READ 7 0x50000 0x1000) []
    ∷ stops disk (PAGE_CHECK 7 0x50000 0x1000) 6
    ∷ stops disk (PAGE_WRITE 7 0x50000 0x1000 (page 4 0x2d)) 6
    ∷ reads disk (PAGE_READ 0 0 0x2000) []
    ∷ stops disk (PAGE_CHECK 0 0 0x2000) 6
    ∷ stops disk (PAGE_WRITE 0 0 0x2000 (page 4 0x2d)) 6
    -- a fixed page: its leaf is not looked at
    ∷ stops merged_page (PAGE_CHECK 9 0x60000 0) 6
    -- the other numbers
    ∷ reads half_entry (PAGE_READ 512 1 1) []
    ∷ stops half_entry (PAGE_CHECK 512 1 1) 1
    ∷ stops half_entry (PAGE_WRITE 512 1 1 []) 1
    ∷ reads disk (PAGE_READ 512 0 0) []
    ∷ stops disk (PAGE_CHECK 512 0 0) 2
    ∷ stops disk (PAGE_CHECK 0 1 0) 2
    ∷ stops disk (PAGE_CHECK 0 0 1) 2
    ∷ stops disk (PAGE_WRITE 512 0 0 (page 4 0x2d)) 2
    ∷ stops disk (PAGE_WRITE 0 1 0 (page 4 0x2d)) 2
    ∷ stops disk (PAGE_WRITE 0 0 1 (page 4 0x2d)) 2
    ∷ reads disk (PAGE_READ 0 0 0x4000) []
    ∷ stops disk (PAGE_CHECK 0 0 0x4000) 4
    ∷ stops disk (PAGE_WRITE 0 0 0x4000 (page 4 0x2d)) 4
    ∷ reads bad_entry (PAGE_READ 0 0 0) []
    ∷ finds bad_entry (PAGE_CHECK 0 0 0) 1
    ∷ finds bad_entry (PAGE_WRITE 0 0 0 (page 4 0x2d)) 1
    -- a run of another length: 2, before 4 and 6
    ∷ stops disk (PAGE_WRITE 0 0 0 []) 2
    ∷ stops disk (PAGE_WRITE 0 0 0 (replicate 511 0)) 2
    ∷ stops disk (PAGE_WRITE 0 0 0 (replicate 513 0)) 2
    ∷ stops disk (PAGE_WRITE 0 0 0x4000 (replicate 511 0)) 2
    ∷ stops disk (PAGE_WRITE 0 0 0x1000 (replicate 513 0)) 2
    ∷ []
