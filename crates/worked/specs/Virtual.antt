-- 02, Q-4: worked examples of calls by virtual address, on the box of the worked walks. They are worked by hand; that the definitions give
-- them is shown in proofs/Virtual.
use Rattle.std.specs.Prelude.{List, [], ◌∷◌, ◌++◌, ℕ}
use Rattle.rules.specs.Answers.{Told, done, opened, already, word}
use Rattle.rules.specs.State.{State, state}
use Rattle.paging.specs.Examples.{table, host_table, guest_table, lower_table, box, to}
use Rattle.paging.specs.Walk.{Virtual, virtual, mapping}
use Rattle.requests.specs.Requests.{WALK, BY_VA, response, names, maps}
use Rattle.requests.specs.Virtual.{Form, VALIDATE, LOAD, STORE}
use Rattle.worked.specs.Pages.{RequestExample, gives, stops}

-- accepted, at this guest address; and refused
abbrev pub at : State → Virtual → Form → ℕ → Told → State → RequestExample
at before here form gpa told after = gives before (BY_VA here form) (response (names gpa told) after)

abbrev pub refuses : State → Virtual → Form → ℕ → RequestExample
refuses before here form number = stops before (BY_VA here form) number

-- `box` before frame 2 was validated
unfoldable pub unopened_box : State
unopened_box = state (0 ∷ 0 ∷ 0x50007 ∷ 0x1000 ∷ 0x20007 ∷ 0x2000 ∷ []) box.memory

-- `box` with 2a in word 5 of frame 2
unfoldable pub written_box : State
written_box =
    state box.table (table host_table ++ (table guest_table ++ table (lower_table ++ (0 ∷ 0 ∷ 0x2a ∷ []))))

unfoldable pub virtual_examples : List RequestExample
virtual_examples =
    gives box (WALK (to 0x1000)) (response (maps (mapping 0x2000 0x2000 2 2)) box)
    ∷ stops box (WALK (to 0x5000)) 18
    -- the answer is 01's, with the guest address
    ∷ at box (to 0) (LOAD 1) 0x1000 (word 0x0020000000002001) box
    ∷ at box (to 0x1000) (STORE 5 0x2a) 0x2000 done written_box
    ∷ at unopened_box (to 0x1000) (VALIDATE 2) 0x2000 opened box
    ∷ at box (to 0) (VALIDATE 1) 0x1000 already box
    -- PVALIDATE's type is the call's: the walk says 2, and 1 is another
    ∷ refuses box (to 0x1000) (VALIDATE 1) 6
    ∷ at box (to 0xd000) (VALIDATE 1) 0x1000 already box
    -- refused on the way, and at the end, by 01's call; neither names an address
    ∷ refuses box (to 0x5000) (LOAD 1) 18
    ∷ refuses box (to 0xd000) (LOAD 1) 6
    ∷ refuses unopened_box (to 0x1000) (STORE 5 0x2a) 9
    -- what the form has of its own is an argument: 2, before 3 and before the walk
    ∷ refuses box (to 0x5000) (LOAD 512) 2
    ∷ refuses box (to 0x5000) (STORE 512 0) 2
    ∷ refuses box (to 0x5000) (VALIDATE 0) 2
    ∷ refuses box (virtual 0 0x1000 1 0 0x5000) (VALIDATE 3) 2
    ∷ refuses box (virtual 0 0x1000 1 0 0x5000) (VALIDATE 2) 3
    ∷ []
