-- 02, Q-2: worked examples of calls that refuse with 5, with the reason, table and memory as they were: of each call; of two bad frames,
-- where the first named decides, and in CENSUS the first met; and of a bad leaf, which is 12 alone. They are worked by hand from 02.
use Rattle.std.specs.Prelude.{List, [], ◌∷◌, ◌++◌}
use Rattle.rules.specs.Calls.{RMPUPDATE, PVALIDATE, PFIX, PMERGE, PUNMERGE, PUNFIX, READ, WRITE, CENSUS}
use Rattle.rules.specs.State.{State, state}
use Rattle.requests.specs.Requests.{CALL, PAGE_READ, PAGE_WRITE, PAGE_CHECK}
use Rattle.worked.specs.Examples.{blank, fixed_page}
use Rattle.worked.specs.Pages.{RequestExample, reads, stops, finds}

-- two bad frames: the first SHARED with an ASID, and VALIDATED too; the second a LEAF with an address
unfoldable pub two_bad : State
two_bad = state (0x40007 ∷ 0 ∷ 0x30000 ∷ 0x1000 ∷ []) (blank ++ blank)

-- guest 7's page, which is good, and guest 9's, which is FIXED and not VALIDATED
unfoldable pub later_bad : State
later_bad = state (0x60007 ∷ 0x50000 ∷ 0xa0009 ∷ 0 ∷ []) (blank ++ blank)

-- `fixed_page` with an address in its leaf's entry
unfoldable pub bad_leaf : State
bad_leaf = state (0xe0007 ∷ 0x2000 ∷ 0x60009 ∷ 0x60000 ∷ 0x30000 ∷ 0x1000 ∷ []) fixed_page.memory

unfoldable pub reason_examples : List RequestExample
reason_examples =
    -- one frame
    finds two_bad (CALL (RMPUPDATE 0 0 0 0 0)) 2
    ∷ finds two_bad (CALL (RMPUPDATE 0 0x1000 0 0 0)) 4
    ∷ finds two_bad (CALL (PVALIDATE 7 0x50000 0 2)) 2
    ∷ finds two_bad (CALL (PVALIDATE 7 0x50000 0x1000 2)) 4
    ∷ finds two_bad (CALL (PUNFIX 0 0)) 2
    ∷ finds two_bad (CALL (PUNFIX 0 0x1000)) 4
    ∷ finds two_bad (CALL (READ 0 0 0 0 0 3)) 2
    ∷ finds two_bad (CALL (READ 0 0 0x1000 0 0 3)) 4
    ∷ finds two_bad (CALL (WRITE 0 0 0 0 0 3 0x2b)) 2
    ∷ finds two_bad (CALL (WRITE 0 0 0x1000 0 0 3 0x2b)) 4
    ∷ reads two_bad (PAGE_READ 0 0 0x1000) []
    ∷ finds two_bad (PAGE_CHECK 0 0 0) 2
    ∷ finds two_bad (PAGE_CHECK 0 0 0x1000) 4
    ∷ finds two_bad (PAGE_WRITE 0 0 0x1000 blank) 4
    -- two frames, in both orders
    ∷ finds two_bad (CALL (PFIX 0 0 0x1000)) 2
    ∷ finds two_bad (CALL (PFIX 0 0x1000 0)) 4
    ∷ finds two_bad (CALL (PMERGE 0 0 0x1000)) 2
    ∷ finds two_bad (CALL (PMERGE 0 0x1000 0)) 4
    ∷ finds two_bad (CALL (PUNMERGE 0 0 0x1000 9)) 2
    ∷ finds two_bad (CALL (PUNMERGE 0 0x1000 0 9)) 4
    -- the second of two is bad: 5 for it comes before 6 and all else for the first
    ∷ finds later_bad (CALL (PFIX 0 0 0x1000)) 3
    ∷ finds later_bad (CALL (PMERGE 0 0 0x1000)) 3
    ∷ finds later_bad (CALL (PUNMERGE 0 0 0x1000 9)) 3
    -- the first that a census meets
    ∷ finds two_bad (CALL (CENSUS 7)) 2
    ∷ finds later_bad (CALL (CENSUS 7)) 3
    -- a fixed page is met before its bad leaf, which is 12 alone; where the leaf is named it is 5
    ∷ stops bad_leaf (CALL (READ 7 0x50000 0 2 2 3)) 12
    ∷ stops bad_leaf (CALL (PUNFIX 0 0)) 12
    ∷ stops bad_leaf (CALL (CENSUS 7)) 12
    ∷ finds bad_leaf (CALL (PFIX 0 0x1000 0x2000)) 4
    ∷ finds bad_leaf (PAGE_CHECK 0 0 0x2000) 4
    ∷ []
