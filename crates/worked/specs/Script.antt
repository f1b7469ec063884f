-- 01, "The script program": the worked script, as calls, and its worked output, as answers, both in the paper's order; and what each of
-- the calls was to a guest, as demand 3 counts it.
use Rattle.std.specs.Prelude.{List, [], ◌∷◌, replicate}
use Rattle.rules.specs.Answers.{Told, refused, done, none, closed, opened, unfixed, word, count}
use Rattle.rules.specs.Calls.{Call, RMPUPDATE, PVALIDATE, PFIX, PMERGE, PUNMERGE, PUNFIX, READ, WRITE, CENSUS}
use Rattle.rules.specs.History.{Event, opens, closes, reads, writes, no_event}
use Rattle.rules.specs.Refusals.{alone}
use Rattle.rules.specs.State.{State, empty_table}

-- "an empty table with N = 8, M = 10 and zeroed memory"
unfoldable pub start : State
start = empty_table 16 (replicate 5120 0)

unfoldable pub script : List Call
script =
    RMPUPDATE 0x0 0x1000 0x50000 0x7 0x2
    ∷ PVALIDATE 0x7 0x50000 0x1000 0x2
    ∷ WRITE 0x7 0x50000 0x1000 0x2 0x2 0x3 0x2a
    ∷ RMPUPDATE 0x0 0x2000 0x60000 0x9 0x2
    ∷ PVALIDATE 0x9 0x60000 0x2000 0x2
    ∷ WRITE 0x9 0x60000 0x2000 0x2 0x2 0x3 0x2a
    ∷ RMPUPDATE 0x0 0x3000 0x0 0x0 0x3
    ∷ PFIX 0x0 0x1000 0x3000
    ∷ PMERGE 0x0 0x1000 0x2000
    ∷ READ 0x9 0x60000 0x1000 0x2 0x2 0x3
    ∷ READ 0x9 0x60000 0x2000 0x2 0x2 0x3
    ∷ WRITE 0x7 0x50000 0x1000 0x2 0x2 0x3 0x2b
    ∷ PUNFIX 0x0 0x1000
    ∷ PUNMERGE 0x0 0x1000 0x4000 0x9
    ∷ PUNFIX 0x0 0x1000
    ∷ WRITE 0x7 0x50000 0x1000 0x2 0x2 0x3 0x2b
    ∷ READ 0x9 0x60000 0x4000 0x2 0x2 0x3
    ∷ CENSUS 0x9
    ∷ RMPUPDATE 0x0 0x1000 0x50000 0x7 0x2
    ∷ READ 0x7 0x50000 0x1000 0x2 0x2 0x3
    ∷ []

-- 02, Q-3: "the worked `X ok` becomes `X ok 7`"
unfoldable pub output : List Told
output =
    none
    ∷ opened
    ∷ done
    ∷ none
    ∷ opened
    ∷ done
    ∷ none
    ∷ done
    ∷ done
    ∷ word 0x2a
    ∷ refused (alone 6)
    ∷ refused (alone 10)
    ∷ refused (alone 17)
    ∷ done
    ∷ unfixed 0x7
    ∷ done
    ∷ word 0x2a
    ∷ count 0x1
    ∷ closed 0x7 0x50000
    ∷ refused (alone 9)
    ∷ []

-- openings, closings, and accepted private or mergeable reads and writes: guests, addresses, frame or word index, and value
unfoldable pub events : List Event
events =
    no_event
    ∷ opens 0x7 0x50000 0x1
    ∷ writes 0x7 0x50000 0x3 0x2a
    ∷ no_event
    ∷ opens 0x9 0x60000 0x2
    ∷ writes 0x9 0x60000 0x3 0x2a
    ∷ no_event
    ∷ no_event
    ∷ no_event
    ∷ reads 0x9 0x60000 0x3
    ∷ no_event
    ∷ no_event
    ∷ no_event
    ∷ no_event
    ∷ no_event
    ∷ writes 0x7 0x50000 0x3 0x2b
    ∷ reads 0x9 0x60000 0x3
    ∷ no_event
    ∷ closes 0x7 0x50000
    ∷ no_event
    ∷ []
