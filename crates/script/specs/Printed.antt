-- Demands 2 and 3 down to the bytes that `run` prints for a text, from an empty table and any memory.
use Rattle.std.specs.Prelude.{◌≡◌, List, map, ℕ, ◌≤◌, length, take}
use Rattle.rules.specs.History.{Made, history, NoCounterGoesBack}
use Rattle.rules.specs.State.{empty_table}
use Rattle.format.specs.Text.{said_by, calls, replies, printed, after, room}
use Rattle.numbers.specs.Buffer.{buffer, appended}

-- `out` has room enough. Then what `run` promises of it (`out` before and after, and the number that `run` answers)
-- says: the bytes printed are the replies to the text's lines, with the answers of the calls that the text says, as the rules make them;
-- and no counter goes back in those calls with those answers.
abbrev pub PrintedDemand3 : Type 0
PrintedDemand3 =
    (size : ℕ) (memory text before now : List ℕ) (count : ℕ)
    → let start = empty_table size memory in
    let made = history start (calls text) in
    room text ≤ length before
    → buffer now count ≡ appended (buffer before 0) (printed start text)
    → (take count now ≡ replies (said_by text) made)
    × ((map (λ (m : Made). m.call) made ≡ calls text) × NoCounterGoesBack made (after start text))
