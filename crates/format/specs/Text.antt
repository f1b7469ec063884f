-- 01, "The script program": what a whole text says, and what is printed for it.
use Rattle.std.specs.Prelude.{◌≡◌, List, [], ◌∷◌, ◌++◌, map, ℕ, ◌*◌, ◌≤◌, eqb, length}
use Rattle.words.specs.Choice.{pick}
use Rattle.rules.specs.Calls.{Call}
use Rattle.rules.specs.History.{Made, history, finally, NoCounterGoesBack}
use Rattle.rules.specs.State.{State, empty_table}
use Rattle.format.specs.Line.{Said, says, wrong, longer, said}
use Rattle.format.specs.Reply.{reply, wrong_reply}

-- the line feed
abbrev pub LF : ℕ
LF = 10

-- a line ends "without its line feed, which the last may lack": only a line feed parts lines, and an empty rest after the last is no line
unfoldable pub lines : List ℕ → List (List ℕ)
lines [] = []
lines (byte ∷ rest) = pick (eqb byte LF) ([] ∷ lines rest) (longer byte (lines rest))

unfoldable pub said_by : List ℕ → List Said
said_by text = map said (lines text)

-- the calls that lines say, in their order; a wrong line says none
unfoldable pub calls_of : List Said → List Call
calls_of [] = []
calls_of (says call ∷ rest) = call ∷ calls_of rest
calls_of (wrong ∷ rest) = calls_of rest

-- "prints one line a call": the replies to lines, with the calls that they say as they were made (there are as many)
unfoldable pub replies : List Said → List Made → List ℕ
replies [] made = []
replies (wrong ∷ rest) made = wrong_reply ++ replies rest made
replies (says call ∷ rest) [] = []
replies (says call ∷ rest) (m ∷ made) = reply m.call m.told ++ replies rest made

-- the calls of a text; what is printed for it; and table and memory after it
unfoldable pub calls : List ℕ → List Call
calls text = calls_of (said_by text)

unfoldable pub printed : State → List ℕ → List ℕ
printed s text = replies (said_by text) (history s (calls text))

unfoldable pub after : State → List ℕ → State
after s text = finally s (calls text)

-- demand 3 of every text, from an empty table and any memory: of the calls that the text says, in its order, with the answers that are
-- printed for it
abbrev pub TextDemand3 : Type 0
TextDemand3 =
    (size : ℕ) (memory text : List ℕ)
    → let start = empty_table size memory in
    let made = history start (calls text) in
    (map (λ (m : Made). m.call) made ≡ calls text)
    × ((printed start text ≡ replies (said_by text) made) × NoCounterGoesBack made (after start text))

-- how much room is enough for what is printed for a text, whatever table and memory are
abbrev pub room : List ℕ → ℕ
room text = 54 * length text

abbrev pub RoomEnough : Type 0
RoomEnough = (s : State) (text : List ℕ) → length (printed s text) ≤ room text
