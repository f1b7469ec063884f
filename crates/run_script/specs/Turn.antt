-- What the program promises of a turn, and of all its turns, for whatever bytes were read.
use Rattle.std.specs.Prelude.{◌≡◌, Option, None, Result, Ok, Err, IfSome, List, [], ℕ, zero, suc, ◌≤◌, ◌<◌, length, take}
use Rattle.std.specs.declared.io.Error.{Error}
use Rattle.rules.specs.State.{State}
use Rattle.format.specs.Piece.{whole_lines, unfinished, Ending, Streamed}
use Rattle.format.specs.Text.{printed, after, room}

-- the text's bytes hold more than is kept of a line, and the output has room for what they print
pub record Roomy (text out : List ℕ) : Type 0 where
  pub more : 121 < length text
  pub enough : room text ≤ length out

-- how many bytes were read
abbrev pub count : Result ℕ Error → ℕ
count (Ok n) = n
count (Err e) = 0

-- What a turn does with a text, which is the line that was begun and what was read behind it: table and memory after it, the bytes that
-- it handed on to be written and those that the text's bytes are then. Of a piece the whole lines are run, and the unfinished one is kept,
-- at the start of the text's bytes, for the next turn, if one follows. At the end of the input, where no byte was read, all is run; where
-- the read failed nothing is; and both are the last turn.
unfoldable pub Turned : Result ℕ Error → Option ℕ → State → List ℕ → State → List ℕ → List ℕ → Type 0
Turned (Ok zero) next s text end handed left = (next ≡ None) × (end ≡ after s text) × (handed ≡ printed s text)
Turned (Ok (suc n)) next s text end handed left =
    (end ≡ after s (whole_lines text)) × (handed ≡ printed s (whole_lines text))
    × (take (length (unfinished text)) left ≡ unfinished text) × IfSome next (λ kept. kept ≡ length (unfinished text))
Turned (Err e) next s text end handed left = (next ≡ None) × (end ≡ s) × (handed ≡ [])

-- All turns: some text was read in pieces and run, from table and memory and a line that was begun to table and memory at the end.
pub record Ran (s : State) (begun : List ℕ) (end : State) : Type 0 where
  pub how : Ending
  pub pieces : List (List ℕ)
  pub bytes : List ℕ
  pub turns : Streamed how s begun pieces bytes end
