-- A text that comes in pieces: each piece follows the line that the one before it left unfinished.
use Rattle.std.specs.Prelude.{◌≡◌, List, [], ◌∷◌, ◌++◌, map, ℕ, zero, suc, eqb, length, get_or, take, drop}
use Rattle.words.specs.Choice.{pick}
use Rattle.rules.specs.History.{Made, history, NoCounterGoesBack}
use Rattle.rules.specs.State.{State, empty_table}
use Rattle.format.specs.Text.{LF, said_by, calls, replies, printed, after}

-- the place after the last line feed among the first `count` bytes, or 0
unfoldable pub cut : List ℕ → ℕ → ℕ
cut text zero = 0
cut text (suc count) = pick (eqb (get_or text count 0) LF) (suc count) (cut text count)

unfoldable pub whole_lines : List ℕ → List ℕ
whole_lines text = take (cut text (length text)) text

-- of an unfinished line 121 bytes tell that it is too long
unfoldable pub unfinished : List ℕ → List ℕ
unfinished text = take 121 (drop (cut text (length text)) text)

-- how the reading of a text ends: at the end of the input, or before it, where no more can be read or answered
pub data Ending : Type 0 where
  complete : Ending
  broken_off : Ending

-- A run of a text in pieces: from table and memory, and a line that was begun, the pieces that are still to come, the bytes that are
-- printed for them, and table and memory after the last.
pub data Streamed : Ending → State → List ℕ → List (List ℕ) → List ℕ → State → Type 0 where
  -- the input has ended: what was begun is the last line
  ended : {s : State} {begun : List ℕ} → Streamed complete s begun [] (printed s begun) (after s begun)
  -- it has not: what was begun may not be a whole line, and is not run
  stopped : {s : State} {begun : List ℕ} → Streamed broken_off s begun [] [] s
  -- a piece behind what was begun: the whole lines are run, and the unfinished one is begun
  fed :
      {how : Ending} {s end : State} {begun piece bytes : List ℕ} {pieces : List (List ℕ)}
      → Streamed how (after s (whole_lines (begun ++ piece))) (unfinished (begun ++ piece)) pieces bytes end
      → Streamed how s begun (piece ∷ pieces) (printed s (whole_lines (begun ++ piece)) ++ bytes) end

unfoldable pub joined : List (List ℕ) → List ℕ
joined [] = []
joined (piece ∷ rest) = piece ++ joined rest

-- what is run of a text that was read so: all of it, or its whole lines
unfoldable pub ran_of : Ending → List ℕ → List ℕ
ran_of complete text = text
ran_of broken_off text = whole_lines text

-- however a text is cut into pieces, what is printed and what is left are those of the text
abbrev pub StreamPrints : Type 0
StreamPrints =
    (how : Ending) (s end : State) (pieces : List (List ℕ)) (bytes : List ℕ) → Streamed how s [] pieces bytes end
    → (bytes ≡ printed s (ran_of how (joined pieces))) × (end ≡ after s (ran_of how (joined pieces)))

-- and so demand 3 of every run of a text in pieces, from an empty table and any memory, with the answers that are printed
abbrev pub StreamDemand3 : Type 0
StreamDemand3 =
    (how : Ending) (size : ℕ) (memory : List ℕ) (end : State) (pieces : List (List ℕ)) (bytes : List ℕ)
    → let start = empty_table size memory in
    let text = ran_of how (joined pieces) in
    let made = history start (calls text) in
    Streamed how start [] pieces bytes end
    → (bytes ≡ replies (said_by text) made)
    × ((map (λ (m : Made). m.call) made ≡ calls text) × NoCounterGoesBack made end)
