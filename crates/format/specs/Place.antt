-- The line at a place of a text. (01, "The script program": "The script reader keeps the text and its place in it together.")
use Rattle.std.specs.Prelude.{List, [], ◌∷◌, ℕ, suc, ◌+◌, eqb, ltb, length, drop}
use Rattle.words.specs.Choice.{pick}
use Rattle.format.specs.Text.{LF}

-- the bytes before the first `mark`, or all
unfoldable pub up_to : ℕ → List ℕ → List ℕ
up_to mark [] = []
up_to mark (byte ∷ rest) = pick (eqb byte mark) [] (byte ∷ up_to mark rest)

-- the line at a place of a text, and the place after it and its line feed
unfoldable pub line_at : List ℕ → ℕ → List ℕ
line_at text at = up_to LF (drop at text)

unfoldable pub place_after : List ℕ → ℕ → ℕ
place_after text at =
    let end = at + length (line_at text at) in
    pick (ltb end (length text)) (suc end) end
