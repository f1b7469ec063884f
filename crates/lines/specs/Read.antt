-- What the code reads, in the words of the format: a line, the line at a place of a text, and the lines that a reader has left.
use Rattle.std.specs.Prelude.{◌≡◌, List, ℕ, Option, Some, None, drop}
use Rattle.monitor.specs.Call.{called}
use Rattle.monitor.specs.declared.Call.{Call}
use Rattle.format.specs.Line.{Said, says, wrong, said}
use Rattle.format.specs.Place.{line_at, place_after}
use Rattle.format.specs.Text.{said_by}
use Rattle.lines.specs.declared.line.Line.{Line}
use Rattle.lines.specs.declared.reader.Reader.{Reader}

-- what a line says
abbrev pub meant : Option Call → Said
meant (Some call) = says (called call)
meant None = wrong

-- what is read at a place of a text: what the line there says, and the place after it
abbrev pub IsLineAt : List ℕ → ℕ → Line → Type 0
IsLineAt text at line = (meant line.said ≡ said (line_at text at)) × (line.next ≡ place_after text at)

-- what the lines say that a reader has still to read
abbrev pub left : Reader → List Said
left reader = said_by (drop reader.at reader.text.now)
