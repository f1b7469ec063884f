-- What the lines say that begin at a place of a text: the line there, and those after it; and past the end, nothing.
-- Assumes nothing.
use mathlib.Core.Path.{◌≡◌}
use mathlib.Core.List.{List, [], ◌∷◌}
use Prim.Native.Nat.{ℕ, ◌≤◌, ◌<◌}
use lib.ListN.{length, drop, drop_of_length-le}
use Rattle.format.specs.Line.{said}
use Rattle.format.specs.Place.{line_at, place_after}
use Rattle.format.specs.Text.{lines, said_by}
use Rattle.format.proofs.PlaceLaws.{lines_at}

pub said_by_at :
    (text : List ℕ) (at : ℕ) → at < length text
    → said_by (drop at text) ≡ said (line_at text at) ∷ said_by (drop (place_after text at) text)
unfolding said_by
said_by_at text at h = rw (lines_at text at h)

pub said_by_past : (text : List ℕ) (at : ℕ) → length text ≤ at → said_by (drop at text) ≡ []
unfolding said_by lines
said_by_past text at h = rw (drop_of_length-le text h)

pub ruleset lines_left = (said_by_at, said_by_past)
