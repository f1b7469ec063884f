-- What a line says by its length: one of at most 120 bytes what its fields say, and a longer one nothing.
-- Assumes nothing.
use mathlib.Core.Path.{◌≡◌}
use mathlib.Core.List.{List}
use Prim.Native.Nat.{ℕ, ◌≤◌, ◌<◌}
use lib.ListN.{length}
use borrow.Author.Tests.{le-leb, lt-leb}
use Rattle.words.proofs.ChoiceLaws.{pick_true, pick_false}
use Rattle.format.specs.Line.{wrong, fields, spoken, said}

pub said_short : (line : List ℕ) → length line ≤ 120 → said line ≡ spoken (fields line)
unfolding said
said_short line short = pick_true _ _ (le-leb _ _ short)

pub said_long : (line : List ℕ) → 120 < length line → said line ≡ wrong
unfolding said
said_long line long = pick_false _ _ (lt-leb _ _ long)
