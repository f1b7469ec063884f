-- Of a line without its line feed, 121 bytes tell as much as all: any two beginnings that are too long for a line are wrong, whatever
-- follows them, and what follows the line is the same.
-- Assumes nothing.
use mathlib.Core.Path.{◌≡◌}
use mathlib.Core.List.{List, [], ◌∷◌, ◌++◌, map}
use mathlib.Core.Logic.{⊎_elim}
use Prim.Native.Nat.{ℕ, ◌<◌}
use native.Mathlib.Omega.{arith}
use lib.ListN.{length, take, length-append}
use lib.Seq.{length-take-le, take_all}
use Rattle.words.proofs.ChoiceLaws.{lt_or_le}
use Rattle.format.specs.Line.{said}
use Rattle.format.specs.Text.{LF, lines, said_by}
use Rattle.format.proofs.LineLaws.{said_long}
use Rattle.format.proofs.Lines.{ahead, lines_ahead}
use Rattle.format.proofs.Without.{Without, without_take}

long_ahead :
    (a b : List ℕ) (after : List (List ℕ)) → 120 < length a → 120 < length b → map said (ahead a after) ≡ map said (ahead b after)
unfolding ahead
long_ahead a b [] h k = rw (said_long a h, said_long b k)
long_ahead a b (first ∷ others) h k =
    rw (said_long (a ++ first) (rw length-append (omega arith)), said_long (b ++ first) (rw length-append (omega arith)))

long_cut :
    (begun rest : List ℕ) → Without LF begun → 121 < length begun → said_by (take 121 begun ++ rest) ≡ said_by (begun ++ rest)
unfolding said_by
long_cut begun rest none long =
    let cut = length-take-le 121 begun (omega arith) in
    rw (lines_ahead (take 121 begun) rest (omega arith) (without_take LF 121 begun none), lines_ahead begun rest (omega arith) none)
    (long_ahead (take 121 begun) begun (lines rest) (omega arith) (omega arith))

pub said_cut : (begun rest : List ℕ) → Without LF begun → said_by (take 121 begun ++ rest) ≡ said_by (begun ++ rest)
said_cut begun rest none =
    ⊎_elim (long_cut begun rest none) (λ h. rw (take_all 121 begun h)) (lt_or_le 121 (length begun))
