-- What a letter and numbers say, by the library's tests, which the tactics read; and a line that says nothing for how it begins.
-- Assumes nothing.
use mathlib.Core.Path.{◌≡◌, refl}
use mathlib.Core.Bool.{cond, ◌&&◌}
use mathlib.Core.List.{List}
use Prim.Native.Char.{code}
use Prim.Native.Nat.{ℕ}
use lib.Dec.{eqb}
use lib.ListN.{length, get_or}
use Rattle.std.proofs.lemmas.Bool.Decides.{nat_tests}
use Rattle.words.specs.Choice.{pick, ◌and◌}
use Rattle.rules.specs.Calls.{RMPUPDATE, PVALIDATE, PFIX, PMERGE, PUNMERGE, PUNFIX, READ, WRITE, CENSUS}
use Rattle.format.specs.Line.{says, wrong, is_call, asked}
use Rattle.format.proofs.LineLaws.{said_long}
use Rattle.format.proofs.SaidLaws.{said_few, said_no_space}

pub asked_is :
    (letter : ℕ) (numbers : List ℕ)
    → let n : ℕ → ℕ = λ i. get_or numbers i 0 in
    asked letter numbers
    ≡ cond (eqb (length numbers) 5 && eqb letter (code "U")) (says (RMPUPDATE (n 0) (n 1) (n 2) (n 3) (n 4)))
    (cond (eqb (length numbers) 4 && eqb letter (code "V")) (says (PVALIDATE (n 0) (n 1) (n 2) (n 3)))
    (cond (eqb (length numbers) 3 && eqb letter (code "F")) (says (PFIX (n 0) (n 1) (n 2)))
    (cond (eqb (length numbers) 3 && eqb letter (code "M")) (says (PMERGE (n 0) (n 1) (n 2)))
    (cond (eqb (length numbers) 4 && eqb letter (code "D")) (says (PUNMERGE (n 0) (n 1) (n 2) (n 3)))
    (cond (eqb (length numbers) 2 && eqb letter (code "X")) (says (PUNFIX (n 0) (n 1)))
    (cond (eqb (length numbers) 6 && eqb letter (code "R")) (says (READ (n 0) (n 1) (n 2) (n 3) (n 4) (n 5)))
    (cond (eqb (length numbers) 7 && eqb letter (code "W")) (says (WRITE (n 0) (n 1) (n 2) (n 3) (n 4) (n 5) (n 6)))
    (cond (eqb (length numbers) 1 && eqb letter (code "C")) (says (CENSUS (n 0)))
    wrong))))))))
unfolding asked is_call pick ◌and◌
asked_is letter numbers = refl

pub ruleset asked_tests = (asked_is, nat_tests)

-- what a line says that is too long or too short, or has no space behind its first byte
pub ruleset said_tests = (said_long, said_few, said_no_space)
