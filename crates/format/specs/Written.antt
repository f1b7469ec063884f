-- A call as a line, and the claim that the line says the call.
use Rattle.std.specs.Prelude.{◌≡◌, List, [], ◌∷◌, ◌++◌, ℕ}
use Prim.Native.Char.{code}
use Rattle.rules.specs.Calls.{Call, RMPUPDATE, PVALIDATE, PFIX, PMERGE, PUNMERGE, PUNFIX, READ, WRITE, CENSUS}
use Rattle.rules.specs.Words.{numbers, AreWords}
use Rattle.format.specs.Number.{hex}
use Rattle.format.specs.Line.{says, said}

-- 01, "The script program": "U, V, F, M, D, X, R, W are the eight calls above in that order (READ R, WRITE W) .. C"
unfoldable pub letter : Call → ℕ
letter (RMPUPDATE caller hpa gpa asid kind) = code "U"
letter (PVALIDATE caller gpa hpa kind) = code "V"
letter (PFIX caller hpa leaf) = code "F"
letter (PMERGE caller hpa1 hpa2) = code "M"
letter (PUNMERGE caller hpa1 hpa2 asid) = code "D"
letter (PUNFIX caller hpa) = code "X"
letter (READ caller gpa hpa gtype ntype index) = code "R"
letter (WRITE caller gpa hpa gtype ntype index value) = code "W"
letter (CENSUS asid) = code "C"

-- numbers, each with a space before it
unfoldable pub spaced : List ℕ → List ℕ
spaced [] = []
spaced (n ∷ rest) = code " " ∷ (hex n ++ spaced rest)

-- "caller first, then the arguments as listed; C has asid only"
unfoldable pub written : Call → List ℕ
written call = letter call ∷ spaced (numbers call)

-- reading what is written for a call gives the call
abbrev pub RoundTrip : Type 0
RoundTrip = (call : Call) → AreWords (numbers call) → said (written call) ≡ says call
