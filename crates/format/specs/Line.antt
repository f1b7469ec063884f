-- 01, "The script program": "A line is a letter and its numbers, single spaces between, each number 1 to 16 lower-case hex digits; the
-- line is at most 120 bytes without its line feed".
use Rattle.std.specs.Prelude.{Bool, true, List, [], ◌∷◌, map, ℕ, leb, eqb, length, get_or}
use Prim.Native.Char.{Char, code}
use Rattle.words.specs.Choice.{pick, ◌and◌}
use Rattle.rules.specs.Calls.{Call, RMPUPDATE, PVALIDATE, PFIX, PMERGE, PUNMERGE, PUNFIX, READ, WRITE, CENSUS}
use Rattle.format.specs.Number.{is_number, value}

-- what a line says: a call, or nothing
pub data Said : Type 0 where
  says : Call → Said
  wrong : Said

-- a list of parts with a byte more in front of the first
unfoldable pub longer : ℕ → List (List ℕ) → List (List ℕ)
longer byte [] = (byte ∷ []) ∷ []
longer byte (first ∷ others) = (byte ∷ first) ∷ others

-- "single spaces between": each space parts two fields, and two spaces part an empty one from others
unfoldable pub fields : List ℕ → List (List ℕ)
fields [] = [] ∷ []
fields (byte ∷ rest) = pick (eqb byte (code " ")) ([] ∷ fields rest) (longer byte (fields rest))

-- whether so many numbers stand after the letter, and it is this one
unfoldable pub is_call : List ℕ → ℕ → ℕ → Char → Bool
is_call numbers count letter name = eqb (length numbers) count and eqb letter (code name)

-- "U, V, F, M, D, X, R, W are the eight calls above in that order (READ R, WRITE W), caller first, then the arguments as listed; C has
-- asid only."
unfoldable pub asked : ℕ → List ℕ → Said
asked letter numbers =
    let n : ℕ → ℕ = λ i. get_or numbers i 0 in
    pick (is_call numbers 5 letter "U") (says (RMPUPDATE (n 0) (n 1) (n 2) (n 3) (n 4)))
    (pick (is_call numbers 4 letter "V") (says (PVALIDATE (n 0) (n 1) (n 2) (n 3)))
    (pick (is_call numbers 3 letter "F") (says (PFIX (n 0) (n 1) (n 2)))
    (pick (is_call numbers 3 letter "M") (says (PMERGE (n 0) (n 1) (n 2)))
    (pick (is_call numbers 4 letter "D") (says (PUNMERGE (n 0) (n 1) (n 2) (n 3)))
    (pick (is_call numbers 2 letter "X") (says (PUNFIX (n 0) (n 1)))
    (pick (is_call numbers 6 letter "R") (says (READ (n 0) (n 1) (n 2) (n 3) (n 4) (n 5)))
    (pick (is_call numbers 7 letter "W") (says (WRITE (n 0) (n 1) (n 2) (n 3) (n 4) (n 5) (n 6)))
    (pick (is_call numbers 1 letter "C") (says (CENSUS (n 0)))
    wrong))))))))

unfoldable pub are_numbers : List (List ℕ) → Bool
are_numbers [] = true
are_numbers (field ∷ rest) = is_number field and are_numbers rest

-- a letter, and the fields after it
unfoldable pub asks : ℕ → List (List ℕ) → Said
asks letter others = pick (are_numbers others) (asked letter (map value others)) wrong

-- "a letter and its numbers": the first field is one byte
unfoldable pub begun : List ℕ → List (List ℕ) → Said
begun [] others = wrong
begun (letter ∷ []) others = asks letter others
begun (letter ∷ (byte ∷ rest)) others = wrong

-- (there is always a first field)
unfoldable pub spoken : List (List ℕ) → Said
spoken [] = wrong
spoken (first ∷ others) = begun first others

unfoldable pub said : List ℕ → Said
said line = pick (leb (length line) 120) (spoken (fields line)) wrong
