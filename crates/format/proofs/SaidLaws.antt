-- What a line says, by its length and its first two bytes: one letter, then a space, then the fields of the rest; any other beginning is
-- wrong.
-- Assumes nothing.
use mathlib.Core.Path.{◌≡◌, refl, ◌∙◌}
use mathlib.Core.Bool.{false}
use mathlib.Core.List.{List, [], ◌∷◌}
use mathlib.Core.Logic.{◌≢◌, ⊎_elim}
use Prim.Native.Char.{code}
use Prim.Native.Nat.{ℕ, ◌≤◌, ◌<◌}
use native.Mathlib.Omega.{arith}
use lib.Dec.{eqb}
use lib.ListN.{length, get_or, drop}
use Rattle.words.specs.Choice.{pick, ◌and◌}
use Rattle.words.proofs.ChoiceLaws.{same_or_not, pick_same, and_not}
use Rattle.format.specs.Line.{wrong, longer, is_call, asked, are_numbers, asks, begun, spoken, fields, said}
use Rattle.format.proofs.Fields.{fields_byte, fields_space, fields_one}
use Rattle.format.proofs.LineLaws.{said_short}

-- no call has no numbers, and none has a space for its letter
asked_none : (letter : ℕ) → asked letter [] ≡ wrong
unfolding asked is_call pick ◌and◌
asked_none letter = refl

asked_space : (numbers : List ℕ) → asked (code " ") numbers ≡ wrong
unfolding asked is_call pick
asked_space numbers =
    rw (
      and_not (eqb (length numbers) 5) false refl,
      and_not (eqb (length numbers) 4) false refl,
      and_not (eqb (length numbers) 3) false refl,
      and_not (eqb (length numbers) 2) false refl,
      and_not (eqb (length numbers) 6) false refl,
      and_not (eqb (length numbers) 7) false refl,
      and_not (eqb (length numbers) 1) false refl,
    )

asks_space : (others : List (List ℕ)) → asks (code " ") others ≡ wrong
unfolding asks
asks_space others = rw (asked_space, pick_same)

-- ---- a first field that is not one letter
spoken_space : (byte : ℕ) (rest : List ℕ) → byte ≡ code " " → spoken (fields (byte ∷ rest)) ≡ wrong
unfolding spoken begun
spoken_space byte rest e = rw (e, fields_space rest)

begun_two : (letter byte : ℕ) (parts : List (List ℕ)) → spoken (longer letter (longer byte parts)) ≡ wrong
unfolding spoken begun longer
begun_two letter byte [] = refl
begun_two letter byte (first ∷ others) = refl

spoken_two :
    (letter byte : ℕ) (rest : List ℕ) → letter ≢ code " " → byte ≢ code " "
    → spoken (fields (letter ∷ byte ∷ rest)) ≡ wrong
spoken_two letter byte rest e f = rw (fields_byte letter (byte ∷ rest) e, fields_byte byte rest f) (begun_two letter byte (fields rest))

spoken_one : (letter : ℕ) → letter ≢ code " " → spoken (fields (letter ∷ [])) ≡ wrong
unfolding spoken begun longer asks are_numbers
spoken_one letter e = rw (fields_byte letter [] e, fields_one [] (omega arith), asked_none, pick_same)

pub said_few : (line : List ℕ) → length line < 2 → said line ≡ wrong
unfolding spoken begun fields
said_few [] h = said_short [] (omega arith)
said_few (letter ∷ []) h =
    said_short (letter ∷ []) (omega arith)
    ∙ ⊎_elim (spoken_space letter []) (spoken_one letter) (same_or_not letter (code " "))
said_few (letter ∷ byte ∷ rest) h = absurd (omega arith)

pub said_no_space : (line : List ℕ) → length line ≤ 120 → 2 ≤ length line → get_or line 1 0 ≢ code " " → said line ≡ wrong
said_no_space [] h l n = absurd (omega arith)
said_no_space (letter ∷ []) h l n = absurd (omega arith)
said_no_space (letter ∷ byte ∷ rest) h l n =
    said_short (letter ∷ byte ∷ rest) h
    ∙ ⊎_elim
    (spoken_space letter (byte ∷ rest))
    (λ e. spoken_two letter byte rest e n)
    (same_or_not letter (code " "))

-- ---- a letter and a space
begun_one : (letter : ℕ) (others : List (List ℕ)) → spoken (longer letter ([] ∷ others)) ≡ asks letter others
unfolding spoken begun longer
begun_one letter others = refl

pub said_asks :
    (line : List ℕ) → length line ≤ 120 → 2 ≤ length line → get_or line 1 0 ≡ code " "
    → said line ≡ asks (get_or line 0 0) (fields (drop 2 line))
said_asks [] h l e = absurd (omega arith)
said_asks (letter ∷ []) h l e = absurd (omega arith)
said_asks (letter ∷ byte ∷ rest) h l e =
    said_short (letter ∷ byte ∷ rest) h
    ∙ ⊎_elim
    (λ f. rw (spoken_space letter (byte ∷ rest) f, f, asks_space))
    (λ f. rw (e, fields_byte letter (code " " ∷ rest) f, fields_space rest) (begun_one letter (fields rest)))
    (same_or_not letter (code " "))
