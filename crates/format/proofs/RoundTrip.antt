-- The line that a call is written as says the call: it is short enough, its fields are the letter and the hex digits of the numbers, and
-- those are read back.
-- Assumes nothing.
use mathlib.Core.Path.{◌≡◌, refl}
use mathlib.Core.Bool.{true}
use mathlib.Core.List.{List, [], ◌∷◌, map}
use mathlib.Core.Logic.{◌≢◌}
use Prim.Native.Char.{code}
use Prim.Native.Nat.{ℕ, ◌*◌, ◌≤◌}
use native.Mathlib.Omega.{arith}
use lib.ListN.{length, length-append}
use Rattle.words.specs.Choice.{pick, ◌and◌}
use Rattle.words.proofs.ChoiceLaws.{pick_true}
use Rattle.rules.specs.Calls.{RMPUPDATE, PVALIDATE, PFIX, PMERGE, PUNMERGE, PUNFIX, READ, WRITE, CENSUS}
use Rattle.rules.specs.Words.{numbers, AreWords}
use Rattle.format.specs.Line.{is_call, asked, are_numbers, asks, begun, spoken, said}
use Rattle.format.specs.Number.{value, hex}
use Rattle.format.specs.Written.{letter, spaced, written, RoundTrip}
use Rattle.format.proofs.Fields.{fields_spaced}
use Rattle.format.proofs.LineLaws.{said_short}
use Rattle.format.proofs.NumberLaws.{hex_value, hex_short, hex_number}

-- ---- numbers of 64 bits, each after a space
pub length_spaced : (ns : List ℕ) → AreWords ns → length (spaced ns) ≤ 17 * length ns
unfolding spaced
length_spaced [] words = omega arith
length_spaced (n ∷ ns) words =
    rw length-append (omega (arith, hex_short n words.0, length_spaced ns words.1))

all_numbers : (ns : List ℕ) → AreWords ns → are_numbers (map hex ns) ≡ true
unfolding are_numbers ◌and◌
all_numbers [] words = refl
all_numbers (n ∷ ns) words = rw (hex_number n words.0, all_numbers ns words.1)

all_values : (ns : List ℕ) → AreWords ns → map value (map hex ns) ≡ ns
all_values [] words = refl
all_values (n ∷ ns) words = rw (hex_value n words.0, all_values ns words.1)

-- ---- a letter and up to seven numbers
pub said_spaced :
    (name : ℕ) (ns : List ℕ) → name ≢ code " " → length ns ≤ 7 → AreWords ns → said (name ∷ spaced ns) ≡ asked name ns
unfolding spoken begun asks
said_spaced name ns apart few words =
    rw (said_short (name ∷ spaced ns) (omega (arith, length_spaced ns words)), fields_spaced (name ∷ []) ns (apart, tt))
    (rw (all_values ns words) (pick_true _ _ (all_numbers ns words)))

pub round_trip : RoundTrip
unfolding written letter numbers asked is_call pick ◌and◌
round_trip (RMPUPDATE caller hpa gpa asid kind) words = said_spaced (code "U") _ (omega arith) (omega arith) words
round_trip (PVALIDATE caller gpa hpa kind) words = said_spaced (code "V") _ (omega arith) (omega arith) words
round_trip (PFIX caller hpa leaf) words = said_spaced (code "F") _ (omega arith) (omega arith) words
round_trip (PMERGE caller hpa1 hpa2) words = said_spaced (code "M") _ (omega arith) (omega arith) words
round_trip (PUNMERGE caller hpa1 hpa2 asid) words = said_spaced (code "D") _ (omega arith) (omega arith) words
round_trip (PUNFIX caller hpa) words = said_spaced (code "X") _ (omega arith) (omega arith) words
round_trip (READ caller gpa hpa gtype ntype index) words = said_spaced (code "R") _ (omega arith) (omega arith) words
round_trip (WRITE caller gpa hpa gtype ntype index value) words = said_spaced (code "W") _ (omega arith) (omega arith) words
round_trip (CENSUS asid) words = said_spaced (code "C") _ (omega arith) (omega arith) words
