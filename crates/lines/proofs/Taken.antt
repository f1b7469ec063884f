-- Fields taken one by one: what `split` gives are the fields of the format, and those that are left are the next one and the rest.
-- Assumes nothing.
use mathlib.Core.Path.{◌≡◌, refl, sym, ap, ◌∙◌}
use mathlib.Core.Bool.{Bool, true, false}
use mathlib.Core.List.{List, [], ◌∷◌}
use Prim.Native.Char.{code}
use Prim.Native.Nat.{ℕ, suc, ◌+◌, ◌<◌}
use lib.Dec.{eqb}
use lib.ListN.{length, drop, get_or}
use lib.Seq.{drop-cons}
use native.Mathlib.Numerals.{add-one}
use Rattle.std.specs.Prelude.{Some, None, Result, Ok, Err, OnOk, OnErr}
use Rattle.std.specs.List.{slice_split, onto_first}
use Rattle.std.specs.Result.{result_ok}
use Rattle.words.specs.Choice.{pick}
use Rattle.format.specs.Number.{is_number, value}
use Rattle.format.specs.Line.{longer, fields}
use Rattle.numbers.specs.Numeral.{number_of}

longer_is : (byte : ℕ) (parts : List (List ℕ)) → longer byte parts ≡ onto_first byte parts
unfolding longer
longer_is byte [] = refl
longer_is byte (first ∷ others) = refl

pub fields_are : (rest : List ℕ) → fields rest ≡ slice_split (λ b. eqb b (code " ")) rest
unfolding fields pick
fields_are [] = refl
fields_are (byte ∷ rest) = rw (longer_is byte (fields rest), fields_are rest)

-- the field at a place, and those after it
pub field_at :
    (all : List (List ℕ)) (n : ℕ) (field : List ℕ) → (n < length all) × (field ≡ get_or all n field)
    → drop n all ≡ field ∷ drop (n + 1) all
field_at all n field h =
    rw add-one (drop-cons all n field h.0 ∙ ap (λ f. f ∷ drop (suc n) all) (sym h.1))

-- what the code's number tells of its field: whether it is a number, and its value
told : (t : Bool) (n m : ℕ) → pick t (Some n) None ≡ Some m → (t ≡ true) × (n ≡ m)
unfolding pick
told true n m e = (refl, cc)
told false n m e = (cc, cc)

untold : (t : Bool) (n : ℕ) → pick t (Some n) None ≡ None → t ≡ false
unfolding pick
untold true n e = cc
untold false n e = refl

pub number_told : (field : List ℕ) (n : ℕ) → number_of field ≡ Some n → (is_number field ≡ true) × (value field ≡ n)
unfolding number_of
number_told field n e = told (is_number field) (value field) n e

pub no_number_told : (field : List ℕ) → number_of field ≡ None → is_number field ≡ false
unfolding number_of
no_number_told field e = untold (is_number field) (value field) e

-- what a push did that went through, and one that did not
pub pushed : {E P : Type 0} (r : Result (Unit {0}) E) (u : Unit {0}) → result_ok r ≡ Some u → OnOk r P → P
pushed (Ok x) u e h = h
pushed (Err x) u e h = cc

pub not_pushed : {E P : Type 0} (r : Result (Unit {0}) E) → result_ok r ≡ None → OnErr r P → P
not_pushed (Ok x) e h = cc
not_pushed (Err x) e h = h
