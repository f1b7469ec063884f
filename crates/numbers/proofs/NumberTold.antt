-- A byte as a digit and a field as a number: what is told by that it has a value, or none, and when a field has one.
-- Assumes nothing.
use mathlib.Core.Path.{◌≡◌, refl}
use mathlib.Core.Bool.{Bool, true, false}
use mathlib.Core.List.{List}
use Prim.Native.Nat.{ℕ}
use lib.Dec.{ltb}
use Rattle.std.specs.Prelude.{Some, None}
use Rattle.words.specs.Choice.{pick}
use Rattle.words.proofs.ChoiceLaws.{pick_true, pick_false}
use Rattle.format.specs.Number.{digit_value, is_number, value}
use Rattle.numbers.specs.Numeral.{digit_of, number_of}

by_some : (t : Bool) (n m : ℕ) → pick t (Some n) None ≡ Some m → (t ≡ true) × (n ≡ m)
unfolding pick
by_some true n m e = (refl, cc)
by_some false n m e = (cc, cc)

by_none : (t : Bool) (n : ℕ) → pick t (Some n) None ≡ None → t ≡ false
unfolding pick
by_none true n e = cc
by_none false n e = refl

module _ (byte : ℕ) where
  pub digit_told : (d : ℕ) → digit_of byte ≡ Some d → (ltb (digit_value byte) 16 ≡ true) × (digit_value byte ≡ d)
  unfolding digit_of
  digit_told d e = by_some (ltb (digit_value byte) 16) (digit_value byte) d e

  pub no_digit_told : digit_of byte ≡ None → ltb (digit_value byte) 16 ≡ false
  unfolding digit_of
  no_digit_told e = by_none (ltb (digit_value byte) 16) (digit_value byte) e

module _ (field : List ℕ) where
  pub a_number : (n : ℕ) → is_number field ≡ true → value field ≡ n → Some n ≡ number_of field
  unfolding number_of
  a_number n t e = rw (pick_true (Some (value field)) None t, e)

  pub no_number : is_number field ≡ false → None ≡ number_of field
  unfolding number_of
  no_number t = rw (pick_false (Some (value field)) None t)

  pub number_told : (n : ℕ) → number_of field ≡ Some n → (is_number field ≡ true) × (value field ≡ n)
  unfolding number_of
  number_told n e = by_some (is_number field) (value field) n e

  pub no_number_told : number_of field ≡ None → is_number field ≡ false
  unfolding number_of
  no_number_told e = by_none (is_number field) (value field) e
