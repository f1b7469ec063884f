-- The fields of a line taken one by one, beside the numbers that were taken before them: a field that is a number joins those, any other
-- field makes the line wrong, and so does an eighth number.
-- Assumes nothing.
use mathlib.Core.Path.{◌≡◌, refl, ap}
use mathlib.Core.Bool.{true, false}
use mathlib.Core.List.{List, [], ◌∷◌, ◌++◌, map, append-nil}
use Prim.Native.Nat.{ℕ, ◌≤◌}
use native.Mathlib.Omega.{arith}
use lib.ListN.{length, length-append}
use lib.Seq.{append_snoc}
use borrow.Author.Tests.{ne_eqb}
use Rattle.words.specs.Choice.{pick, ◌and◌}
use Rattle.words.proofs.ChoiceLaws.{pick_same}
use Rattle.format.specs.Number.{is_number, value}
use Rattle.format.specs.Line.{Said, wrong, is_call, are_numbers, asked, asks}

-- no call has eight numbers or more
asked_more : (letter : ℕ) (numbers : List ℕ) → 8 ≤ length numbers → asked letter numbers ≡ wrong
unfolding asked is_call pick ◌and◌
asked_more letter numbers h =
    rw (
      ne_eqb (length numbers) 5 (λ e. omega arith),
      ne_eqb (length numbers) 4 (λ e. omega arith),
      ne_eqb (length numbers) 3 (λ e. omega arith),
      ne_eqb (length numbers) 2 (λ e. omega arith),
      ne_eqb (length numbers) 6 (λ e. omega arith),
      ne_eqb (length numbers) 7 (λ e. omega arith),
      ne_eqb (length numbers) 1 (λ e. omega arith),
    )

module _ (letter : ℕ) where
  -- what a letter, numbers and the fields after them say
  unfoldable pub asks_on : List ℕ → List (List ℕ) → Said
  asks_on got others = pick (are_numbers others) (asked letter (got ++ map value others)) wrong

  pub asks_begins : (others : List (List ℕ)) → asks letter others ≡ asks_on [] others
  unfolding asks asks_on
  asks_begins others = refl

  pub asks_ends : (got : List ℕ) → asks_on got [] ≡ asked letter got
  unfolding asks_on are_numbers pick
  asks_ends got = ap (asked letter) (append-nil got)

  module _ (got : List ℕ) (field : List ℕ) (others : List (List ℕ)) where
    pub asks_takes : is_number field ≡ true → asks_on got (field ∷ others) ≡ asks_on (got ++ (value field ∷ [])) others
    unfolding asks_on are_numbers ◌and◌
    asks_takes h = rw (h, append_snoc got (value field) (map value others))

    pub asks_refuses : is_number field ≡ false → asks_on got (field ∷ others) ≡ wrong
    unfolding asks_on are_numbers ◌and◌ pick
    asks_refuses h = rw h

    pub asks_overflows : 7 ≤ length got → asks_on got (field ∷ others) ≡ wrong
    unfolding asks_on
    asks_overflows h =
        let count = length-append got (value field ∷ map value others) in
        rw (asked_more letter (got ++ (value field ∷ map value others)) (omega arith), pick_same)
