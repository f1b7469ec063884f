-- The numbers of a call that a line says fit into 64 bits: each is read from at most 16 hex digits.
-- Assumes nothing.
use mathlib.Core.Path.{◌≡◌}
use mathlib.Core.Bool.{Bool, true}
use mathlib.Core.List.{List, [], ◌∷◌, map}
use Prim.Native.Nat.{ℕ, zero, suc, ◌+◌, ◌*◌, ◌^◌, ◌≤◌, ◌<◌}
use native.Mathlib.Omega.{arith}
use lib.ListN.{length, get_or}
use borrow.Author.Tests.{leb-true, ltb-true}
use Rattle.words.specs.Choice.{pick}
use Rattle.words.proofs.ChoiceLaws.{pick_either, and_left, and_right}
use Rattle.rules.specs.Words.{numbers, AreWords}
use Rattle.format.specs.Line.{Said, says, wrong, asked, are_numbers, asks, begun, spoken, fields, said}
use Rattle.format.specs.Number.{digit_value, are_digits, is_number, value_after, value}
use Rattle.format.proofs.ReadLaws.{value_grows, value_fits}

-- ---- a number
after_small :
    (field : List ℕ) (high count : ℕ) → are_digits field ≡ true → high < 2 ^ (4 * count)
    → value_after high field < 2 ^ (4 * (count + length field))
unfolding are_digits value_after
after_small [] high count all h = let same : count + 0 ≡ count = omega arith in rw same h
after_small (byte ∷ rest) high count all h =
    let sum : count + suc (length rest) ≡ count + 1 + length rest = omega arith in
    let grown = value_grows high count (digit_value byte) h (ltb-true _ _ (and_left _ _ all)) in
    rw sum (after_small rest (16 * high + digit_value byte) (count + 1) (and_right _ _ all) grown)

value_small : (field : List ℕ) → is_number field ≡ true → value field < 2 ^ 64
unfolding is_number value
value_small field h =
    let short : length field ≤ 16 = leb-true _ _ (and_right _ _ (and_left _ _ h)) in
    let small : value_after 0 field < 2 ^ (4 * (0 + length field)) = after_small field 0 0 (and_right _ _ h) (omega arith) in
    omega (arith, value_fits (0 + length field) (omega arith))

values_small : (others : List (List ℕ)) (i : ℕ) → are_numbers others ≡ true → get_or (map value others) i 0 < 2 ^ 64
unfolding are_numbers
values_small [] i h = omega arith
values_small (field ∷ others) zero h = value_small field (and_left _ _ h)
values_small (field ∷ others) (suc i) h = values_small others i (and_right _ _ h)

-- ---- a line
abbrev pub Fits : Said → Type 0
Fits (says call) = AreWords (numbers call)
Fits wrong = Unit {0}

either : (t : Bool) (a b : Said) → (t ≡ true → Fits a) → Fits b → Fits (pick t a b)
either t a b f g = pick_either Fits t a b f (λ other. g)

asked_fits : (letter : ℕ) (given : List ℕ) → ((i : ℕ) → get_or given i 0 < 2 ^ 64) → Fits (asked letter given)
unfolding asked numbers
asked_fits letter given n =
    either _ _ _ (λ u. (n 0, (n 1, (n 2, (n 3, (n 4, tt))))))
    (either _ _ _ (λ u. (n 0, (n 1, (n 2, (n 3, tt)))))
    (either _ _ _ (λ u. (n 0, (n 1, (n 2, tt))))
    (either _ _ _ (λ u. (n 0, (n 1, (n 2, tt))))
    (either _ _ _ (λ u. (n 0, (n 1, (n 2, (n 3, tt)))))
    (either _ _ _ (λ u. (n 0, (n 1, tt)))
    (either _ _ _ (λ u. (n 0, (n 1, (n 2, (n 3, (n 4, (n 5, tt)))))))
    (either _ _ _ (λ u. (n 0, (n 1, (n 2, (n 3, (n 4, (n 5, (n 6, tt))))))))
    (either _ _ _ (λ u. (n 0, tt)) tt))))))))

begun_fits : (first : List ℕ) (others : List (List ℕ)) → Fits (begun first others)
unfolding begun asks
begun_fits [] others = tt
begun_fits (letter ∷ []) others =
    either _ _ _ (λ all. asked_fits letter (map value others) (λ i. values_small others i all)) tt
begun_fits (letter ∷ (byte ∷ rest)) others = tt

spoken_fits : (parts : List (List ℕ)) → Fits (spoken parts)
unfolding spoken
spoken_fits [] = tt
spoken_fits (first ∷ others) = begun_fits first others

pub said_fits : (line : List ℕ) → Fits (said line)
unfolding said
said_fits line = either _ _ _ (λ short. spoken_fits (fields line)) tt
