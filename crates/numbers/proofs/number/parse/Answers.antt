-- `numbers::number::parse` meets its contract: after some digits, what is left to test and to add is what there was, and the value of i digits
-- is below 2 ^ (4 * i), so that sixteen of them fit into a word.
use mathlib.Core.Path.{◌≡◌, sym, ◌∙◌}
use mathlib.Core.Bool.{true, false}
use mathlib.Core.Logic.{inl, inr}
use Prim.Native.Nat.{ℕ, ◌+◌, ◌*◌, ◌^◌, ◌<◌}
use native.Mathlib.Omega.{arith}
use lib.ListN.{length, drop_of_length-le, get_or}
use Rattle.std.proofs.lemmas.Bool.{eqb-true, eqb-false, ltb-true}
use Rattle.words.specs.Choice.{◌and◌}
use Rattle.format.specs.Number.{are_digits, is_number, value_after, value}
use Rattle.format.proofs.ReadLaws.{digits_at, value_at, value_grows, value_fits, too_short, too_long, by_its_digits}
use Rattle.numbers.proofs.NumberTold.{digit_told, no_digit_told, a_number, no_number}
use Rattle.numbers.proofs.number.parse.Goals as goal

pub returns-then-is_empty : goal.returns-then-is_empty
returns-then-is_empty c = let f = c.args.field.now in
    let not : is_number f ≡ false =
    elim c.then-is_empty.either [
      | inl empty ↦ let none = eqb-true (length f) 0 (sym c.is_empty.ensures ∙ empty) in too_short f (omega arith)
      | inr long ↦ too_long f long.1
    ] in
    no_number f not

-- the value with one digit more fits into a word
grown : (value i d : ℕ) → value < 2 ^ (4 * i) → d < 16 → i < 16 → 16 * value + d < 2 ^ 64
grown value i d bound small few =
    let more = value_grows value i d bound small in
    let fits = value_fits (i + 1) (omega arith) in
    omega arith

pub overflow_mul-value : goal.overflow_mul-value
overflow_mul-value c =
    let l = c.loop-byte in
    let h = grown l.value l.byte-index 0 l.invariant.fits (omega arith) (omega arith) in
    omega arith

pub returns-in_err-value : goal.returns-in_err-value
unfolding ◌and◌
returns-in_err-value c = let l = c.loop-byte in
    let f = c.args.field.now in
    let some = eqb-false (length f) 0 (sym c.if-is_empty.ensures) in
    let no_digit = no_digit_told (get_or f l.byte-index 0) (sym c.in_err-value.ensures) in
    let not : are_digits f ≡ false = rw (← l.invariant.tested, digits_at f l.byte-index c.loop-byte-test.true, no_digit) in
    c.from_residual.ensures ∙ no_number f (by_its_digits f (omega arith) (omega arith) ∙ not)

pub overflow_add-value : goal.overflow_add-value
overflow_add-value c =
    let l = c.loop-byte in
    let told = digit_told (get_or c.args.field.now l.byte-index 0) _ (sym c.in_ok-value.ensures) in
    let small = ltb-true _ _ told.0 in
    let h = grown l.value l.byte-index c.in_ok-value.field-0 l.invariant.fits (omega arith) (omega arith) in
    omega arith

pub loop-byte-preserved : goal.loop-byte-preserved
unfolding ◌and◌
loop-byte-preserved c = let l = c.loop-byte in
    let f = c.args.field.now in
    let i = l.byte-index in
    let within = c.loop-byte-test.true in
    let told = digit_told (get_or f i 0) _ (sym c.in_ok-value.ensures) in
    record {
      fits = value_grows l.value i c.in_ok-value.field-0 l.invariant.fits (omega (arith, ltb-true _ _ told.0));
      tested = rw (← l.invariant.tested, digits_at f i within, told.0);
      added = rw (← told.1) (sym (value_at f i within l.value) ∙ l.invariant.added);
    }

pub returns : goal.returns
unfolding are_digits value_after value
returns c = let l = c.loop-byte in
    let f = c.args.field.now in
    let some = eqb-false (length f) 0 (sym c.if-is_empty.ensures) in
    let none = drop_of_length-le f {i = l.byte-index} c.loop-byte-test.false in
    let all : is_number f ≡ true = rw (by_its_digits f (omega arith) (omega arith), ← l.invariant.tested, none) in
    a_number f l.value all (rw (← l.invariant.added, none))
