-- One digit: its value is the number that it was made of, and it is no byte below `0`, so neither a space nor a line feed.
-- Assumes nothing.
use mathlib.Core.Path.{◌≡◌}
use mathlib.Core.Logic.{⊎_elim}
use Prim.Native.Nat.{ℕ, ◌+◌, ◌-◌, ◌≤◌, ◌<◌}
use native.Mathlib.Omega.{arith}
use borrow.Author.Tests.{lt-ltb, le-ltb, le-leb, lt-leb}
use Rattle.words.specs.Choice.{pick, ◌and◌}
use Rattle.words.proofs.ChoiceLaws.{lt_or_le, pick_true, pick_false}
use Rattle.format.specs.Number.{digit_value, digit}

digit_low : (d : ℕ) → d < 10 → digit d ≡ 48 + d
unfolding digit
digit_low d h = pick_true _ _ (lt-ltb d 10 h)

digit_high : (d : ℕ) → 10 ≤ d → digit d ≡ 97 + (d - 10)
unfolding digit
digit_high d h = pick_false _ _ (le-ltb d 10 h)

pub digit_least : (d : ℕ) → 48 ≤ digit d
digit_least d = ⊎_elim (λ h. omega (arith, digit_low d h)) (λ h. omega (arith, digit_high d h)) (lt_or_le d 10)

value_low : (d : ℕ) → d < 10 → digit_value (48 + d) ≡ d
unfolding digit_value pick ◌and◌
value_low d h = rw (le-leb 48 (48 + d) (omega arith), le-leb (48 + d) 57 (omega arith)) (omega arith)

value_high : (d : ℕ) → 10 ≤ d → d < 16 → digit_value (97 + (d - 10)) ≡ d
unfolding digit_value pick ◌and◌
value_high d h l =
    let at = 97 + (d - 10) in
    rw (le-leb 48 at (omega arith), lt-leb at 57 (omega arith), le-leb 97 at (omega arith), le-leb at 102 (omega arith)) (omega arith)

pub value_digit : (d : ℕ) → d < 16 → digit_value (digit d) ≡ d
value_digit d l =
    ⊎_elim (λ h. rw (digit_low d h) (value_low d h)) (λ h. rw (digit_high d h) (value_high d h l)) (lt_or_le d 10)
