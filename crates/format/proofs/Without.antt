-- A run without a mark, such as a line without a line feed or a number without a space: joined runs, and a run's parts.
-- By induction on the run.
-- Assumes nothing.
use mathlib.Core.List.{List, [], ◌∷◌, ◌++◌}
use mathlib.Core.Logic.{◌≢◌}
use Prim.Native.Nat.{ℕ, zero, suc, ◌<◌}
use native.Mathlib.Omega.{arith}
use lib.ListN.{length, get_or, take}

abbrev pub Without : ℕ → List ℕ → Type 0
Without mark [] = Unit {0}
Without mark (byte ∷ rest) = (byte ≢ mark) × Without mark rest

pub without_append : (mark : ℕ) (a b : List ℕ) → Without mark a → Without mark b → Without mark (a ++ b)
without_append mark [] b h k = k
without_append mark (byte ∷ a) b h k = (h.0, without_append mark a b h.1 k)

pub without_take : (mark n : ℕ) (a : List ℕ) → Without mark a → Without mark (take n a)
without_take mark zero [] h = tt
without_take mark (suc n) [] h = tt
without_take mark zero (byte ∷ a) h = tt
without_take mark (suc n) (byte ∷ a) h = (h.0, without_take mark n a h.1)

-- no place holds the mark
pub without_places : (mark : ℕ) (a : List ℕ) → ((i : ℕ) → i < length a → get_or a i 0 ≢ mark) → Without mark a
without_places mark [] none = tt
without_places mark (byte ∷ a) none = (none 0 (omega arith), without_places mark a (λ i h. none (suc i) (omega arith)))
