-- The place after the last line feed, by where that stands.
-- Assumes nothing.
use mathlib.Core.Path.{◌≡◌, refl, ◌∙◌}
use mathlib.Core.List.{List}
use mathlib.Core.Logic.{◌≢◌, ⊎_elim}
use Prim.Native.Nat.{ℕ, zero, suc, ◌+◌, ◌<◌}
use native.Mathlib.Omega.{arith}
use lib.ListN.{length, get_or}
use Rattle.std.specs.Prelude.{Option, Some, None, MatchOption}
use Rattle.words.proofs.ChoiceLaws.{same_or_not}
use Rattle.format.specs.Piece.{cut}
use Rattle.format.specs.Text.{LF}
use Rattle.format.proofs.Cut.{cut_here, cut_before}

-- a line feed stands at none of the first places, or last at this one
abbrev pub NoFeed : List ℕ → Type 0
NoFeed text = (k : ℕ) → k < length text → get_or text k 0 ≢ LF

abbrev pub IsLastFeed : List ℕ → ℕ → Type 0
IsLastFeed text i = (i < length text) × (get_or text i 0 ≡ LF) × ((k : ℕ) → i < k → k < length text → get_or text k 0 ≢ LF)

cut_none : (text : List ℕ) (n : ℕ) → ((k : ℕ) → k < n → get_or text k 0 ≢ LF) → cut text n ≡ 0
unfolding cut
cut_none text zero none = refl
cut_none text (suc n) none = cut_before text n (none n (omega arith)) ∙ cut_none text n (λ k h. none k (omega arith))

cut_last :
    (text : List ℕ) (n i : ℕ) → i < n → get_or text i 0 ≡ LF → ((k : ℕ) → i < k → k < n → get_or text k 0 ≢ LF) → cut text n ≡ i + 1
cut_last text zero i h here none = absurd (omega arith)
cut_last text (suc n) i h here none =
    ⊎_elim
    (λ e. rw e at (cut_here text i here) ∙ omega arith)
    (λ e. cut_before text n (none n (omega arith) (omega arith)) ∙ cut_last text n i (omega arith) here (λ k l m. none k l (omega arith)))
    (same_or_not i n)

pub last_cuts :
    (text : List ℕ) (found : Option ℕ) → MatchOption found (NoFeed text) (IsLastFeed text)
    → MatchOption found (cut text (length text) ≡ 0) (λ i. cut text (length text) ≡ i + 1)
last_cuts text (Some i) h = cut_last text (length text) i h.0 h.1 h.2
last_cuts text None h = cut_none text (length text) h
