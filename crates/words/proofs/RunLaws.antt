-- A run pasted over words: the run stands where it was laid, and every other word stays. For runs of any length.
-- Assumes nothing.
use Rattle.std.proofs.Common.{◌≡◌, List, [], ℕ, ◌+◌, ◌≤◌, ◌<◌, min, length, get_or, drop, drop_of_length-le, append-nil, arith}
use Rattle.std.proofs.lemmas.List.{take_all}
use Rattle.std.proofs.Math.Seq.{paste}
use Rattle.std.proofs.lemmas.Grind.{common_steps}
use Rattle.words.specs.Run.{copied}

-- the words after a paste: the run's where it was laid, and before and after it those that stood there
module _ (words : List ℕ) (at : ℕ) (run : List ℕ) (n : ℕ) (room : at + n ≤ length words) (enough : n ≤ length run) where
  pub paste_there : (k : ℕ) → k < n → get_or (paste words at run n) (at + k) 0 ≡ get_or run k 0
  paste_there k h = grind (arith, common_steps)

  pub paste_before : (k : ℕ) → k < at → get_or (paste words at run n) k 0 ≡ get_or words k 0
  paste_before k h = grind (arith, common_steps)

  pub paste_after : (k : ℕ) → at + n ≤ k → get_or (paste words at run n) k 0 ≡ get_or words k 0
  paste_after k h = grind (arith, common_steps)

-- a run copied over one of the same length
pub copied_whole : (target source : List ℕ) → length target ≡ length source → copied target source ≡ source
unfolding copied
copied_whole target source e =
    let all : min (length target) (length source) ≡ length source = omega arith in
    let none : drop (0 + length source) target ≡ [] = drop_of_length-le target {i = 0 + length source} (omega arith) in
    rw (all, none, append-nil) (take_all (length source) source (omega arith))
