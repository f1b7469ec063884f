-- 02, Q-5: "The comparison shall read all 512 words each time: it answers exactly how many of them differ, and 16 is given in its old place
-- when that is not zero. No call's answer changes." The comparison of before, word by word, stands here for that statement alone.
use Rattle.std.specs.Prelude.{Bool, true, ◌≡◌, ℕ, zero, suc, ◌≤◌, eqb}
use Rattle.words.specs.Choice.{◌and◌}
use Rattle.entries.specs.Entry.{frame_of}
use Rattle.rules.specs.Answers.{Outcome}
use Rattle.rules.specs.Calls.{PMERGE, step}
use Rattle.rules.specs.Merging.{pmerge_by}
use Rattle.rules.specs.State.{State, word_at, differing_at}

-- whether all of the first n words of two frames are equal
unfoldable pub all_equal : State → ℕ → ℕ → ℕ → Bool
all_equal s one two zero = true
all_equal s one two (suc n) = all_equal s one two n and eqb (word_at s one n) (word_at s two n)

-- PMERGE as it was
unfoldable pub pmerge_before : State → ℕ → ℕ → ℕ → Outcome
pmerge_before s caller hpa1 hpa2 = pmerge_by (all_equal s (frame_of hpa1) (frame_of hpa2) 512) s caller hpa1 hpa2

-- on any table and memory, answer, table and memory are those of before; no other call compares frames
abbrev pub NoAnswerChanges : Type 0
NoAnswerChanges = (s : State) (caller hpa1 hpa2 : ℕ) → step s (PMERGE caller hpa1 hpa2) ≡ pmerge_before s caller hpa1 hpa2

-- "how many of them differ": 0 to 512, of any two frames
abbrev pub AtMostAll : Type 0
AtMostAll = (s : State) (one two : ℕ) → differing_at s one two ≤ 512
