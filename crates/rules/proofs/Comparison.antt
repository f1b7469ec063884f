-- PMERGE answers and leaves what it did when frames were compared word by word. Where the sizes do not hold, or the table does not cover a
-- frame, PMERGE is refused before it compares; else memory has both frames, and no word differs where all are equal.
-- Assumes nothing.
use mathlib.Core.Path.{◌≡◌, ap}
use mathlib.Core.Bool.{Bool, true, false}
use mathlib.Core.Logic.{⊎_elim}
use Prim.Native.Nat.{ℕ, zero, suc, ◌<◌}
use native.Mathlib.Omega.{arith}
use lib.Dec.{eqb}
use Rattle.words.specs.Choice.{pick, ◌and◌}
use Rattle.words.specs.Run.{differing}
use Rattle.words.proofs.ChoiceLaws.{true_or_false, and_left, and_right}
use Rattle.words.proofs.CompareLaws.{differing_none, none_of_next}
use Rattle.entries.specs.Entry.{frame_of}
use Rattle.rules.specs.Answers.{Verdict, settle, unless, begins}
use Rattle.rules.specs.Calls.{step}
use Rattle.rules.specs.Comparison.{all_equal, pmerge_before, NoAnswerChanges, AtMostAll}
use Rattle.rules.specs.Merging.{pmerge_by, pmerge}
use Rattle.rules.specs.State.{State, M, sized, covers, frame_at, differing_at}
use Rattle.rules.proofs.StateLaws.{sizes, covered_frame, frame_has, differing_words, differing_few}

-- two frames that memory has: no word differs where all words are equal
module _ (s : State) (f g : ℕ) (has_f : f < M s) (has_g : g < M s) where
  one_by_one : (n : ℕ) → eqb (differing (frame_at s f) (frame_at s g) n) 0 ≡ all_equal s f g n
  unfolding all_equal
  one_by_one zero = rw differing_none
  one_by_one (suc n) = rw (none_of_next, one_by_one n, (frame_has s f has_f).1, (frame_has s g has_g).1)

  none_where_equal : eqb (differing_at s f g) 0 ≡ all_equal s f g 512
  none_where_equal = rw (differing_words s f g has_f has_g) (one_by_one 512)

-- where one of the checks refuses that a call begins with, what follows them is of no matter
module _ (s : State) (arguments party inside : Bool) (v w : Verdict) where
  unsized : sized s ≡ false → begins s arguments party inside v ≡ begins s arguments party inside w
  unfolding begins unless pick
  unsized h = rw h

  outside : inside ≡ false → begins s arguments party inside v ≡ begins s arguments party inside w
  unfolding begins unless pick
  outside h = rw h

pub no_answer_changes : NoAnswerChanges
unfolding step pmerge pmerge_before pmerge_by
no_answer_changes s caller hpa1 hpa2 =
    ⊎_elim
    (λ size. ⊎_elim
    (λ inside. ap (λ (t : Bool). pmerge_by t s caller hpa1 hpa2) (compared size inside))
    (λ away. ap (settle s) (outside s _ _ _ _ _ away))
    (true_or_false (covers s hpa1 and covers s hpa2)))
    (λ away. ap (settle s) (unsized s _ _ _ _ _ away))
    (true_or_false (sized s))
  where
    compared :
        sized s ≡ true → covers s hpa1 and covers s hpa2 ≡ true
        → eqb (differing_at s (frame_of hpa1) (frame_of hpa2)) 0 ≡ all_equal s (frame_of hpa1) (frame_of hpa2) 512
    compared size inside =
        let enough = (sizes s size).memory_least in
        let one = covered_frame s hpa1 (and_left _ _ inside) in
        let two = covered_frame s hpa2 (and_right _ _ inside) in
        none_where_equal s (frame_of hpa1) (frame_of hpa2) (omega (arith, one, enough)) (omega (arith, two, enough))

pub at_most_all : AtMostAll
at_most_all s one two = differing_few s one two
