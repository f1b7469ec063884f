-- Who is left in a leaf, by the odd words of its frame: what the rule makes of the count and the last of them is what follows of none, of
-- one and of several.
-- Assumes nothing.
use mathlib.Core.Path.{◌≡◌}
use mathlib.Core.List.{List, []}
use mathlib.Core.Logic.{◌≢◌, ⊎_elim}
use Prim.Native.Nat.{ℕ}
use native.Mathlib.Omega.{arith}
use lib.Dec.{eqb}
use lib.ListN.{length}
use borrow.Author.Tests.{le-leb, ne_eqb}
use Rattle.words.specs.Choice.{pick}
use Rattle.parity.specs.Odd.{odd, last_odd, odd_of}
use Rattle.parity.specs.declared.Odd.{Odd}
use Rattle.parity.specs.declared.Odd.TheVariants.{None, One, Several}
use Rattle.words.proofs.ChoiceLaws.{lt_or_le, same_or_not}
use Rattle.parity.proofs.OddLaws.{odd_of_none, last_of_none}
use Rattle.frames.specs.Frame.{frame_count}
use Rattle.frames.proofs.FrameLaws.{part_outside, frame_long}
use Rattle.entries.specs.Leaf.{leaf_word}
use Rattle.rules.specs.Answers.{Verdict, refuse, unless, when}
use Rattle.rules.specs.Leaves.{present_words, last_present, of_guest, remaining}
use Rattle.rules.specs.Refusals.{STILL_SHARED}
use Rattle.rules.specs.State.{State, word_at, frame_at}

module _ (s : State) (leaf : ℕ) where
  -- all words of the frame are its 512; where memory does not have it, there are none
  module _ (f : List ℕ → ℕ → ℕ) (none : (n : ℕ) → f [] n ≡ 0) where
    all_words : f (frame_at s leaf) (length (frame_at s leaf)) ≡ f (frame_at s leaf) 512
    unfolding frame_at
    all_words =
        ⊎_elim (λ has. rw (frame_long s.memory leaf has)) (λ lacks. rw (part_outside s.memory leaf lacks, none 0, none 512))
        (lt_or_le leaf (frame_count s.memory))

  odd_of_frame :
      odd_of (frame_at s leaf)
      ≡ pick (eqb (odd (frame_at s leaf) 512) 0) None (pick (eqb (odd (frame_at s leaf) 512) 1) (One (last_odd (frame_at s leaf) 512)) Several)
  unfolding odd_of
  odd_of_frame = rw (all_words odd odd_of_none, all_words last_odd last_of_none)

  -- what follows of the odd words, where a guest's word and nobody are followed by these
  module _ (one : ℕ → ℕ → Verdict) (none : Verdict) where
    unfoldable pub followed : Odd → Verdict
    followed None = none
    followed (One index) = of_guest index (leaf_word (word_at s leaf index)) (one index)
    followed Several = refuse STILL_SHARED

    pub remaining_is : remaining s leaf one none ≡ followed (odd_of (frame_at s leaf))
    unfolding remaining present_words last_present followed when unless pick
    remaining_is =
        rw odd_of_frame
        (⊎_elim (λ is. rw is)
        (λ (some : odd (frame_at s leaf) 512 ≢ 0). ⊎_elim (λ is. rw is)
        (λ (more : odd (frame_at s leaf) 512 ≢ 1).
        rw (ne_eqb _ 0 some, ne_eqb _ 1 more, le-leb 2 (odd (frame_at s leaf) 512) (omega (arith, some, more))))
        (same_or_not (odd (frame_at s leaf) 512) 1))
        (same_or_not (odd (frame_at s leaf) 512) 0))
