-- PUNMERGE's entry 2 is entry 1 moved: a fixed page in the table is MERGEABLE and VALIDATED, and where the page is not fixed nothing is
-- done.
-- Assumes nothing.
use mathlib.Core.Path.{◌≡◌, refl, sym, ◌∙◌}
use mathlib.Core.Bool.{true}
use mathlib.Core.Logic.{⊎_elim}
use Prim.Native.Nat.{ℕ}
use Rattle.words.proofs.ChoiceLaws.{true_or_false, pick_false}
use Rattle.entries.specs.declared.entry.Entry.{Entry}
use Rattle.std.specs.Prelude.{Ok}
use Rattle.entries.specs.declared.leaf.LeafWord.{LeafWord}
use Rattle.entries.specs.declared.leaf.LeafWord.TheVariants.{Absent, Present, Misshapen}
use Rattle.entries.proofs.Tells.{moved_is}
use Rattle.rules.specs.Answers.{done, grant, unless}
use Rattle.rules.specs.Leaves.{placed}
use Rattle.rules.specs.Merging.{unmerging}
use Rattle.rules.specs.Refusals.{NOT_FIXED}
use Rattle.rules.specs.State.{State, entry_at}
use Rattle.rules.proofs.StateLaws.{entry_tells}
use Rattle.merging.specs.Moved.{moving}

module _ (s : State) (frame1 : ℕ) (one : Entry) (frame2 asid : ℕ) (here : entry_at s frame1 ≡ Ok one) where
  moving_is : one.fixed ≡ true → (gpa : ℕ) → unmerging s frame1 one frame2 asid gpa ≡ moving s frame1 one frame2 asid gpa
  unfolding unmerging moving
  moving_is fixed gpa = rw (moved_is _ one asid gpa (entry_tells s frame1 here) fixed)

  at_place :
      one.fixed ≡ true → (word : LeafWord)
      → placed word (λ gpa. grant done (unmerging s frame1 one frame2 asid gpa))
      ≡ placed word (λ gpa. grant done (moving s frame1 one frame2 asid gpa))
  unfolding placed
  at_place fixed Misshapen = refl
  at_place fixed Absent = refl
  at_place fixed (Present gpa) = rw (moving_is fixed gpa)

  pub moves :
      (word : LeafWord)
      → unless one.fixed NOT_FIXED (placed word λ gpa. grant done (unmerging s frame1 one frame2 asid gpa))
      ≡ unless one.fixed NOT_FIXED (placed word λ gpa. grant done (moving s frame1 one frame2 asid gpa))
  unfolding unless
  moves word =
      ⊎_elim (λ fixed. rw (at_place fixed word)) (λ unfixed. pick_false _ _ unfixed ∙ sym (pick_false _ _ unfixed))
      (true_or_false one.fixed)
