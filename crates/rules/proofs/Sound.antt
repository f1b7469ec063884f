-- A sound state: every entry decodes, two fixed pages have two leaves, and no word of a fixed page's leaf is broken, so that the leaf is a
-- LEAF, and its word 0 is absent. Where a page is fixed, the sizes hold. Every history starts in a sound state and stays in them
-- (SoundSteps).
-- Assumes nothing.
use mathlib.Core.Path.{◌≡◌}
use mathlib.Core.Bool.{true}
use Prim.Native.Nat.{ℕ, ◌<◌}
use Rattle.entries.specs.declared.entry.Entry.{Entry}
use Rattle.entries.specs.declared.reason.Reason.{Reason}
use Rattle.std.specs.Prelude.{Ok, Err}
use Rattle.rules.specs.Leaves.{leaf_frame, consulted}
use Rattle.rules.specs.State.{State, N, sized, entry_at}
use Rattle.rules.proofs.Leaves.{Broken}

pub record Sound (s : State) : Type 0 where
  pub decodes : (f : ℕ) (reason : Reason) → f < N s → entry_at s f ≡ Err reason → ⊥
  pub alone :
      (f g : ℕ) (d e : Entry) → entry_at s f ≡ Ok d → entry_at s g ≡ Ok e → d.fixed ≡ true → e.fixed ≡ true
      → leaf_frame d ≡ leaf_frame e → f ≡ g
  pub unbroken : (f : ℕ) (e : Entry) (index : ℕ) → entry_at s f ≡ Ok e → e.fixed ≡ true → Broken index (consulted s e index) → ⊥
  pub size : (f : ℕ) (e : Entry) → entry_at s f ≡ Ok e → e.fixed ≡ true → sized s ≡ true
