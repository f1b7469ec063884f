-- The places of a guest at one address: they are a sum over frames, a place is inside the table and is counted, where no more than one is
-- counted two places are one, and what a frame counts by its entry.
-- Assumes nothing.
use mathlib.Core.Path.{◌≡◌, refl}
use mathlib.Core.Bool.{true, false, false≢true}
use mathlib.Core.Logic.{◌≢◌, ⊎_elim}
use Prim.Native.Nat.{ℕ, zero, suc, ◌≤◌, ◌<◌}
use native.Mathlib.Omega.{arith}
use lib.Dec.{eqb}
use borrow.Author.Tests.{eq-eqb, ne_eqb}
use Rattle.words.specs.Choice.{pick, ◌and◌}
use Rattle.words.proofs.ChoiceLaws.{same_or_not, pick_true, pick_false}
use Rattle.entries.specs.Entry.{Decoded, bit}
use Rattle.entries.specs.declared.entry.Entry.{Entry}
use Rattle.std.specs.Prelude.{Ok, Err}
use Rattle.rules.specs.Balance.{sum}
use Rattle.rules.specs.Census.{Holding, holds, nothing, fails, in_entry, holding, place_in, places_below, places}
use Rattle.rules.specs.State.{State, N, entry_at}
use Rattle.rules.proofs.Holdings.{of_another, of_its_own}
use Rattle.rules.proofs.StateLaws.{entry_inside}
use Rattle.rules.proofs.Sums.{sum_term, sum_pair}

-- a frame's part in the count
abbrev pub place_at : State → ℕ → ℕ → ℕ → ℕ
place_at s guest gpa f = place_in (holding s guest f) gpa

below_are : (s : State) (guest gpa n : ℕ) → places_below s guest gpa n ≡ sum (place_at s guest gpa) n
unfolding places_below sum
below_are s guest gpa zero = refl
below_are s guest gpa (suc n) = rw (below_are s guest gpa n)

pub places_are : (s : State) (guest gpa : ℕ) → places s guest gpa ≡ sum (place_at s guest gpa) (N s)
unfolding places
places_are s guest gpa = below_are s guest gpa (N s)

-- ---- a place
module _ (s : State) (guest gpa : ℕ) where
  pub holding_inside : (f : ℕ) → holding s guest f ≡ holds gpa → f < N s
  unfolding holding in_entry
  holding_inside f = go (entry_at s f) refl
    where
      go : (d : Decoded) → entry_at s f ≡ d → in_entry s guest d ≡ holds gpa → f < N s
      go (Ok e) here h = entry_inside s f here
      go (Err reason) here h = absurd (false≢true (cc))

  place_is_one : (f : ℕ) → holding s guest f ≡ holds gpa → place_at s guest gpa f ≡ 1
  unfolding place_in
  place_is_one f h = rw h (pick_true _ _ (eq-eqb gpa gpa refl))

  pub place_counts : (f : ℕ) → holding s guest f ≡ holds gpa → 1 ≤ places s guest gpa
  place_counts f h =
      let counted = sum_term (place_at s guest gpa) f (N s) (holding_inside f h) in
      omega (arith, place_is_one f h, places_are s guest gpa)

  -- two places are one where no more than one is counted
  pub one_place : (p q : ℕ) → places s guest gpa ≤ 1 → holding s guest p ≡ holds gpa → holding s guest q ≡ holds gpa → p ≡ q
  one_place p q most h k = ⊎_elim (λ e. e) (λ e. absurd (two e)) (same_or_not p q)
    where
      two : (p ≡ q → ⊥) → ⊥
      two apart =
          let counted = sum_pair (place_at s guest gpa) p q (N s) (holding_inside p h) (holding_inside q k) apart in
          omega (arith, place_is_one p h, place_is_one q k, places_are s guest gpa)

-- ---- what a frame counts
-- a frame that is nothing to the guest is none of its places, and counts for none; a frame is its place at one address
pub place_apart : (s : State) (guest gpa f p : ℕ) → holding s guest f ≡ holds gpa → holding s guest p ≡ nothing → f ≢ p
place_apart s guest gpa f p h k same = absurd (false≢true (cc))

pub one_address : (s : State) (guest f g at here : ℕ) → holding s guest f ≡ holds at → holding s guest g ≡ holds here → f ≡ g → at ≡ here
one_address s guest f g at here h k same = cc

pub nothing_counts : (gpa : ℕ) {h : Holding} → h ≡ nothing → place_in h gpa ≡ 0
unfolding place_in
nothing_counts gpa e = rw e

-- a page that is not fixed and is VALIDATED counts for its owner at its address
pub page_counts :
    (s : State) (guest f : ℕ) {e : Entry} → entry_at s f ≡ Ok e → e.fixed ≡ false → e.validated ≡ true → (gpa : ℕ)
    → place_in (holding s guest f) gpa ≡ bit (eqb e.asid guest and eqb e.address gpa)
unfolding place_in ◌and◌ bit pick
page_counts s guest f {e} here unfixed v gpa =
    ⊎_elim (λ own. rw (of_its_own s guest f here unfixed v own, eq-eqb _ _ own))
    (λ other. rw (of_another s guest f here unfixed other, ne_eqb _ _ other))
    (same_or_not e.asid guest)

pub unplaced : (h : Holding) (gpa : ℕ) → h ≢ holds gpa → place_in h gpa ≡ 0
unfolding place_in
unplaced (holds here) gpa other = pick_false _ _ (ne_eqb here gpa (λ e. other (rw e)))
unplaced nothing gpa other = refl
unplaced (fails refusal) gpa other = refl
