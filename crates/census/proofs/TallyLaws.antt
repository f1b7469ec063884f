-- The tally of a guest, frame by frame: what one frame more makes of it, and that a tally which has met a refusal keeps it, however
-- many frames follow.
-- Assumes nothing.
use Rattle.std.proofs.Common.{◌≡◌, ℕ, zero, suc, ◌+◌, ◌<◌, ◌≤◌, true, false, add-one, arith}
use Rattle.std.specs.Prelude.{Option, Some, None, Ok, Err, is_some}
use native.Mathlib.Decide.{ℕ_discrete}
use Rattle.rules.specs.Census.{total, stopped, holding, counted, tally}
use Rattle.rules.specs.Refusals as rules
use Rattle.rules.specs.State.{State}
use Rattle.checks.specs.Answer.{means}
use Rattle.checks.specs.declared.refusal.Refusal.{Refusal}
use Rattle.census.specs.Census.{held}

tally_stays :
    (s : State) (guest frame : ℕ) (met : rules.Refusal) (n : ℕ) → tally s guest frame ≡ stopped met → frame ≤ n
    → tally s guest n ≡ stopped met
unfolding tally counted
tally_stays s guest frame met zero h below = let z : frame ≡ 0 = omega arith in rw z at h
tally_stays s guest frame met (suc n) h below =
    elim (ℕ_discrete frame (suc n)) [
      | yes e ↦ rw e at h
      | no e ↦ rw (tally_stays s guest frame met n h (omega (arith, e)))
    ]

-- one turn of the loop, over the tally of the frames before this one
module _ (s : State) (guest frame places : ℕ) (so_far : tally s guest frame ≡ total places) where
  tally_next : tally s guest (frame + 1) ≡ counted (total places) (holding s guest frame)
  unfolding tally
  tally_next = rw (add-one, so_far)

  pub one_more :
      (here : Option ℕ) → held (Ok here) ≡ holding s guest frame → is_some here ≡ true → tally s guest (frame + 1) ≡ total (places + 1)
  unfolding counted
  one_more (Some gpa) found _ = rw (tally_next, ← found)
  one_more None found has = cc

  pub no_more :
      (here : Option ℕ) → held (Ok here) ≡ holding s guest frame → is_some here ≡ false → tally s guest (frame + 1) ≡ total places
  unfolding counted
  no_more None found _ = rw (tally_next, ← found)
  no_more (Some gpa) found lacks = cc

  pub stops_here :
      (r : Refusal) (n : ℕ) → held (Err r) ≡ holding s guest frame → frame < n → tally s guest n ≡ stopped (means r)
  unfolding counted
  stops_here r n found below = tally_stays s guest (frame + 1) (means r) n (rw (tally_next, ← found)) (omega arith)
