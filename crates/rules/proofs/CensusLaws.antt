-- A census that is answered, on any table and memory, is how many places the guest has, since no frame failed; these are its places at all
-- addresses together, since a place is at one address; and no guest has more of them than the table has frames, since a frame is one place
-- or none. In a sound state it is answered, since no frame fails.
-- Assumes nothing.
use mathlib.Core.Path.{◌≡◌, refl, sym, ◌∙◌}
use mathlib.Core.Bool.{true, false, false≢true}
use Prim.Native.Nat.{ℕ, zero, suc, ◌+◌, ◌≤◌, ◌<◌}
use native.Mathlib.Nat.{le_refl}
use native.Mathlib.Omega.{arith}
use lib.Dec.{eqb}
use borrow.Author.Tests.{eq-eqb, ne_eqb}
use Rattle.words.specs.Choice.{pick}
use Rattle.words.proofs.ChoiceLaws.{pick_true, pick_false}
use Rattle.entries.specs.Entry.{is_guest, is_address}
use Rattle.entries.proofs.LeafLaws.{address_small}
use Rattle.entries.proofs.Tells.{false_not_true}
use Rattle.rules.specs.Answers.{Told, count, outcome, settle, unless}
use Rattle.rules.specs.Balance.{sum, over_addresses, CensusSays, CensusCounts}
use Rattle.rules.specs.Calls.{CENSUS}
use Rattle.rules.specs.Census.{Holding, holds, nothing, fails, holding, place_in, places, Tally, total, stopped, counted, tally}
use Rattle.rules.specs.Census.{reported, census}
use Rattle.rules.specs.State.{State, N, sized}
use Rattle.rules.proofs.Accepted.{Accepted, by_census}
use Rattle.rules.proofs.Holdings.{holding_address}
use Rattle.rules.proofs.Never.{sound_faultless}
use Rattle.rules.proofs.PlaceLaws.{places_are, unplaced}
use Rattle.rules.proofs.Cause.{tally_stops}
use Rattle.rules.proofs.Sound.{Sound}
use Rattle.rules.proofs.Stepped.{step_cases}
use Rattle.rules.proofs.Sums.{sum_same, sum_none, sum_single, sum_swap, sum_most}

-- ---- no more places than frames
-- a place, at whatever address, as 1; and how many a guest has
unfoldable pub one : Holding → ℕ
one (holds gpa) = 1
one nothing = 0
one (fails refusal) = 0

unfoldable pub held : State → ℕ → ℕ
held s guest = sum (λ f. one (holding s guest f)) (N s)

one_most : (h : Holding) → one h ≤ 1
unfolding one
one_most (holds gpa) = omega arith
one_most nothing = omega arith
one_most (fails refusal) = omega arith

held_most : (s : State) (guest : ℕ) → held s guest ≤ N s
unfolding held
held_most s guest = sum_most _ (N s) (λ f. one_most (holding s guest f))

-- ---- a tally that was not stopped
counted_total : (t : Tally) (h : Holding) (n : ℕ) → counted t h ≡ total n → (m : ℕ) × (t ≡ total m) × (n ≡ m + one h)
unfolding counted one
counted_total (total m) (holds gpa) n e = (m, refl, cc)
counted_total (total m) nothing n e = let same : m ≡ n = cc in (m, refl, omega arith)
counted_total (total m) (fails refusal) n e = absurd (false≢true (cc))
counted_total (stopped refusal) h n e = absurd (false≢true (cc))

tally_total : (s : State) (guest k n : ℕ) → tally s guest k ≡ total n → n ≡ sum (λ f. one (holding s guest f)) k
unfolding tally sum
tally_total s guest zero n e = cc
tally_total s guest (suc k) n e =
    let last = counted_total (tally s guest k) (holding s guest k) n e in
    rw (← (tally_total s guest k last.0 last.1)) last.2

pub tally_held : (s : State) (guest n : ℕ) → tally s guest (N s) ≡ total n → n ≡ held s guest
unfolding held
tally_held s guest = tally_total s guest (N s)

pub tally_most : (s : State) (guest n : ℕ) → tally s guest (N s) ≡ total n → n ≤ N s
tally_most s guest n e = rw (tally_held s guest n e) (held_most s guest)

-- a frame adds one place at most
pub at_most_one : (places more : ℕ) (here : Holding) → counted (total places) here ≡ total more → more ≤ places + 1
at_most_one places more here e =
    let so_far = counted_total (total places) here more e in
    let same : places ≡ so_far.0 = cc so_far.1 in
    omega (arith, so_far.2, one_most here)

-- ---- in a sound state it is not stopped
module _ (s : State) (sound : Sound s) (guest : ℕ) where
  tally_sound : tally s guest (N s) ≡ total (held s guest)
  tally_sound = go (tally s guest (N s)) refl
    where
      go : (t : Tally) → tally s guest (N s) ≡ t → t ≡ total (held s guest)
      go (total n) e = rw (tally_held s guest n e)
      go (stopped n) e = absurd (sound_faultless sound (tally_stops s guest n (N s) (le_refl _) e))

  pub census_answered : sized s ≡ true → is_guest guest ≡ true → census s guest ≡ outcome (count (held s guest)) s
  unfolding census settle unless reported pick
  census_answered size guest_holds = rw (size, guest_holds, tally_sound)

-- ---- the places at all addresses together
pub no_place : (s : State) (guest gpa : ℕ) → is_address gpa ≡ false → places s guest gpa ≡ 0
no_place s guest gpa none =
    places_are s guest gpa
    ∙ sum_none _ (N s) (λ f h. unplaced _ gpa (λ k. false_not_true none (holding_address s guest gpa f k)))

one_over : (h : Holding) (b : ℕ) → ((gpa : ℕ) → h ≡ holds gpa → gpa < b) → sum (λ gpa. place_in h gpa) b ≡ one h
unfolding place_in one
one_over (holds here) b below =
    sum_single (λ gpa. pick (eqb here gpa) 1 0) here b (below here refl)
    (λ gpa other. pick_false _ _ (ne_eqb here gpa (λ e. other (sym e))))
    ∙ pick_true _ _ (eq-eqb here here refl)
one_over nothing b below = sum_none (λ gpa. 0) b (λ gpa h. refl)
one_over (fails refusal) b below = sum_none (λ gpa. 0) b (λ gpa h. refl)

-- below any bound that all of them keep: counted by addresses or by frames
places_below_lem :
    (s : State) (guest b : ℕ) → ((f gpa : ℕ) → holding s guest f ≡ holds gpa → gpa < b)
    → sum (places s guest) b ≡ held s guest
unfolding held
places_below_lem s guest b below =
    sum_same (λ gpa. sum (λ f. place_in (holding s guest f) gpa) (N s)) (places s guest) b (λ gpa h. places_are s guest gpa)
    ∙ sum_swap (λ gpa f. place_in (holding s guest f) gpa) b (N s)
    ∙ sum_same (λ f. one (holding s guest f)) _ (N s) (λ f h. one_over (holding s guest f) b (below f))

pub places_together : (s : State) (guest : ℕ) → over_addresses (places s guest) ≡ held s guest
unfolding over_addresses
places_together s guest = places_below_lem s guest _ (λ f gpa h. address_small gpa (holding_address s guest gpa f h))

-- ---- what an answered census says
pub census_counts : CensusCounts
census_counts s guest n =
    step_cases (λ o. o.told ≡ count n → CensusSays s guest n) s (CENSUS guest) (λ m why h. absurd (false≢true (cc))) (λ told after. go)
  where
    go : {told : Told} {after : State} → Accepted s (CENSUS guest) told after → told ≡ count n → CensusSays s guest n
    go (by_census {n = m} passed) h =
        let answer : m ≡ n = cc in
        let is_held_lem = rw answer at (tally_held s guest m passed.sum) in
        record {
          counts = rw (places_together s guest) is_held_lem;
          bounded = rw answer at (tally_most s guest m passed.sum);
          nowhere_else = no_place s guest;
        }
