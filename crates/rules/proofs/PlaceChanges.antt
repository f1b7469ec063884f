-- The ways in which a call changes the places of one guest: none moves, one moves from a frame to another, one frame is another thing to
-- the guest. Each is a change of one or two terms of a sum over frames; whence each place comes is told frame by frame.
-- Assumes nothing.
use mathlib.Core.Path.{◌≡◌, refl, sym, ◌∙◌}
use mathlib.Core.Logic.{◌≢◌, ⊎_elim}
use Prim.Native.Nat.{ℕ, ◌+◌, ◌<◌}
use native.Mathlib.Omega.{arith}
use Rattle.words.proofs.ChoiceLaws.{same_or_not}
use Rattle.rules.specs.Census.{Holding, holds, nothing, holding, place_in, places}
use Rattle.rules.specs.History.{reads, no_event, is_opening, is_closing, written}
use Rattle.rules.specs.State.{State, N, word_at}
use Rattle.rules.proofs.Changes.{Whence, old, Change}
use Rattle.rules.proofs.PlaceLaws.{place_at, places_are, holding_inside, place_apart}
use Rattle.rules.proofs.Sums.{sum_same, sum_one, sum_two}

module _ (s u : State) (guest : ℕ) (size : N u ≡ N s) where
  pub places_same : ((f : ℕ) → holding u guest f ≡ holding s guest f) → (gpa : ℕ) → places u guest gpa ≡ places s guest gpa
  places_same same gpa = rw (places_are u guest gpa, places_are s guest gpa, size) (sum_same _ _ (N s) (λ f h. rw (same f)))

  -- one frame is another thing to the guest
  pub places_one :
      (p : ℕ) → p < N s → ((f : ℕ) → f ≢ p → holding u guest f ≡ holding s guest f) → (gpa : ℕ)
      → places u guest gpa + place_in (holding s guest p) gpa ≡ places s guest gpa + place_in (holding u guest p) gpa
  places_one p inside same gpa =
      rw (places_are u guest gpa, places_are s guest gpa, size) (sum_one _ _ p (N s) inside (λ f other. rw (same f other)))

  -- none moves
  pub stays :
      ((f : ℕ) → holding u guest f ≡ holding s guest f)
      → ((f gpa i : ℕ) → holding s guest f ≡ holds gpa → word_at u f i ≡ word_at s f i)
      → Change s u no_event guest
  unfolding is_opening is_closing written
  stays same words =
      record {
        balance = λ gpa. rw (places_same same gpa);
        whence = λ gpa f most h. let was = sym (same f) ∙ h in old f was (λ i. words f gpa i was);
      }

  -- one moves, from p to q
  module _ (p q at : ℕ) (from : holding s guest p ≡ holds at) (free : holding s guest q ≡ nothing)
      (left : holding u guest p ≡ nothing) (to : holding u guest q ≡ holds at)
      (same : (f : ℕ) → f ≢ p → f ≢ q → holding u guest f ≡ holding s guest f) where
    both_count : (gpa : ℕ) {h k : Holding} → h ≡ holds at → k ≡ nothing → place_in h gpa + place_in k gpa ≡ place_in (holds at) gpa
    unfolding place_in
    both_count gpa a b = rw (a, b) (omega arith)

    places_moved : (gpa : ℕ) → places u guest gpa ≡ places s guest gpa
    places_moved gpa =
        let inside = holding_inside s guest at p from in
        let too : q < N s = rw (← size) (holding_inside u guest at q to) in
        let apart = place_apart s guest at p q from free in
        let two = sum_two (place_at s guest gpa) (place_at u guest gpa) p q (N s) inside too apart (λ f off away. rw (same f off away)) in
        rw (places_are u guest gpa, places_are s guest gpa, size) (omega (arith, both_count gpa from free, both_count gpa to left))

    pub moves :
        ((i : ℕ) → word_at u q i ≡ word_at s p i)
        → ((f gpa i : ℕ) → f ≢ p → f ≢ q → holding s guest f ≡ holds gpa → word_at u f i ≡ word_at s f i)
        → Change s u no_event guest
    unfolding is_opening is_closing written
    moves words others = record { balance = λ gpa. rw (places_moved gpa); whence = λ gpa f most h. whence gpa f h }
      where
        whence : (gpa f : ℕ) → holding u guest f ≡ holds gpa → Whence s u no_event guest gpa f
        whence gpa f h =
            ⊎_elim
            (λ here. old p (cc) (λ i. rw here (words i)))
            (λ away.
            let off = place_apart u guest gpa f p h left in
            let was = sym (same f off away) ∙ h in
            old f was (λ i. others f gpa i off away was))
            (same_or_not f q)

-- nothing is done
pub unchanged : (s : State) (guest : ℕ) → Change s s no_event guest
unchanged s guest = stays s s guest refl (λ f. refl) (λ f gpa i h. refl)

pub only_read : (s : State) (guest caller gpa index : ℕ) → Change s s (reads caller gpa index) guest
unfolding is_opening is_closing written
only_read s guest caller gpa index = record { balance = λ at. refl; whence = λ at f most h. old f h (λ i. refl) }
