-- RMPUPDATE closes the place that its frame was, if it was one, as its answer says, and PVALIDATE opens one; no other frame changes.
-- Assumes nothing.
use mathlib.Core.Path.{◌≡◌, refl, sym, ◌∙◌}
use mathlib.Core.Bool.{true, false}
use mathlib.Core.Logic.{◌≢◌, ⊎_elim}
use Prim.Native.Nat.{ℕ}
use native.Mathlib.Omega.{arith}
use Rattle.words.specs.Choice.{pick}
use Rattle.words.proofs.ChoiceLaws.{same_or_not, true_or_false, pick_true, pick_false}
use Rattle.entries.specs.Entry.{frame_of, entry, bit}
use Rattle.entries.specs.declared.entry.Entry.{Entry}
use Rattle.rules.specs.Assignment.{assigning, update_answer, validating, validate_answer}
use Rattle.rules.specs.Calls.{RMPUPDATE, PVALIDATE}
use Rattle.rules.specs.Census.{holds, nothing, holding, place_in}
use Rattle.rules.specs.History.{opens, closes, no_event, by_answer, event_of, is_opening, is_closing, written}
use Rattle.rules.specs.State.{State}
use Rattle.rules.proofs.Changes.{Whence, old, new, Change}
use Rattle.rules.proofs.Consulted.{assigned_consulted, validated_consulted}
use Rattle.rules.proofs.Effects.{Assigns, assigning_does, Validates, validating_does}
use Rattle.rules.proofs.Holdings.{holding_same, unopened, of_another, of_its_own}
use Rattle.rules.proofs.Passed.{Updated, Validated}
use Rattle.rules.proofs.PlaceChanges.{places_one, stays, unchanged}
use Rattle.rules.proofs.PlaceLaws.{place_apart, one_address, nothing_counts, page_counts}
use Rattle.rules.proofs.Sound.{Sound}
use Rattle.rules.proofs.Steps.{validated_again}

-- ---- RMPUPDATE
module _ {s : State} (sound : Sound s) {caller hpa gpa asid kind : ℕ} {before : Entry} (p : Updated s caller hpa gpa asid kind before)
    (guest : ℕ) where
  abbrev updated : State
  updated = assigning s (frame_of hpa) before gpa asid kind

  update_effect : Assigns s updated (frame_of hpa) before (entry asid kind false false gpa)
  update_effect = assigning_does p

  update_beside : (f : ℕ) → f ≢ frame_of hpa → holding updated guest f ≡ holding s guest f
  update_beside f other =
      holding_same s updated guest f (update_effect.put.elsewhere f other)
      (λ e here fixed. assigned_consulted sound f here fixed guest p)

  -- the frame is no place afterwards
  update_left : holding updated guest (frame_of hpa) ≡ nothing
  unfolding entry
  update_left = unopened updated guest _ update_effect.put.here refl refl

  -- what it was before is closed, or was nothing
  closed_change : before.validated ≡ true → Change s updated (closes before.asid before.address) guest
  unfolding is_opening is_closing written bit pick
  closed_change v =
      record {
        balance = λ at.
            let one = places_one s updated guest update_effect.put.same_size.same_N _ p.inside update_beside at in
            omega (arith, one, page_counts s guest _ p.here p.unfixed v at, nothing_counts at update_left);
        whence = λ at f most h.
            let off = place_apart updated guest at f _ h update_left in
            old f (sym (update_beside f off) ∙ h) (λ i. update_effect.words f i off);
      }

  unclosed_change : before.validated ≡ false → Change s updated no_event guest
  unclosed_change v =
      stays s updated guest update_effect.put.same_size.same_N
      (λ f. ⊎_elim (λ here. rw here (update_left ∙ sym was)) (update_beside f) (same_or_not f (frame_of hpa)))
      (λ f at i h. update_effect.words f i (place_apart s guest at f _ h was))
    where
      was : holding s guest (frame_of hpa) ≡ nothing
      was = unopened s guest _ p.here p.unfixed v

  pub update_change : Change s updated (event_of (RMPUPDATE caller hpa gpa asid kind) (update_answer before)) guest
  unfolding event_of by_answer update_answer
  update_change =
      ⊎_elim (λ v. rw (pick_true _ _ v) (closed_change v)) (λ v. rw (pick_false _ _ v) (unclosed_change v))
      (true_or_false before.validated)

-- ---- PVALIDATE
module _ {s : State} (sound : Sound s) {caller gpa hpa kind : ℕ} {before : Entry} (p : Validated s caller gpa hpa kind before)
    (guest : ℕ) where
  abbrev validated : State
  validated = validating s (frame_of hpa) before

  validate_effect : Validates s validated (frame_of hpa) (entry caller kind true false gpa)
  validate_effect = validating_does p

  validate_beside : (f : ℕ) → f ≢ frame_of hpa → holding validated guest f ≡ holding s guest f
  validate_beside f other =
      holding_same s validated guest f (validate_effect.put.elsewhere f other)
      (λ e here fixed. validated_consulted sound f here fixed guest p)

  -- a place of another frame was there, and the frame's own is the one opened
  whence_opened : (at f : ℕ) → holding validated guest f ≡ holds at → Whence s validated (opens caller gpa (frame_of hpa)) guest at f
  unfolding entry written
  whence_opened at f h =
      ⊎_elim (λ here. ⊎_elim (λ own. new (frame_of hpa) (here_opened here own) (λ i. rw here (validate_effect.words _ i)))
      (λ other. absurd (place_apart validated guest at f _ h (of_another validated guest _ validate_effect.put.here refl other) here))
      (same_or_not caller guest))
      (λ away. old f (sym (validate_beside f away) ∙ h) (λ i. validate_effect.words f i))
      (same_or_not f (frame_of hpa))
    where
      here_opened : f ≡ frame_of hpa → caller ≡ guest → opens caller gpa (frame_of hpa) ≡ opens guest at (frame_of hpa)
      here_opened here own =
          let k = of_its_own validated guest _ validate_effect.put.here refl refl own in
          rw (own, one_address validated guest _ f gpa at k h (sym here))

  opened_change : before.validated ≡ false → Change s validated (opens caller gpa (frame_of hpa)) guest
  unfolding is_opening is_closing bit pick entry
  opened_change v =
      record {
        balance = λ at.
            let one = places_one s validated guest validate_effect.put.same_size.same_N _ p.inside validate_beside at in
            omega (arith, one, page_counts validated guest _ validate_effect.put.here refl refl at, nothing_before at);
        whence = λ at f most h. whence_opened at f h;
      }
    where
      nothing_before : (at : ℕ) → place_in (holding s guest (frame_of hpa)) at ≡ 0
      nothing_before at = nothing_counts at (unopened s guest _ p.here p.unfixed v)

  pub validate_change : Change s validated (event_of (PVALIDATE caller gpa hpa kind) (validate_answer before)) guest
  unfolding event_of by_answer validate_answer
  validate_change =
      ⊎_elim (λ v. rw (pick_true _ _ v, validated_again s _ before p.here v) (unchanged s guest))
      (λ v. rw (pick_false _ _ v) (opened_change v))
      (true_or_false before.validated)
