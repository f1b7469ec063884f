-- Why a call may be refused: with 5 and 12 only where the state has the fault that they name, and then 5 with the first reason among the
-- frames that the call names or meets; of any other number it is only asked that it is in the table of refusals, and comes alone. A
-- holding that fails, and so a tally that stops, has met such a fault.
-- Assumes nothing.
use mathlib.Core.Path.{◌≡◌, refl, ◌∙◌}
use mathlib.Core.Bool.{Bool, true, false≢true, not, ◌&&◌}
use mathlib.Core.List.{List, [], ◌∷◌, ◌++◌}
use mathlib.Core.Logic.{inl}
use Prim.Native.Nat.{ℕ, zero, suc, ◌<◌, ◌≤◌}
use native.Mathlib.Omega.{arith}
use lib.Dec.{leb, eqb}
use Rattle.words.proofs.ChoiceLaws.{pick_either}
use Rattle.entries.specs.declared.entry.Entry.{Entry}
use Rattle.entries.specs.Entry.{Decoded}
use Rattle.std.specs.Prelude.{Ok, Err}
use Rattle.entries.specs.declared.leaf.LeafWord.{LeafWord}
use Rattle.entries.specs.declared.leaf.LeafWord.TheVariants.{Absent, Present, Misshapen}
use Rattle.entries.specs.declared.reason.Reason.{Reason}
use Rattle.entries.specs.Reasons.{reason_number}
use Rattle.rules.specs.Census.{Holding, holds, nothing, fails, in_leaf, in_entry, holding, Tally, total, stopped, counted, tally}
use Rattle.rules.specs.Leaves.{consulted}
use Rattle.rules.specs.Reasons.{rising, first_reason}
use Rattle.rules.specs.Refusals.{Refusal, alone, BAD_ENTRY, BROKEN_LEAF, LARGE_PAGE}
use Rattle.rules.specs.State.{State, N, entry_at}
use Rattle.rules.proofs.FirstReason.{named_bad, named_good, none_before, some_before}
use Rattle.rules.proofs.Leaves.{Broken}
use Rattle.rules.proofs.StateLaws.{entry_reason}

-- what is wrong with a state that gives 5 or 12 to a call of these frames
pub data Fault (s : State) (frames : List ℕ) : Refusal → Type 0 where
  bad_entry :
      (f : ℕ) (reason : Reason) → f < N s → entry_at s f ≡ Err reason → first_reason s frames ≡ reason_number reason
      → Fault s frames (BAD_ENTRY (reason_number reason))
  broken_leaf :
      (f : ℕ) (e : Entry) (index : ℕ) → entry_at s f ≡ Ok e → e.fixed ≡ true → Broken index (consulted s e index)
      → Fault s frames BROKEN_LEAF

-- a number up to the last, other than those two. It computes at a number that is written out, so that `refl` shows it.
abbrev pub ordinary : ℕ → Bool
ordinary n = leb n LARGE_PAGE.number && not (eqb n 5) && not (eqb n BROKEN_LEAF.number)

pub data Cause (s : State) (frames : List ℕ) : Refusal → Type 0 where
  plain : {n : ℕ} → ordinary n ≡ true → Cause s frames (alone n)
  fault : {r : Refusal} → Fault s frames r → Cause s frames r

-- a fault of some frames is one of more behind them
pub more_frames : (s : State) (frames more : List ℕ) {r : Refusal} → Fault s frames r → Fault s (frames ++ more) r
more_frames s frames more (bad_entry f reason inside here first) =
    let some = (entry_reason s f reason inside here).0 in
    bad_entry f reason inside here (some_before s frames more (rw first some) ∙ first)
more_frames s frames more (broken_leaf f e guest here fixed word) = broken_leaf f e guest here fixed word

-- ---- CENSUS
module _ (s : State) (r : Refusal) where
  leaf_fails : {frames : List ℕ} (w : LeafWord) → (w ≡ Misshapen → Fault s frames BROKEN_LEAF) → in_leaf w ≡ fails r → Fault s frames r
  unfolding in_leaf
  leaf_fails Absent broken h = absurd (false≢true (cc))
  leaf_fails (Present gpa) broken h = absurd (false≢true (cc))
  leaf_fails Misshapen broken h = let same : BROKEN_LEAF ≡ r = cc in rw same at (broken refl)

  -- a frame that fails, where its reason would be the first
  module _ (frames : List ℕ) (guest f : ℕ) (inside : f < N s)
      (first : (reason : Reason) → entry_at s f ≡ Err reason → first_reason s frames ≡ reason_number reason) where
    entry_fails : (d : Decoded) → entry_at s f ≡ d → in_entry s guest d ≡ fails r → Fault s frames r
    unfolding in_entry
    entry_fails (Ok e) here h =
        pick_either (λ held. held ≡ fails r → Fault s frames r) _ _ _ (λ fixed. leaf_fails _ (λ broken. broken_leaf f e guest here fixed (inl broken)))
        (λ unfixed.
        pick_either (λ held. held ≡ fails r → Fault s frames r) _ _ _
        (λ own u. absurd (false≢true (cc))) (λ other u. absurd (false≢true (cc)))) h
    entry_fails (Err reason) here h =
        let same : BAD_ENTRY (reason_number reason) ≡ r = cc in rw same at (bad_entry f reason inside here (first reason here))

    holding_fails : holding s guest f ≡ fails r → Fault s frames r
    unfolding holding
    holding_fails = entry_fails _ refl

  counted_stops :
      {frames : List ℕ} (t : Tally) (x : Holding) → (t ≡ stopped r → Fault s frames r)
      → ((m : ℕ) → t ≡ total m → x ≡ fails r → Fault s frames r) → counted t x ≡ stopped r → Fault s frames r
  unfolding counted
  counted_stops (total m) (holds gpa) f g h = absurd (false≢true (cc))
  counted_stops (total m) nothing f g h = absurd (false≢true (cc))
  counted_stops (total m) (fails refusal) f g h = g m refl (cc)
  counted_stops (stopped refusal) x f g h = f h

-- a tally that was not stopped has met no bad entry
counted_goes :
    (t : Tally) (x : Holding) (m : ℕ) → counted t x ≡ total m → ((n : ℕ) × (t ≡ total n)) × ((r : Refusal) → x ≡ fails r → ⊥)
unfolding counted
counted_goes (total n) (holds gpa) m h = ((n, refl), λ r e. absurd (false≢true (cc)))
counted_goes (total n) nothing m h = ((n, refl), λ r e. absurd (false≢true (cc)))
counted_goes (total n) (fails refusal) m h = absurd (false≢true (cc))
counted_goes (stopped refusal) x m h = absurd (false≢true (cc))

module _ (s : State) (guest : ℕ) where
  holding_good : (f : ℕ) → ((r : Refusal) → holding s guest f ≡ fails r → ⊥) → first_reason s (f ∷ []) ≡ 0
  unfolding holding in_entry first_reason
  holding_good f ok = go (entry_at s f) refl
    where
      go : (d : Decoded) → entry_at s f ≡ d → first_reason s (f ∷ []) ≡ 0
      go (Ok e) here = named_good s f e [] here
      go (Err reason) here = absurd (ok (BAD_ENTRY (reason_number reason)) (rw here))

  none_met : (k m : ℕ) → tally s guest k ≡ total m → first_reason s (rising k) ≡ 0
  unfolding tally rising first_reason
  none_met zero m h = refl
  none_met (suc k) m h =
      let goes = counted_goes (tally s guest k) (holding s guest k) m h in
      none_before s (rising k) (k ∷ []) (none_met k goes.0.0 goes.0.1) ∙ holding_good k goes.1

  pub tally_stops : (r : Refusal) (k : ℕ) → k ≤ N s → tally s guest k ≡ stopped r → Fault s (rising k) r
  unfolding tally rising
  tally_stops r zero below h = absurd (false≢true (cc))
  tally_stops r (suc k) below h =
      counted_stops s r (tally s guest k) (holding s guest k)
      (λ before. more_frames s (rising k) (k ∷ []) (tally_stops r k (omega arith) before))
      (λ m before. holding_fails s r _ guest k below (λ reason here.
      none_before s (rising k) (k ∷ []) (none_met k m before)
      ∙ named_bad s k reason [] here (entry_reason s k reason below here).0))
      h
