-- Laws of the calls: a refusal changes nothing and has a cause, READ, CENSUS and a PVALIDATE answered *already* change nothing, and no
-- call changes a size. Each is a law of refusals and of accepted calls.
-- Assumes nothing.
use mathlib.Core.Path.{◌≡◌, refl}
use mathlib.Core.Bool.{true, false≢true}
use Prim.Native.Nat.{ℕ}
use Rattle.words.proofs.ChoiceLaws.{pick_either}
use Rattle.entries.specs.declared.entry.Entry.{Entry}
use Rattle.std.specs.Prelude.{Ok}
use Rattle.entries.proofs.Tells.{validated_is}
use Rattle.rules.specs.Access.{read}
use Rattle.rules.specs.Answers.{Told, refused, already}
use Rattle.rules.specs.Assignment.{update_answer, validating, validate_answer, pvalidate}
use Rattle.rules.specs.Calls.{Call, PVALIDATE, READ, CENSUS, step}
use Rattle.rules.specs.Census.{census}
use Rattle.rules.specs.Reasons.{frames_of}
use Rattle.rules.specs.Refusals.{Refusal}
use Rattle.rules.specs.State.{State, entry_at}
use Rattle.rules.proofs.Accepted.{Accepted, by_update, by_validate, by_fix, by_merge, by_unmerge, by_unfix, by_free, by_read}
use Rattle.rules.proofs.Accepted.{by_write, by_census}
use Rattle.rules.proofs.Effects.{assigning_does, validating_does, fixing_does, merging_does, unmerging_does, given_does}
use Rattle.rules.proofs.Effects.{freeing_does}
use Rattle.rules.proofs.Cause.{Cause}
use Rattle.rules.proofs.StateLaws.{same_entry, SameSize, size_refl, size_word}
use Rattle.rules.proofs.Stepped.{step_cases}

-- ---- a refusal changes nothing, and has a cause
-- an accepted call answers no refusal
not_refused : {s after : State} {c : Call} {told : Told} → Accepted s c told after → (r : Refusal) → told ≡ refused r → ⊥
unfolding update_answer validate_answer
not_refused (by_update p) r =
    pick_either (λ told. told ≡ refused r → ⊥) _ _ _ (λ v h. absurd (false≢true (cc))) (λ v h. absurd (false≢true (cc)))
not_refused (by_validate p) r =
    pick_either (λ told. told ≡ refused r → ⊥) _ _ _ (λ v h. absurd (false≢true (cc))) (λ v h. absurd (false≢true (cc)))
not_refused (by_fix p) r = λ h. absurd (false≢true (cc))
not_refused (by_merge p) r = λ h. absurd (false≢true (cc))
not_refused (by_unmerge p) r = λ h. absurd (false≢true (cc))
not_refused (by_unfix p) r = λ h. absurd (false≢true (cc))
not_refused (by_free p) r = λ h. absurd (false≢true (cc))
not_refused (by_read p) r = λ h. absurd (false≢true (cc))
not_refused (by_write p) r = λ h. absurd (false≢true (cc))
not_refused (by_census p) r = λ h. absurd (false≢true (cc))

refusal : (s : State) (c : Call) (r : Refusal) → (step s c).told ≡ refused r → ((step s c).after ≡ s) × Cause s (frames_of s c) r
refusal s c r =
    step_cases (λ o. o.told ≡ refused r → (o.after ≡ s) × Cause s (frames_of s c) r) s c
    (λ m why h. let same : m ≡ r = cc in (refl, rw same at why))
    (λ told after passed h. absurd (not_refused passed r h))

pub refused_keeps : (s : State) (c : Call) (r : Refusal) → (step s c).told ≡ refused r → (step s c).after ≡ s
refused_keeps s c r h = (refusal s c r h).0

pub refused_why : (s : State) (c : Call) (r : Refusal) → (step s c).told ≡ refused r → Cause s (frames_of s c) r
refused_why s c r h = (refusal s c r h).1

-- ---- READ and CENSUS change nothing
pub read_keeps : (s : State) (caller gpa hpa gtype ntype index : ℕ) → (read s caller gpa hpa gtype ntype index).after ≡ s
unfolding step
read_keeps s caller gpa hpa gtype ntype index =
    step_cases (λ o. o.after ≡ s) s (READ caller gpa hpa gtype ntype index) (λ n why. refl) (λ told after. go)
  where
    go : {told : Told} {after : State} → Accepted s (READ caller gpa hpa gtype ntype index) told after → after ≡ s
    go (by_read p) = refl

pub census_keeps : (s : State) (asid : ℕ) → (census s asid).after ≡ s
unfolding step
census_keeps s asid = step_cases (λ o. o.after ≡ s) s (CENSUS asid) (λ n why. refl) (λ told after. go)
  where
    go : {told : Told} {after : State} → Accepted s (CENSUS asid) told after → after ≡ s
    go (by_census p) = refl

-- ---- a PVALIDATE of a page that is validated already changes nothing
answered_already : (old : Entry) → validate_answer old ≡ already → old.validated ≡ true
unfolding validate_answer
answered_already old = pick_either (λ told. told ≡ already → old.validated ≡ true) _ _ _ (λ v h. v) (λ v h. absurd (false≢true (cc)))

pub validated_again :
    (s : State) (frame : ℕ) (old : Entry) → entry_at s frame ≡ Ok old → old.validated ≡ true → validating s frame old ≡ s
unfolding validating
validated_again s frame old here v = rw (validated_is old v) (same_entry s frame here)

pub already_keeps :
    (s : State) (caller gpa hpa kind : ℕ) → (pvalidate s caller gpa hpa kind).told ≡ already → (pvalidate s caller gpa hpa kind).after ≡ s
unfolding step
already_keeps s caller gpa hpa kind =
    step_cases (λ o. o.told ≡ already → o.after ≡ s) s (PVALIDATE caller gpa hpa kind) (λ n why h. refl) (λ told after. go)
  where
    go : {told : Told} {after : State} → Accepted s (PVALIDATE caller gpa hpa kind) told after → told ≡ already → after ≡ s
    go (by_validate {old = old} p) h = validated_again s _ old p.here (answered_already old h)

-- ---- no call changes a size
accepted_size : {s after : State} {c : Call} {told : Told} → Accepted s c told after → SameSize s after
accepted_size (by_update p) = (assigning_does p).put.same_size
accepted_size (by_validate p) = (validating_does p).put.same_size
accepted_size (by_fix p) = (fixing_does p).put.same_size
accepted_size (by_merge p) = (merging_does p).put.same_size
accepted_size (by_unmerge p) = (unmerging_does p).put.same_size
accepted_size (by_unfix p) = (given_does p).same_size
accepted_size (by_free p) = (freeing_does p).same_size
accepted_size (by_read p) = size_refl _
accepted_size (by_write p) = size_word _ _ _ _
accepted_size (by_census p) = size_refl _

pub step_size : (s : State) (c : Call) → SameSize s (step s c).after
step_size s c = step_cases (λ o. SameSize s o.after) s c (λ n why. size_refl s) (λ told after. accepted_size)
