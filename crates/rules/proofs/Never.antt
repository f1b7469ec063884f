-- In a sound state no call is refused with 5 or 12: each of them has a fault of the state as its cause, and a sound state has none.
-- Assumes nothing.
use mathlib.Core.Path.{◌≡◌, ap}
use mathlib.Core.Bool.{true, false≢true}
use mathlib.Core.List.{List}
use mathlib.Core.Logic.{◌≢◌}
use Prim.Native.Nat.{ℕ}
use Rattle.rules.specs.Answers.{refused}
use Rattle.rules.specs.Calls.{Call, step}
use Rattle.rules.specs.Refusals.{Refusal, alone, BAD_ENTRY, BROKEN_LEAF}
use Rattle.rules.specs.State.{State}
use Rattle.rules.proofs.Cause.{Fault, bad_entry, broken_leaf, ordinary, Cause, plain, fault}
use Rattle.rules.proofs.Sound.{Sound}
use Rattle.rules.proofs.Steps.{refused_why}

pub sound_faultless : {s : State} {frames : List ℕ} {r : Refusal} → Sound s → Fault s frames r → ⊥
sound_faultless sound (bad_entry f reason inside here first) = sound.decodes f reason inside here
sound_faultless sound (broken_leaf f e guest here fixed word) = sound.unbroken f e guest here fixed word

-- no refusal with 5 or 12
abbrev pub Unbroken : Refusal → Type 0
Unbroken r = ((reason : ℕ) → r ≢ BAD_ENTRY reason) × (r ≢ BROKEN_LEAF)

pub ordinary_unbroken : (n : ℕ) → ordinary n ≡ true → Unbroken (alone n)
ordinary_unbroken n o =
    (λ reason e. false≢true (rw (ap (λ (r : Refusal). r.number) e) at o), λ e. false≢true (rw (ap (λ (r : Refusal). r.number) e) at o))

pub sound_unbroken : {s : State} {frames : List ℕ} {r : Refusal} → Sound s → Cause s frames r → Unbroken r
sound_unbroken sound (plain {n} o) = ordinary_unbroken n o
sound_unbroken sound (fault f) = absurd (sound_faultless sound f)

pub sound_never : (s : State) → Sound s → (c : Call) (r : Refusal) → (step s c).told ≡ refused r → Unbroken r
sound_never s sound c r h = sound_unbroken sound (refused_why s c r h)
