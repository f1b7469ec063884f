-- What a refused call carries: with 5 the first reason of its frames, which is one of the four, and with any other number none.
-- Assumes nothing.
use mathlib.Core.Path.{◌≡◌, refl, sym}
use mathlib.Core.Bool.{true, false≢true}
use mathlib.Core.List.{List}
use mathlib.Core.Logic.{◌≢◌}
use Prim.Native.Nat.{ℕ}
use native.Mathlib.Omega.{arith}
use Rattle.rules.specs.Answers.{refused}
use Rattle.rules.specs.Calls.{Call, step}
use Rattle.rules.specs.Reasons.{frames_of, Carries, its_reason, none}
use Rattle.rules.specs.Refusals.{Refusal, alone}
use Rattle.rules.specs.State.{State}
use Rattle.rules.proofs.Cause.{bad_entry, broken_leaf, ordinary, Cause, plain, fault}
use Rattle.rules.proofs.StateLaws.{entry_reason}
use Rattle.rules.proofs.Steps.{refused_why}

pub ordinary_carries : {s : State} {frames : List ℕ} (n : ℕ) → ordinary n ≡ true → Carries s frames (alone n)
ordinary_carries n o = none (λ e. false≢true (rw e at o)) refl

twelve_other : ◌≢◌ {A = ℕ} 12 5
twelve_other h = omega arith

pub carried : {s : State} {frames : List ℕ} {r : Refusal} → Cause s frames r → Carries s frames r
carried (plain {n} o) = ordinary_carries n o
carried {s} (fault (bad_entry f reason inside here first)) =
    let within = entry_reason s f reason inside here in its_reason refl (sym first) within.0 within.1
carried (fault (broken_leaf f e guest here fixed word)) = none twelve_other refl

pub call_carries : (s : State) (c : Call) (r : Refusal) → (step s c).told ≡ refused r → Carries s (frames_of s c) r
call_carries s c r h = carried (refused_why s c r h)
