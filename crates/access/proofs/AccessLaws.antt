-- The rule of an access in three parts: what it begins with, the frame that it reaches, and what is
-- allowed there. The rule, with its definitions opened, is the three put together.
-- Assumes nothing.
use mathlib.Core.Path.{◌≡◌, refl, sym, ◌∙◌}
use mathlib.Core.Bool.{Bool}
use mathlib.Core.List.{List}
use Prim.Native.Nat.{ℕ}
use lib.Dec.{eqb, ltb}
use Rattle.std.specs.Prelude.{Option, Result, Ok, Err}
use Rattle.std.specs.Result.{IsErrAnd}
use Rattle.entries.specs.Entry.{Decoded, frame_of}
use Rattle.entries.specs.declared.entry.Entry.{Entry}
use Rattle.rmp.specs.Table.{covered, entry_in}
use Rattle.rules.specs.Access.{covered_access, access}
use Rattle.rules.specs.Answers.{Verdict, unless, begins}
use Rattle.rules.specs.Arguments.{access_arguments, may_access}
use Rattle.rules.specs.Refusals.{TYPE}
use Rattle.rules.specs.State.{State, state, N, M, covers, entry_at}
use Rattle.checks.specs.Passed.{past}
use Rattle.checks.specs.declared.refusal.Refusal.{Refusal}
use Rattle.checks.proofs.CallLaws.{err_is}
use Rattle.access.specs.Reached.{reached, covered_reached, frame_reached, page_access}

module _ (table memory : List ℕ) (writes : Bool) (caller gpa hpa gtype ntype index : ℕ) where
  pub access_parts :
      (v : Verdict)
      → access (state table memory) writes caller gpa hpa gtype ntype index v
      ≡ begins (state table memory) (access_arguments caller gpa hpa gtype ntype index) (may_access caller gtype ntype)
      (ltb (frame_of hpa) (M (state table memory)))
      (unless (eqb gtype ntype) TYPE
      (frame_reached (covers (state table memory) hpa) (entry_at (state table memory) (frame_of hpa)) gtype v λ page.
      page_access (state table memory) writes caller gpa page v))
  unfolding access covered_access covered_reached frame_reached page_access
  access_parts v = refl

  -- what the three parts promise, together, with the entry of the frame decoded between the first and the second
  pub access_checked :
      (begun allowed : Result Unit Refusal) (frame : Result (Option Entry) Refusal) (at : ℕ) (here : Decoded) (inside : Bool)
      → ((v : Verdict) → past begun v
      ≡ begins (state table memory) (access_arguments caller gpa hpa gtype ntype index) (may_access caller gtype ntype)
      (ltb (frame_of hpa) (M (state table memory))) (unless (eqb gtype ntype) TYPE v))
      → at ≡ frame_of hpa → here ≡ entry_in table at → inside ≡ ltb (frame_of hpa) (covered table)
      → ((v : Verdict) (page : Entry → Verdict) → reached frame v page ≡ frame_reached inside here gtype v page)
      → ((v : Verdict) → past allowed v ≡ reached frame v λ page. page_access (state table memory) writes caller gpa page v)
      → (v : Verdict) → access (state table memory) writes caller gpa hpa gtype ntype index v ≡ past begun (past allowed v)
  unfolding covers entry_at N
  access_checked begun allowed frame at here inside first is_frame decoded is_inside second third v =
      rw (access_parts v, ← first _, ← is_inside, ← is_frame, ← decoded, ← second v _, ← third v)

-- In code: what returns where the first part refuses, and else what the third comes to, is the rule.
module _
    (s : State) (writes : Bool) (caller gpa hpa gtype ntype index : ℕ) (begun : Result Unit Refusal)
    (first : (v : Verdict) → past begun v
    ≡ begins s (access_arguments caller gpa hpa gtype ntype index) (may_access caller gtype ntype) (ltb (frame_of hpa) (M s))
    (unless (eqb gtype ntype) TYPE v)) where
  pub access_stops :
      {r : Refusal} (returned : Result Unit Refusal) → IsErrAnd returned (λ e. e ≡ r) → begun ≡ Err r
      → (v : Verdict) → past returned v ≡ access s writes caller gpa hpa gtype ntype index v
  unfolding past
  access_stops returned stopped was v =
      rw (err_is _ _ stopped)
      (sym (access_parts s.table s.memory writes caller gpa hpa gtype ntype index v ∙ sym (first _) ∙ rw was refl))

  pub access_passes :
      {u : Unit} (frame : Result (Option Entry) Refusal) (allowed : Result Unit Refusal)
      → ((v : Verdict) (page : Entry → Verdict)
      → reached frame v page ≡ frame_reached (covers s hpa) (entry_at s (frame_of hpa)) gtype v page)
      → ((v : Verdict) → past allowed v ≡ reached frame v λ page. page_access s writes caller gpa page v)
      → begun ≡ Ok u → (v : Verdict) → past allowed v ≡ access s writes caller gpa hpa gtype ntype index v
  unfolding past covers entry_at N
  access_passes frame allowed second third was v =
      sym (access_checked s.table s.memory writes caller gpa hpa gtype ntype index begun allowed frame _ _ _ first refl refl refl second third v ∙ rw was refl)
