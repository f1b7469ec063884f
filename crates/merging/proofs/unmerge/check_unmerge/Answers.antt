-- `merging::unmerge::check_unmerge` meets its contract: each exit is a case of the rule, with entry 2 made of entry 1 (`moves`).
use mathlib.Core.Path.{refl, sym, ap}
use Rattle.std.specs.Prelude.{Ok}
use Rattle.entries.specs.Entry.{frame_of}
use Rattle.rules.specs.Answers.{settle}
use Rattle.rules.specs.Merging.{punmerge}
use Rattle.checks.proofs.CallLaws.{two_entered, two_refused}
use Rattle.checks.proofs.NamedLaws.{first_entry}
use Rattle.checks.proofs.PassedLaws.{refuses, stops}
use Rattle.checks.specs.Passed.{passed, past}
use Rattle.merging.proofs.MovedLaws.{moves}
use Rattle.merging.proofs.unmerge.check_unmerge.Goals as goal

pub returns-in_err-begin_unmerge : goal.returns-in_err-begin_unmerge
unfolding punmerge past
returns-in_err-begin_unmerge c = rw (← c.in_err-begin_unmerge.ensures, refuses _ _ c.from_residual.ensures.1)

pub returns-in_err-one : goal.returns-in_err-one
unfolding punmerge
returns-in_err-one c = rw (
  two_refused c.in_ok-begin_unmerge.ensures _ _ c.in_err-one.ensures,
  refuses _ _ c.from_residual-in_err-one.ensures.1,
)

pub returns-in_err-unmerge_needs_met : goal.returns-in_err-unmerge_needs_met
unfolding punmerge past
returns-in_err-unmerge_needs_met c = rw (
  two_entered c.in_ok-begin_unmerge.ensures _ _ c.in_ok-one.ensures,
  ← c.in_err-unmerge_needs_met.ensures,
  refuses _ _ c.from_residual-in_err-unmerge_needs_met.ensures.1,
)

pub returns-in_err-gpa : goal.returns-in_err-gpa
unfolding punmerge past
returns-in_err-gpa c = rw (
  two_entered c.in_ok-begin_unmerge.ensures _ _ c.in_ok-one.ensures,
  ← c.in_ok-unmerge_needs_met.ensures,
  ← c.consulted.ensures,
  ← c.placed.ensures,
) (ap (settle _) (sym (stops _ _ c.from_residual-in_err-gpa.ensures.1 c.in_err-gpa.was _ _)))

pub returns : goal.returns
unfolding punmerge past passed
returns c =
    let here = first_entry (Ok tt) _ _ refl refl _ (sym c.in_ok-one.ensures) in
    rw (
      two_entered c.in_ok-begin_unmerge.ensures _ _ c.in_ok-one.ensures,
      moves c.args.state.now _ _ (frame_of c.args.hpa2) c.args.asid here,
      ← c.in_ok-unmerge_needs_met.ensures,
      ← c.consulted.ensures,
      ← c.in_ok-gpa.ensures,
    )
