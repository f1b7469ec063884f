-- `fixing::unfix::check_unfix` meets its contract: each exit is a case of the rule.
use mathlib.Core.Path.{sym, ap}
use Rattle.rules.specs.Answers.{settle}
use Rattle.rules.specs.Leaves.{leaf_frame}
use Rattle.rules.specs.Merging.{punfix}
use Rattle.checks.proofs.CallLaws.{one_entered, one_refused}
use Rattle.checks.proofs.PassedLaws.{refuses, stops}
use Rattle.checks.specs.Passed.{passed, past}
use Rattle.fixing.proofs.unfix.check_unfix.Goals as goal

pub returns-in_err-begin_unfix : goal.returns-in_err-begin_unfix
unfolding punfix past
returns-in_err-begin_unfix c = rw (← c.in_err-begin_unfix.ensures, refuses _ _ c.from_residual.ensures.1)

pub returns-in_err-old : goal.returns-in_err-old
unfolding punfix
returns-in_err-old c = rw (
  one_refused c.in_ok-begin_unfix.ensures _ c.in_err-old.ensures,
  refuses _ _ c.from_residual-in_err-old.ensures.1,
)

pub returns-in_err-unfix_needs_met : goal.returns-in_err-unfix_needs_met
unfolding punfix past
returns-in_err-unfix_needs_met c = rw (
  one_entered c.in_ok-begin_unfix.ensures _ c.in_ok-old.ensures,
  ← c.in_err-unfix_needs_met.ensures,
  refuses _ _ c.from_residual-in_err-unfix_needs_met.ensures.1,
)

pub returns-in_err-ensure : goal.returns-in_err-ensure
unfolding punfix past leaf_frame
returns-in_err-ensure c = rw (
  one_entered c.in_ok-begin_unfix.ensures _ c.in_ok-old.ensures,
  ← c.in_ok-unfix_needs_met.ensures,
  ← c.frame_of.ensures,
  ← c.entry-leaf.ensures,
  ← c.is_leaf.ensures,
  ← c.in_err-ensure.ensures,
  refuses _ _ c.from_residual-in_err-ensure.ensures.1,
)

pub returns-in_err-left : goal.returns-in_err-left
unfolding punfix past leaf_frame
returns-in_err-left c = rw (
  one_entered c.in_ok-begin_unfix.ensures _ c.in_ok-old.ensures,
  ← c.in_ok-unfix_needs_met.ensures,
  ← c.frame_of.ensures,
  ← c.entry-leaf.ensures,
  ← c.is_leaf.ensures,
  ← c.in_ok-ensure.ensures,
  c.frame_of.ensures,
  ← c.left_in_leaf.ensures,
) (ap (settle _) (sym (stops _ _ c.from_residual-in_err-left.ensures.1 c.in_err-left.was _ _)))

pub returns : goal.returns
unfolding punfix passed past leaf_frame
returns c = rw (
  one_entered c.in_ok-begin_unfix.ensures _ c.in_ok-old.ensures,
  ← c.in_ok-unfix_needs_met.ensures,
  ← c.frame_of.ensures,
  ← c.entry-leaf.ensures,
  ← c.is_leaf.ensures,
  ← c.in_ok-ensure.ensures,
  c.frame_of.ensures,
  ← c.in_ok-left.ensures,
)
