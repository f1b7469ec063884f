-- `fixing::fix::check_fix` meets its contract: each exit is a case of the rule.
use Rattle.rules.specs.Answers.{when}
use Rattle.rules.specs.Merging.{pfix}
use Rattle.checks.proofs.CallLaws.{two_entered, two_refused}
use Rattle.checks.proofs.PassedLaws.{refuses}
use Rattle.checks.specs.Passed.{passed, past}
use Rattle.fixing.proofs.fix.check_fix.Goals as goal

pub returns-in_err-begin_two_frames : goal.returns-in_err-begin_two_frames
unfolding pfix past
returns-in_err-begin_two_frames c = rw (← c.in_err-begin_two_frames.ensures, refuses _ _ c.from_residual.ensures.1)

pub returns-in_err-old : goal.returns-in_err-old
unfolding pfix
returns-in_err-old c = rw (
  two_refused c.in_ok-begin_two_frames.ensures _ _ c.in_err-old.ensures,
  refuses _ _ c.from_residual-in_err-old.ensures.1,
)

pub returns-in_err-fix_needs_met : goal.returns-in_err-fix_needs_met
unfolding pfix past
returns-in_err-fix_needs_met c = rw (
  two_entered c.in_ok-begin_two_frames.ensures _ _ c.in_ok-old.ensures,
  ← c.in_err-fix_needs_met.ensures,
  refuses _ _ c.from_residual-in_err-fix_needs_met.ensures.1,
)

pub returns-in_err-ensure : goal.returns-in_err-ensure
unfolding pfix past when
returns-in_err-ensure c = rw (
  two_entered c.in_ok-begin_two_frames.ensures _ _ c.in_ok-old.ensures,
  ← c.in_ok-fix_needs_met.ensures,
  ← c.leaf_in_use.ensures c.args.state.now.memory,
  ← c.in_err-ensure.ensures,
  refuses _ _ c.from_residual-in_err-ensure.ensures.1,
)

pub returns : goal.returns
unfolding pfix passed past when
returns c = rw (
  two_entered c.in_ok-begin_two_frames.ensures _ _ c.in_ok-old.ensures,
  ← c.in_ok-fix_needs_met.ensures,
  ← c.leaf_in_use.ensures c.args.state.now.memory,
  ← c.in_ok-ensure.ensures,
)
