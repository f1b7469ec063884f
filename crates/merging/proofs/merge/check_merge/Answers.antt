-- `merging::merge::check_merge` meets its contract: each exit is a case of the rule.
use Rattle.rules.specs.Merging.{pmerge_by, pmerge}
use Rattle.checks.proofs.CallLaws.{two_entered, two_refused}
use Rattle.checks.proofs.PassedLaws.{refuses}
use Rattle.checks.specs.Passed.{passed, past}
use Rattle.merging.proofs.merge.check_merge.Goals as goal

pub returns-in_err-begin_two_frames : goal.returns-in_err-begin_two_frames
unfolding pmerge pmerge_by past
returns-in_err-begin_two_frames c = rw (← c.in_err-begin_two_frames.ensures, refuses _ _ c.from_residual.ensures.1)

pub returns-in_err-one : goal.returns-in_err-one
unfolding pmerge pmerge_by
returns-in_err-one c = rw (
  two_refused c.in_ok-begin_two_frames.ensures _ _ c.in_err-one.ensures,
  refuses _ _ c.from_residual-in_err-one.ensures.1,
)

pub returns-in_err-merge_needs_met : goal.returns-in_err-merge_needs_met
unfolding pmerge pmerge_by past
returns-in_err-merge_needs_met c = rw (
  two_entered c.in_ok-begin_two_frames.ensures _ _ c.in_ok-one.ensures,
  ← c.in_err-merge_needs_met.ensures,
  refuses _ _ c.from_residual-in_err-merge_needs_met.ensures.1,
)

pub returns-in_err-vacant : goal.returns-in_err-vacant
unfolding pmerge pmerge_by past
returns-in_err-vacant c = rw (
  two_entered c.in_ok-begin_two_frames.ensures _ _ c.in_ok-one.ensures,
  ← c.in_ok-merge_needs_met.ensures,
  ← c.consulted.ensures,
  ← c.in_err-vacant.ensures,
  refuses _ _ c.from_residual-in_err-vacant.ensures.1,
)

pub returns-in_err-ensure : goal.returns-in_err-ensure
unfolding pmerge pmerge_by past
returns-in_err-ensure c = rw (
  two_entered c.in_ok-begin_two_frames.ensures _ _ c.in_ok-one.ensures,
  ← c.in_ok-merge_needs_met.ensures,
  ← c.consulted.ensures,
  ← c.in_ok-vacant.ensures,
  ← c.frame_of.ensures,
  ← c.frame_of-2.ensures,
  ← c.differing-differing.ensures,
  ← c.in_err-ensure.ensures,
  refuses _ _ c.from_residual-in_err-ensure.ensures.1,
)

pub returns : goal.returns
unfolding pmerge pmerge_by passed past
returns c = rw (
  two_entered c.in_ok-begin_two_frames.ensures _ _ c.in_ok-one.ensures,
  ← c.in_ok-merge_needs_met.ensures,
  ← c.consulted.ensures,
  ← c.in_ok-vacant.ensures,
  ← c.frame_of.ensures,
  ← c.frame_of-2.ensures,
  ← c.differing-differing.ensures,
  ← c.in_ok-ensure.ensures,
)
