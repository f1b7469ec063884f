-- `merging::unmerge::punmerge` meets its contract: the rule is what its checks come to: a refusal, with nothing changed, or what is then
-- done.
use Rattle.rules.specs.Answers.{settle}
use Rattle.checks.proofs.CallLaws.{err_is}
use Rattle.checks.specs.Passed.{passed}
use Rattle.merging.proofs.unmerge.punmerge.Goals as goal

pub returns-in_err-one : goal.returns-in_err-one
unfolding passed settle
returns-in_err-one c = rw (← c.new.ensures, c.in_err-one.ensures, err_is _ _ c.from_residual.ensures.1)

pub returns : goal.returns
unfolding passed settle
returns c = rw (
  c.unmerge.ensures,
  ← c.new.ensures,
  c.in_ok-one.ensures,
  c.frame_of-frame1.ensures,
  c.frame_of-frame2.ensures,
)
