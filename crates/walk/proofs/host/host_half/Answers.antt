-- `walk::host::host_half` meets its contract: the bound is the definition's, and so is the walk.
use Rattle.paging.specs.Entry.{page_of}
use Rattle.paging.specs.Walk.{host_half}
use Rattle.checks.proofs.CallLaws.{err_is}
use Rattle.walk.proofs.CheckLaws.{through, ensured}
use Rattle.walk.proofs.host.host_half.Goals as goal

pub returns-in_err-ensure : goal.returns-in_err-ensure
unfolding host_half through
returns-in_err-ensure c = rw (err_is _ _ c.from_residual.ensures.1, ensured _ _ _ _ c.ensure.ensures, c.in_err-ensure.was)

pub returns : goal.returns
unfolding host_half page_of through
returns c = rw (ensured _ _ _ _ c.ensure.ensures, c.in_ok-ensure.was) c.host_walk.ensures
