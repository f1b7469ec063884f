-- `walk::guest::guest_down` meets its contract: the entry is read, and followed, as the definition has it.
use Rattle.paging.specs.Walk.{onward}
use Rattle.checks.proofs.CallLaws.{err_is}
use Rattle.walk.proofs.guest.guest_down.Goals as goal

pub returns-in_err-word : goal.returns-in_err-word
unfolding onward
returns-in_err-word c = rw (err_is _ _ c.from_residual.ensures.1, ← c.look.ensures, c.in_err-word.was)

pub returns : goal.returns
unfolding onward
returns c = rw (← c.look.ensures, c.in_ok-word.was) c.follow.ensures
