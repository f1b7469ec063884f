-- `walk::host::host_down` meets its contract: the entry is read, and followed, as the definition has it.
use Rattle.paging.specs.Walk.{onward, down, host_reads, at_last}
use Rattle.checks.proofs.CallLaws.{err_is}
use Rattle.walk.proofs.host.host_down.Goals as goal

pub returns-in_err-word : goal.returns-in_err-word
unfolding down host_reads onward
returns-in_err-word c = rw (err_is _ _ c.from_residual.ensures.1, ← c.look.ensures, c.in_err-word.was)

pub returns : goal.returns
unfolding down host_reads onward at_last
returns c = rw (← c.look.ensures, c.in_ok-word.was) c.follow.ensures
