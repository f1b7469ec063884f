-- `access::check::begun` meets its contract: the checks of `begin_access`, and one more after them.
use Rattle.checks.proofs.PassedLaws.{past-and}
use Rattle.access.proofs.check.begun.Goals as goal

pub returns : goal.returns
returns c = λ v. rw (c.and.ensures, past-and, c.ensure.ensures, c.begin_access-begun.ensures)
