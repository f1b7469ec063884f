-- `fixing::unfix::free` meets its contract: the page is zeroed, and then unfixed with the zero entry.
use Rattle.rules.specs.State.{with_frame}
use Rattle.fixing.proofs.unfix.free.Goals as goal

pub returns : goal.returns
unfolding with_frame
returns c = rw (c.unfix.ensures, c.zero-2.ensures, c.zero.ensures)
