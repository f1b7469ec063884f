-- `ffi::skorbilek_pmerge` meets its contract: the call's promise, carried through the flattening, makes a request of a run.
use Rattle.rules.specs.Calls.{step}
use Rattle.requests.specs.Requests.{respond}
use Rattle.flat.proofs.Carried.{carried}
use Rattle.ffi.proofs.skorbilek_pmerge.Goals as goal

pub returns : goal.returns
unfolding respond step
returns c = let both = carried c.pmerge.ensures c.from.ensures in record { memory_after = both.0; ruled = both.1 }
