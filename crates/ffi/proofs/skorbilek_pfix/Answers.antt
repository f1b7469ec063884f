-- `ffi::skorbilek_pfix` meets its contract: the call's promise, carried through the flattening, makes a request of a run.
use Rattle.rules.specs.Calls.{step}
use Rattle.requests.specs.Requests.{respond}
use Rattle.flat.proofs.Carried.{carried}
use Rattle.ffi.proofs.skorbilek_pfix.Goals as goal

pub returns : goal.returns
unfolding respond step
returns c = let both = carried c.pfix.ensures c.from.ensures in record { memory_after = both.0; ruled = both.1 }
