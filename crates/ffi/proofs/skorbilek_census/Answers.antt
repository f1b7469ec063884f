-- `ffi::skorbilek_census` meets its contract: the call's promise, carried through the flattening, makes a request of a run.
use Rattle.rules.specs.Calls.{step}
use Rattle.requests.specs.Requests.{respond}
use Rattle.flat.proofs.Carried.{carried}
use Rattle.ffi.proofs.skorbilek_census.Goals as goal

pub returns : goal.returns
unfolding respond step
returns c = let both = carried c.census.ensures c.from.ensures in record { memory_value = both.0; ruled = both.1 }
