-- `ffi::skorbilek_page_check` meets its contract: the call's promise, carried through the flattening, makes a request of a run.
use Rattle.requests.specs.Requests.{respond}
use Rattle.flat.proofs.Carried.{carried}
use Rattle.ffi.proofs.skorbilek_page_check.Goals as goal

pub returns : goal.returns
unfolding respond
returns c = let both = carried c.page_check.ensures.memory_value c.from.ensures in record { memory_value = both.0; ruled = both.1 }
