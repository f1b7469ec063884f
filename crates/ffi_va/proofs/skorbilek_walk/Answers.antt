-- `ffi_va::skorbilek_walk` meets its contract: the walk's promise, carried through the flattening, makes a request of a run.
use Rattle.rules.specs.State.{state}
use Rattle.requests.specs.Requests.{respond}
use Rattle.flat.proofs.Named.{carried_mapping}
use Rattle.ffi_va.proofs.skorbilek_walk.Goals as goal

pub returns : goal.returns
unfolding respond
returns c = let both = carried_mapping c.translate.result (state c.args.table.now c.args.memory.now) c.translate.ensures c.from.ensures in record {
  value = both.0;
  ruled = both.1;
}
