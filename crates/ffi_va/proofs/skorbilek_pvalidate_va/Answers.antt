-- `ffi_va::skorbilek_pvalidate_va` meets its contract: PVALIDATE's promise at what the walk yields, or the walk's refusal, carried through
-- the flattening, makes a request of a run.
use Rattle.rules.specs.Calls.{step}
use Rattle.requests.specs.Requests.{by_virtual, respond}
use Rattle.requests.specs.Virtual.{form_fits, call_on}
use Rattle.flat.proofs.Named.{carried_named, carried_stop}
use Rattle.ffi_va.proofs.skorbilek_pvalidate_va.Goals as goal

pub returns-in-Ok : goal.returns-in-Ok
unfolding respond by_virtual form_fits call_on step
returns-in-Ok c = let both = carried_named _ c.pvalidate-answer.ensures c.from.ensures c.name.ensures in record {
  memory_after = rw (← c.is_owned.ensures, ← c.translate.ensures, c.in-Ok.is) both.0;
  ruled = rw (← c.is_owned.ensures, ← c.translate.ensures, c.in-Ok.is) both.1;
}

pub returns-in-Err : goal.returns-in-Err
unfolding respond by_virtual form_fits
returns-in-Err c = let both = carried_stop c.in-Err.refusal _ c.from-in-Err.ensures in record {
  memory_after = rw (← c.is_owned.ensures, ← c.translate.ensures, c.in-Err.is) both.0;
  ruled = rw (← c.is_owned.ensures, ← c.translate.ensures, c.in-Err.is) both.1;
}
