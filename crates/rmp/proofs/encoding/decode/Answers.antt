-- `rmp::encoding::decode` meets its contract: the entry is good where all rules hold, and else bad with the first that is broken.
use mathlib.Core.Path.{sym}
use native.Mathlib.Omega.{arith}
use Rattle.words.specs.Choice.{◌and◌}
use Rattle.entries.specs.Entry.{entry, fields, decoded}
use Rattle.entries.proofs.RuleLaws.{all_hold, one_broken}
use Rattle.rmp.proofs.encoding.decode.Goals as goal

pub fields_fit-fits-requires : goal.fields_fit-fits-requires
unfolding fields entry
fields_fit-fits-requires c = rw c.fields-e.ensures (omega arith)

pub returns-then-clear-fits : goal.returns-then-clear-fits
unfolding decoded ◌and◌
returns-then-clear-fits c = let fits = c.fields_fit-fits.ensures in
    rw (← c.fields-e.ensures) (sym (all_hold _ _ _ (rw (fits.asid_value, fits.rest_value) at c.if-clear-fits.true)))

pub returns : goal.returns
unfolding decoded ◌and◌
returns c = let fits = c.fields_fit-fits.ensures in
    rw (← c.fields-e.ensures, c.first_broken.ensures, fits.asid_value, fits.flags_value)
    (sym (one_broken _ _ _ (rw (fits.asid_value, fits.rest_value) at c.if-clear-fits.false)))
