-- The bytes that `run` prints are those of the text, because there is room for all of them; and what is claimed of the text's calls holds.
-- Assumes nothing.
use mathlib.Core.Path.{◌∙◌}
use Rattle.rules.specs.State.{empty_table}
use Rattle.format.proofs.TextKeeps.{text_keeps_demand_3}
use Rattle.script.specs.Printed.{PrintedDemand3}
use Rattle.script.proofs.AllPrinted.{all_printed}

pub printed_keeps_demand_3 : PrintedDemand3
printed_keeps_demand_3 size memory text before now count room is =
    let kept = text_keeps_demand_3 size memory text in
    (all_printed (empty_table size memory) text before now count room is ∙ kept.1.0, (kept.0, kept.1.1))
