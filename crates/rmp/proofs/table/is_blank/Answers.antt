-- `rmp::table::is_blank` meets its contract: two zero words decode to the zero entry.
use mathlib.Core.Bool.{false≢true}
use Rattle.words.specs.Choice.{◌and◌}
use Rattle.rmp.specs.Table.{covered}
use Rattle.rmp.proofs.TableLaws.{entry_blank}
use Rattle.rmp.proofs.table.is_blank.Goals as goal

pub returns-then-frame-table : goal.returns-then-frame-table
unfolding covered ◌and◌
returns-then-frame-table c = λ blank. entry_blank _ _ c.if-frame-table.true blank

pub returns : goal.returns
returns c = λ blank. absurd (false≢true blank)
