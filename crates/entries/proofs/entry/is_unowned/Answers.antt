-- `entries::entry::is_unowned` meets its contract, which is its code.
use mathlib.Core.Path.{refl}
use Rattle.words.specs.Choice.{◌or◌}
use Rattle.entries.specs.Entry.{is_unowned}
use Rattle.entries.proofs.entry.is_unowned.Goals as goal

pub returns : goal.returns
unfolding is_unowned ◌or◌
returns c = refl
