-- `entries::entry::is_owned` meets its contract, which is its code.
use mathlib.Core.Path.{refl}
use Rattle.words.specs.Choice.{◌or◌}
use Rattle.entries.specs.Entry.{is_owned}
use Rattle.entries.proofs.entry.is_owned.Goals as goal

pub returns : goal.returns
unfolding is_owned ◌or◌
returns c = refl
