-- `entries::entry::is_address` meets its contract, which is its code.
use mathlib.Core.Path.{refl}
use Rattle.words.specs.Choice.{◌and◌}
use Rattle.entries.specs.Entry.{is_address}
use Rattle.entries.proofs.entry.is_address.Goals as goal

pub returns : goal.returns
unfolding is_address ◌and◌
returns c = refl
