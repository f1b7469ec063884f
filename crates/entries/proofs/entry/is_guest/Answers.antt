-- `entries::entry::is_guest` meets its contract, which is its code.
use mathlib.Core.Path.{refl}
use Rattle.words.specs.Choice.{◌and◌}
use Rattle.entries.specs.Entry.{is_guest}
use Rattle.entries.proofs.entry.is_guest.Goals as goal

pub returns : goal.returns
unfolding is_guest ◌and◌
returns c = refl
