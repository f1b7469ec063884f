-- `walk::begin::is_virtual` meets its contract, which is its code.
use Rattle.words.specs.Choice.{◌and◌, ◌or◌}
use Rattle.paging.specs.Entry.{is_virtual}
use Rattle.walk.proofs.begin.is_virtual.Goals as goal

pub returns : goal.returns
unfolding is_virtual ◌and◌ ◌or◌
returns c = cc
