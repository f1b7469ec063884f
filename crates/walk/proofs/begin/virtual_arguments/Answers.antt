-- `walk::begin::virtual_arguments` meets its contract: the tests that it joins promise those of the definition.
use Rattle.words.specs.Choice.{◌and◌}
use Rattle.paging.specs.Walk.{virtual_arguments}
use Rattle.walk.proofs.begin.virtual_arguments.Goals as goal

pub returns : goal.returns
unfolding virtual_arguments ◌and◌
returns c = rw (c.is_virtual.ensures, c.is_address-2.ensures, c.is_address.ensures, c.is_party.ensures)
