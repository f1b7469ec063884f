-- `flat::virtual_address::may_name` meets its contract, which is its code.
use Rattle.words.specs.Choice.{◌or◌}
use Rattle.flat.specs.Virtual.{may_name}
use Rattle.flat.proofs.virtual_address.may_name.Goals as goal

pub returns : goal.returns
unfolding may_name ◌or◌
returns c = cc
