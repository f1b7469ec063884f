-- `checks::arguments::may_access` meets its contract: the tests that it joins promise those of the definition.
use Rattle.words.specs.Choice.{◌and◌, ◌or◌}
use Rattle.rules.specs.Arguments.{may_access}
use Rattle.checks.proofs.arguments.may_access.Goals as goal

pub returns : goal.returns
unfolding may_access ◌or◌ ◌and◌
returns c = rw c.is_host.ensures
