-- `checks::arguments::update_arguments` meets its contract: the tests that it joins promise those of the definition.
use Rattle.words.specs.Choice.{◌and◌, ◌or◌}
use Rattle.rules.specs.Arguments.{update_arguments}
use Rattle.checks.proofs.arguments.update_arguments.Goals as goal

pub returns : goal.returns
unfolding update_arguments ◌and◌ ◌or◌
returns c = rw (
  c.is_owned.ensures,
  c.is_unowned.ensures,
  c.is_party-2.ensures,
  c.is_address-2.ensures,
  c.is_address.ensures,
  c.is_party.ensures,
)
