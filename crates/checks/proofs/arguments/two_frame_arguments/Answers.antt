-- `checks::arguments::two_frame_arguments` meets its contract: the tests that it joins promise those of the definition.
use Rattle.words.specs.Choice.{◌and◌}
use Rattle.rules.specs.Arguments.{two_frame_arguments}
use Rattle.checks.proofs.arguments.two_frame_arguments.Goals as goal

pub returns : goal.returns
unfolding two_frame_arguments ◌and◌
returns c = rw (c.is_address-2.ensures, c.is_address.ensures, c.is_party.ensures)
