-- `checks::arguments::unmerge_arguments` meets its contract: the tests that it joins promise those of the definition.
use Rattle.words.specs.Choice.{◌and◌}
use Rattle.rules.specs.Arguments.{unmerge_arguments}
use Rattle.checks.proofs.arguments.unmerge_arguments.Goals as goal

pub returns : goal.returns
unfolding unmerge_arguments ◌and◌
returns c = rw (c.is_guest.ensures, c.two_frame_arguments.ensures)
