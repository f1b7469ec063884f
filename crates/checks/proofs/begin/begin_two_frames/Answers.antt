-- `checks::begin::begin_two_frames` meets its contract: the tests are those of the definition.
use Rattle.words.specs.Choice.{◌and◌}
use Rattle.checks.proofs.begin.begin_two_frames.Goals as goal

pub returns : goal.returns
unfolding ◌and◌
returns c = λ v. rw (
  c.begin.ensures v,
  c.covers-2.ensures,
  c.covers.ensures,
  c.is_host-party.ensures,
  c.two_frame_arguments-given.ensures,
)
