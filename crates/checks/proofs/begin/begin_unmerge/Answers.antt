-- `checks::begin::begin_unmerge` meets its contract: the tests are those of the definition.
use Rattle.words.specs.Choice.{◌and◌}
use Rattle.checks.proofs.begin.begin_unmerge.Goals as goal

pub returns : goal.returns
unfolding ◌and◌
returns c = λ v. rw (
  c.begin.ensures v,
  c.covers-2.ensures,
  c.covers.ensures,
  c.is_host-party.ensures,
  c.unmerge_arguments-given.ensures,
)
