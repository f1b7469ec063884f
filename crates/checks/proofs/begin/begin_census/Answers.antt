-- `checks::begin::begin_census` meets its contract: the tests, and the checks in their order, are those of the definition.
use Rattle.checks.proofs.PassedLaws.{past-and}
use Rattle.checks.proofs.begin.begin_census.Goals as goal

pub returns : goal.returns
returns c = λ v. rw (
  c.and.ensures,
  past-and,
  c.ensure-2.ensures,
  c.is_guest.ensures,
  c.ensure.ensures,
  c.sizes_hold.ensures,
)
