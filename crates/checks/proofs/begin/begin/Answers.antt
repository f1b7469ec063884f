-- `checks::begin::begin` meets its contract: the tests, and the checks in their order, are those of the definition.
use Rattle.rules.specs.Answers.{begins}
use Rattle.checks.proofs.PassedLaws.{past-and}
use Rattle.checks.proofs.begin.begin.Goals as goal

pub returns : goal.returns
unfolding begins
returns c = λ v.
    rw (
      c.and-3.ensures,
      c.and-2.ensures,
      c.and.ensures,
      past-and,
      past-and,
      past-and,
      c.ensure-4.ensures,
      c.ensure-3.ensures,
      c.ensure-2.ensures,
      c.ensure.ensures,
      c.sizes_hold.ensures,
    )
