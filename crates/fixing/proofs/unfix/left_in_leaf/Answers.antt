-- `fixing::unfix::left_in_leaf` meets its contract: the rule is what follows of the odd words of the leaf's frame.
use Rattle.rules.specs.Leaves.{leaf_frame}
use Rattle.checks.proofs.PassedLaws.{stops}
use Rattle.checks.specs.Passed.{passed}
use Rattle.fixing.specs.Left.{by_left}
use Rattle.fixing.proofs.LeftLaws.{followed, remaining_is}
use Rattle.fixing.proofs.unfix.left_in_leaf.Goals as goal

pub returns-in-None : goal.returns-in-None
unfolding leaf_frame by_left followed passed
returns-in-None c = λ one none.
    rw (
      ← c.frame_of-leaf.ensures,
      remaining_is,
      ← c.frame.ensures,
      ← c.in-None.ensures,
    )

pub returns-in_err-gpa-in-One : goal.returns-in_err-gpa-in-One
unfolding leaf_frame followed
returns-in_err-gpa-in-One c = λ one none.
    rw (
      ← c.frame_of-leaf.ensures,
      remaining_is,
      ← c.frame.ensures,
      ← c.in-One.ensures,
      ← c.word.ensures,
      ← c.leaf_word.ensures,
      ← c.of_guest.ensures,
    )
    (stops _ _ c.from_residual.ensures.1 c.in_err-gpa-in-One.was _ _)

pub returns-in_ok-gpa-in-One : goal.returns-in_ok-gpa-in-One
unfolding leaf_frame by_left followed passed
returns-in_ok-gpa-in-One c = λ one none.
    rw (
      ← c.frame_of-leaf.ensures,
      remaining_is,
      ← c.frame.ensures,
      ← c.in-One.ensures,
      ← c.word.ensures,
      ← c.leaf_word.ensures,
      ← c.in_ok-gpa-in-One.ensures,
    )

pub returns-in-Several : goal.returns-in-Several
unfolding leaf_frame by_left followed passed
returns-in-Several c = λ one none.
    rw (
      ← c.frame_of-leaf.ensures,
      remaining_is,
      ← c.frame.ensures,
      ← c.in-Several.ensures,
    )
