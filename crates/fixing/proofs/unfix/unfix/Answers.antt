-- `fixing::unfix::unfix` meets its contract: the changes that it makes, one after the other, are those of the rule.
use Rattle.rules.specs.Leaves.{leaf_frame}
use Rattle.rules.specs.Merging.{unfixing}
use Rattle.rules.specs.State.{with_entry, with_frame}
use Rattle.fixing.proofs.unfix.unfix.Goals as goal

pub returns : goal.returns
unfolding unfixing leaf_frame with_entry with_frame
returns c = rw (
  c.zero-2.ensures,
  c.put-2.ensures,
  c.zero.ensures,
  c.put.ensures,
  c.frame_of-leaf.ensures,
)
