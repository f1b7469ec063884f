-- `merging::merge::merge` meets its contract: the changes that it makes, one after the other, are those of the rule.
use Rattle.rules.specs.Leaves.{leaf_frame}
use Rattle.rules.specs.Merging.{merging}
use Rattle.rules.specs.State.{with_entry, with_word, with_frame}
use Rattle.merging.proofs.merge.merge.Goals as goal

pub returns : goal.returns
unfolding merging leaf_frame with_entry with_word with_frame
returns c = rw (
  c.put.ensures,
  c.zero-freed.ensures,
  c.zero.ensures,
  c.put_word.ensures,
  c.present_at.ensures,
  c.frame_of-leaf.ensures,
)
