-- `merging::unmerge::unmerge` meets its contract: the changes that it makes, one after the other, are those of `moving`.
use Rattle.rules.specs.Leaves.{leaf_frame}
use Rattle.rules.specs.State.{frame_at, with_entry, with_word, with_frame}
use Rattle.merging.specs.Moved.{moving}
use Rattle.merging.proofs.unmerge.unmerge.Goals as goal

pub returns : goal.returns
unfolding moving leaf_frame frame_at with_entry with_word with_frame
returns c = rw (
  c.put_word.ensures,
  c.frame_of.ensures,
  c.put.ensures,
  c.to_moved.ensures,
  c.copy.ensures,
)
