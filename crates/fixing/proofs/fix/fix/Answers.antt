-- `fixing::fix::fix` meets its contract: the changes that it makes, one after the other, are those of the rule.
use Rattle.rules.specs.Merging.{fixing}
use Rattle.rules.specs.State.{with_entry, with_word, with_frame}
use Rattle.fixing.proofs.fix.fix.Goals as goal

pub returns : goal.returns
unfolding fixing with_entry with_word with_frame
returns c = rw (
  c.put.ensures,
  c.to_fixed.ensures,
  c.put_word.ensures,
  c.present_at.ensures,
  c.zero.ensures,
  c.frame_of-leaf_frame.ensures,
)
