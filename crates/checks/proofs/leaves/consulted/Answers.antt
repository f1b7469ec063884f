-- `checks::leaves::consulted` meets its contract: each return is a case of the definition.
use Rattle.words.specs.Choice.{pick}
use Rattle.rules.specs.Leaves.{consulted, leaf_frame}
use Rattle.checks.proofs.leaves.consulted.Goals as goal

pub returns-then-is_leaf : goal.returns-then-is_leaf
unfolding consulted leaf_frame pick
returns-then-is_leaf c = rw (
  ← c.frame_of-leaf.ensures,
  ← c.entry.ensures,
  ← c.is_leaf.ensures,
  c.if-is_leaf.true,
  ← c.word.ensures,
  ← c.leaf_word.ensures,
)

pub returns : goal.returns
unfolding consulted leaf_frame pick
returns c = rw (← c.frame_of-leaf.ensures, ← c.entry.ensures, ← c.is_leaf.ensures, c.if-is_leaf.false)
