-- `assignment::update::assign` meets its contract: the changes that it makes, one after the other, are those of the rule.
use borrow.Author.Tests.{eq-eqb, ne_eqb}
use Rattle.words.specs.Choice.{pick}
use Rattle.entries.specs.Entry.{entry}
use Rattle.rules.specs.Assignment.{assigning}
use Rattle.rules.specs.State.{with_entry, with_frame}
use Rattle.assignment.proofs.update.assign.Goals as goal
use Rattle.assignment.proofs.update.assign.Goals.{then-owner_changes, else-owner_changes}

pub returns : goal.returns
unfolding assigning with_entry with_frame pick entry
returns c = elim c.if-owner_changes.branch [
  | then-owner_changes w ↦ rw (c.put.ensures, w.memory-is, w.zero.ensures, ne_eqb _ _ w.if-owner_changes.true)
  | else-owner_changes w ↦ rw (c.put.ensures, w.memory-is, eq-eqb _ _ w.if-owner_changes.false)
]
