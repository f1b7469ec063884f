-- `script::run::run` meets its contract: what was printed, with what the lines that are left print, is what the whole text prints, and so
-- with table and memory.
use mathlib.Core.Path.{◌≡◌}
use Rattle.rules.specs.State.{state}
use Rattle.format.specs.Text.{printed, after}
use Rattle.format.proofs.ResponseLaws.{lines_print, lines_leave}
use Rattle.lines.specs.Read.{left}
use Rattle.numbers.specs.Buffer.{buffer, appended}
use Rattle.numbers.specs.Held.{held, lent}
use Rattle.script.proofs.run.run.Given as goal

abbrev pub invariant-loop-said : goal.invariant-loop-said
invariant-loop-said l = record {
  can : (goal.iterator-loop-said).can_next l.said-iterator;
  finite : (goal.iterator-loop-said).is_finite l.said-iterator;
  same_reference : (lent l.replies).ghost_name ≡ (lent l.initial.replies).ghost_name;
  state_left : lines_leave (state l.table l.memory) (left l.said-iterator) ≡ after (state l.initial.table l.initial.memory) l.text;
  out_left : appended (held l.replies) (lines_print (state l.table l.memory) (left l.said-iterator))
      ≡ appended (buffer l.fn.out 0) (printed (state l.initial.table l.initial.memory) l.text);
}
