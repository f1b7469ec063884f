-- `lines::line::parse_numbers` meets its contract: the numbers taken so far, and the fields that are left, say what all the fields do.
use mathlib.Core.Path.{◌≡◌}
use lib.ListN.{length, drop}
use Rattle.format.specs.Line.{asks, fields}
use Rattle.format.proofs.AskLaws.{asks_on}
use Rattle.lines.proofs.line.parse_numbers.Given as goal

abbrev pub invariant-loop-field : goal.invariant-loop-field
invariant-loop-field l = record {
  can : (goal.iterator-loop-field).can_next l.field-iterator;
  finite : (goal.iterator-loop-field).is_finite l.field-iterator;
  taken : length l.values.items ≡ length l.yielded;
  says : asks l.letter (fields l.rest) ≡ asks_on l.letter l.values.items (drop (length l.yielded) (fields l.rest));
}
