-- `numbers::buffer::Buffer::append_digits` meets its contract: the digits still to be spelt, and those that stand from i on, make the number's.
use mathlib.Core.Path.{◌≡◌}
use mathlib.Core.List.{◌++◌}
use lib.ListN.{length, drop}
use Rattle.format.specs.Number.{digits}
use Rattle.numbers.proofs.buffer.Buffer.append_digits.Given as goal

abbrev pub invariant-loop-i : goal.invariant-loop-i
invariant-loop-i g l = record {
  room : length l.spelt ≡ 20;
  spelt_from : l.from ≡ l.i;
  made : digits g.row.BASE 20 l.n ≡ digits g.row.BASE l.i l.rest ++ drop l.i l.spelt;
}
