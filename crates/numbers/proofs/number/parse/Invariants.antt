-- `numbers::number::parse` meets its contract: after some digits, what is left to test and to add is what there was, and the value of i digits
-- is below 2 ^ (4 * i), so that sixteen of them fit into a word.
use mathlib.Core.Path.{◌≡◌}
use Prim.Native.Nat.{◌*◌, ◌^◌, ◌<◌}
use lib.ListN.{drop}
use Rattle.format.specs.Number.{are_digits, value_after}
use Rattle.numbers.proofs.number.parse.Given as goal

abbrev pub invariant-loop-byte : goal.invariant-loop-byte
invariant-loop-byte l = record {
  fits : l.value < 2 ^ (4 * l.byte-index);
  tested : are_digits (drop l.byte-index l.field) ≡ are_digits l.field;
  added : value_after l.value (drop l.byte-index l.field) ≡ value_after 0 l.field;
}
