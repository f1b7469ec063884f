-- The examples of lines, answers and texts follow from the definitions: the prover computes them.
-- Assumes nothing.
use mathlib.Core.Path.{refl}
use Rattle.words.specs.Choice.{pick, ◌and◌}
use Rattle.format.specs.Examples.{spoken_lines, AsSpoken, printed_answers, AsPrinted, parted_texts, AsParted}
use Rattle.format.specs.Line.{longer, fields, is_call, asked, are_numbers, asks, begun, spoken, said}
use Rattle.format.specs.Number.{digit_value, are_digits, is_number, value_after, value, digit, digits, hex, decimal}
use Rattle.format.specs.Reply.{answered, reply}
use Rattle.format.specs.Text.{lines}
use Rattle.format.specs.Written.{letter}

pub as_spoken : AsSpoken
unfolding spoken_lines said spoken begun asks are_numbers asked is_call fields longer is_number are_digits digit_value value value_after pick ◌and◌
as_spoken = refl

pub as_printed : AsPrinted
unfolding printed_answers reply answered letter hex decimal digits digit pick
as_printed = refl

pub as_parted : AsParted
unfolding parted_texts lines longer pick
as_parted = refl
