-- `lines::line::parse` meets its contract: where a space stands behind the letter, the fields of the rest are looked at.
use mathlib.Core.Path.{◌≡◌}
use lib.ListN.{get_or}
use Rattle.std.proofs.lemmas.List.{take_rest}
use Rattle.format.proofs.SaidLaws.{said_asks}
use Rattle.lines.proofs.line.parse.Goals as goal

pub returns-in-32 : goal.returns-in-32
returns-in-32 c = let line = c.args.line.now in
    let space : get_or line 1 0 ≡ 32 = cc in
    rw (c.parse_numbers.ensures, take_rest, said_asks line c.if-line-gt120.false c.in-32.len_at_least space)
