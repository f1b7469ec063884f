-- `lines::line::until` meets its contract: the first mark stands where `position` finds it.
use mathlib.Core.Path.{◌∙◌, sym}
use borrow.Author.Rules.{rules}
use lib.Dec.{eqb}
use Rattle.std.proofs.Common.{tests}
use Rattle.std.proofs.lemmas.Iterator.{YieldsList-from_slice}
use Rattle.std.proofs.lemmas.Iterator.Search.{position_from_yields_List}
use Rattle.lines.proofs.Before.{length-up_to, or_all}
use Rattle.lines.proofs.line.until.Goals as goal

pub returns : goal.returns
returns c = let bytes = c.args.bytes.now in
    let found =
    position_from_yields_List
    (λ b. eqb b c.args.mark) _ _ c.position.result c.position.ensures.ran (YieldsList-from_slice bytes cc) (λ x b q k. search (rules, tests)) in
    c.unwrap_or.ensures ∙ or_all _ bytes _ found ∙ sym (length-up_to c.args.mark bytes)
