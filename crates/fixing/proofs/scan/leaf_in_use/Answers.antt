-- `fixing::scan::leaf_in_use` meets its contract: `any` over the frames is the rule's test, frame by frame.
use Rattle.std.proofs.Common.{refl, ◌∙◌, rules, arith}
use borrow.Author.Tests.{tests}
use Rattle.std.proofs.lemmas.Iterator.{YieldsList-from_range}
use Rattle.std.proofs.lemmas.Iterator.Search.{any_from_yields_List}
use Rattle.rules.specs.Leaves.{names_leaf}
use Rattle.rules.specs.State.{state, entry_at}
use Rattle.fixing.proofs.ScanLaws.{any_names}
use Rattle.fixing.proofs.scan.leaf_in_use.Goals as goal

pub returns : goal.returns
unfolding entry_at
returns c = λ memory. let s = c.args.state.now in
    rw (← c.covered.ensures)
    (any_from_yields_List (λ k. names_leaf (entry_at s k) c.args.leaf) _ _ _ c.any.ensures.ran (YieldsList-from_range 0 c.covered.result c.covered.result refl (omega arith)) (λ x b q k. search (rules, tests))
    ∙ any_names (state s.table memory) c.args.leaf c.covered.result)
