-- `census::holding_at` meets its contract: of a page that is not fixed, the test that the code makes is the definition's.
use Rattle.std.proofs.Common.{◌≡◌, ℕ, Bool, true, false, refl, rules}
use Rattle.std.specs.Prelude.{Ok}
use Rattle.std.specs.Bool.{then_some}
use Rattle.words.specs.Choice.{pick, ◌and◌}
use Rattle.rules.specs.Census.{holds, nothing, holding, in_entry}
use Rattle.census.specs.Census.{held}
use Rattle.census.proofs.holding_at.Goals as goal

held-then_some : (own : Bool) (gpa : ℕ) → held (Ok (then_some own gpa)) ≡ pick own (holds gpa) nothing
unfolding pick
held-then_some true gpa = refl
held-then_some false gpa = refl

pub returns : goal.returns
unfolding holding in_entry pick ◌and◌
returns c = rw (c.then_some.ensures, held-then_some) (search rules)
