-- What a chain of checks comes to: one check and then another, and two tests joined by `&`. For the attributes of functions.
-- Assumes nothing.
use Rattle.std.proofs.Common.{◌≡◌, refl}
use Rattle.std.specs.Prelude.{Bool, ◌&&◌}
use Rattle.words.specs.Choice.{◌and◌}
use Rattle.checks.proofs.PassedLaws.{past-and}

pub joined : (s t : Bool) → s and t ≡ s && t
unfolding ◌and◌
joined s t = refl

pub ruleset chained = (past-and, joined)
