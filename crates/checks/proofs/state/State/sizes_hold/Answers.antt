-- `checks::state::State::sizes_hold` meets its contract: the tests that it joins are those of the definition.
use Rattle.words.specs.Choice.{◌and◌}
use Rattle.rules.specs.State.{N, M, sized}
use Rattle.checks.proofs.state.State.sizes_hold.Goals as goal

pub returns : goal.returns
unfolding sized N M ◌and◌
returns c = rw (c.is_whole-2.ensures, c.is_whole.ensures, c.covered-covered.ensures, c.frames-frames.ensures, ← c.self.view_is)
