-- `words::run::copy` meets its contract.
use Rattle.std.proofs.Common.{rules}
use Rattle.words.specs.Run.{copied}
use Rattle.words.proofs.run.copy.Goals as goal

pub returns : goal.returns
unfolding copied
returns c = search rules
