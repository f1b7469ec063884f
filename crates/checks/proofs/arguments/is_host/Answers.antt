-- `checks::arguments::is_host` meets its contract: its test is the definition's.
use Rattle.rules.specs.Arguments.{is_host}
use Rattle.checks.proofs.arguments.is_host.Goals as goal

pub returns : goal.returns
unfolding is_host
returns c = cc
