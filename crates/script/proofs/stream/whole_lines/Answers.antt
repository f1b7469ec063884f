-- `script::stream::whole_lines` meets its contract: `rposition` finds the last line feed.
use borrow.Author.Rules.{rules}
use Rattle.std.specs.Prelude.{MatchOption}
use Rattle.script.proofs.LastFeed.{NoFeed, IsLastFeed, last_cuts}
use Rattle.script.proofs.stream.whole_lines.Goals as goal

pub returns-clause-whole : goal.returns-clause-whole
returns-clause-whole c =
    let found : MatchOption c.rposition.result (NoFeed c.args.text.now) (IsLastFeed c.args.text.now) = search rules in
    let cuts = last_cuts c.args.text.now c.rposition.result found in
    search rules
