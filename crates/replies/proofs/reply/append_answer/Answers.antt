-- `replies::reply::append_answer` meets its contract: a refusal's number goes behind two words.
use Rattle.format.specs.Reply.{answered}
use Rattle.numbers.proofs.BufferLaws.{Appends_append}
use Rattle.replies.proofs.reply.append_answer.Goals as goal

pub returns-in-Err : goal.returns-in-Err
unfolding answered
returns-in-Err c = rw c.in-Err.is (Appends_append c.append.ensures (rw c.number.ensures at c.append_decimal.ensures))
