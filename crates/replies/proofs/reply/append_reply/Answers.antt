-- `replies::reply::append_reply` meets its contract: the letter, the answer and the line feed, each appended, are appended as one.
use Rattle.format.specs.Reply.{reply}
use Rattle.numbers.proofs.BufferLaws.{Appends_append}
use Rattle.replies.proofs.reply.append_reply.Goals as goal

pub returns : goal.returns
unfolding reply
returns c =
    Appends_append (rw c.letter.ensures at c.append.ensures) (Appends_append c.append_answer.ensures c.append-2.ensures)
