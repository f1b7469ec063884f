-- `replies::reply::append_accepted` meets its contract: each arm appends the answer's words, some in more than one go.
use mathlib.Core.Logic.{inl, inr}
use Rattle.format.specs.Reply.{answered}
use Rattle.numbers.proofs.BufferLaws.{Appends_append}
use Rattle.replies.proofs.reply.append_accepted.Goals as goal

pub returns-in-Closed : goal.returns-in-Closed
unfolding answered
returns-in-Closed c =
    let asid = Appends_append c.append-in-Closed.ensures c.append_hex.ensures in
    let space = Appends_append asid c.append-in-Closed-2.ensures in
    rw c.in-Closed.is (Appends_append space c.append_hex-in-Closed.ensures)

pub returns-in-Already : goal.returns-in-Already
unfolding answered
returns-in-Already c = rw c.in-Already.is c.append-in-Already.ensures

pub returns-in-Unfixed : goal.returns-in-Unfixed
unfolding answered
returns-in-Unfixed c = let all = Appends_append c.append-in-Unfixed.ensures c.append_hex-in-Unfixed.ensures in
    elim c.in-Unfixed.is [
      | inl unfixed ↦ rw unfixed all
      | inr (inl word) ↦ rw word all
      | inr (inr count) ↦ rw count all
    ]
