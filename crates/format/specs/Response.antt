-- 01, "The script program": what one line does. A wrong line prints `?` and changes nothing; any other makes its call, and prints the reply.
use Rattle.std.specs.Prelude.{List, ℕ}
use Rattle.rules.specs.Calls.{step}
use Rattle.rules.specs.State.{State}
use Rattle.format.specs.Line.{Said, says, wrong}
use Rattle.format.specs.Reply.{reply, wrong_reply}

unfoldable pub response : State → Said → List ℕ
response s (says call) = reply call (step s call).told
response s wrong = wrong_reply

unfoldable pub following : State → Said → State
following s (says call) = (step s call).after
following s wrong = s
