-- `frames::frame::word` meets its contract: the frame's words are read, which are none where memory does not have it.
use Rattle.std.proofs.Common.{◌≡◌, ◌∙◌, get_or, rules}
use Rattle.frames.proofs.FrameLaws.{word_of_part}
use Rattle.frames.proofs.frame.word.Goals as goal

pub returns : goal.returns
returns c = let m = c.args.memory.now in
    let read : c.unwrap_or.result ≡ get_or c.part.result.now c.args.index 0 = search rules in
    read ∙ rw c.part.ensures (word_of_part m c.args.frame c.args.index)
