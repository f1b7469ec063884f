-- `frames::frame::part` meets its contract: a frame that memory has is a part of it, and one that it does not have has no words.
use Rattle.std.proofs.Common.{sym, arith}
use Rattle.frames.proofs.FrameLaws.{part_outside, lent_frame}
use Rattle.frames.proofs.frame.part.Goals as goal

pub returns-then-frame-count : goal.returns-then-frame-count
returns-then-frame-count c = let words = c.range-words.ensures in
    lent_frame c.args.memory.now c.args.frame _ _ (omega arith) words.start words.end

pub returns : goal.returns
returns c = sym (part_outside _ _ (omega arith))
