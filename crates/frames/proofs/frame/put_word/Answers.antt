-- `frames::frame::put_word` meets its contract: each return is a case of the definition.
use Rattle.std.proofs.Common.{sym, arith}
use Rattle.frames.proofs.FrameLaws.{put_is, put_outside, put_past}
use Rattle.frames.proofs.frame.put_word.Goals as goal
use Rattle.frames.proofs.frame.put_word.Goals.{else-frame-count-via-then-frame-count+else-index-lt512, else-frame-count-via-else-frame-count}

pub returns-then-index-lt512 : goal.returns-then-index-lt512
returns-then-index-lt512 c = sym (put_is _ _ _ _ (omega arith) (omega arith))

pub returns-else-frame-count : goal.returns-else-frame-count
returns-else-frame-count c =
    elim c.else-frame-count.branch [
      | else-frame-count-via-then-frame-count+else-index-lt512 w ↦ sym (put_past _ _ _ _ (omega arith))
      | else-frame-count-via-else-frame-count w ↦ sym (put_outside _ _ _ _ (omega arith))
    ]
