-- `frames::frame::zero` meets its contract: a frame that memory has is lent and comes back zero, and one that it does not have is
-- no run that fits.
use Rattle.std.proofs.Common.{◌<◌, sym, ◌∙◌, arith}
use Rattle.frames.specs.Frame.{frame_count, zeros}
use Rattle.frames.proofs.FrameLaws.{frame_outside, frame_long, lent_frame, frame_back, length_zeros}
use Rattle.frames.proofs.frame.zero.Goals as goal

pub returns-then-frame-count : goal.returns-then-frame-count
unfolding zeros
returns-then-frame-count c = let m = c.args.memory.now in
    let f = c.args.frame in
    let words = c.range-words.ensures in
    let had : f < frame_count m = omega arith in
    frame_back m f _ _ had words.start words.end zeros c.zero.new.run length_zeros
    (c.zero.ensures ∙ rw (lent_frame m f _ _ had words.start words.end, frame_long m f had))

pub returns-else-frame-count : goal.returns-else-frame-count
returns-else-frame-count c = sym (frame_outside _ _ _ (omega arith))
