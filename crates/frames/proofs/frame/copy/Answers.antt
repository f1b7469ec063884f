-- `frames::frame::copy` meets its contract: each of the two copies fills a run of 512 words, and nothing changes where memory does not have
-- both frames.
use Rattle.std.proofs.Common.{◌≡◌, ◌<◌, sym, ◌∙◌, length, arith}
use Rattle.words.proofs.RunLaws.{copied_whole}
use Rattle.frames.specs.Frame.{frame_count, frame_in}
use Rattle.frames.proofs.FrameLaws.{frame_outside, frame_long, lent_frame, frame_laid, copied_outside}
use Rattle.frames.proofs.frame.copy.Goals as goal
use Rattle.frames.proofs.frame.copy.Goals.{else-from-count-via-then-from-count+else-to-count, else-from-count-via-else-from-count}

pub returns-then-to-count : goal.returns-then-to-count
returns-then-to-count c = let m = c.args.memory.now in
    let from = c.args.from in
    let source = c.range-from.ensures in
    let target = c.range-to.ensures in
    let had : from < frame_count m = omega arith in
    let run = frame_in m from in
    let long : length run ≡ 512 = frame_long m from had in
    let held : c.copy.new.target ≡ run =
    c.copy.ensures ∙ rw (lent_frame m from _ _ had source.start source.end) (copied_whole _ run (sym long)) in
    frame_laid m c.args.to _ _ (omega arith) target.start target.end run _ long (c.copy-then-to-count.ensures ∙ rw held)

pub returns-else-from-count : goal.returns-else-from-count
returns-else-from-count c =
    elim c.else-from-count.branch [
      | else-from-count-via-then-from-count+else-to-count w ↦ sym (frame_outside _ _ _ (omega arith))
      | else-from-count-via-else-from-count w ↦ sym (copied_outside _ _ _ (omega arith))
    ]
