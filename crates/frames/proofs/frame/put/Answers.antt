-- `frames::frame::put` meets its contract: each of the two copies fills a run of 512 words, and nothing changes for a run of another length
-- or where memory does not have the frame.
use Rattle.std.proofs.Common.{◌≡◌, sym, ◌∙◌, length, arith}
use Rattle.words.proofs.RunLaws.{copied_whole}
use Rattle.frames.proofs.FrameLaws.{frame_outside, frame_unlike, frame_laid}
use Rattle.frames.proofs.frame.put.Goals as goal
use Rattle.frames.proofs.frame.put.Goals.{else-frame-count-via-then-frame-count+else-words-eq512, else-frame-count-via-else-frame-count}

pub returns-then-words-eq512 : goal.returns-then-words-eq512
returns-then-words-eq512 c = let range = c.range-range.ensures in
    let words = c.args.words.now in
    let long : length words ≡ 512 = omega arith in
    let held : c.copy.new.target ≡ words = c.copy.ensures ∙ copied_whole _ words (sym long) in
    frame_laid c.args.memory.now c.args.frame _ _ (omega arith) range.start range.end words _ long
    (c.copy-then-words-eq512.ensures ∙ rw held)

pub returns-else-frame-count : goal.returns-else-frame-count
returns-else-frame-count c =
    elim c.else-frame-count.branch [
      | else-frame-count-via-then-frame-count+else-words-eq512 w ↦ sym (frame_unlike _ _ _ w.if-words-eq512.false)
      | else-frame-count-via-else-frame-count w ↦ sym (frame_outside _ _ _ (omega arith))
    ]
