-- `frames::frame::differing` meets its contract: two frames that memory has are lent whole, and each other return is a case of the
-- definition.
use Rattle.std.proofs.Common.{◌<◌, sym, ◌∙◌, arith}
use Rattle.frames.specs.Frame.{frame_count}
use Rattle.frames.proofs.FrameLaws.{differing_is, differing_outside_one, differing_outside_two, lent_frame, frame_long}
use Rattle.frames.proofs.frame.differing.Goals as goal
use Rattle.frames.proofs.frame.differing.Goals.{else-one-count-via-then-one-count+else-two-count, else-one-count-via-else-one-count}

pub returns-then-two-count : goal.returns-then-two-count
returns-then-two-count c = let m = c.args.memory.now in
    let one = c.args.one in
    let two = c.args.two in
    let a : one < frame_count m = omega arith in
    let b : two < frame_count m = omega arith in
    c.differing.ensures
    ∙ rw (
      lent_frame m one _ _ a c.range-one.ensures.start c.range-one.ensures.end,
      lent_frame m two _ _ b c.range-two.ensures.start c.range-two.ensures.end,
      frame_long m one a,
      frame_long m two b,
    )
    (sym (differing_is m one two a b))

pub returns : goal.returns
returns c =
    elim c.else-one-count.branch [
      | else-one-count-via-then-one-count+else-two-count w ↦ sym (differing_outside_two _ _ _ (omega arith))
      | else-one-count-via-else-one-count w ↦ sym (differing_outside_one _ _ _ (omega arith))
    ]
