-- `numbers::buffer::Buffer::append` meets its contract: a part of the bytes was written, from the end of what is filled.
use mathlib.Core.Path.{refl, sym, ◌∙◌}
use native.Mathlib.Omega.{arith}
use lib.Seq.{take_all}
use Rattle.numbers.specs.Held.{held}
use Rattle.numbers.proofs.BufferLaws.{appended_written}
use Rattle.numbers.proofs.buffer.Buffer.append.Goals as goal

pub returns-then-n-more : goal.returns-then-n-more
returns-then-n-more c = let more = c.args.more.now in
    let written = appended_written (held c.args.self.now) more _ c.min-at.result c.min-n.result _ in
    let all = take_all c.min-n.result more (omega arith) in
    record {
      same_reference = refl;
      grown = written (omega arith) (c.copy_from_slice.ensures.after ∙ sym all) (omega arith) (omega arith) (omega arith);
    }

pub returns-else-n-more : goal.returns-else-n-more
returns-else-n-more c = let written = appended_written (held c.args.self.now) c.args.more.now _ c.min-at.result c.min-n.result _ in
    record {
      same_reference = refl;
      grown = written (omega arith) c.copy_from_slice-else-n-more.ensures.after (omega arith) (omega arith) (omega arith);
    }
