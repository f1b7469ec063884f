-- `numbers::buffer::Buffer::append_digits` meets its contract: the digits still to be spelt, and those that stand from i on, make the number's.
use mathlib.Core.Path.{◌≡◌, sym, ◌∙◌}
use mathlib.Core.List.{◌++◌}
use Prim.Native.Nat.{◌-◌}
use native.Mathlib.Omega.{arith}
use lib.ListN.{length, length-set, drop}
use Rattle.format.specs.Number.{digits}
use Rattle.numbers.proofs.DigitsLaws.{spelt_last, spelt_more, spelt_full, lent_end}
use Rattle.numbers.proofs.buffer.Buffer.append_digits.Goals as goal
use Rattle.numbers.proofs.buffer.Buffer.append_digits.Goals.{else-loop-i-test, then-loop-i-test+then-rest}

pub loop-i-preserved : goal.loop-i-preserved
loop-i-preserved g c = let l = c.loop-i in
    let put = spelt_more g.row.BASE l.rest l.spelt l.i (l.i - 1) c.digit.result (omega arith) (omega arith) c.digit.ensures (omega arith) in
    record {
      room = simp length-set l.invariant.room;
      spelt_from = omega arith;
      made = l.invariant.made ∙ sym put;
    }

pub returns : goal.returns
returns g c = let l = c.loop-i in
    let t = c.loop-i-test in
    let base = g.row.BASE in
    let long : length t.spelt ≡ 20 =
    elim t.branch [
      | else-loop-i-test w ↦ rw w.spelt-is l.invariant.room
      | then-loop-i-test+then-rest w ↦ rw w.spelt-is (simp length-set l.invariant.room)
    ] in
    let stands : drop t.from t.spelt ≡ digits base l.i l.rest ++ drop l.i l.spelt =
    elim t.branch [
      | else-loop-i-test w ↦ rw (w.from-is, w.spelt-is, l.invariant.spelt_from) (spelt_full base l.rest l.spelt l.i (omega arith))
      | then-loop-i-test+then-rest w ↦
          rw (w.from-is, w.spelt-is)
          (spelt_last base l.rest l.spelt l.i (l.i - 1) w.digit.result (omega arith) (omega arith) w.digit.ensures (omega arith))
    ] in
    rw (lent_end t.spelt t.from 20 long, stands, ← l.invariant.made) at c.append.ensures
