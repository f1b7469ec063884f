-- `script::stream::feed` meets its contract: the lines before the cut are run, and what is moved down is the unfinished line, or as much of
-- it as is kept.
use mathlib.Core.Path.{◌≡◌}
use Prim.Native.Nat.{◌+◌, ◌-◌}
use native.Mathlib.Omega.{arith}
use Rattle.script.proofs.StreamLaws.{whole_is, moved_is}
use Rattle.script.proofs.stream.feed.Goals as goal

pub returns : goal.returns
returns c = let x = c.args in
    let held = c.min-held.ensures in
    let cut = c.whole_lines-whole.ensures.whole in
    let ran = c.run-printed.ensures in
    let lines = whole_is x.text.now x.filled _ _ held cut in
    let whole = c.whole_lines-whole.result in
    let kept = c.min-kept.result in
    let same : whole + kept - whole ≡ kept = omega arith in
    let moved = moved_is x.text.now x.filled _ _ held cut _ c.min-kept.ensures _ same in
    record { memory_after = rw lines ran.memory_after; printed_after = rw lines ran.result_after; kept_after = rw c.copy_within.ensures.after moved }
