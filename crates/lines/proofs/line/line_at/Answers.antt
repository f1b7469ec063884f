-- `lines::line::line_at` meets its contract: `until` gives where the line ends, and the part up to there is the line.
use mathlib.Core.Path.{sym}
use mathlib.Core.List.{[]}
use native.Mathlib.Omega.{arith}
use Rattle.format.proofs.PlaceLaws.{after_fed, after_last, no_line_past, stays_past}
use Rattle.format.proofs.SaidLaws.{said_few}
use Rattle.lines.proofs.Before.{long, within, line_is}
use Rattle.lines.proofs.line.line_at.Goals as goal

pub returns-then-at-text : goal.returns-then-at-text
returns-then-at-text c = let x = c.args in
    let none = no_line_past x.text.now x.at c.if-at-text.true in
    (rw (none, said_few [] (omega arith)), sym (stays_past x.text.now x.at c.if-at-text.true))

pub slice_bounds-parse-end : goal.slice_bounds-parse-end
slice_bounds-parse-end c =
    let is = c.until-length.ensures in
    let line = line_is c.args.text.now c.args.at _ (omega arith) is in
    let n = long c.args.text.now c.args.at _ (omega arith) is in
    rw line n

pub overflow_add-end : goal.overflow_add-end
overflow_add-end c = let inside = within c.args.text.now c.args.at _ (omega arith) c.until-length.ensures in omega arith

pub returns-then-end-text : goal.returns-then-end-text
returns-then-end-text c = let x = c.args in
    let is = c.until-length.ensures in
    let n = long x.text.now x.at _ (omega arith) is in
    (rw (c.parse-said.ensures, line_is x.text.now x.at _ (omega arith) is), rw (after_fed x.text.now x.at (omega arith)) (omega arith))

pub returns-else-end-text : goal.returns-else-end-text
returns-else-end-text c = let x = c.args in
    let is = c.until-length.ensures in
    let n = long x.text.now x.at _ (omega arith) is in
    (rw (c.parse-said.ensures, line_is x.text.now x.at _ (omega arith) is), rw (after_last x.text.now x.at (omega arith)) (omega arith))
