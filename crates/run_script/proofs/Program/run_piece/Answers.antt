-- `run_script::Program::run_piece` meets its contract: `feed` and `run` promise it of the first bytes of the text, and there is room for
-- what they print.
use mathlib.Core.Path.{◌≡◌, refl}
use Prim.Native.Nat.{◌+◌, ◌≤◌}
use native.Mathlib.Nat.{add-zero}
use native.Mathlib.Omega.{arith}
use lib.ListN.{length, take}
use lib.Seq.{length-take-le}
use Rattle.format.specs.Piece.{unfinished}
use Rattle.run_script.specs.Turn.{Turned}
use Rattle.run_script.proofs.Turns.{count_is, unfinished_most, piece_prints, all_kept, piece_left, last_prints, turned_piece, next_is, none_follows}
use Rattle.run_script.proofs.Program.run_piece.Goals as goal

pub shared_ref_as_front-print : goal.shared_ref_as_front-print
shared_ref_as_front-print c =
    let count = count_is _ _ _ _ c.run-printed.ensures.result_after in
    omega arith

pub shared_ref_as_front-print-in-Ok : goal.shared_ref_as_front-print-in-Ok
shared_ref_as_front-print-in-Ok c =
    let count = count_is _ _ _ _ c.feed-fed.ensures.printed_after in
    omega arith

pub returns-in-Ok-eq0-clause-turned : goal.returns-in-Ok-eq0-clause-turned
unfolding Turned
returns-in-Ok-eq0-clause-turned c = let x = c.args in
    let ran = c.run-printed.ensures in
    let handed = c.print.ensures.handed in
    let count = count_is _ _ _ _ ran.result_after in
    let all = length-take-le c.run-printed.result c.run-printed.new.out (omega arith) in
    let nothing = rw c.in-Ok-eq0.field-0-is at c.in-Ok-eq0.field-0-test in
    rw (c.in-Ok-eq0.is, nothing, add-zero, handed, all)
    (none_follows _ c.print.ensures.next, ran.memory_after, last_prints _ x.self.now.text _ _ _ x.self.now.roomy.enough x.kept ran.result_after)

pub returns-in-Ok-clause-kept_bound : goal.returns-in-Ok-clause-kept_bound
returns-in-Ok-clause-kept_bound c = let x = c.args in
    let filled = x.kept + c.in-Ok.n in
    let kept = all_kept x.self.now.text _ filled _ c.feed-fed.ensures.kept_after in
    let few = (unfinished_most (take filled x.self.now.text)).1 in
    next_is c.print-in-Ok.result.next (λ k. k ≤ 121) _ (omega arith) c.print-in-Ok.ensures.next

pub returns-in-Ok-clause-turned : goal.returns-in-Ok-clause-turned
returns-in-Ok-clause-turned c = let x = c.args in
    let filled = x.kept + c.in-Ok.n in
    let fed = c.feed-fed.ensures in
    let count = count_is _ _ _ _ fed.printed_after in
    let all = length-take-le c.feed-fed.result.printed c.feed-fed.new.out (omega arith) in
    let text = x.self.now.text in
    let some = rw c.in-Ok.is at c.in-Ok.n-test in
    rw c.in-Ok.is (turned_piece c.in-Ok.n (omega arith) _ _ _ _ _ _ (
      fed.memory_after,
      rw (c.print-in-Ok.ensures.handed, all) (piece_prints _ text _ _ _ x.self.now.roomy.enough filled fed.printed_after),
      piece_left text _ filled _ fed.kept_after,
      next_is c.print-in-Ok.result.next (λ k. k ≡ length (unfinished (take filled text))) _ (all_kept text _ filled _ fed.kept_after) c.print-in-Ok.ensures.next,
    ))

pub returns-in-Err-clause-turned : goal.returns-in-Err-clause-turned
unfolding Turned
returns-in-Err-clause-turned c = rw c.in-Err.is (refl, refl, refl)
