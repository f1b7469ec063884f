-- `script::run::run` meets its contract: what was printed, with what the lines that are left print, is what the whole text prints, and so
-- with table and memory.
use mathlib.Core.Path.{refl, ap, ◌∙◌}
use borrow.Author.Rules.{rules}
use Rattle.rules.specs.State.{state}
use Rattle.format.proofs.ResponseLaws.{printed_is, after_is, no_line_prints, no_line_leaves, first_prints, first_leaves}
use Rattle.lines.specs.Read.{left}
use Rattle.numbers.proofs.BufferLaws.{append_append, appended_nothing}
use Rattle.script.proofs.run.run.Goals as goal

pub loop-said-init : goal.loop-said-init
loop-said-init c =
    let s = state c.args.table.now c.args.memory.now in
    let all = ap left c.into_iter-said-iterator.ensures.into_iter_gives ∙ c.new-said-items.ensures in
    record {
      can = tt;
      finite = tt;
      same_reference = refl;
      state_left = rw (all, after_is s c.args.text.now);
      out_left = rw (all, c.new-replies.ensures.empty, printed_is s c.args.text.now);
    }

pub loop-said-preserved : goal.loop-said-preserved
loop-said-preserved c =
    let l = c.loop-said in
    let s = state l.table l.memory in
    let responded = c.respond.ensures in
    let first = c.in-Some.ensures.steps in
    record {
      can = tt;
      finite = tt;
      same_reference = responded.out_after.same_reference ∙ l.invariant.same_reference;
      state_left = rw (responded.memory_after, ← first_leaves s _ (left c.next.new.self), ← first) l.invariant.state_left;
      out_left = rw (responded.memory_after, responded.out_after.grown, append_append, ← first_prints s _ (left c.next.new.self), ← first) l.invariant.out_left;
    }

pub returns-clause-memory_after : goal.returns-clause-memory_after
returns-clause-memory_after c =
    let l = c.loop-said in
    let none = c.in-None.ensures.steps in
    rw (none.0, no_line_leaves) at l.invariant.state_left

pub returns-clause-result_after : goal.returns-clause-result_after
returns-clause-result_after c =
    let l = c.loop-said in
    let none = c.in-None.ensures.steps in
    let all = rw (none.0, no_line_prints, appended_nothing) at l.invariant.out_left in
    search rules
