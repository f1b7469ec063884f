-- `lines::line::parse_numbers` meets its contract: the numbers taken so far, and the fields that are left, say what all the fields do.
use mathlib.Core.Path.{◌≡◌, sym, ap, ◌∙◌}
use mathlib.Core.List.{[], ◌∷◌, ◌++◌}
use Prim.Native.Char.{code}
use Prim.Native.Nat.{◌+◌}
use native.Mathlib.Omega.{arith}
use lib.Dec.{eqb}
use lib.ListN.{length, drop, length-append, drop_of_length-le}
use borrow.Author.Rules.{rules}
use Rattle.std.proofs.Common.{tests, of_calls}
use Rattle.std.proofs.lemmas.Iterator.Consumers.{YieldsList-turn, YieldsList-end}
use Rattle.std.proofs.lemmas.Iterator.Splits.{YieldsList-from_slice_split}
use Rattle.std.specs.Slice.Iter.{split_rest, split_done, split_callee}
use Rattle.format.specs.Line.{fields}
use Rattle.format.proofs.AskLaws.{asks_begins, asks_ends, asks_takes, asks_refuses, asks_overflows}
use Rattle.lines.proofs.Taken.{fields_are, field_at, number_told, no_number_told, pushed, not_pushed}
use Rattle.lines.proofs.line.parse_numbers.Goals as goal
use Rattle.lines.proofs.line.parse_numbers.Goals.{In-Some}

-- the fields that are left are this one and those after it
left :
    (c : In-Some)
    → drop (length c.loop-field.yielded) (fields c.args.rest.now)
    ≡ c.in-Some.field.now ∷ drop (length c.loop-field.yielded + 1) (fields c.args.rest.now)
left c = let split = c.split-field-items.ensures in
    let same = c.into_iter-field-iterator.ensures.into_iter_gives in
    let turn =
    YieldsList-turn
    (YieldsList-from_slice_split _ (λ b. eqb b (code " ")) c.args.rest.now
    (ap split_rest same ∙ split.rest)
    (ap split_done same ∙ split.done)
    (ap split_callee same ∙ split.closure)
    (λ x r q k. search (rules, tests)))
    c.loop-field.yielded _ c.loop-field.yielded_by _ _ c.in-Some.field c.in-Some.is c.next.ensures.steps in
    rw (fields_are c.args.rest.now) (field_at _ _ _ turn)

pub loop-field-init : goal.loop-field-init
loop-field-init c = record {
  can = search of_calls;
  finite = search of_calls;
  taken = omega (arith, ap length c.new-values.ensures);
  says = rw c.new-values.ensures (asks_begins c.args.letter (fields c.args.rest.now));
}

pub returns-in_err-parse : goal.returns-in_err-parse
returns-in_err-parse c =
    let none = no_number_told c.in-Some.field.now (sym c.parse.ensures ∙ c.in_err-parse.was) in
    rw (c.from_residual.ensures, c.loop-field.invariant.says, left (goal.at.returns-in_err-parse c).In-Some) (sym (asks_refuses _ _ _ _ none))

pub loop-field-preserved : goal.loop-field-preserved
loop-field-preserved c =
    let l = c.loop-field in
    let number = number_told c.in-Some.field.now c.in_ok-parse.field-0 (sym c.parse.ensures ∙ c.in_ok-parse.was) in
    let more = pushed c.try_push.result c.in_ok-ok.field-0 (sym c.ok.ensures.value ∙ c.in_ok-ok.was) c.try_push.ensures.ok in
    let longer : length (l.yielded ++ c.in-Some.field ∷ []) ≡ length l.yielded + 1 = length-append l.yielded (c.in-Some.field ∷ []) in
    record {
      can = search of_calls;
      finite = search of_calls;
      taken = rw (longer, more, length-append) (omega arith);
      says = rw (longer, more, ← number.1, l.invariant.says, left (goal.at.loop-field-preserved c).In-Some) (asks_takes _ _ _ _ number.0);
    }

pub returns-in_err-ok : goal.returns-in_err-ok
returns-in_err-ok c =
    let l = c.loop-field in
    let full = not_pushed c.try_push.result (sym c.ok.ensures.value ∙ c.in_err-ok.was) c.try_push.ensures.full in
    rw (c.from_residual-in_err-ok.ensures, l.invariant.says, left (goal.at.returns-in_err-ok c).In-Some) (sym (asks_overflows _ _ _ _ (omega arith)))

pub returns : goal.returns
returns c = let split = c.split-field-items.ensures in
    let same = c.into_iter-field-iterator.ensures.into_iter_gives in
    let end =
    YieldsList-end
    (YieldsList-from_slice_split _ (λ b. eqb b (code " ")) c.args.rest.now
    (ap split_rest same ∙ split.rest)
    (ap split_done same ∙ split.done)
    (ap split_callee same ∙ split.closure)
    (λ x r q k. search (rules, tests)))
    c.loop-field.yielded _ c.loop-field.yielded_by _ _ c.in-None.is c.next.ensures.steps in
    let none : drop (length c.loop-field.yielded) (fields c.args.rest.now) ≡ [] = rw (fields_are c.args.rest.now) (drop_of_length-le _ {i = length c.loop-field.yielded} (omega arith)) in
    rw (c.ask.ensures, c.deref.ensures.0, c.loop-field.invariant.says, none) (sym (asks_ends _ _))
