-- `parity::odd_in_turns` meets its contract: the counts are of the words so far, and the sums of the turns so far.
use Rattle.std.proofs.Common.{◌≡◌, ◌+◌, ◌*◌, ◌%◌, sym, ◌∙◌, ap, arith, add_assoc}
use Rattle.std.proofs.lemmas.List.{take_all}
use Rattle.std.proofs.lemmas.List.Sums.{get_or-le-sum_by}
use Rattle.parity.specs.Odd.{odd}
use Rattle.parity.specs.declared.Odd.TheVariants.{One}
use Rattle.parity.proofs.OddLaws.{odd_most, front_none, front_one, front_several}
use Rattle.parity.proofs.ColumnLaws.{Counted, Summed, counted_none, counted_next, summed_none, summed_next, first_inside, place_found}
use Rattle.parity.proofs.odd_in_turns.Goals as goal
use Rattle.parity.proofs.odd_in_turns.Goals.{After-total}

pub loop-turn-init : goal.loop-turn-init
loop-turn-init c = (counted_none c.args.run.now, summed_none c.args.run.now)

pub overflow_add-counts-in-loop-k : goal.overflow_add-counts-in-loop-k
overflow_add-counts-in-loop-k c = let l = c.loop-k in
    omega (
      arith,
      get_or-le-sum_by (λ x. x) l.counts (l.k % 4) 0 (omega (arith, l.invariant.four)),
      l.invariant.all,
      odd_most c.args.run.now (16 * c.loop-turn.turn + l.k),
    )

pub loop-k-preserved : goal.loop-k-preserved
loop-k-preserved c = let l = c.loop-k in rw (← add_assoc) (counted_next c.args.run.now l.counts _ (l.k % 4) (omega arith) l.invariant)

pub loop-turn-preserved : goal.loop-turn-preserved
loop-turn-preserved c = let run = c.args.run.now in
    let turn = c.loop-turn.turn in
    let counts = c.loop-k.counts in
    let sums = c.loop-k-2 in
    let behind : 16 * turn + c.loop-k.k ≡ 16 * (turn + 1) = omega arith in
    let counted = rw behind at c.loop-k.invariant in
    let all = take_all sums.k counts (omega (arith, counted.four)) in
    (counted, summed_next run counts c.loop-turn.sums sums.sums turn counted c.loop-turn.invariant.1 (omega arith) sums.invariant.0 (rw all at sums.invariant.1))

pub total-requires : goal.total-requires
total-requires c = omega (arith, c.loop-turn.invariant.0.all, odd_most c.args.run.now (16 * c.loop-turn.turn))

-- after the turns
done : (c : After-total) → Counted c.args.run.now (16 * c.args.turns) c.loop-turn.counts × Summed c.args.run.now c.args.turns c.loop-turn.sums
done c = let all : c.loop-turn.turn ≡ c.args.turns = omega arith in rw all at c.loop-turn.invariant

pub place_in_column-requires : goal.place_in_column-requires
place_in_column-requires c = let t = (goal.at.place_in_column-requires c).After-total in
    let d = done t in
    omega (arith, first_inside c.args.run.now _ _ c.args.turns d.0 d.1 (omega (arith, d.0.all)), c.total-in-1.ensures)

pub returns-in-0 : goal.returns-in-0
returns-in-0 c = let counted = (done (goal.at.returns-in-0 c).After-total).0 in
    sym (front_none _ _ (omega (arith, counted.all)))

pub returns-in-1 : goal.returns-in-1
returns-in-1 c = let t = (goal.at.returns-in-1 c).After-total in
    let run = c.args.run.now in
    let d = done t in
    let one : odd run (16 * c.args.turns) ≡ 1 = omega (arith, d.0.all) in
    sym (front_one run _ one ∙ ap One (sym (c.place_in_column.ensures ∙ place_found run _ _ c.args.turns d.0 d.1 one _ (omega (arith, c.total-in-1.ensures)))))

pub returns-in_default : goal.returns-in_default
returns-in_default c = let counted = (done (goal.at.returns-in_default c).After-total).0 in
    sym (front_several _ _ (omega (arith, counted.all)) (omega (arith, counted.all)))
