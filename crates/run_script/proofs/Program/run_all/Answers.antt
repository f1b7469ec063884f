-- `run_script::Program::run_all` meets its contract: a run from what a turn left, behind what it kept, makes a run from the start. At the
-- end of the turns nothing more is run.
use Rattle.run_script.proofs.Turns.{no_more, turn_before, turn_last}
use Rattle.run_script.proofs.Program.run_all.Goals as goal

pub returns-in_default : goal.returns-in_default
returns-in_default c =
    let turn = c.run_piece-turn in
    c.loop.invariant.before _
    (turn_last _ _ _ _ _ _ _ c.read_behind-got.ensures.text_unchanged _ (rw c.in_default.is at turn.ensures.turned))

pub loop-preserved : goal.loop-preserved
loop-preserved c =
    let turn = c.run_piece-turn in
    let did = rw c.in-Some.is at turn.ensures.turned in
    record {
      few = rw c.in-Some.is at turn.ensures.kept_bound;
      before =
          λ end rest.
          c.loop.invariant.before end
          (turn_before _ _ _ _ _ _ _ c.read_behind-got.ensures.text_unchanged _ _ end did rest);
    }

pub returns : goal.returns
returns c = c.loop.invariant.before _ (no_more _ _)
