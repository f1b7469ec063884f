-- `run_script::Program::run_all` meets its contract: a run from what a turn left, behind what it kept, makes a run from the start.
use mathlib.Core.List.{[]}
use Prim.Native.Nat.{◌≤◌}
use lib.ListN.{take}
use Rattle.rules.specs.State.{State, state}
use Rattle.run_script.specs.Turn.{Ran}
use Rattle.run_script.proofs.Program.run_all.Given as goal

abbrev pub invariant-loop : goal.invariant-loop
invariant-loop l = record {
  few : l.kept ≤ 121;
  before : (end : State) → Ran (state l.self.table l.self.memory) (take l.kept l.self.text) end
      → Ran (state l.initial.self.table l.initial.self.memory) [] end;
}
