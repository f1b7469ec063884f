-- Demand 3 of every text: the calls as they were made are the calls that the text says, and of any calls the rules' theorem holds.
-- Assumes nothing.
use mathlib.Core.Path.{◌≡◌, refl, ap}
use mathlib.Core.List.{List, [], ◌∷◌, map}
use Rattle.rules.specs.Calls.{Call, step}
use Rattle.rules.specs.History.{Made, history}
use Rattle.rules.specs.State.{State}
use Rattle.rules.proofs.History.{no_counter_goes_back}
use Rattle.format.specs.Text.{calls, printed, after, TextDemand3}

pub calls_made : (s : State) (all : List Call) → map (λ (m : Made). m.call) (history s all) ≡ all
unfolding history
calls_made s [] = refl
calls_made s (call ∷ rest) = ap (λ l. call ∷ l) (calls_made (step s call).after rest)

pub text_keeps_demand_3 : TextDemand3
unfolding printed after
text_keeps_demand_3 size memory text = (calls_made _ (calls text), (refl, no_counter_goes_back size memory (calls text)))
