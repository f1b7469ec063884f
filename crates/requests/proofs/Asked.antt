-- Demand 3 of lists of requests: to table and memory they are calls of 01, of which demand 3 holds, and those that are left out of the count
-- are no events.
-- Assumes nothing.
use mathlib.Core.Path.{subst}
use mathlib.Core.List.{List}
use Rattle.rules.specs.History.{NoCounterGoesBack}
use Rattle.rules.specs.State.{State, empty_table}
use Rattle.rules.proofs.History.{no_counter_goes_back}
use Rattle.rules.proofs.HistoryFrom.{finally_sound}
use Rattle.rules.proofs.Sound.{Sound}
use Rattle.requests.specs.Asked.{afterwards, RequestsDemand3}
use Rattle.requests.specs.Requests.{Request}
use Rattle.requests.proofs.AsCalls.{all_calls, all_leave, all_count}
use Rattle.requests.proofs.Thinned.{thinned}

pub requests_keep_demand_3 : RequestsDemand3
requests_keep_demand_3 length memory requests =
    let start = empty_table length memory in
    thinned (all_count start requests)
    (subst (NoCounterGoesBack _) (all_leave start requests) (no_counter_goes_back length memory (all_calls start requests)))

pub afterwards_sound : (s : State) (requests : List Request) → Sound s → Sound (afterwards s requests)
afterwards_sound s requests sound = subst Sound (all_leave s requests) (finally_sound s (all_calls s requests) sound)
