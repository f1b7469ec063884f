-- A run is what the rules make of its requests, request for request and reply for reply, by induction on the run: what is promised of a
-- request is the rules' response to it. So what is said of every list of requests holds of every run.
-- Assumes nothing.
use mathlib.Core.Path.{◌≡◌, refl, sym, ap, subst, ◌∙◌}
use mathlib.Core.List.{[], ◌∷◌}
use Rattle.rules.specs.History.{NoCounterGoesBack}
use Rattle.rules.specs.State.{empty_table}
use Rattle.requests.specs.Asked.{requested, afterwards, counted}
use Rattle.requests.specs.Requests.{response, telling, respond}
use Rattle.requests.specs.Run.{CallIsRuled, none, next, requests_of, ended, RunIsHistory, RunDemand3}
use Rattle.requests.proofs.Asked.{requests_keep_demand_3}

pub call_is_ruled : CallIsRuled
unfolding respond
call_is_ruled m promised = ap telling promised

pub run_is_history : RunIsHistory
unfolding requested afterwards ended requests_of
run_is_history s [] none = (refl, refl)
run_is_history s (a ∷ rest) (next got kept on) =
    let tail = run_is_history _ rest on in
    let ruled : response a.reply a.left ≡ respond s a.request = rw (← got) kept in
    (rw (← ruled, ← got, ← tail.0), tail.1 ∙ ap (λ r. afterwards r.after (requests_of rest)) ruled)

pub run_keeps_demand_3 : RunDemand3
run_keeps_demand_3 length memory run kept =
    let start = empty_table length memory in
    let same = run_is_history start run kept in
    rw same.1
    (subst (λ all. NoCounterGoesBack (counted all) (afterwards start (requests_of run))) (sym same.0)
    (requests_keep_demand_3 length memory (requests_of run)))
