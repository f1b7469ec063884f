-- The definitions give the worked output of 01 for its worked script, all twenty answers, and the events that demand 3 counts: computed.
-- Assumes nothing.
use mathlib.Core.Path.{◌≡◌, refl}
use mathlib.Core.List.{map}
use Rattle.worked.proofs.Computed.{computed}
use Rattle.rules.specs.History.{Made, history, by_answer, accepted, event_of, event}
use Rattle.rules.specs.State.{empty_table}
use Rattle.worked.specs.Script.{start, script, output, events}

pub as_printed : map (λ (m : Made). m.told) (history start script) ≡ output
unfolding computed history empty_table start script output
as_printed = refl

pub as_counted : map event (history start script) ≡ events
unfolding computed history empty_table by_answer accepted event_of event start script events
as_counted = refl
