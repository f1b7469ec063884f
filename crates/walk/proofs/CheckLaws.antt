-- A walk behind checks: it goes on where they passed.
-- Assumes nothing.
use mathlib.Core.Path.{◌≡◌, refl, sym, ap, ◌∙◌}
use mathlib.Core.Bool.{Bool, true, false}
use mathlib.Core.List.{[]}
use Rattle.std.specs.Prelude.{Result, Ok, Err}
use Rattle.std.specs.Result.{result_and}
use Rattle.words.specs.Choice.{pick}
use Rattle.rules.specs.Answers.{done, Verdict, refuse, grant, unless}
use Rattle.rules.specs.Refusals as rules
use Rattle.rules.specs.State.{state}
use Rattle.checks.specs.Answer.{means}
use Rattle.checks.specs.Passed.{past}
use Rattle.checks.specs.declared.refusal.Refusal.{Refusal}
use Rattle.paging.specs.Walk.{Walked, stops, provided}

module _ {A : Type 0} (w : Walked A) where
  -- a walk behind a verdict, and behind checks
  unfoldable behind : Verdict → Walked A
  behind (refuse r) = stops r
  behind (grant answer after) = w

  unfoldable pub through : Result Unit Refusal → Walked A
  through (Ok _) = w
  through (Err r) = stops (means r)

  -- something that checks let through
  abbrev granted : Verdict
  granted = grant done (state [] [])

  behind_past : (checked : Result Unit Refusal) → behind (past checked granted) ≡ through checked
  unfolding past through behind
  behind_past (Ok _) = refl
  behind_past (Err r) = refl

  behind_check : (t : Bool) (r : rules.Refusal) → behind (unless t r granted) ≡ provided t r w
  unfolding unless provided pick behind
  behind_check true r = refl
  behind_check false r = refl

  pub ensured :
      (checked : Result Unit Refusal) (t : Bool) (r : rules.Refusal) → ((v : Verdict) → past checked v ≡ unless t r v)
      → provided t r w ≡ through checked
  ensured checked t r check = sym (behind_check t r) ∙ ap behind (sym (check granted)) ∙ behind_past checked

pub through-and :
    {A : Type 0} (w : Walked A) (one two : Result Unit Refusal) → through w (result_and one two) ≡ through (through w two) one
unfolding through
through-and w (Ok _) two = refl
through-and w (Err r) two = refl
