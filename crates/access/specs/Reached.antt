-- The checks of an access in three parts: those that it begins with, those that tell which frame it reaches, and those of a guest's page.
-- These are the parts after the first, as the rule `access` has them.
use Rattle.std.specs.Prelude.{Bool, ℕ, eqb, Option, None, Some, Result, Ok, Err}
use Rattle.words.specs.Choice.{pick}
use Rattle.entries.specs.Entry.{Decoded, SHARED}
use Rattle.entries.specs.declared.entry.Entry.{Entry}
use Rattle.rules.specs.Access.{fixed_access, unfixed_access}
use Rattle.rules.specs.Answers.{Verdict, refuse, unless, entered}
use Rattle.rules.specs.Refusals.{TYPE}
use Rattle.rules.specs.State.{State}
use Rattle.checks.specs.Answer.{means}
use Rattle.checks.specs.declared.refusal.Refusal.{Refusal}

-- the verdict, where what follows of a SHARED frame and of a page is as given
unfoldable pub reached : Result (Option Entry) Refusal → Verdict → (Entry → Verdict) → Verdict
reached (Ok None) shared page = shared
reached (Ok (Some e)) shared page = page e
reached (Err r) shared page = refuse (means r)

-- "Below N: 5, 6; SHARED is done with no more checks." The frame's entry is given
unfoldable pub covered_reached : Decoded → ℕ → Verdict → (Entry → Verdict) → Verdict
covered_reached here gtype shared page =
    entered here λ e.
    unless (eqb e.kind gtype) TYPE (pick (eqb gtype SHARED) shared (page e))

-- "Frame N or above: 6 unless SHARED, else done."
unfoldable pub frame_reached : Bool → Decoded → ℕ → Verdict → (Entry → Verdict) → Verdict
frame_reached covered here gtype shared page =
    pick covered (covered_reached here gtype shared page) (unless (eqb gtype SHARED) TYPE shared)

-- "Unfixed: 7, 8, 9, done. Fixed: WRITE 10; then 12, 13, 8, done."
unfoldable pub page_access : State → Bool → ℕ → ℕ → Entry → Verdict → Verdict
page_access s writes caller gpa page rest =
    pick page.fixed (fixed_access s writes caller gpa page rest) (unfixed_access caller gpa page rest)
