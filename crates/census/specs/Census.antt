-- What the code's holdings and tallies are in the rules.
use Rattle.std.specs.Prelude.{ℕ, Option, Some, None, Result, Ok, Err}
use Rattle.rules.specs.Census.{holds, nothing, fails, total, stopped}
use Rattle.rules.specs.Census as rules
use Rattle.checks.specs.Answer.{means}
use Rattle.checks.specs.declared.refusal.Refusal.{Refusal}

-- what a frame is to a guest: its place at an address, no place of it, or what a census refuses with
abbrev pub held : Result (Option ℕ) Refusal → rules.Holding
held (Ok (Some gpa)) = holds gpa
held (Ok None) = nothing
held (Err r) = fails (means r)

-- how many places a guest has, or the first refusal that was met
abbrev pub tallied : Result ℕ Refusal → rules.Tally
tallied (Ok places) = total places
tallied (Err r) = stopped (means r)
