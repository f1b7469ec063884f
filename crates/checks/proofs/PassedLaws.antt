-- What checks come to: two checks in a row, and a `?`, which returns the refusal where there is one, whatever was to follow.
-- Assumes nothing.
use Rattle.std.proofs.Common.{◌≡◌, refl}
use Rattle.std.specs.Prelude.{Result, Ok, Err}
use Rattle.std.specs.Result.{IsErrAnd, result_and}
use Rattle.std.proofs.lemmas.Result.{err_from_is_err_and}
use Rattle.rules.specs.Answers.{Verdict, refuse}
use Rattle.checks.specs.Answer.{means}
use Rattle.checks.specs.Passed.{passed, past}
use Rattle.checks.specs.declared.refusal.Refusal.{Refusal}

-- one check and then another
pub past-and : (one two : Result Unit Refusal) (v : Verdict) → past (result_and one two) v ≡ past one (past two v)
unfolding past
past-and (Ok a) two v = refl
past-and (Err r) two v = refl

-- what a function returns that stops at a refusal
module _ {A : Type 0} (returned : Result A Refusal) (r : Refusal) (stopped : IsErrAnd returned (λ e. e ≡ r)) where
  pub refuses : (rest : A → Verdict) → passed returned rest ≡ refuse (means r)
  unfolding passed
  refuses rest = let p = err_from_is_err_and returned stopped in rw (p.1, p.2)

  -- and so it is what the checks come to that it stops at
  pub stops_past : {checked : Result Unit Refusal} → checked ≡ Err r → (rest : A → Verdict) (v : Verdict) → passed returned rest ≡ past checked v
  unfolding past
  stops_past was rest v = rw was (refuses rest)

  pub stops : {B : Type 0} {checked : Result B Refusal} → checked ≡ Err r → (rest : A → Verdict) (follows : B → Verdict) → passed returned rest ≡ passed checked follows
  unfolding passed
  stops was rest follows = rw was (refuses rest)
