-- A call's checks up to the entries of the frames that it names, and a call that stops at a refusal.
-- Assumes nothing.
use Rattle.std.proofs.Common.{◌≡◌, refl}
use Rattle.std.specs.Prelude.{Result, Ok, Err}
use Rattle.std.specs.Result.{IsErrAnd}
use Rattle.std.proofs.lemmas.Result.{err_from_is_err_and}
use Rattle.entries.specs.Entry.{Decoded}
use Rattle.entries.specs.declared.entry.Entry.{Entry}
use Rattle.rules.specs.Answers.{Verdict, refuse, entered, both_entered}
use Rattle.checks.specs.Answer.{means}
use Rattle.checks.specs.Named.{named, both_named}
use Rattle.checks.specs.Passed.{passed, past}
use Rattle.checks.specs.declared.refusal.Refusal.{Refusal}
use Rattle.checks.proofs.NamedLaws.{one_checked, two_checked}

-- what a call comes to that has begun: by the entry of the frame that it names, or by those of two
module _ {begins : Verdict → Verdict} (begun : (v : Verdict) → past (Ok tt) v ≡ begins v) where
  pub one_entered : (d : Decoded) {e : Entry} → Ok e ≡ named d → (rest : Entry → Verdict) → begins (entered d rest) ≡ rest e
  unfolding passed
  one_entered d found rest = rw (← begun) (one_checked (Ok tt) d found rest)

  pub one_refused :
      (d : Decoded) {r : Refusal} → Err r ≡ named d → (rest : Entry → Verdict) → begins (entered d rest) ≡ refuse (means r)
  unfolding passed
  one_refused d found rest = rw (← begun) (one_checked (Ok tt) d found rest)

  pub two_entered :
      (d1 d2 : Decoded) {both : Entry × Entry} → Ok both ≡ both_named d1 d2
      → (rest : Entry → Entry → Verdict) → begins (both_entered d1 d2 rest) ≡ rest both.0 both.1
  unfolding passed
  two_entered d1 d2 found rest = rw (← begun) (two_checked (Ok tt) d1 d2 refl found rest)

  pub two_refused :
      (d1 d2 : Decoded) {r : Refusal} → Err r ≡ both_named d1 d2
      → (rest : Entry → Entry → Verdict) → begins (both_entered d1 d2 rest) ≡ refuse (means r)
  unfolding passed
  two_refused d1 d2 found rest = rw (← begun) (two_checked (Ok tt) d1 d2 refl found rest)

-- what a `?` returns that stops at a refusal
pub err_is : {A : Type 0} (returned : Result A Refusal) (r : Refusal) → IsErrAnd returned (λ e. e ≡ r) → returned ≡ Err r
err_is returned r stopped = let p = err_from_is_err_and returned stopped in rw (p.1, p.2)
