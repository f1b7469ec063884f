-- 01, "The calls": a call "goes on in the order written". What checks come to in code is what the call goes on with, or the refusal of the
-- first that failed. This is the verdict, where the rest of the call is as given.
use Rattle.std.specs.Prelude.{Result, Ok, Err}
use Rattle.rules.specs.Answers.{Verdict, refuse}
use Rattle.checks.specs.Answer.{means}
use Rattle.checks.specs.declared.refusal.Refusal.{Refusal}

unfoldable pub passed : {A : Type 0} → Result A Refusal → (A → Verdict) → Verdict
passed (Ok a) rest = rest a
passed (Err r) rest = refuse (means r)

-- of checks that hand nothing on
unfoldable pub past : Result Unit Refusal → Verdict → Verdict
past (Ok _) rest = rest
past (Err r) rest = refuse (means r)
