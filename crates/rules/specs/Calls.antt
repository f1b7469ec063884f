-- 01, "The calls": any of the nine, with its arguments as listed there, the caller first.
use Rattle.std.specs.Prelude.{ℕ}
use Rattle.rules.specs.Access.{read, write}
use Rattle.rules.specs.Answers.{Outcome}
use Rattle.rules.specs.Assignment.{rmpupdate, pvalidate}
use Rattle.rules.specs.Census.{census}
use Rattle.rules.specs.Merging.{pfix, pmerge, punmerge, punfix}
use Rattle.rules.specs.State.{State}

pub data Call : Type 0 where
  RMPUPDATE : (caller hpa gpa asid kind : ℕ) → Call
  PVALIDATE : (caller gpa hpa kind : ℕ) → Call
  PFIX : (caller hpa leaf : ℕ) → Call
  PMERGE : (caller hpa1 hpa2 : ℕ) → Call
  PUNMERGE : (caller hpa1 hpa2 asid : ℕ) → Call
  PUNFIX : (caller hpa : ℕ) → Call
  READ : (caller gpa hpa gtype ntype index : ℕ) → Call
  WRITE : (caller gpa hpa gtype ntype index value : ℕ) → Call
  CENSUS : (asid : ℕ) → Call

unfoldable pub step : State → Call → Outcome
step s (RMPUPDATE caller hpa gpa asid kind) = rmpupdate s caller hpa gpa asid kind
step s (PVALIDATE caller gpa hpa kind) = pvalidate s caller gpa hpa kind
step s (PFIX caller hpa leaf) = pfix s caller hpa leaf
step s (PMERGE caller hpa1 hpa2) = pmerge s caller hpa1 hpa2
step s (PUNMERGE caller hpa1 hpa2 asid) = punmerge s caller hpa1 hpa2 asid
step s (PUNFIX caller hpa) = punfix s caller hpa
step s (READ caller gpa hpa gtype ntype index) = read s caller gpa hpa gtype ntype index
step s (WRITE caller gpa hpa gtype ntype index value) = write s caller gpa hpa gtype ntype index value
step s (CENSUS asid) = census s asid
