-- Numbers of 64 bits. Code has no others, while the rules' numbers have no bound: what is claimed of what is printed needs that memory's
-- words, and the numbers of calls and answers, fit.
use Rattle.std.specs.Prelude.{List, [], ◌∷◌, ◌≢◌, ℕ, ◌<◌, ◌^◌}
use Rattle.rules.specs.Answers.{Told, refused, done, none, closed, opened, already, unfixed, word, count}
use Rattle.rules.specs.Calls.{Call, RMPUPDATE, PVALIDATE, PFIX, PMERGE, PUNMERGE, PUNFIX, READ, WRITE, CENSUS, step}
use Rattle.rules.specs.Refusals.{alone, BAD_ENTRY}
use Rattle.rules.specs.State.{State, word_at}

-- every number of a list fits into a word
abbrev pub AreWords : List ℕ → Type 0
AreWords [] = Unit {0}
AreWords (n ∷ rest) = (n < 2 ^ 64) × AreWords rest

-- every word of memory does
abbrev pub HoldsWords : State → Type 0
HoldsWords s = (frame index : ℕ) → word_at s frame index < 2 ^ 64

-- 01, "The calls": the numbers of a call, as listed there, the caller first; CENSUS has no caller
unfoldable pub numbers : Call → List ℕ
numbers (RMPUPDATE caller hpa gpa asid kind) = caller ∷ hpa ∷ gpa ∷ asid ∷ kind ∷ []
numbers (PVALIDATE caller gpa hpa kind) = caller ∷ gpa ∷ hpa ∷ kind ∷ []
numbers (PFIX caller hpa leaf) = caller ∷ hpa ∷ leaf ∷ []
numbers (PMERGE caller hpa1 hpa2) = caller ∷ hpa1 ∷ hpa2 ∷ []
numbers (PUNMERGE caller hpa1 hpa2 asid) = caller ∷ hpa1 ∷ hpa2 ∷ asid ∷ []
numbers (PUNFIX caller hpa) = caller ∷ hpa ∷ []
numbers (READ caller gpa hpa gtype ntype index) = caller ∷ gpa ∷ hpa ∷ gtype ∷ ntype ∷ index ∷ []
numbers (WRITE caller gpa hpa gtype ntype index value) = caller ∷ gpa ∷ hpa ∷ gtype ∷ ntype ∷ index ∷ value ∷ []
numbers (CENSUS asid) = asid ∷ []

-- 01, "The calls": what a call may answer, each number in 64 bits, where it meets no bad entry: a refusal is then its number alone
pub data MayAnswer : Call → Told → Type 0 where
  is_refused : {call : Call} {number : ℕ} → number < 2 ^ 64 → MayAnswer call (refused (alone number))
  is_none : {caller hpa gpa asid kind : ℕ} → MayAnswer (RMPUPDATE caller hpa gpa asid kind) none
  is_closed :
      {caller hpa gpa asid kind guest address : ℕ} → guest < 2 ^ 64 → address < 2 ^ 64
      → MayAnswer (RMPUPDATE caller hpa gpa asid kind) (closed guest address)
  is_opened : {caller gpa hpa kind : ℕ} → MayAnswer (PVALIDATE caller gpa hpa kind) opened
  is_already : {caller gpa hpa kind : ℕ} → MayAnswer (PVALIDATE caller gpa hpa kind) already
  is_fixed : {caller hpa leaf : ℕ} → MayAnswer (PFIX caller hpa leaf) done
  is_merged : {caller hpa1 hpa2 : ℕ} → MayAnswer (PMERGE caller hpa1 hpa2) done
  is_unmerged : {caller hpa1 hpa2 asid : ℕ} → MayAnswer (PUNMERGE caller hpa1 hpa2 asid) done
  is_unfixed : {caller hpa owner : ℕ} → owner < 2 ^ 64 → MayAnswer (PUNFIX caller hpa) (unfixed owner)
  is_read : {caller gpa hpa gtype ntype index value : ℕ} → value < 2 ^ 64 → MayAnswer (READ caller gpa hpa gtype ntype index) (word value)
  is_written : {caller gpa hpa gtype ntype index value : ℕ} → MayAnswer (WRITE caller gpa hpa gtype ntype index value) done
  is_counted : {asid places : ℕ} → places < 2 ^ 64 → MayAnswer (CENSUS asid) (count places)

-- an answer other than 5
abbrev pub MeetsNoBadEntry : Told → Type 0
MeetsNoBadEntry told = (reason : ℕ) → told ≢ refused (BAD_ENTRY reason)

-- from memory whose words fit, what the rules answer is what the call may answer; and they still fit after a call whose numbers do
abbrev pub StepAnswers : Type 0
StepAnswers = (s : State) (call : Call) → HoldsWords s → MeetsNoBadEntry (step s call).told → MayAnswer call (step s call).told

abbrev pub WordsStay : Type 0
WordsStay = (s : State) (call : Call) → HoldsWords s → AreWords (numbers call) → HoldsWords (step s call).after
