-- What the rules answer is what the call may answer, from memory whose words fit into 64 bits, unless it is 5: a call refuses with one of
-- the 17 numbers, or answers a word of memory, what a decoded entry tells, or a census, which counts at most every covered frame.
-- Assumes nothing.
use mathlib.Core.Path.{◌≡◌, refl}
use mathlib.Core.Bool.{true, false≢true}
use mathlib.Core.List.{List}
use mathlib.Core.Logic.{⊎_elim}
use Prim.Native.Nat.{ℕ, ◌≤◌, ◌<◌}
use native.Mathlib.Omega.{arith}
use borrow.Author.Tests.{lt-leb}
use Rattle.words.proofs.ChoiceLaws.{lt_or_le, pick_either}
use Rattle.entries.specs.declared.entry.Entry.{Entry}
use Rattle.entries.proofs.LeafLaws.{address_small}
use Rattle.entries.proofs.Tells.{Tells, guest_range}
use Rattle.rules.specs.Answers.{Told, refused, closed}
use Rattle.rules.specs.Assignment.{update_answer, validate_answer}
use Rattle.rules.specs.Calls.{Call, RMPUPDATE}
use Rattle.rules.specs.Refusals.{Refusal}
use Rattle.rules.specs.State.{State}
use Rattle.rules.specs.Words.{HoldsWords, MayAnswer, is_refused, is_none, is_closed, is_opened, is_already, is_fixed, is_merged}
use Rattle.rules.specs.Words.{is_unmerged, is_unfixed, is_read, is_written, is_counted, MeetsNoBadEntry, StepAnswers}
use Rattle.rules.proofs.Accepted.{Accepted, by_update, by_validate, by_fix, by_merge, by_unmerge, by_unfix, by_free, by_read}
use Rattle.rules.proofs.Accepted.{by_write, by_census}
use Rattle.rules.proofs.CensusLaws.{tally_most}
use Rattle.rules.proofs.Cause.{bad_entry, broken_leaf, ordinary, Cause, plain, fault}
use Rattle.rules.proofs.StateLaws.{sizes, entry_tells}
use Rattle.rules.proofs.Stepped.{step_cases}

-- ---- a refusal other than 5
ordinary_small : (n : ℕ) → ordinary n ≡ true → n ≤ 19
ordinary_small n o = ⊎_elim (λ (h : 19 < n). absurd (false≢true (rw (lt-leb n 19 h) at o))) (λ h. h) (lt_or_le 19 n)

refusal_answers :
    {s : State} {frames : List ℕ} {c : Call} (r : Refusal) → Cause s frames r → MeetsNoBadEntry (refused r) → MayAnswer c (refused r)
refusal_answers _ (plain {n} o) met = is_refused {number = n} (omega (arith, ordinary_small n o))
refusal_answers _ (fault (bad_entry f reason inside here first)) met = absurd (met _ refl)
refusal_answers _ (fault (broken_leaf f e guest here fixed word)) met = is_refused {number = 12} (omega arith)

-- ---- RMPUPDATE
closed_answers :
    {caller hpa gpa asid kind n : ℕ} (old : Entry) → Tells n old
    → MayAnswer (RMPUPDATE caller hpa gpa asid kind) (closed old.asid old.address)
closed_answers old t =
    is_closed {guest = old.asid} {address = old.address} (omega (arith, t.asid_small))
    (omega (arith, address_small old.address t.address_ok))

-- ---- any call
accepted_answers : {s after : State} {c : Call} {told : Told} → HoldsWords s → Accepted s c told after → MayAnswer c told
unfolding update_answer validate_answer
accepted_answers words (by_update {old = old} p) =
    pick_either (MayAnswer _) _ _ _ (λ v. closed_answers old (entry_tells _ _ p.here)) (λ v. is_none)
accepted_answers words (by_validate p) = pick_either (MayAnswer _) _ _ _ (λ v. is_already) (λ v. is_opened)
accepted_answers words (by_fix p) = is_fixed
accepted_answers words (by_merge p) = is_merged
accepted_answers words (by_unmerge p) = is_unmerged
accepted_answers words (by_unfix {guest = guest} p) = is_unfixed {owner = guest} (omega (arith, (guest_range guest p.range).1))
accepted_answers words (by_free p) = is_unfixed {owner = 0} (omega arith)
accepted_answers words (by_read p) = is_read (words _ _)
accepted_answers words (by_write p) = is_written
accepted_answers {s} words (by_census {asid} {n} p) =
    is_counted {places = n} (omega (arith, tally_most s asid n p.sum, (sizes s p.size).table_most))

pub step_answers : StepAnswers
step_answers s call words =
    step_cases (λ o. MeetsNoBadEntry o.told → MayAnswer call o.told) s call refusal_answers
    (λ told after passed met. accepted_answers words passed)
