-- 01, "The calls": RMPUPDATE and PVALIDATE.
use Rattle.std.specs.Prelude.{false, not, ℕ, eqb}
use Rattle.words.specs.Choice.{pick}
use Rattle.frames.specs.Frame.{zeros}
use Rattle.entries.specs.Entry.{LEAF, frame_of, entry, to_validated}
use Rattle.entries.specs.declared.entry.Entry.{Entry}
use Rattle.rules.specs.Answers.{Told, none, closed, opened, already, Outcome, grant, settle, unless, when, begins, entered}
use Rattle.rules.specs.Arguments.{is_host, update_arguments, validate_arguments}
use Rattle.rules.specs.Refusals.{TYPE, OWNER, ADDRESS, FIXED}
use Rattle.rules.specs.State.{State, covers, entry_at, with_entry, with_frame}

-- "new fields, both flags 0; the frame is zeroed if the ASID changed"
unfoldable pub assigning : State → ℕ → Entry → ℕ → ℕ → ℕ → State
assigning s frame old gpa asid kind =
    with_entry (pick (eqb asid old.asid) s (with_frame s frame zeros)) frame (entry asid kind false false gpa)

-- "*closed* with the old ASID and GPA if VALIDATED was 1, else *none*"
unfoldable pub update_answer : Entry → Told
update_answer old = pick old.validated (closed old.asid old.address) none

-- RMPUPDATE: "Then 5; 6 if the entry is LEAF; 10."
unfoldable pub rmpupdate : State → ℕ → ℕ → ℕ → ℕ → ℕ → Outcome
rmpupdate s caller hpa gpa asid kind =
    settle s
    (begins s (update_arguments caller hpa gpa asid kind) (is_host caller) (covers s hpa)
    (entered (entry_at s (frame_of hpa)) λ old.
    when (eqb old.kind LEAF) TYPE
    (when old.fixed FIXED
    (grant (update_answer old) (assigning s (frame_of hpa) old gpa asid kind)))))

-- "VALIDATED set"
unfoldable pub validating : State → ℕ → Entry → State
validating s frame page = with_entry s frame (to_validated page)

-- "*opened*, or *already* if it was set"
unfoldable pub validate_answer : Entry → Told
validate_answer page = pick page.validated already opened

-- PVALIDATE: "3 if the caller is 0. Then 5, 6, 7, 10, 8."
unfoldable pub pvalidate : State → ℕ → ℕ → ℕ → ℕ → Outcome
pvalidate s caller gpa hpa kind =
    settle s
    (begins s (validate_arguments caller gpa hpa kind) (not (is_host caller)) (covers s hpa)
    (entered (entry_at s (frame_of hpa)) λ page.
    unless (eqb page.kind kind) TYPE
    (unless (eqb page.asid caller) OWNER
    (when page.fixed FIXED
    (unless (eqb page.address gpa) ADDRESS
    (grant (validate_answer page) (validating s (frame_of hpa) page)))))))
