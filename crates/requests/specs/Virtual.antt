-- 02, Q-4, "Let a guest name its virtual address": PVALIDATE, READ and WRITE there.
use Rattle.std.specs.Prelude.{Bool, ℕ, leb}
use Rattle.entries.specs.Entry.{is_owned}
use Rattle.rules.specs.Calls.{Call, PVALIDATE, READ, WRITE}
use Rattle.paging.specs.Walk.{Mapping}

-- "forms of PVALIDATE (its type from the call), READ and WRITE"
pub data Form : Type 0 where
  VALIDATE : (type : ℕ) → Form
  LOAD : (index : ℕ) → Form
  STORE : (index value : ℕ) → Form

-- "2 for a bad root or other argument": what the form has of its own, as 01 has it of the call
unfoldable pub form_fits : Form → Bool
form_fits (VALIDATE type) = is_owned type
form_fits (LOAD index) = leb index 511
form_fits (STORE index value) = leb index 511

-- they "then make 01's call on these": on what the walk yields
unfoldable pub call_on : ℕ → Form → Mapping → Call
call_on caller (VALIDATE type) m = PVALIDATE caller m.gpa m.hpa type
call_on caller (LOAD index) m = READ caller m.gpa m.hpa m.gtype m.ntype index
call_on caller (STORE index value) m = WRITE caller m.gpa m.hpa m.gtype m.ntype index value
