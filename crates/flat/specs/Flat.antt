-- The answers of the rules as C gets them, a struct of six numbers: the refusal's number or 0, the answer's kind, its values, the refusal's
-- reason. What an answer does not have is 0.
use Rattle.std.specs.Prelude.{◌≡◌, List, ℕ, eqb}
use Rattle.words.specs.Choice.{pick}
use Rattle.rules.specs.Answers.{Told, refused, done, none, closed, opened, already, unfixed, word, count, Outcome, outcome}
use Rattle.rules.specs.State.{State, state}
use Rattle.flat.specs.declared.Flat.{Flat}

-- the kinds
abbrev pub REFUSED : ℕ
REFUSED = 0

abbrev pub DONE : ℕ
DONE = 1

abbrev pub NONE : ℕ
NONE = 2

abbrev pub CLOSED : ℕ
CLOSED = 3

abbrev pub OPENED : ℕ
OPENED = 4

abbrev pub ALREADY : ℕ
ALREADY = 5

abbrev pub WORD : ℕ
WORD = 6

abbrev pub COUNT : ℕ
COUNT = 7

abbrev pub UNFIXED : ℕ
UNFIXED = 8

abbrev pub numbers : ℕ → ℕ → ℕ → ℕ → ℕ → ℕ → Flat
numbers refusal kind asid gpa value reason =
    record { refusal = refusal; kind = kind; asid = asid; gpa = gpa; value = value; reason = reason }

unfoldable pub flat : Told → Flat
flat (refused refusal) = numbers refusal.number REFUSED 0 0 0 refusal.reason
flat done = numbers 0 DONE 0 0 0 0
flat none = numbers 0 NONE 0 0 0 0
flat (closed asid gpa) = numbers 0 CLOSED asid gpa 0 0
flat opened = numbers 0 OPENED 0 0 0 0
flat already = numbers 0 ALREADY 0 0 0 0
flat (unfixed owner) = numbers 0 UNFIXED owner 0 0 0
flat (word value) = numbers 0 WORD 0 0 value 0
flat (count places) = numbers 0 COUNT 0 0 places 0

-- what a function returns, with the table and memory that it left; and an outcome of the rules, so returned
pub record Returned : Type 0 where
  pub answer : Flat
  pub after : State

abbrev pub returned : Flat → List ℕ → List ℕ → Returned
returned answer table memory = record { answer = answer; after = state table memory }

unfoldable pub flattened : Outcome → Returned
flattened o = record { answer = flat o.told; after = o.after }

-- what a returned answer says, by its kind; and that this is the answer that was flattened
unfoldable pub says : Flat → Told
says r =
    pick (eqb r.kind REFUSED) (refused (record { number = r.refusal; reason = r.reason }))
    (pick (eqb r.kind DONE) done
    (pick (eqb r.kind NONE) none
    (pick (eqb r.kind CLOSED) (closed r.asid r.gpa)
    (pick (eqb r.kind OPENED) opened
    (pick (eqb r.kind ALREADY) already
    (pick (eqb r.kind WORD) (word r.value)
    (pick (eqb r.kind COUNT) (count r.value)
    (unfixed r.asid))))))))

abbrev pub FlatSays : Type 0
FlatSays = (told : Told) → says (flat told) ≡ told

-- a returned answer as the rules' answer that it says, with the table and memory that were left
abbrev pub said : Flat → List ℕ → List ℕ → Outcome
said r table memory = outcome (says r) (state table memory)
