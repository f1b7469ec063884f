-- "When an answer is an enum, a definition gives this paper's number and values for each of its cases." (01, "How to write each place")
use Rattle.std.specs.Prelude.{List, ℕ, Result, Ok, Err}
use Rattle.entries.specs.Reasons.{reason_number}
use Rattle.rules.specs.Answers.{Told, refused, done, none, closed, opened, already, unfixed, word, count, Outcome, outcome}
use Rattle.rules.specs.Refusals as rules
use Rattle.rules.specs.Refusals.{GEOMETRY, ARGUMENT, CALLER, OUTSIDE, BAD_ENTRY, TYPE, OWNER, ADDRESS, NOT_VALIDATED}
use Rattle.rules.specs.Refusals.{FIXED, NOT_FIXED, BROKEN_LEAF, NO_PLACE, PLACE_TAKEN, LEAF_IN_USE, CONTENTS, STILL_SHARED}
use Rattle.rules.specs.Refusals.{ABSENT_ENTRY, LARGE_PAGE}
use Rattle.rules.specs.State.{state}
use Rattle.checks.specs.declared.refusal.Refusal.{Refusal}
use Rattle.checks.specs.declared.refusal.Refusal.TheVariants.{Geometry, Argument, Caller, Outside, BadEntry, PageType, Owner}
use Rattle.checks.specs.declared.refusal.Refusal.TheVariants.{Address, NotValidated, Fixed, NotFixed, BrokenLeaf, NoPlace}
use Rattle.checks.specs.declared.refusal.Refusal.TheVariants.{PlaceTaken, LeafInUse, Contents, StillShared, AbsentEntry}
use Rattle.checks.specs.declared.refusal.Refusal.TheVariants.{LargePage}
use Rattle.checks.specs.declared.answer.Answer.{Answer}
use Rattle.checks.specs.declared.answer.Answer.TheVariants.{Done, None, Closed, Opened, Already, Unfixed, Word, Count}

-- the rules' refusal that one in code means: its number, and with 5 the reason
abbrev pub means : Refusal → rules.Refusal
means Geometry = GEOMETRY
means Argument = ARGUMENT
means Caller = CALLER
means Outside = OUTSIDE
means (BadEntry reason) = BAD_ENTRY (reason_number reason)
means PageType = TYPE
means Owner = OWNER
means Address = ADDRESS
means NotValidated = NOT_VALIDATED
means Fixed = FIXED
means NotFixed = NOT_FIXED
means BrokenLeaf = BROKEN_LEAF
means NoPlace = NO_PLACE
means PlaceTaken = PLACE_TAKEN
means LeafInUse = LEAF_IN_USE
means Contents = CONTENTS
means StillShared = STILL_SHARED
means AbsentEntry = ABSENT_ENTRY
means LargePage = LARGE_PAGE

abbrev pub told : Result Answer Refusal → Told
told (Err r) = refused (means r)
told (Ok Done) = done
told (Ok None) = none
told (Ok (Closed asid gpa)) = closed asid gpa
told (Ok Opened) = opened
told (Ok Already) = already
told (Ok (Unfixed owner)) = unfixed owner
told (Ok (Word w)) = word w
told (Ok (Count n)) = count n

-- a call's answer with the table and memory that it left, as an outcome of the rules
abbrev pub gave : Result Answer Refusal → List ℕ → List ℕ → Outcome
gave answer table memory = outcome (told answer) (state table memory)
