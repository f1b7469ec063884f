-- What ties Q-1's calls to 01's: a page that is read is what 512 READs answer, and a page that is written is what 512 WRITEs leave, by the
-- same caller, with the same addresses, word 0 to word 511.
use Rattle.std.specs.Prelude.{◌≡◌, List, [], ◌∷◌, ◌++◌, ◌≢◌, ℕ, suc, ◌<◌, length, get_or}
use Rattle.words.specs.Choice.{pick}
use Rattle.entries.specs.Entry.{SHARED}
use Rattle.rules.specs.Access.{read}
use Rattle.rules.specs.Answers.{refused, done, word, outcome}
use Rattle.rules.specs.Calls.{Call, WRITE}
use Rattle.rules.specs.History.{Made, history, finally}
use Rattle.rules.specs.Refusals.{Refusal, GEOMETRY, ARGUMENT}
use Rattle.rules.specs.State.{State, sized}
use Rattle.requests.specs.Pages.{page_read, page_check, page_write}

-- what a page's reading is, one of two: 512 words, which the READs answer; or an empty part, where they are all refused as the check is,
-- number and reason
pub data PageIsReads (s : State) (caller gpa hpa : ℕ) : Type 0 where
  whole :
      page_check s caller gpa hpa ≡ outcome done s
      → length (page_read s caller gpa hpa) ≡ 512
      → ((i : ℕ) → i < 512 → read s caller gpa hpa SHARED SHARED i ≡ outcome (word (get_or (page_read s caller gpa hpa) i 0)) s)
      → PageIsReads s caller gpa hpa
  empty :
      (refusal : Refusal)
      → page_check s caller gpa hpa ≡ outcome (refused refusal) s
      → page_read s caller gpa hpa ≡ []
      → ((i : ℕ) → i < 512 → read s caller gpa hpa SHARED SHARED i ≡ outcome (refused refusal) s)
      → PageIsReads s caller gpa hpa

abbrev pub PageReadIsReads : Type 0
PageReadIsReads = (s : State) (caller gpa hpa : ℕ) → PageIsReads s caller gpa hpa

-- the WRITEs of a run of words, the first of them to the word `index`
unfoldable pub writes : ℕ → ℕ → ℕ → ℕ → List ℕ → List Call
writes caller gpa hpa index [] = []
writes caller gpa hpa index (value ∷ rest) = WRITE caller gpa hpa SHARED SHARED index value ∷ writes caller gpa hpa (suc index) rest

-- table and memory are as the WRITEs leave them, and each of these is answered as the page's writing is
pub record PageIsWrites (s : State) (caller gpa hpa : ℕ) (words : List ℕ) : Type 0 where
  pub leaves : (page_write s caller gpa hpa words).after ≡ finally s (writes caller gpa hpa 0 words)
  pub answers :
      (past rest : List Made) (m : Made) → history s (writes caller gpa hpa 0 words) ≡ past ++ (m ∷ rest)
      → m.told ≡ (page_write s caller gpa hpa words).told

abbrev pub PageWriteIsWrites : Type 0
PageWriteIsWrites =
    (s : State) (caller gpa hpa : ℕ) (words : List ℕ) → length words ≡ 512 → PageIsWrites s caller gpa hpa words

-- a run of another length is 2, whatever else is wrong but the sizes
abbrev pub UnfitIsArgument : Type 0
UnfitIsArgument =
    (s : State) (caller gpa hpa : ℕ) (words : List ℕ) → length words ≢ 512
    → page_write s caller gpa hpa words ≡ outcome (refused (pick (sized s) ARGUMENT GEOMETRY)) s
