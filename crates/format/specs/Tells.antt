-- A call's reply tells which of the answers that it may give was given; and what is printed for a text tells the answers of all its calls,
-- where none of them met a bad entry: the reason of a 5 is not printed, and what is printed does not depend on it.
use Rattle.std.specs.Prelude.{◌≡◌, List, [], ◌∷◌, map, ℕ}
use Rattle.rules.specs.Answers.{Told, refused, done, none, closed, opened, already, unfixed, word, count, outcome}
use Rattle.rules.specs.Calls.{Call}
use Rattle.rules.specs.History.{Made, made, history}
use Rattle.rules.specs.Refusals.{alone}
use Rattle.rules.specs.State.{State, empty_table}
use Rattle.rules.specs.Words.{AreWords, MayAnswer, MeetsNoBadEntry}
use Rattle.format.specs.Line.{Said}
use Rattle.format.specs.Reply.{reply}
use Rattle.format.specs.Text.{calls_of, replies, calls, printed}

abbrev pub ReplyTells : Type 0
ReplyTells = (call : Call) (one two : Told) → MayAnswer call one → MayAnswer call two → reply call one ≡ reply call two → one ≡ two

-- calls as they were made, each with an answer that it may give
abbrev pub AllAnswer : List Made → Type 0
AllAnswer [] = Unit {0}
AllAnswer (m ∷ rest) = MayAnswer m.call m.told × AllAnswer rest

-- the answers of calls as they were made, in their order
abbrev pub answers : List Made → List Told
answers all = map (λ (m : Made). m.told) all

-- the calls that lines say, made twice: where the same is printed, the answers are the same
abbrev pub PrintedTells : Type 0
PrintedTells =
    (lines : List Said) (one two : List Made)
    → map (λ (m : Made). m.call) one ≡ calls_of lines → map (λ (m : Made). m.call) two ≡ calls_of lines
    → AllAnswer one → AllAnswer two
    → replies lines one ≡ replies lines two → answers one ≡ answers two

-- calls as they were made, none of which met a bad entry
abbrev pub NoneBad : List Made → Type 0
NoneBad [] = Unit {0}
NoneBad (m ∷ rest) = MeetsNoBadEntry m.told × NoneBad rest

-- a text's calls, made from two tables and memories of 64-bit words, where none of them meets a bad entry: where the same is printed, the
-- answers are the same
abbrev pub TextTells : Type 0
TextTells =
    (one two : State) (text : List ℕ) → AreWords one.memory → AreWords two.memory
    → NoneBad (history one (calls text)) → NoneBad (history two (calls text))
    → printed one text ≡ printed two text
    → answers (history one (calls text)) ≡ answers (history two (calls text))

-- 02, Q-2, "From an empty table no list of calls meets 5": so from empty tables what is printed tells the answers
abbrev pub EmptyTextTells : Type 0
EmptyTextTells =
    (size1 size2 : ℕ) (memory1 memory2 text : List ℕ) → AreWords memory1 → AreWords memory2
    → let one = empty_table size1 memory1 in
    let two = empty_table size2 memory2 in
    printed one text ≡ printed two text → answers (history one (calls text)) ≡ answers (history two (calls text))

-- an answer without its reason; ".. so the script's output stays": what is printed for lines is what is printed for these
abbrev pub bare : Told → Told
bare (refused refusal) = refused (alone refusal.number)
bare done = done
bare none = none
bare (closed asid gpa) = closed asid gpa
bare opened = opened
bare already = already
bare (unfixed owner) = unfixed owner
bare (word value) = word value
bare (count places) = count places

abbrev pub ReasonUnprinted : Type 0
ReasonUnprinted =
    (lines : List Said) (all : List Made)
    → replies lines all ≡ replies lines (map (λ (m : Made). made m.call m.got (outcome (bare m.told) m.left)) all)
