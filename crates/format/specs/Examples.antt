-- 01, "The script program": lines and what they say, right ones and wrong ones; answers and how they are printed; texts and their lines.
use Rattle.std.specs.Prelude.{◌≡◌, List, [], ◌∷◌, map}
use Prim.Native.String.{String}
use Rattle.rules.specs.Answers.{Told, refused, done, none, closed, opened, already, unfixed, word, count}
use Rattle.rules.specs.Calls.{Call, RMPUPDATE, PVALIDATE, PFIX, PMERGE, PUNMERGE, PUNFIX, READ, WRITE, CENSUS}
use Rattle.rules.specs.Refusals.{alone, BAD_ENTRY}
use Rattle.format.specs.Ascii.{ascii}
use Rattle.format.specs.Line.{Said, says, wrong, said}
use Rattle.format.specs.Reply.{reply}
use Rattle.format.specs.Text.{lines}

pub record Spoken : Type 0 where
  pub line : String
  pub says : Said

abbrev spoken : String → Said → Spoken
spoken line what = record { line = line; says = what }

unfoldable pub spoken_lines : List Spoken
spoken_lines =
    spoken "U 0 1000 50000 7 2" (says (RMPUPDATE 0x0 0x1000 0x50000 0x7 0x2))
    ∷ spoken "V 7 50000 1000 2" (says (PVALIDATE 0x7 0x50000 0x1000 0x2))
    ∷ spoken "F 0 1000 3000" (says (PFIX 0x0 0x1000 0x3000))
    ∷ spoken "M 0 1000 2000" (says (PMERGE 0x0 0x1000 0x2000))
    ∷ spoken "D 0 1000 4000 9" (says (PUNMERGE 0x0 0x1000 0x4000 0x9))
    ∷ spoken "X 0 1000" (says (PUNFIX 0x0 0x1000))
    ∷ spoken "R 9 60000 1000 2 2 3" (says (READ 0x9 0x60000 0x1000 0x2 0x2 0x3))
    ∷ spoken "W 7 50000 1000 2 2 3 2a" (says (WRITE 0x7 0x50000 0x1000 0x2 0x2 0x3 0x2a))
    ∷ spoken "C 9" (says (CENSUS 0x9))
    ∷ spoken "C 000000000000001f" (says (CENSUS 0x1f))
    ∷ spoken "C 0000000000000001f" wrong
    ∷ spoken "C 1F" wrong
    ∷ spoken "c 9" wrong
    ∷ spoken "C" wrong
    ∷ spoken "C 9 9" wrong
    ∷ spoken "C  9" wrong
    ∷ spoken "C 9 " wrong
    ∷ spoken " C 9" wrong
    ∷ spoken "C\t9" wrong
    ∷ spoken "C 9\r" wrong
    ∷ spoken "CC 9" wrong
    ∷ spoken "" wrong
    ∷ []

abbrev pub AsSpoken : Type 0
AsSpoken = map (λ (e : Spoken). said (ascii e.line)) spoken_lines ≡ map (λ (e : Spoken). e.says) spoken_lines

pub record Answered : Type 0 where
  pub call : Call
  pub told : Told
  pub printed : String

abbrev answered : Call → Told → String → Answered
answered call told printed = record { call = call; told = told; printed = printed }

unfoldable pub printed_answers : List Answered
printed_answers =
    answered (RMPUPDATE 0x0 0x1000 0x50000 0x7 0x2) none "U ok none\n"
    ∷ answered (RMPUPDATE 0x0 0x1000 0x50000 0x7 0x2) (closed 0x7 0x50000) "U ok closed 7 50000\n"
    ∷ answered (PVALIDATE 0x7 0x50000 0x1000 0x2) opened "V ok opened\n"
    ∷ answered (PVALIDATE 0x7 0x50000 0x1000 0x2) already "V ok already\n"
    ∷ answered (PFIX 0x0 0x1000 0x3000) done "F ok\n"
    ∷ answered (PMERGE 0x0 0x1000 0x2000) (refused (alone 16)) "M no 16\n"
    ∷ answered (PUNMERGE 0x0 0x1000 0x4000 0x9) done "D ok\n"
    ∷ answered (PUNFIX 0x0 0x1000) (refused (alone 17)) "X no 17\n"
    ∷ answered (PUNFIX 0x0 0x1000) (unfixed 0x1ff) "X ok 1ff\n"
    ∷ answered (PUNFIX 0x0 0x1000) (unfixed 0x0) "X ok 0\n"
    ∷ answered (READ 0x9 0x60000 0x1000 0x2 0x2 0x3) (word 0x2a) "R ok 2a\n"
    ∷ answered (READ 0x9 0x60000 0x1000 0x2 0x2 0x3) (word 0x0) "R ok 0\n"
    ∷ answered (WRITE 0x7 0x50000 0x1000 0x2 0x2 0x3 0x2b) (refused (alone 10)) "W no 10\n"
    ∷ answered (CENSUS 0x9) (count 0x10) "C ok 10\n"
    ∷ answered (CENSUS 0x9) (refused (BAD_ENTRY 3)) "C no 5\n"
    ∷ []

abbrev pub AsPrinted : Type 0
AsPrinted =
    map (λ (e : Answered). reply e.call e.told) printed_answers ≡ map (λ (e : Answered). ascii e.printed) printed_answers

pub record Parted : Type 0 where
  pub text : String
  pub into : List String

abbrev parted : String → List String → Parted
parted text into = record { text = text; into = into }

unfoldable pub parted_texts : List Parted
parted_texts =
    parted "" []
    ∷ parted "\n" ("" ∷ [])
    ∷ parted "C 9" ("C 9" ∷ [])
    ∷ parted "C 9\n" ("C 9" ∷ [])
    ∷ parted "C 9\n\nC 7" ("C 9" ∷ "" ∷ "C 7" ∷ [])
    ∷ parted "C 9\r\nC 7\n" ("C 9\r" ∷ "C 7" ∷ [])
    ∷ []

abbrev pub AsParted : Type 0
AsParted = map (λ (e : Parted). lines (ascii e.text)) parted_texts ≡ map (λ (e : Parted). map ascii e.into) parted_texts
