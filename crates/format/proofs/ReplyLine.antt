-- A reply is one line: it has no line feed but its last byte, since no letter, word or digit is one. So of replies to one call with more
-- bytes after them, equal bytes have equal replies and equal rests.
-- Assumes nothing.
use mathlib.Core.Path.{◌≡◌, refl, sym, ap, ◌∙◌}
use mathlib.Core.Bool.{false≢true}
use mathlib.Core.List.{List, [], ◌∷◌, ◌++◌, append_assoc}
use mathlib.Core.Logic.{◌≢◌, ⊎_elim}
use Prim.Native.Nat.{ℕ}
use native.Mathlib.Omega.{arith}
use Rattle.words.specs.Choice.{pick}
use Rattle.words.proofs.ChoiceLaws.{same_or_not}
use Rattle.rules.specs.Answers.{Told, refused, done, none, closed, opened, already, unfixed, word, count}
use Rattle.rules.specs.Calls.{Call, RMPUPDATE, PVALIDATE, PFIX, PMERGE, PUNMERGE, PUNFIX, READ, WRITE, CENSUS}
use Rattle.format.specs.Ascii.{ascii}
use Rattle.format.specs.Number.{hex, decimal}
use Rattle.format.specs.Place.{up_to}
use Rattle.format.specs.Reply.{answered, reply}
use Rattle.format.specs.Text.{LF}
use Rattle.format.specs.Written.{letter}
use Rattle.format.proofs.NumberLaws.{hex_without, decimal_without}
use Rattle.format.proofs.UpTo.{up_to_here, up_to_past}
use Rattle.format.proofs.Without.{Without, without_append}

-- ---- runs without a mark, the mark, and more: where they are equal, so are the runs and what follows
same_lines :
    (mark : ℕ) (a b x y : List ℕ) → Without mark a → Without mark b → a ++ (mark ∷ x) ≡ b ++ (mark ∷ y) → (a ≡ b) × (x ≡ y)
same_lines mark [] [] x y h k e = (refl, cc)
same_lines mark [] (byte ∷ b) x y h k e = absurd (k.0 (cc))
same_lines mark (byte ∷ a) [] x y h k e = absurd (h.0 (cc))
same_lines mark (byte ∷ a) (other ∷ b) x y h k e =
    let then = same_lines mark a b x y h.1 k.1 (cc) in (cc, then.1)

-- ---- no line feed in a letter, a word or a number
letter_without : (call : Call) → letter call ≢ LF
unfolding letter
letter_without (RMPUPDATE caller hpa gpa asid kind) e = omega arith
letter_without (PVALIDATE caller gpa hpa kind) e = omega arith
letter_without (PFIX caller hpa leaf) e = omega arith
letter_without (PMERGE caller hpa1 hpa2) e = omega arith
letter_without (PUNMERGE caller hpa1 hpa2 asid) e = omega arith
letter_without (PUNFIX caller hpa) e = omega arith
letter_without (READ caller gpa hpa gtype ntype index) e = omega arith
letter_without (WRITE caller gpa hpa gtype ntype index value) e = omega arith
letter_without (CENSUS asid) e = omega arith

-- a run that is all before the first mark
all_without : (mark : ℕ) (run : List ℕ) → up_to mark run ≡ run → Without mark run
all_without mark [] e = tt
all_without mark (byte ∷ run) e =
    ⊎_elim (λ h. let here = up_to_here mark byte run h in absurd (false≢true (cc)))
    (λ h. let past = up_to_past mark byte run h in (h, all_without mark run (cc)))
    (same_or_not byte mark)

number_without : (n : ℕ) → Without LF (ascii " ok " ++ hex n)
unfolding up_to pick
number_without n = without_append LF (ascii " ok ") (hex n) (all_without LF (ascii " ok ") refl) (hex_without LF n (omega arith))

answered_without : (told : Told) → Without LF (answered told)
unfolding answered up_to pick
answered_without (refused refusal) =
    without_append LF (ascii " no ") (decimal refusal.number) (all_without LF (ascii " no ") refl)
    (decimal_without LF refusal.number (omega arith))
answered_without done = all_without LF (ascii " ok") refl
answered_without none = all_without LF (ascii " ok none") refl
answered_without (closed asid gpa) =
    let word = all_without LF (ascii " ok closed ") refl in
    let first = without_append LF (ascii " ok closed ") (hex asid) word (hex_without LF asid (omega arith)) in
    let space = without_append LF (ascii " ok closed " ++ hex asid) (ascii " ") first (all_without LF (ascii " ") refl) in
    without_append LF (ascii " ok closed " ++ hex asid ++ ascii " ") (hex gpa) space (hex_without LF gpa (omega arith))
answered_without opened = all_without LF (ascii " ok opened") refl
answered_without already = all_without LF (ascii " ok already") refl
answered_without (unfixed owner) = number_without owner
answered_without (word value) = number_without value
answered_without (count number) = number_without number

-- ---- a reply is a run without a line feed, and a line feed
module _ (call : Call) where
  abbrev line : Told → List ℕ
  line told = letter call ∷ answered told

  line_without : (told : Told) → Without LF (line told)
  line_without told = (letter_without call, answered_without told)

  reply_is : (told : Told) (rest : List ℕ) → reply call told ++ rest ≡ line told ++ (LF ∷ rest)
  unfolding reply
  reply_is told rest = append_assoc (line told) (ascii "\n") rest

  pub same_replies :
      (one two : Told) (x y : List ℕ) → reply call one ++ x ≡ reply call two ++ y
      → (reply call one ≡ reply call two) × (x ≡ y)
  unfolding reply
  same_replies one two x y e =
      let whole = sym (reply_is one x) ∙ e ∙ reply_is two y in
      let parts = same_lines LF (line one) (line two) x y (line_without one) (line_without two) whole in
      (ap (λ l. l ++ ascii "\n") parts.0, parts.1)
