-- A call's reply tells its answer: `heard` reads the answer back from the reply and the call. Its third byte tells a refusal from the rest,
-- its sixth one word from another, and numbers are read back up to the space or the line feed after them.
-- Assumes nothing.
use mathlib.Core.Path.{◌≡◌, refl, sym, ap, ◌∙◌}
use mathlib.Core.List.{List, [], ◌∷◌, ◌++◌, append_assoc}
use Prim.Native.Char.{code}
use Prim.Native.Nat.{ℕ, suc, ◌<◌, ◌^◌}
use native.Mathlib.Numerals.{add-one}
use native.Mathlib.Omega.{arith}
use lib.Dec.{eqb}
use lib.ListN.{length, get_or, drop}
use lib.Seq.{drop-append-add}
use Rattle.words.specs.Choice.{pick}
use Rattle.rules.specs.Answers.{Told, refused, done, none, closed, opened, already, unfixed, word, count}
use Rattle.rules.specs.Calls.{Call, RMPUPDATE, PVALIDATE, PFIX, PMERGE, PUNMERGE, PUNFIX, READ, WRITE, CENSUS}
use Rattle.rules.specs.Refusals.{alone}
use Rattle.rules.specs.Words.{MayAnswer, is_refused, is_none, is_closed, is_opened, is_already, is_fixed, is_merged, is_unmerged}
use Rattle.rules.specs.Words.{is_unfixed, is_read, is_written, is_counted}
use Rattle.format.specs.Number.{value, hex, decimal}
use Rattle.format.specs.Place.{up_to}
use Rattle.format.specs.Reply.{answered, reply}
use Rattle.format.specs.Tells.{ReplyTells}
use Rattle.format.specs.Text.{LF}
use Rattle.format.proofs.Digits.{worth}
use Rattle.format.proofs.NumberLaws.{hex_value, hex_without, decimal_worth, decimal_without}
use Rattle.format.proofs.UpTo.{up_to_mark}

-- ---- a number up to a mark, and what follows the mark
number : ℕ → List ℕ → ℕ
number mark text = value (up_to mark text)

hex_read : (mark n : ℕ) (rest : List ℕ) → mark < 48 → n < 2 ^ 64 → number mark (hex n ++ (mark ∷ rest)) ≡ n
unfolding number
hex_read mark n rest low h = rw (up_to_mark mark (hex n) rest (hex_without mark n low)) (hex_value n h)

behind : ℕ → List ℕ → List ℕ
behind mark text = drop (suc (length (up_to mark text))) text

hex_behind : (mark n : ℕ) (rest : List ℕ) → mark < 48 → behind mark (hex n ++ (mark ∷ rest)) ≡ rest
unfolding behind
hex_behind mark n rest low =
    rw (up_to_mark mark (hex n) rest (hex_without mark n low), ← add-one (length (hex n)))
    (drop-append-add (hex n) (mark ∷ rest) 1)

-- two numbers, a space between
closed_in : List ℕ → Told
closed_in text = closed (number (code " ") text) (number LF (behind (code " ") text))

apart : (a b : List ℕ) → a ++ (code " " ∷ []) ++ b ++ (LF ∷ []) ≡ a ++ (code " " ∷ (b ++ (LF ∷ [])))
apart a b = append_assoc (a ++ (code " " ∷ [])) b (LF ∷ []) ∙ append_assoc a (code " " ∷ []) (b ++ (LF ∷ []))

two_read :
    (guest address : ℕ) → guest < 2 ^ 64 → address < 2 ^ 64
    → closed_in (hex guest ++ (code " " ∷ []) ++ hex address ++ (LF ∷ [])) ≡ closed guest address
unfolding closed_in
two_read guest address h k =
    rw (apart (hex guest) (hex address), hex_read (code " ") guest _ (omega arith) h, hex_behind (code " ") guest _ (omega arith))
    (ap (closed guest) (hex_read LF address [] (omega arith) k))

-- ---- a reply read back
granted : Call → List ℕ → Told
granted (RMPUPDATE caller hpa gpa asid kind) text =
    pick (eqb (get_or text 5 0) (code "n")) none (closed_in (drop 12 text))
granted (PVALIDATE caller gpa hpa kind) text = pick (eqb (get_or text 5 0) (code "o")) opened already
granted (PFIX caller hpa leaf) text = done
granted (PMERGE caller hpa1 hpa2) text = done
granted (PUNMERGE caller hpa1 hpa2 asid) text = done
granted (PUNFIX caller hpa) text = unfixed (number LF (drop 5 text))
granted (READ caller gpa hpa gtype ntype index) text = word (number LF (drop 5 text))
granted (WRITE caller gpa hpa gtype ntype index value) text = done
granted (CENSUS asid) text = count (number LF (drop 5 text))

heard : Call → List ℕ → Told
heard call text = pick (eqb (get_or text 2 0) (code "n")) (refused (alone (worth 10 0 (up_to LF (drop 5 text))))) (granted call text)

reply_heard : (call : Call) (told : Told) → MayAnswer call told → heard call (reply call told) ≡ told
unfolding heard granted reply answered pick
reply_heard call told (is_refused {number} h) =
    rw (up_to_mark LF (decimal number) [] (decimal_without LF number (omega arith)), decimal_worth number h)
reply_heard call told is_none = refl
reply_heard call told (is_closed {guest} {address} h k) = two_read guest address h k
reply_heard call told is_opened = refl
reply_heard call told is_already = refl
reply_heard call told is_fixed = refl
reply_heard call told is_merged = refl
reply_heard call told is_unmerged = refl
reply_heard call told (is_unfixed {owner = owner} h) = rw (hex_read LF owner [] (omega arith) h)
reply_heard call told (is_read {value} h) = rw (hex_read LF value [] (omega arith) h)
reply_heard call told is_written = refl
reply_heard call told (is_counted {places} h) = rw (hex_read LF places [] (omega arith) h)

pub reply_tells : ReplyTells
reply_tells call one two a b e = sym (reply_heard call one a) ∙ ap (heard call) e ∙ reply_heard call two b
