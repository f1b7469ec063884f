-- What is printed for a text takes at most 54 bytes for a byte of the text: a text has no more lines than bytes, and the longest reply to a
-- line is `U ok closed`, two numbers of 20 digits, the spaces before them and the line feed.
-- Assumes nothing.
use mathlib.Core.List.{List, [], ◌∷◌}
use mathlib.Core.Logic.{⊎_elim}
use Prim.Native.Nat.{ℕ, suc, ◌*◌, ◌≤◌}
use native.Mathlib.Omega.{arith}
use lib.ListN.{length, length-append, length-map}
use Rattle.words.proofs.ChoiceLaws.{same_or_not}
use Rattle.rules.specs.Answers.{Told, refused, done, none, closed, opened, already, unfixed, word, count}
use Rattle.rules.specs.Calls.{Call}
use Rattle.rules.specs.History.{Made, history}
use Rattle.format.specs.Line.{Said, says, wrong, longer, said}
use Rattle.format.specs.Reply.{answered, reply, wrong_reply}
use Rattle.format.specs.Text.{LF, lines, said_by, replies, calls, printed, RoomEnough}
use Rattle.format.proofs.Lines.{lines_empty, lines_feed, lines_byte}
use Rattle.format.proofs.NumberLaws.{hex_most, decimal_most}

-- ---- lines
longer_most : (byte : ℕ) (parts : List (List ℕ)) → length (longer byte parts) ≤ suc (length parts)
unfolding longer
longer_most byte [] = omega arith
longer_most byte (first ∷ others) = omega arith

pub lines_most : (text : List ℕ) → length (lines text) ≤ length text
lines_most [] = rw lines_empty (omega arith)
lines_most (byte ∷ rest) =
    ⊎_elim (λ e. rw (lines_feed byte rest e) (omega (arith, lines_most rest)))
    (λ e. rw (lines_byte byte rest e) (omega (arith, longer_most byte (lines rest), lines_most rest)))
    (same_or_not byte LF)

-- ---- replies
pub answered_most : (told : Told) → length (answered told) ≤ 52
unfolding answered
answered_most (refused refusal) = simp length-append (omega (arith, decimal_most refusal.number))
answered_most done = omega arith
answered_most none = omega arith
answered_most (closed asid gpa) = simp length-append (omega (arith, hex_most asid, hex_most gpa))
answered_most opened = omega arith
answered_most already = omega arith
answered_most (unfixed owner) = simp length-append (omega (arith, hex_most owner))
answered_most (word value) = simp length-append (omega (arith, hex_most value))
answered_most (count number) = simp length-append (omega (arith, hex_most number))

pub reply_most : (call : Call) (told : Told) → length (reply call told) ≤ 54
unfolding reply
reply_most call told = simp length-append (omega (arith, answered_most told))

pub replies_most : (lines : List Said) (made : List Made) → length (replies lines made) ≤ 54 * length lines
unfolding replies wrong_reply
replies_most [] made = omega arith
replies_most (wrong ∷ rest) made = rw length-append (omega (arith, replies_most rest made))
replies_most (says call ∷ rest) [] = omega arith
replies_most (says call ∷ rest) (m ∷ made) = rw length-append (omega (arith, reply_most m.call m.told, replies_most rest made))

pub room_enough : RoomEnough
unfolding printed said_by
room_enough s text =
    omega (arith, replies_most (said_by text) (history s (calls text)), length-map (lines text) said, lines_most text)
