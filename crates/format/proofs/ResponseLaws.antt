-- What lines print and what they leave, by the first of them and the others; and past the end of a text, nothing.
-- Assumes nothing.
use mathlib.Core.Path.{◌≡◌, refl}
use mathlib.Core.List.{List, [], ◌∷◌, ◌++◌}
use Prim.Native.Nat.{ℕ, ◌≤◌}
use lib.ListN.{length, drop, drop_of_length-le}
use Rattle.rules.specs.History.{history, finally}
use Rattle.rules.specs.State.{State}
use Rattle.format.specs.Line.{Said, says, wrong}
use Rattle.format.specs.Response.{response, following}
use Rattle.format.specs.Text.{lines, said_by, calls_of, replies, calls, printed, after}

-- what is printed for lines that say so much, and what they leave
unfoldable pub lines_print : State → List Said → List ℕ
lines_print s all = replies all (history s (calls_of all))

unfoldable pub lines_leave : State → List Said → State
lines_leave s all = finally s (calls_of all)

module _ (s : State) where
  pub printed_is : (text : List ℕ) → printed s text ≡ lines_print s (said_by text)
  unfolding printed calls lines_print
  printed_is text = refl

  pub after_is : (text : List ℕ) → after s text ≡ lines_leave s (said_by text)
  unfolding after calls lines_leave
  after_is text = refl

  pub no_line_prints : lines_print s [] ≡ []
  unfolding lines_print replies
  no_line_prints = refl

  pub no_line_leaves : lines_leave s [] ≡ s
  unfolding lines_leave calls_of finally
  no_line_leaves = refl

  pub first_prints : (line : Said) (rest : List Said) → lines_print s (line ∷ rest) ≡ response s line ++ lines_print (following s line) rest
  unfolding lines_print replies calls_of history response following
  first_prints (says call) rest = refl
  first_prints wrong rest = refl

  pub first_leaves : (line : Said) (rest : List Said) → lines_leave s (line ∷ rest) ≡ lines_leave (following s line) rest
  unfolding lines_leave calls_of finally following
  first_leaves (says call) rest = refl
  first_leaves wrong rest = refl

-- ---- past the end
module _ (s : State) (text : List ℕ) (at : ℕ) (h : length text ≤ at) where
  pub nothing_printed : printed s (drop at text) ≡ []
  unfolding printed calls said_by lines calls_of replies
  nothing_printed = rw (drop_of_length-le text h)

  pub nothing_after : after s (drop at text) ≡ s
  unfolding after calls said_by lines calls_of finally
  nothing_after = rw (drop_of_length-le text h)
