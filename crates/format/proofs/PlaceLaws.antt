-- The line at a place of a text: where it ends, which place comes after it, and that the lines from a place on are the line there and
-- those after it.
-- Assumes nothing.
use mathlib.Core.Path.{◌≡◌, ap, ◌∙◌}
use mathlib.Core.List.{List, [], ◌∷◌}
use mathlib.Core.Logic.{⊎_elim}
use Prim.Native.Nat.{ℕ, suc, ◌+◌, ◌≤◌, ◌<◌}
use native.Mathlib.Nat.{suc-add}
use native.Mathlib.Omega.{arith}
use lib.ListN.{length, drop, drop_of_length-le}
use lib.Seq.{drop-cons, drop-drop}
use borrow.Author.Tests.{lt-ltb, le-ltb}
use Rattle.words.proofs.ChoiceLaws.{lt_or_le, same_or_not, pick_true, pick_false}
use Rattle.format.specs.Line.{longer}
use Rattle.format.specs.Place.{up_to, line_at, place_after}
use Rattle.format.specs.Text.{LF, lines}
use Rattle.format.proofs.Lines.{lines_empty, lines_feed, lines_byte}
use Rattle.format.proofs.UpTo.{up_to_none, up_to_here, up_to_past, up_to_within}

-- ---- the first line of a text
lines_first :
    (byte : ℕ) (rest : List ℕ)
    → lines (byte ∷ rest) ≡ up_to LF (byte ∷ rest) ∷ lines (drop (length (up_to LF (byte ∷ rest))) rest)
unfolding longer
lines_first byte [] =
    ⊎_elim
    (λ e. rw (up_to_here LF byte [] e, lines_feed byte [] e))
    (λ e. rw (up_to_past LF byte [] e, up_to_none LF, lines_byte byte [] e, lines_empty))
    (same_or_not byte LF)
lines_first byte (next ∷ rest) =
    ⊎_elim
    (λ e. rw (up_to_here LF byte (next ∷ rest) e, lines_feed byte (next ∷ rest) e))
    (λ e. rw (up_to_past LF byte (next ∷ rest) e, lines_byte byte (next ∷ rest) e, lines_first next rest))
    (same_or_not byte LF)

-- ---- the line at a place
module _ (text : List ℕ) (at : ℕ) where
  abbrev end : ℕ
  end = at + length (line_at text at)

  -- where a line feed ends it, and where the text does
  pub after_fed : end < length text → place_after text at ≡ suc end
  unfolding place_after
  after_fed h = pick_true _ _ (lt-ltb _ _ h)

  pub after_last : length text ≤ end → place_after text at ≡ end
  unfolding place_after
  after_last h = pick_false _ _ (le-ltb _ _ h)

  -- past the end there is an empty line, and no place after it
  pub no_line_past : length text ≤ at → line_at text at ≡ []
  unfolding line_at
  no_line_past h = rw (drop_of_length-le text h, up_to_none LF)

  pub stays_past : length text ≤ at → place_after text at ≡ at
  stays_past h =
      let none = ap length (no_line_past h) in
      let here : end ≡ at = omega arith in
      after_last (omega arith) ∙ here

  pub line_ends : at ≤ length text → end ≤ length text
  unfolding line_at
  line_ends h = up_to_within LF text at h

  module _ (h : at < length text) where
    -- the lines from a place on are the line there and those after it
    rest_is : drop (suc end) text ≡ drop (place_after text at) text
    rest_is =
        ⊎_elim
        (λ fed. rw (after_fed fed))
        (λ last. rw (after_last last, drop_of_length-le text last, drop_of_length-le text {i = suc end} (omega arith)))
        (lt_or_le end (length text))

    pub lines_at : lines (drop at text) ≡ line_at text at ∷ lines (drop (place_after text at) text)
    unfolding line_at
    lines_at =
        let n = length (up_to LF (drop at text)) in
        let cons = drop-cons text at 0 h in
        let first : lines (drop at text) ≡ up_to LF (drop at text) ∷ lines (drop n (drop (suc at) text)) = rw cons (lines_first _ _) in
        let moved : drop n (drop (suc at) text) ≡ drop (suc end) text =
        drop-drop n (suc at) text ∙ ap (λ (k : ℕ). drop k text) (suc-add at n) in
        first ∙ ap (λ (r : List ℕ). up_to LF (drop at text) ∷ lines r) (moved ∙ rest_is)
