-- The first bytes of a text cut after their last line feed: the whole lines are what stands before the cut, and the unfinished line, or
-- its first 121 bytes, is what is moved down.
-- Assumes nothing.
use mathlib.Core.Path.{◌≡◌, sym, ap, ◌∙◌}
use mathlib.Core.List.{List}
use mathlib.Core.Logic.{⊎_elim}
use Prim.Native.Nat.{ℕ, ◌+◌, ◌-◌, ◌≤◌, min}
use native.Mathlib.Nat.{zero-add}
use native.Mathlib.Omega.{arith}
use lib.ListN.{length, take, drop, length-take, length-drop}
use lib.Seq.{paste, take_all, take-take, length-take-le}
use Rattle.std.proofs.lemmas.List.{drop-take}
use Rattle.words.proofs.ChoiceLaws.{lt_or_le}
use Rattle.format.specs.Piece.{cut, whole_lines, unfinished}
use Rattle.format.proofs.Cut.{cut_most}
use Rattle.numbers.specs.Buffer.{buffer, fitting, appended}

module _
    (text : List ℕ) (filled held whole : ℕ) (h : held ≡ min filled (length text))
    (w : whole ≡ cut (take held text) (length (take held text))) where
  taken_is : take filled text ≡ take held text
  taken_is =
      ⊎_elim
      (λ l. let all : held ≡ length text = omega arith in take_all filled text (omega arith) ∙ sym (take_all held text (omega arith)))
      (λ l. let same : held ≡ filled = omega arith in rw same)
      (lt_or_le (length text) filled)

  pub cut_within : whole ≤ held
  cut_within =
      let most = cut_most (take held text) (length (take held text)) in
      let count = length-take held text in
      omega arith

  pub whole_is : whole_lines (take filled text) ≡ take whole text
  unfolding whole_lines
  whole_is = rw (taken_is, ← w) (take-take whole held text cut_within)

  least_is : (a b : ℕ) → a ≤ b → min a (b - 0) ≡ a
  least_is a b l = omega arith

  module _ (kept : ℕ) (k : kept ≡ min (held - whole) 121) where
    kept_most : kept ≤ length text - whole
    kept_most =
        let most : kept ≤ held - whole = omega (arith, k) in
        let held_most : held ≤ length text = omega (arith, h) in
        omega (arith, most, held_most)

    unfinished_is : unfinished (take filled text) ≡ take kept (drop whole text)
    unfolding unfinished
    unfinished_is =
        let rest = drop whole text in
        let short = length-take (held - whole) rest in
        let cut_to : take 121 (take (held - whole) rest) ≡ take kept rest =
        ⊎_elim
        (λ l. let all : kept ≡ held - whole = omega arith in rw all (take_all 121 (take (held - whole) rest) (omega arith)))
        (λ l. let some : kept ≡ 121 = omega arith in rw some (take-take 121 (held - whole) rest l))
        (lt_or_le (held - whole) 121) in
        let on : drop whole (take held text) ≡ take (held - whole) rest =
        let all : held ≡ whole + (held - whole) = omega (arith, cut_within) in
        ap (λ (n : ℕ). drop whole (take n text)) all ∙ drop-take whole (held - whole) text in
        rw (taken_is, ← w, on) cut_to

    pub moved_is :
        (n : ℕ) → n ≡ kept → buffer (paste text 0 (drop whole text) n) kept ≡ appended (buffer text 0) (unfinished (take filled text))
    unfolding appended fitting
    moved_is n same =
        let rest = drop whole text in
        let fits : min (length (take kept rest)) (length text - 0) ≡ kept =
        let enough : kept ≤ length rest = rw (length-drop whole text) kept_most in
        rw (length-take-le kept rest enough) (least_is kept (length text) (omega (arith, kept_most))) in
        rw (same, unfinished_is, fits, take-take kept kept rest (omega arith), zero-add)
