-- What is appended to a buffer: nothing where it is full, all where there is room, and in two goes as in one.
-- Assumes nothing.
use mathlib.Core.Path.{◌≡◌, refl, sym, ap, ◌∙◌}
use mathlib.Core.List.{List, [], ◌++◌, append_assoc}
use mathlib.Core.Logic.{⊎_elim}
use Prim.Native.Nat.{ℕ, ◌+◌, ◌-◌, ◌≤◌, ◌<◌, min}
use native.Mathlib.Nat.{add-zero, add_assoc, le_refl}
use native.Mathlib.Omega.{arith}
use lib.ListN.{length, take, drop, length-append}
use lib.Seq.{take_all, length-take-le, paste, paste-zero, take-paste, drop-paste, length-paste, take-length, take-append-le, take-append-add, drop-drop}
use Rattle.std.proofs.lemmas.Slice.{put_mid-paste}
use borrow.Rule.Slice.PartMut.{put_mid}
use Rattle.words.proofs.ChoiceLaws.{lt_or_le}
use Rattle.numbers.specs.Buffer.{Buffer, buffer, fitting, appended}
use Rattle.numbers.specs.Held.{held, Appends}
use Rattle.numbers.specs.declared.buffer.Buffer as code

-- n bytes laid after those that are there
laid : Buffer → List ℕ → ℕ → Buffer
laid b xs n = buffer (paste b.bytes b.filled xs n) (b.filled + n)

laid_none : (b : Buffer) (xs : List ℕ) → laid b xs 0 ≡ b
unfolding laid
laid_none b xs = rw (← paste-zero b.bytes b.filled xs, add-zero b.filled)

-- a run laid whole, and some of another after it
laid_twice :
    (b : Buffer) (xs ys : List ℕ) (m : ℕ) → b.filled ≤ length b.bytes
    → laid (laid b xs (length xs)) ys m ≡ laid b (xs ++ ys) (length xs + m)
unfolding laid
laid_twice b xs ys m inside =
    let d = b.bytes in
    let at = b.filled in
    let n = length xs in
    rw (
      take-paste d at xs n inside (le_refl n),
      ← drop-drop m (at + n) (paste d at xs n),
      drop-paste d at xs n inside (le_refl n),
      drop-drop m (at + n) d,
      add_assoc at n m,
      append_assoc (take at d) (take n xs) (take m ys),
      take-length xs,
      take-append-add xs ys m,
    )

module _ (b : Buffer) (xs : List ℕ) where
  appended_laid : (n : ℕ) → fitting b (length xs) ≡ n → appended b xs ≡ laid b xs n
  unfolding appended laid
  appended_laid n e = rw e

  -- where no byte is left, none is written
  pub appended_full : length b.bytes ≤ b.filled → appended b xs ≡ b
  unfolding fitting
  appended_full full = appended_laid 0 (omega arith) ∙ laid_none b xs

  appended_whole : b.filled + length xs ≤ length b.bytes → appended b xs ≡ laid b xs (length xs)
  unfolding fitting
  appended_whole room = appended_laid (length xs) (omega arith)

  pub length_appended : length (appended b xs).bytes ≡ length b.bytes
  unfolding appended fitting
  length_appended =
      ⊎_elim
      (λ (h : b.filled < length b.bytes). length-paste b.bytes b.filled xs (fitting b (length xs)) (omega arith) (omega arith))
      (λ h. ap (λ (a : Buffer). length a.bytes) (appended_full h))
      (lt_or_le b.filled (length b.bytes))

  -- what fits whole follows what is there
  pub appended_fits :
      b.filled + length xs ≤ length b.bytes
      → (take (b.filled + length xs) (appended b xs).bytes ≡ take b.filled b.bytes ++ xs)
      × ((appended b xs).filled ≡ b.filled + length xs)
  unfolding laid
  appended_fits room =
      rw (appended_whole room) (take-paste b.bytes b.filled xs (length xs) (omega arith) (le_refl (length xs)) ∙ rw take-length, refl)

pub appended_nothing : (b : Buffer) → appended b [] ≡ b
unfolding fitting
appended_nothing b = appended_laid b [] 0 (omega arith) ∙ laid_none b []

module _ (b : Buffer) (xs ys : List ℕ) where
  -- the first fills what is left, or more: nothing of the second is written
  append_over : length b.bytes ≤ b.filled + length xs → appended (appended b xs) ys ≡ appended b (xs ++ ys)
  unfolding appended fitting
  append_over over =
      let n = length b.bytes - b.filled in
      let short : n ≤ length xs = omega arith in
      let first : fitting b (length xs) ≡ n = omega arith in
      let both : fitting b (length (xs ++ ys)) ≡ n = simp length-append (omega arith) in
      appended_full (appended b xs) ys (omega (arith, length_appended b xs)) ∙ rw (first, both, take-append-le n xs ys short)

  -- the first fits whole
  append_whole : b.filled + length xs ≤ length b.bytes → appended (appended b xs) ys ≡ appended b (xs ++ ys)
  unfolding fitting laid
  append_whole room =
      let m = min (length ys) (length b.bytes - (b.filled + length xs)) in
      rw (appended_whole b xs room)
      (appended_laid (laid b xs (length xs)) ys m (rw (length-paste b.bytes b.filled xs (length xs) room (le_refl (length xs))))
      ∙ laid_twice b xs ys m (omega arith)
      ∙ sym (appended_laid b (xs ++ ys) (length xs + m) (simp length-append (omega arith))))

  pub append_append : appended (appended b xs) ys ≡ appended b (xs ++ ys)
  append_append =
      ⊎_elim (λ h. append_whole (omega arith)) append_over (lt_or_le (b.filled + length xs) (length b.bytes))

-- a part of the bytes that is written, from the end of what is filled or from the end of the bytes
module _ (b : Buffer) (xs ys : List ℕ) (at n k : ℕ) (same : n ≡ k) (whole : ys ≡ take n xs) (long : n ≤ length xs) where
  written : put_mid at k b.bytes ys ≡ paste b.bytes at xs n
  written =
      let some = length-take-le n xs long in
      let all = take_all n (take n xs) (omega arith) in
      put_mid-paste at k b.bytes ys (take n xs) n whole same (sym some)
      ∙ ap (λ (zs : List ℕ). take at b.bytes ++ zs ++ drop (at + n) b.bytes) all

  pub appended_written :
      at ≡ min b.filled (length b.bytes) → n ≡ min (length xs) (length b.bytes - at)
      → buffer (put_mid at k b.bytes ys) (b.filled + n) ≡ appended b xs
  unfolding fitting laid
  appended_written from much =
      ⊎_elim
      (λ (h : b.filled < length b.bytes).
      let here : at ≡ b.filled = omega arith in
      rw (written, here) (sym (appended_laid b xs n (omega arith))))
      (λ (h : length b.bytes ≤ b.filled).
      let none : n ≡ 0 = omega arith in
      rw (written, none, ← paste-zero b.bytes at xs, add-zero b.filled) (sym (appended_full b xs h)))
      (lt_or_le b.filled (length b.bytes))

-- what is appended in two goes, to the same bytes, is appended in one
pub Appends_append : {a b c : code.Buffer} {xs ys : List ℕ} → Appends a xs b → Appends b ys c → Appends a (xs ++ ys) c
Appends_append {a} {b} {c} {xs} {ys} first second = record {
  same_reference = second.same_reference ∙ first.same_reference;
  grown = second.grown ∙ rw first.grown (append_append (held a) xs ys);
}
