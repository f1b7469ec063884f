-- Where a text is cut: what stands before the cut is whole, and what stands after it has no line feed; and where two texts are cut that
-- stand one behind the other. By induction on the bytes that are looked at.
-- Assumes nothing.
use mathlib.Core.Path.{◌≡◌, refl, sym, ◌∙◌}
use mathlib.Core.List.{List, [], ◌++◌}
use mathlib.Core.Logic.{◌≢◌, ⊎_elim}
use Prim.Native.Nat.{ℕ, zero, suc, ◌+◌, ◌≤◌, ◌<◌}
use native.Mathlib.Decide.{ℕ_discrete}
use native.Mathlib.Nat.{add-zero, add-suc}
use native.Mathlib.Omega.{arith}
use lib.ListN.{length, get_or, take, drop, length-append, length-take, length-drop, get_or-append}
use lib.Seq.{take-suc, take-append-le, take-append-add, get_or-take, get_or-drop, get_or-append-add}
use borrow.Author.Tests.{eq-eqb, ne_eqb}
use Rattle.words.proofs.ChoiceLaws.{same_or_not, pick_true, pick_false}
use Rattle.format.specs.Piece.{cut, whole_lines}
use Rattle.format.specs.Text.{LF}
use Rattle.format.proofs.Lines.{Whole, whole_empty, whole_fed}
use Rattle.format.proofs.Without.{Without, without_places}

-- ---- the last byte that is looked at is a line feed, or not
pub cut_here : (text : List ℕ) (count : ℕ) → get_or text count 0 ≡ LF → cut text (suc count) ≡ suc count
unfolding cut
cut_here text count h = pick_true _ _ (eq-eqb _ _ h)

pub cut_before : (text : List ℕ) (count : ℕ) → get_or text count 0 ≢ LF → cut text (suc count) ≡ cut text count
unfolding cut
cut_before text count h = pick_false _ _ (ne_eqb _ _ h)

pub cut_most : (text : List ℕ) (count : ℕ) → cut text count ≤ count
unfolding cut
cut_most text zero = omega arith
cut_most text (suc count) =
    ⊎_elim
    (λ e. rw (cut_here text count e) (omega arith))
    (λ e. let fewer = cut_most text count in rw (cut_before text count e) (omega arith))
    (same_or_not (get_or text count 0) LF)

-- ---- before the cut
cut_whole : (text : List ℕ) (count : ℕ) → count ≤ length text → Whole (take (cut text count) text)
unfolding cut
cut_whole text zero h = whole_empty
cut_whole text (suc count) h =
    ⊎_elim
    (λ e. rw (cut_here text count e, take-suc text count 0, e) (whole_fed (take count text)))
    (λ e. rw (cut_before text count e) (cut_whole text count (omega arith)))
    (same_or_not (get_or text count 0) LF)

pub whole_lines_lem : (text : List ℕ) → Whole (whole_lines text)
unfolding whole_lines
whole_lines_lem text = cut_whole text (length text) (omega arith)

-- ---- after the cut
cut_places : (text : List ℕ) (count i : ℕ) → cut text count ≤ i → i < count → get_or text i 0 ≢ LF
cut_places text zero i h l = omega arith
cut_places text (suc count) i h l =
    elim (ℕ_discrete (get_or text count 0) LF) [
      | yes e ↦ let z : ⊥ = omega (arith, cut_here text count e) in absurd z
      | no e ↦ elim (ℕ_discrete i count) [
        | yes same ↦ rw same e
        | no apart ↦ cut_places text count i (omega (arith, cut_before text count e)) (omega (arith, apart))
      ]
    ]

pub rest_unfed : (text : List ℕ) → Without LF (drop (cut text (length text)) text)
rest_unfed text =
    let at = cut text (length text) in
    without_places LF (drop at text)
    (λ i h. rw (get_or-drop at text i 0) (cut_places text (length text) (at + i) (omega arith) (omega (arith, length-drop at text))))

-- so that there is no place to cut in it
cut_none : (text : List ℕ) (count : ℕ) → ((i : ℕ) → i < count → get_or text i 0 ≢ LF) → cut text count ≡ 0
unfolding cut
cut_none text zero none = refl
cut_none text (suc count) none = cut_before text count (none count (omega arith)) ∙ cut_none text count (λ i h. none i (omega arith))

pub tail_unfed : (most : ℕ) (text : List ℕ) → whole_lines (take most (drop (cut text (length text)) text)) ≡ []
unfolding whole_lines
tail_unfed most text =
    let at = cut text (length text) in
    let tail = drop at text in
    let left = length-drop at text in
    let few = length-take most tail in
    let none =
    cut_none (take most tail) (length (take most tail)) λ i h.
    rw (get_or-take most tail i 0 (omega arith), get_or-drop at text i 0) (cut_places text (length text) (at + i) (omega arith) (omega arith)) in
    rw none

-- ---- a text behind another: the last line feed is in the second, or, where that has none, in the first
module _ (a b : List ℕ) where
  cut_front : (count : ℕ) → count ≤ length a → cut (a ++ b) count ≡ cut a count
  unfolding cut
  cut_front zero h = refl
  cut_front (suc count) h = rw (get_or-append a b 0 count h, cut_front count (omega arith))

  fed_behind : (n : ℕ) → get_or b n 0 ≡ LF → cut (a ++ b) (length a + suc n) ≡ length a + suc n
  fed_behind n e = rw add-suc (cut_here (a ++ b) (length a + n) (get_or-append-add a b n 0 ∙ e))

  unfed_behind : (n : ℕ) → get_or b n 0 ≢ LF → cut (a ++ b) (length a + suc n) ≡ cut (a ++ b) (length a + n)
  unfed_behind n e = rw add-suc (cut_before (a ++ b) (length a + n) (rw (get_or-append-add a b n 0) e))

  cut_first : (n : ℕ) → cut b n ≡ 0 → cut (a ++ b) (length a + n) ≡ cut a (length a)
  cut_first zero h = rw add-zero (cut_front (length a) (omega arith))
  cut_first (suc n) h =
      ⊎_elim
      (λ e. let z : ⊥ = omega (arith, cut_here b n e) in absurd z)
      (λ e. unfed_behind n e ∙ cut_first n (sym (cut_before b n e) ∙ h))
      (same_or_not (get_or b n 0) LF)

  cut_second : (n : ℕ) → 0 < cut b n → cut (a ++ b) (length a + n) ≡ length a + cut b n
  cut_second zero h = let z : ⊥ = omega (arith, cut_most b 0) in absurd z
  cut_second (suc n) h =
      ⊎_elim
      (λ e. rw (cut_here b n e) (fed_behind n e))
      (λ e. let same = cut_before b n e in rw same (unfed_behind n e ∙ cut_second n (omega arith)))
      (same_or_not (get_or b n 0) LF)

  pub whole_first : cut b (length b) ≡ 0 → whole_lines (a ++ b) ≡ whole_lines a
  unfolding whole_lines
  whole_first h =
      rw (length-append a b, cut_first (length b) h) (take-append-le (cut a (length a)) a b (cut_most a (length a)))

  pub whole_second : 0 < cut b (length b) → whole_lines (a ++ b) ≡ a ++ whole_lines b
  unfolding whole_lines
  whole_second h = rw (length-append a b, cut_second (length b) h) (take-append-add a b (cut b (length b)))
