-- The lines of a text: a text that is empty or ends in a line feed is whole, that is, the lines of what follows it come after its own; and
-- a text without a line feed stands in front of the first line of what follows it. By induction on the text.
-- Assumes nothing.
use mathlib.Core.Path.{◌≡◌, refl, ap, ◌∙◌}
use mathlib.Core.List.{List, [], ◌∷◌, ◌++◌, append_assoc, append-nil}
use mathlib.Core.Logic.{◌≢◌, ⊎_elim}
use Prim.Native.Nat.{ℕ, ◌<◌}
use native.Mathlib.Omega.{arith}
use lib.ListN.{length}
use borrow.Author.Tests.{eq-eqb, ne_eqb}
use Rattle.words.proofs.ChoiceLaws.{same_or_not, pick_true, pick_false}
use Rattle.format.specs.Line.{longer}
use Rattle.format.specs.Text.{LF, lines}
use Rattle.format.proofs.Without.{Without}

-- ---- no text, and a byte in front of a text
pub lines_empty : lines [] ≡ []
unfolding lines
lines_empty = refl

pub lines_feed : (byte : ℕ) (rest : List ℕ) → byte ≡ LF → lines (byte ∷ rest) ≡ [] ∷ lines rest
unfolding lines
lines_feed byte rest h = pick_true _ _ (eq-eqb byte LF h)

pub lines_byte : (byte : ℕ) (rest : List ℕ) → byte ≢ LF → lines (byte ∷ rest) ≡ longer byte (lines rest)
unfolding lines
lines_byte byte rest h = pick_false _ _ (ne_eqb byte LF h)

-- ---- whole texts
abbrev pub Whole : List ℕ → Type 0
Whole text = (rest : List ℕ) → lines (text ++ rest) ≡ lines text ++ lines rest

pub whole_empty : Whole []
unfolding lines
whole_empty rest = refl

-- a text and a line feed: its lines, of which there is a first, and then those of the rest
record Fed (text : List ℕ) : Type 0 where
  first : List ℕ
  others : List (List ℕ)
  then : (rest : List ℕ) → lines (text ++ (LF ∷ rest)) ≡ (first ∷ others) ++ lines rest

fed : (text : List ℕ) → Fed text
unfolding longer
fed [] = record { first = []; others = []; then = λ rest. lines_feed LF rest refl }
fed (byte ∷ text) =
    let tail = fed text in
    ⊎_elim
    (λ h. record { first = []; others = tail.first ∷ tail.others; then = λ rest. rw (lines_feed byte _ h, tail.then rest) })
    (λ h. record { first = byte ∷ tail.first; others = tail.others; then = λ rest. rw (lines_byte byte _ h, tail.then rest) })
    (same_or_not byte LF)

pub whole_fed : (text : List ℕ) → Whole (text ++ (LF ∷ []))
whole_fed text rest =
    let f = fed text in
    rw (append_assoc text (LF ∷ []) rest, f.then rest, f.then [], lines_empty, append-nil f.others)

-- ---- a text without a line feed
unfoldable pub ahead : List ℕ → List (List ℕ) → List (List ℕ)
ahead begun [] = begun ∷ []
ahead begun (first ∷ others) = (begun ++ first) ∷ others

ahead_one : (byte : ℕ) (after : List (List ℕ)) → longer byte after ≡ ahead (byte ∷ []) after
unfolding longer ahead
ahead_one byte [] = refl
ahead_one byte (first ∷ others) = refl

ahead_more : (byte : ℕ) (begun : List ℕ) (after : List (List ℕ)) → longer byte (ahead begun after) ≡ ahead (byte ∷ begun) after
unfolding longer ahead
ahead_more byte begun [] = refl
ahead_more byte begun (first ∷ others) = refl

pub lines_ahead :
    (begun rest : List ℕ) → 0 < length begun → Without LF begun → lines (begun ++ rest) ≡ ahead begun (lines rest)
lines_ahead [] rest some h = let z : ⊥ = omega arith in absurd z
lines_ahead (byte ∷ []) rest some h = lines_byte byte rest h.0 ∙ ahead_one byte (lines rest)
lines_ahead (byte ∷ (next ∷ begun)) rest some h =
    lines_byte byte _ h.0 ∙ ap (longer byte) (lines_ahead (next ∷ begun) rest (omega arith) h.1)
    ∙ ahead_more byte (next ∷ begun) (lines rest)
