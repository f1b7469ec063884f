-- The bytes before the first mark, in the library's words.
-- Assumes nothing.
use mathlib.Core.Path.{◌≡◌, refl, ap, ◌∙◌}
use mathlib.Core.Bool.{Bool, true, false, cond, not}
use mathlib.Core.List.{List, [], ◌∷◌}
use Prim.Native.Nat.{ℕ, ◌+◌, ◌-◌, ◌≤◌}
use native.Mathlib.Omega.{arith}
use lib.Dec.{eqb, ltb}
use lib.ListN.{length, take, drop}
use borrow.Author.Tests.{ltb-false}
use Rattle.std.specs.Prelude.{Option, Some, None}
use Rattle.std.specs.List.{position_or_len}
use Rattle.std.specs.Option.{unwrap_or}
use Rattle.std.proofs.lemmas.List.Sums.{prefix_len-le-length}
use Rattle.std.proofs.lemmas.List.{take_rest}
use Rattle.words.specs.Choice.{pick}
use Rattle.format.specs.Place.{up_to, line_at}
use Rattle.format.specs.Text.{LF}
use Rattle.format.proofs.UpTo.{up_to_take}
use Rattle.format.proofs.PlaceLaws.{line_ends}

pub length-up_to : (mark : ℕ) (bytes : List ℕ) → length (up_to mark bytes) ≡ position_or_len (λ b. eqb b mark) bytes
unfolding up_to pick
length-up_to mark [] = refl
length-up_to mark (byte ∷ rest) =
    elim (eqb byte mark) as (λ t. length (cond t [] (byte ∷ up_to mark rest)) ≡ cond (not t) (1 + position_or_len (λ b. eqb b mark) rest) 0) [
      | true ↦ refl
      | false ↦ rw (← length-up_to mark rest) (omega arith)
    ]

-- the first place that passes, or the length where none does
pub or_all :
    {X : Type 0} (p : X → Bool) (xs : List X) (found : Option ℕ)
    → found ≡ cond (ltb (position_or_len p xs) (length xs)) (Some (position_or_len p xs)) None
    → unwrap_or found (length xs) ≡ position_or_len p xs
or_all p xs found is =
    let most = prefix_len-le-length (λ x. not (p x)) xs in
    rw is
    (elim (ltb (position_or_len p xs) (length xs)) as (λ t. ltb (position_or_len p xs) (length xs) ≡ t → unwrap_or (cond t (Some (position_or_len p xs)) None) (length xs) ≡ position_or_len p xs) [
      | true ↦ λ e. refl
      | false ↦ λ e. let past = ltb-false _ _ e in omega arith
    ]
    refl)

-- a line that begins within the text, by how many bytes stand before the line feed in what is left of it
module _
    (text : List ℕ) (at n : ℕ) (h : at ≤ length text) (is : n ≡ length (up_to LF (take (length text - at) (drop at text)))) where
  pub long : n ≡ length (line_at text at)
  unfolding line_at
  long = is ∙ ap (λ r. length (up_to LF r)) (take_rest text at)

  pub within : at + n ≤ length text
  within = let ends = line_ends text at h in let n_is = long in omega arith

  pub line_is : take n (take (length text - at) (drop at text)) ≡ line_at text at
  unfolding line_at
  line_is = rw (take_rest, long) (up_to_take LF (drop at text))
