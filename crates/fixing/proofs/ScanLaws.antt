-- The scan of the table: a test of each frame in turn, and which entries need not be decoded.
-- Assumes nothing.
use Rattle.std.proofs.Common.{◌≡◌, refl, ◌∙◌, ℕ, zero, suc, ◌+◌, add-zero, add-one, false, ◌||◌, ap, List, arith}
use Rattle.std.specs.Prelude.{Ok, Err, eqb}
use Rattle.std.proofs.Math.Bool.{or-false, or_assoc}
use Rattle.std.specs.List.{list_any, range_with_len}
use Rattle.words.specs.Choice.{◌or◌}
use Rattle.words.proofs.ChoiceLaws.{and_not}
use Rattle.entries.specs.Entry.{Decoded}
use Rattle.rmp.specs.Table.{entry_in, address_in}
use Rattle.rmp.proofs.TableLaws.{entry_address}
use Rattle.rules.specs.Leaves.{names_leaf, leaf_in_use}
use Rattle.rules.specs.State.{State, entry_at}

-- an entry in which another address stands does not name the leaf
by_entry :
    (t : List ℕ) (frame leaf : ℕ) → eqb (address_in t frame) leaf ≡ false → (here : Decoded) → entry_in t frame ≡ here
    → names_leaf here leaf ≡ false
unfolding names_leaf
by_entry t frame leaf other (Ok e) found = and_not _ _ (rw (← entry_address t frame e found) other)
by_entry t frame leaf other (Err reason) found = refl

module _ (s : State) (leaf : ℕ) where
  pub not_named : (frame : ℕ) → eqb (address_in s.table frame) leaf ≡ false → names_leaf (entry_at s frame) leaf ≡ false
  unfolding entry_at
  not_named frame other = by_entry s.table frame leaf other (entry_in s.table frame) refl

  one_more : (m : ℕ) → leaf_in_use s leaf (m + 1) ≡ (leaf_in_use s leaf m || names_leaf (entry_at s m) leaf)
  unfolding leaf_in_use ◌or◌
  one_more m = rw add-one

  -- the frames below m, and n more
  more_names :
      (m n : ℕ)
      → (leaf_in_use s leaf m || list_any (λ k. names_leaf (entry_at s k) leaf) (range_with_len m n)) ≡ leaf_in_use s leaf (m + n)
  more_names m zero = rw add-zero (or-false _)
  more_names m (suc n) =
      let e : m + suc n ≡ m + 1 + n = omega arith in rw (e, ← or_assoc, ← one_more m) (more_names (m + 1) n)

  pub any_names : (n : ℕ) → list_any (λ k. names_leaf (entry_at s k) leaf) (range_with_len 0 n) ≡ leaf_in_use s leaf n
  unfolding leaf_in_use
  any_names n = let e : 0 + n ≡ n = omega arith in more_names 0 n ∙ ap (leaf_in_use s leaf) e
