-- Leaf words: the word that says present at an address reads so, zero reads absent, and what is read as present is an address.
-- Assumes nothing.
use mathlib.Core.Path.{◌≡◌, refl}
use mathlib.Core.Bool.{Bool, true, false, false≢true}
use Prim.Native.Nat.{ℕ, ◌+◌, ◌-◌, ◌%◌, ◌<◌}
use native.Mathlib.Omega.{arith}
use lib.Dec.{eqb}
use borrow.Author.Tests.{eqb-true, ltb-true}
use Rattle.words.specs.Choice.{pick}
use Rattle.words.proofs.ChoiceLaws.{and_left, and_right}
use Rattle.entries.specs.Entry.{is_address}
use Rattle.entries.specs.Leaf.{leaf_word, present_at}
use Rattle.entries.specs.declared.leaf.LeafWord.TheVariants.{Absent, Present, Misshapen}

-- what an address is, in numbers
module _ (a : ℕ) (h : is_address a ≡ true) where
  pub address_whole : a % 4096 ≡ 0
  unfolding is_address
  address_whole = eqb-true _ _ (and_left _ _ h)

  pub address_small : a < 0x10000000000000
  unfolding is_address
  address_small = ltb-true _ _ (and_right _ _ h)

  pub present_is : present_at a ≡ a + 1
  unfolding present_at
  present_is = let s = address_small in omega arith

  pub leaf_present : leaf_word (present_at a) ≡ Present a
  unfolding leaf_word pick
  leaf_present =
      let w = address_whole in
      let odd : (a + 1) % 2 ≡ 1 = omega arith in
      let back : a + 1 - 1 ≡ a = omega arith in
      rw (present_is, odd, back, h)

pub leaf_absent : leaf_word 0 ≡ Absent
unfolding leaf_word pick
leaf_absent = refl

pub present_address : (w a : ℕ) → leaf_word w ≡ Present a → is_address a ≡ true
unfolding leaf_word pick
present_address w a = go (eqb (w % 2) 0) (is_address (w - 1)) refl
  where
    go : (t u : Bool) → is_address (w - 1) ≡ u → pick t Absent (pick u (Present (w - 1)) Misshapen) ≡ Present a → is_address a ≡ true
    go true u p e = absurd (false≢true (cc))
    go false true p e = let q : w - 1 ≡ a = cc in rw (← q) p
    go false false p e = absurd (false≢true (cc))
