-- Leaves: when the word consulted stays, that it comes from a LEAF unless it is broken, that a LEAF is no other frame, and what the test
-- of 15 tells when it fails: no fixed page names this leaf.
-- Assumes nothing.
use mathlib.Core.Path.{◌≡◌, refl, sym, ◌∙◌}
use mathlib.Core.Bool.{Bool, true, false, false≢true}
use mathlib.Core.Logic.{◌≢◌, ◌⊎◌, inl, inr, ⊎_elim}
use Prim.Native.Nat.{ℕ, zero, suc, ◌<◌, ◌≤◌}
use native.Mathlib.Omega.{arith}
use borrow.Author.Tests.{eqb-true, eq-eqb}
use Rattle.words.specs.Choice.{pick, ◌and◌, ◌or◌}
use Rattle.words.proofs.ChoiceLaws.{same_or_not, pick_true, pick_false}
use Rattle.entries.specs.Entry.{Decoded, SHARED, PRIVATE, MERGEABLE, LEAF, frame_of, is_address, is_owned}
use Rattle.entries.specs.Leaf.{leaf_word}
use Rattle.entries.specs.declared.entry.Entry.{Entry}
use Rattle.std.specs.Prelude.{Ok, Err}
use Rattle.entries.specs.declared.leaf.LeafWord.{LeafWord}
use Rattle.entries.specs.declared.leaf.LeafWord.TheVariants.{Absent, Present, Misshapen}
use Rattle.entries.proofs.LeafLaws.{address_whole, present_address}
use Rattle.entries.proofs.Tells.{owned_kinds}
use Rattle.rules.specs.Leaves.{leaf_frame, is_leaf, consulted, names_leaf, leaf_in_use}
use Rattle.rules.specs.State.{State, N, M, sized, entry_at, word_at}
use Rattle.rules.proofs.StateLaws.{sizes, entry_inside, entry_tells}

-- ---- the word consulted
pub consulted_same :
    (s u : State) (page : Entry) (guest : ℕ) → entry_at u (leaf_frame page) ≡ entry_at s (leaf_frame page)
    → word_at u (leaf_frame page) guest ≡ word_at s (leaf_frame page) guest → consulted u page guest ≡ consulted s page guest
unfolding consulted
consulted_same s u page guest e w = rw (e, w)

module _ (s : State) (page : Entry) (guest : ℕ) where
  pub consulted_is : is_leaf (entry_at s (leaf_frame page)) ≡ true → consulted s page guest ≡ leaf_word (word_at s (leaf_frame page) guest)
  unfolding consulted
  consulted_is h = pick_true _ _ h

  pub is_a_leaf : (consulted s page guest ≡ Misshapen → ⊥) → is_leaf (entry_at s (leaf_frame page)) ≡ true
  unfolding consulted
  is_a_leaf unbroken = go (is_leaf (entry_at s (leaf_frame page))) unbroken
    where
      go : (t : Bool) → (pick t (leaf_word (word_at s (leaf_frame page) guest)) Misshapen ≡ Misshapen → ⊥) → t ≡ true
      go true h = refl
      go false h = absurd (h (pick_false _ _ refl))

  pub consulted_address : (gpa : ℕ) → consulted s page guest ≡ Present gpa → is_address gpa ≡ true
  consulted_address gpa h =
      let leaf = is_a_leaf (λ k. absurd (false≢true (cc))) in
      present_address _ gpa (sym (consulted_is leaf) ∙ h)

  pub no_leaf_lem : is_leaf (entry_at s (leaf_frame page)) ≡ false → consulted s page guest ≡ Misshapen
  unfolding consulted
  no_leaf_lem h = pick_false _ _ h

-- a word that is absent or present is not broken
pub from_absent : {w : LeafWord} → w ≡ Absent → w ≡ Misshapen → ⊥
from_absent h k = absurd (false≢true (cc))

pub from_present : {w : LeafWord} {gpa : ℕ} → w ≡ Present gpa → w ≡ Misshapen → ⊥
from_present h k = absurd (false≢true (cc))

-- what no word of a leaf in use may be: misshapen, or at index 0 and not absent
abbrev pub Broken : ℕ → LeafWord → Type 0
Broken index w = (w ≡ Misshapen) ⊎ ((index ≡ 0) × (w ≢ Absent))

pub whole_absent : {index : ℕ} {w : LeafWord} → w ≡ Absent → Broken index w → ⊥
whole_absent h (inl broken) = from_absent h broken
whole_absent h (inr host) = host.1 h

pub whole_present : {index : ℕ} {w : LeafWord} {gpa : ℕ} → 1 ≤ index → w ≡ Present gpa → Broken index w → ⊥
whole_present some h (inl broken) = from_present h broken
whole_present some h (inr host) = let zero_is = host.0 in absurd (omega arith)

-- ---- a LEAF is a good entry of its own type, and no frame of another type
pub leaf_good : (d : Decoded) → is_leaf d ≡ true → (e : Entry) × ((d ≡ Ok e) × (e.kind ≡ LEAF))
unfolding is_leaf
leaf_good (Ok e) h = (e, (refl, eqb-true _ _ h))
leaf_good (Err reason) h = absurd (false≢true h)

pub leaf_apart : (s : State) (f g : ℕ) {e : Entry} → is_leaf (entry_at s f) ≡ true → entry_at s g ≡ Ok e → e.kind ≢ LEAF → f ≢ g
leaf_apart s f g {e} h here other same =
    let leaf = leaf_good (entry_at s f) h in
    let there = leaf.1.0 in
    let one : leaf.0 ≡ e = cc in
    other (rw (← one) leaf.1.1)

pub not_a_leaf : {kind : ℕ} (other : ℕ) → kind ≡ other → other < LEAF → kind ≢ LEAF
not_a_leaf other h l same = let z : ⊥ = omega arith in absurd z

pub owned_no_leaf : (kind : ℕ) → is_owned kind ≡ true → kind ≢ LEAF
owned_no_leaf kind o = ⊎_elim (λ k. not_a_leaf PRIVATE k (omega arith)) (λ k. not_a_leaf MERGEABLE k (omega arith)) (owned_kinds kind o)

pub shared_unowned : {kind : ℕ} → kind ≡ SHARED → is_owned kind ≡ true → ⊥
shared_unowned k o = ⊎_elim (λ h. let z : ⊥ = omega arith in absurd z) (λ h. let z : ⊥ = omega arith in absurd z) (owned_kinds _ o)

-- the leaf of a fixed page is in the table
pub leaf_inside : (s : State) (f : ℕ) {page : Entry} → entry_at s f ≡ Ok page → page.fixed ≡ true → leaf_frame page < N s
unfolding leaf_frame
leaf_inside s f here fixed = (entry_tells s f here).fixed_leaf fixed

-- and in memory
pub leaf_has :
    (s : State) (f : ℕ) {page : Entry} → sized s ≡ true → entry_at s f ≡ Ok page → page.fixed ≡ true → leaf_frame page < M s
leaf_has s f size here fixed =
    let inside = leaf_inside s f here fixed in
    let least = (sizes s size).memory_least in
    omega arith

-- ---- 15: a leaf that is not in use
not_named : (s t : Bool) → s or t ≡ false → (s ≡ false) × (t ≡ false)
unfolding ◌or◌
not_named true t h = absurd (false≢true (sym h))
not_named false t h = (refl, h)

names_not : (e : Entry) (leaf : ℕ) → e.fixed ≡ true → names_leaf (Ok e) leaf ≡ false → e.address ≢ leaf
unfolding names_leaf ◌and◌
names_not e leaf fixed free same = absurd (false≢true (sym free ∙ rw (fixed, eq-eqb _ _ same)))

unused_below :
    (s : State) (leaf n f : ℕ) (e : Entry) → leaf_in_use s leaf n ≡ false → f < n → entry_at s f ≡ Ok e → e.fixed ≡ true
    → e.address ≢ leaf
unfolding leaf_in_use
unused_below s leaf zero f e free below here fixed = let z : ⊥ = omega arith in absurd z
unused_below s leaf (suc n) f e free below here fixed =
    ⊎_elim (λ same. names_not e leaf fixed (rw (← here) (rw same (not_named _ _ free).1)))
    (λ other. unused_below s leaf n f e (not_named _ _ free).0 (omega (arith, other)) here fixed)
    (same_or_not f n)

pub same_frame : (a b : ℕ) → is_address a ≡ true → is_address b ≡ true → frame_of a ≡ frame_of b → a ≡ b
unfolding frame_of
same_frame a b h k same = let p = address_whole a h in let q = address_whole b k in omega arith

pub unused_leaf :
    (s : State) (leaf f : ℕ) {e : Entry} → leaf_in_use s leaf (N s) ≡ false → is_address leaf ≡ true → entry_at s f ≡ Ok e → e.fixed ≡ true
    → leaf_frame e ≢ frame_of leaf
unfolding leaf_frame
unused_leaf s leaf f free address here fixed same =
    unused_below s leaf (N s) f _ free (entry_inside s f here) here fixed
    (same_frame _ _ (entry_tells s f here).address_ok address same)
