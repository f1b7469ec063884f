-- The word consulted for a fixed page after each accepted call, in a sound state: it stays, because leaves are LEAF frames that no two
-- pages share, and no call but PFIX, PMERGE, PUNMERGE and PUNFIX writes to one; and what it is in the leaf that such a call writes to.
-- Assumes nothing.
use mathlib.Core.Path.{◌≡◌, sym, ◌∙◌}
use mathlib.Core.Bool.{true, false≢true}
use mathlib.Core.Logic.{◌≢◌, inl}
use Prim.Native.Nat.{ℕ}
use native.Mathlib.Omega.{arith}
use borrow.Author.Tests.{eqb-false}
use Rattle.entries.specs.Entry.{SHARED, MERGEABLE, LEAF, frame_of, entry}
use Rattle.entries.specs.declared.entry.Entry.{Entry}
use Rattle.std.specs.Prelude.{Ok}
use Rattle.entries.specs.declared.leaf.LeafWord.TheVariants.{Absent, Present}
use Rattle.entries.proofs.LeafLaws.{leaf_present, leaf_absent}
use Rattle.rules.specs.Assignment.{assigning, validating}
use Rattle.rules.specs.Leaves.{leaf_frame, is_leaf, consulted}
use Rattle.rules.specs.Merging.{fixing, merging, unmerging}
use Rattle.rules.specs.State.{State, entry_at, with_word}
use Rattle.rules.proofs.ArgumentLaws.{validate_tells, two_addresses}
use Rattle.rules.proofs.Effects.{assigning_does, validating_does, fixing_does, merging_does, unmerging_does, Unfixes}
use Rattle.rules.proofs.Leaves.{consulted_same, consulted_is, is_a_leaf, leaf_apart, not_a_leaf, owned_no_leaf, leaf_inside}
use Rattle.rules.proofs.Leaves.{unused_leaf}
use Rattle.rules.proofs.Passed.{Updated, Validated, Fixed, Merged, Unmerged, Unfixing, Way, above, shared, own, merged}
use Rattle.rules.proofs.Sound.{Sound}
use Rattle.rules.proofs.StateLaws.{entry_tells, entry_after_word, word_elsewhere}

module _ {s : State} (sound : Sound s) (g : ℕ) {d : Entry} (page : entry_at s g ≡ Ok d) (fixed : d.fixed ≡ true) where
  -- the leaf of a fixed page is no frame of another type
  leaf_off : (f : ℕ) {e : Entry} → entry_at s f ≡ Ok e → e.kind ≢ LEAF → leaf_frame d ≢ f
  leaf_off f here other = leaf_apart s _ f (is_a_leaf s d 0 (λ broken. sound.unbroken g d 0 page fixed (inl broken))) here other

  -- nor the leaf of another fixed page
  leaf_own : (f : ℕ) {e : Entry} → entry_at s f ≡ Ok e → e.fixed ≡ true → g ≢ f → leaf_frame d ≢ leaf_frame e
  leaf_own f here too apart same = apart (sound.alone g f d _ page here fixed too same)

  module _ (guest : ℕ) where
    pub assigned_consulted :
        {caller hpa gpa asid kind : ℕ} {old : Entry} → Updated s caller hpa gpa asid kind old
        → consulted (assigning s (frame_of hpa) old gpa asid kind) d guest ≡ consulted s d guest
    assigned_consulted p =
        let e = assigning_does p in
        let off = leaf_off _ p.here (eqb-false _ _ p.no_leaf_lem) in
        consulted_same s _ d guest (e.put.elsewhere _ off) (e.words _ _ off)

    pub validated_consulted :
        {caller gpa hpa kind : ℕ} {old : Entry} → Validated s caller gpa hpa kind old
        → consulted (validating s (frame_of hpa) old) d guest ≡ consulted s d guest
    validated_consulted p =
        let e = validating_does p in
        let owned = rw (← p.type) at (validate_tells _ _ _ _ p.arguments).owned in
        let off = leaf_off _ p.here (owned_no_leaf _ owned) in
        consulted_same s _ d guest (e.put.elsewhere _ off) (e.words _ _)

    pub fixed_consulted :
        {caller hpa leaf : ℕ} {old : Entry} → Fixed s caller hpa leaf old
        → consulted (fixing s (frame_of hpa) old leaf) d guest ≡ consulted s d guest
    fixed_consulted p =
        let e = fixing_does p in
        let off = leaf_off _ p.here (not_a_leaf MERGEABLE p.type (omega arith)) in
        let free = unused_leaf s _ g p.unused (two_addresses _ _ _ p.arguments).1 page fixed in
        consulted_same s _ d guest (e.put.elsewhere _ off) (e.words _ _ free)

    pub merged_consulted :
        {caller hpa1 hpa2 : ℕ} {one two : Entry} → Merged s caller hpa1 hpa2 one two → g ≢ frame_of hpa1
        → consulted (merging s one (frame_of hpa2) two) d guest ≡ consulted s d guest
    merged_consulted p apart =
        let e = merging_does p in
        let off = leaf_off _ p.here2 (not_a_leaf MERGEABLE p.type2 (omega arith)) in
        consulted_same s _ d guest (e.put.elsewhere _ off) (e.words _ _ off (leaf_own _ p.here1 p.fixed1 apart))

    pub unmerged_consulted :
        {caller hpa1 hpa2 asid : ℕ} {one two : Entry} {gpa : ℕ} → Unmerged s caller hpa1 hpa2 asid one two gpa → g ≢ frame_of hpa1
        → consulted (unmerging s (frame_of hpa1) one (frame_of hpa2) asid gpa) d guest ≡ consulted s d guest
    unmerged_consulted p apart =
        let e = unmerging_does p in
        let off = leaf_off _ p.here2 (not_a_leaf SHARED p.type2 (omega arith)) in
        consulted_same s _ d guest (e.put.elsewhere _ off) (e.words _ _ off (leaf_own _ p.here1 p.fixed1 apart))

    pub unfixed_consulted :
        {caller hpa : ℕ} {old e : Entry} {u : State} → Unfixing s caller hpa old → Unfixes s u (frame_of hpa) (leaf_frame old) e
        → g ≢ frame_of hpa → consulted u d guest ≡ consulted s d guest
    unfixed_consulted p e apart =
        let off = leaf_off _ p.here (not_a_leaf MERGEABLE p.type (omega arith)) in
        let own = leaf_own _ p.here p.fixed apart in
        consulted_same s _ d guest (e.elsewhere _ off own) (e.words _ _ off own)

  -- a write goes to no leaf
  write_off : {caller gpa f gtype : ℕ} → Way s true caller gpa f gtype → leaf_frame d ≢ f
  write_off (above high t) = λ same. let l = leaf_inside s g page fixed in let z : ⊥ = omega arith in absurd z
  write_off (shared e l here k t) = leaf_off _ here (not_a_leaf SHARED k (omega arith))
  write_off (own e l here k t u o a v) = leaf_off _ here (owned_no_leaf _ ((entry_tells s _ here).validated_owned v))
  write_off (merged e l here k t u w c) = absurd (false≢true (sym w))

  pub written_consulted :
      {caller gpa f gtype : ℕ} (i value guest : ℕ) → Way s true caller gpa f gtype
      → consulted (with_word s f i value) d guest ≡ consulted s d guest
  written_consulted {f = f} i value guest w =
      consulted_same s _ d guest (entry_after_word s f i value _) (word_elsewhere s f i value _ _ (write_off w))

-- ---- the words that PFIX, PMERGE and PUNMERGE are about
module _ {s : State} {caller hpa leaf : ℕ} {old : Entry} (p : Fixed s caller hpa leaf old) where
  abbrev FixedEntry : Entry
  FixedEntry = entry old.asid MERGEABLE true true leaf

  -- the new page's leaf is still a LEAF
  new_leaf : is_leaf (entry_at (fixing s (frame_of hpa) old leaf) (leaf_frame FixedEntry)) ≡ true
  unfolding leaf_frame entry
  new_leaf =
      let e = fixing_does p in
      let off = leaf_apart s _ _ p.leaf_kind p.here (not_a_leaf MERGEABLE p.type (omega arith)) in
      rw (e.put.elsewhere _ off) p.leaf_kind

  pub fixed_owner : consulted (fixing s (frame_of hpa) old leaf) FixedEntry old.asid ≡ Present old.address
  unfolding leaf_frame entry
  fixed_owner =
      let e = fixing_does p in
      consulted_is _ FixedEntry old.asid new_leaf
      ∙ rw e.owner_word (leaf_present _ (entry_tells s _ p.here).address_ok)

  pub fixed_others : (guest : ℕ) → guest ≢ old.asid → consulted (fixing s (frame_of hpa) old leaf) FixedEntry guest ≡ Absent
  unfolding leaf_frame entry
  fixed_others guest other =
      let e = fixing_does p in
      consulted_is _ FixedEntry guest new_leaf ∙ rw (e.other_words guest other) leaf_absent

module _ {s : State} {caller hpa1 hpa2 : ℕ} {one two : Entry} (p : Merged s caller hpa1 hpa2 one two) where
  pub merged_here : consulted (merging s one (frame_of hpa2) two) one two.asid ≡ Present two.address
  merged_here =
      let e = merging_does p in
      consulted_is _ one two.asid (rw (e.put.elsewhere _ e.apart) e.leaf_kind)
      ∙ rw e.leaf_word_is (leaf_present _ (entry_tells s _ p.here2).address_ok)

  pub merged_others : (guest : ℕ) → guest ≢ two.asid → consulted (merging s one (frame_of hpa2) two) one guest ≡ consulted s one guest
  merged_others guest other =
      let e = merging_does p in
      consulted_same s _ one guest (e.put.elsewhere _ e.apart) (e.leaf_words guest other)

module _ {s : State} {caller hpa1 hpa2 asid : ℕ} {one two : Entry} {gpa : ℕ} (p : Unmerged s caller hpa1 hpa2 asid one two gpa) where
  pub unmerged_here : consulted (unmerging s (frame_of hpa1) one (frame_of hpa2) asid gpa) one asid ≡ Absent
  unmerged_here =
      let e = unmerging_does p in
      consulted_is _ one asid (rw (e.put.elsewhere _ e.apart) e.leaf_kind) ∙ rw e.leaf_word_is leaf_absent

  pub unmerged_others :
      (guest : ℕ) → guest ≢ asid
      → consulted (unmerging s (frame_of hpa1) one (frame_of hpa2) asid gpa) one guest ≡ consulted s one guest
  unmerged_others guest other =
      let e = unmerging_does p in
      consulted_same s _ one guest (e.put.elsewhere _ e.apart) (e.leaf_words guest other)
