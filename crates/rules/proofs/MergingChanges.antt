-- PFIX and PUNFIX leave every place in its frame; PMERGE and PUNMERGE move one place of one guest, to a frame with the same words.
-- Assumes nothing.
use mathlib.Core.Path.{◌≡◌, refl, sym, ◌∙◌}
use mathlib.Core.Bool.{true, false}
use mathlib.Core.Logic.{◌≢◌, ⊎_elim}
use Prim.Native.Nat.{ℕ}
use native.Mathlib.Omega.{arith}
use Rattle.words.proofs.ChoiceLaws.{same_or_not}
use Rattle.frames.specs.Frame.{zeros}
use Rattle.entries.specs.Entry.{SHARED, MERGEABLE, frame_of, is_guest, entry, zero_entry, to_moved}
use Rattle.entries.specs.declared.entry.Entry.{Entry}
use Rattle.entries.proofs.Tells.{guest_range, false_not_true}
use Rattle.rules.specs.Census.{holds, nothing, holding}
use Rattle.rules.specs.History.{no_event}
use Rattle.rules.specs.Leaves.{leaf_frame, is_leaf}
use Rattle.rules.specs.Merging.{fixing, merging, unmerging, unfixing}
use Rattle.rules.specs.State.{State, entry_at, word_at, with_frame}
use Rattle.rules.proofs.Changes.{Change}
use Rattle.rules.proofs.Consulted.{fixed_consulted, merged_consulted, unmerged_consulted, unfixed_consulted, fixed_owner}
use Rattle.rules.proofs.Consulted.{fixed_others, merged_here, merged_others, unmerged_here, unmerged_others}
use Rattle.rules.proofs.Effects.{Fixes, fixing_does, Merges, merging_does, Unmerges, unmerging_does, Unfixes, given_does}
use Rattle.rules.proofs.Effects.{given_words, freeing_does}
use Rattle.rules.proofs.Holdings.{present_there, absent_there, holding_same, unopened, of_another, of_its_own, nobodys}
use Rattle.rules.proofs.Holdings.{leaf_nothing}
use Rattle.rules.proofs.Leaves.{consulted_is, leaf_has, shared_unowned}
use Rattle.rules.proofs.Passed.{Fixed, Merged, Unmerged, Unfixing, Unfixed, Freed}
use Rattle.rules.proofs.PlaceChanges.{stays, moves}
use Rattle.rules.proofs.PlaceLaws.{place_apart}
use Rattle.rules.proofs.Present.{none_present, others_absent}
use Rattle.rules.proofs.Sound.{Sound}
use Rattle.rules.proofs.StateLaws.{sizes, entry_tells, equal_words, same_good}

-- ---- PFIX
module _ {s : State} (sound : Sound s) {caller hpa leaf : ℕ} {before : Entry} (p : Fixed s caller hpa leaf before) (guest : ℕ) where
  abbrev fixed_now : State
  fixed_now = fixing s (frame_of hpa) before leaf

  fix_effect : Fixes s fixed_now (frame_of hpa) (frame_of leaf) before (entry before.asid MERGEABLE true true leaf)
  fix_effect = fixing_does p

  -- the page is the owner's place, by its entry before and by its word in the leaf after
  fixed_here : holding fixed_now guest (frame_of hpa) ≡ holding s guest (frame_of hpa)
  unfolding entry
  fixed_here =
      ⊎_elim
      (λ own.
      rw (← own)
      (present_there fixed_now _ _ fix_effect.put.here refl _ (fixed_owner p)
      ∙ sym (of_its_own s _ _ p.here p.unfixed p.validated refl)))
      (λ other.
      absent_there fixed_now guest _ fix_effect.put.here refl
      (fixed_others p guest (λ same. other (sym same)))
      ∙ sym (of_another s guest _ p.here p.unfixed other))
      (same_or_not before.asid guest)

  pub fix_change : Change s fixed_now no_event guest
  fix_change =
      stays s fixed_now guest fix_effect.put.same_size.same_N
      (λ f. ⊎_elim (λ here. rw here fixed_here)
      (λ other. holding_same s fixed_now guest f (fix_effect.put.elsewhere f other)
      (λ e here fixed. fixed_consulted sound f here fixed guest p))
      (same_or_not f (frame_of hpa)))
      (λ f at i h. fix_effect.words f i (place_apart s guest at f _ h (leaf_nothing s guest _ p.leaf_kind)))

-- ---- PUNFIX: both ways, where the page is to the guest what it was
module _ {s : State} (sound : Sound s) {caller hpa : ℕ} {before e : Entry} {u : State} (p : Unfixing s caller hpa before)
    (x : Unfixes s u (frame_of hpa) (leaf_frame before) e) (guest : ℕ)
    (here : holding u guest (frame_of hpa) ≡ holding s guest (frame_of hpa))
    (kept : (at i : ℕ) → holding s guest (frame_of hpa) ≡ holds at → word_at u (frame_of hpa) i ≡ word_at s (frame_of hpa) i) where
  leaf_left : holding u guest (leaf_frame before) ≡ holding s guest (leaf_frame before)
  unfolding zero_entry entry
  leaf_left = unopened u guest _ x.leaf_here refl refl ∙ sym (leaf_nothing s guest _ p.leaf_kind)

  unfix_words : (f at i : ℕ) → holding s guest f ≡ holds at → word_at u f i ≡ word_at s f i
  unfix_words f at i h =
      ⊎_elim (λ page. rw page (kept at i (rw page at h)))
      (λ other. x.words f i other (place_apart s guest at f _ h (leaf_nothing s guest _ p.leaf_kind)))
      (same_or_not f (frame_of hpa))

  unfix_stays : Change s u no_event guest
  unfix_stays =
      stays s u guest x.same_size.same_N
      (λ f. ⊎_elim (λ page. rw page here)
      (λ other. ⊎_elim (λ leaf. rw leaf leaf_left)
      (λ off. holding_same s u guest f (x.elsewhere f other off)
      (λ e there fixed. unfixed_consulted sound f there fixed guest p x other))
      (same_or_not f (leaf_frame before)))
      (same_or_not f (frame_of hpa)))
      unfix_words

-- the one guest that is left has its place by its word in the leaf before, and by the page's entry after; no other guest has one there
module _ {s : State} (sound : Sound s) {caller hpa : ℕ} {before : Entry} {owner gpa : ℕ} (p : Unfixed s caller hpa before owner gpa)
    (guest : ℕ) (range : is_guest guest ≡ true) where
  abbrev given_now : State
  given_now = unfixing s (frame_of hpa) before (to_moved before owner gpa)

  no_other : owner ≢ guest → holding s guest (frame_of hpa) ≡ nothing
  no_other other =
      let page = p.page in
      let few = p.one_left in
      let small = (guest_range guest range).1 in
      let has = leaf_has s _ page.size page.here page.fixed in
      absent_there s guest _ page.here page.fixed
      (consulted_is s before guest page.leaf_kind
      ∙ others_absent s _ has (omega arith) guest (omega arith) (λ same. other (sym (same ∙ p.last))))

  given_here : holding given_now guest (frame_of hpa) ≡ holding s guest (frame_of hpa)
  unfolding to_moved entry
  given_here =
      let page = p.page in
      let validated = (entry_tells s _ page.here).fixed_validated page.fixed in
      ⊎_elim
      (λ own.
      rw (← own)
      (of_its_own given_now _ _ (given_does p).here refl validated refl ∙ sym (present_there s _ _ page.here page.fixed gpa p.place)))
      (λ other. of_another given_now guest _ (given_does p).here refl other ∙ sym (no_other other))
      (same_or_not owner guest)

  pub unfix_change : Change s given_now no_event guest
  unfix_change = unfix_stays sound p.page (given_does p) guest given_here (λ at i h. given_words p i)

-- nobody has a place in a page that is freed
module _ {s : State} (sound : Sound s) {caller hpa : ℕ} {before : Entry} (p : Freed s caller hpa before) (guest : ℕ)
    (range : is_guest guest ≡ true) where
  abbrev freed_now : State
  freed_now = unfixing (with_frame s (frame_of hpa) zeros) (frame_of hpa) before zero_entry

  nobody : holding s guest (frame_of hpa) ≡ nothing
  nobody =
      let page = p.page in
      let small = (guest_range guest range).1 in
      let has = leaf_has s _ page.size page.here page.fixed in
      absent_there s guest _ page.here page.fixed
      (consulted_is s before guest page.leaf_kind ∙ none_present s _ has p.none_left guest (omega arith))

  pub free_change : Change s freed_now no_event guest
  unfolding zero_entry entry
  free_change =
      unfix_stays sound p.page (freeing_does p) guest (unopened freed_now guest _ (freeing_does p).here refl refl ∙ sym nobody)
      (λ at i h. absurd (place_apart s guest at _ _ h nobody refl))

-- ---- PMERGE
module _ {s : State} (sound : Sound s) {caller hpa1 hpa2 : ℕ} {one two : Entry} (p : Merged s caller hpa1 hpa2 one two) where
  abbrev merged_now : State
  merged_now = merging s one (frame_of hpa2) two

  merge_effect : Merges s merged_now (leaf_frame one) (frame_of hpa2) two
  merge_effect = merging_does p

  -- frame 1 is fixed and frame 2 is not
  merge_apart : frame_of hpa1 ≢ frame_of hpa2
  merge_apart same = false_not_true p.unfixed2 (rw (← (same_good s _ _ p.here1 p.here2 same)) p.fixed1)

  module _ (guest : ℕ) where
    merge_left : holding merged_now guest (frame_of hpa2) ≡ nothing
    unfolding zero_entry entry
    merge_left = unopened merged_now guest _ merge_effect.put.here refl refl

    -- a frame other than the two
    merge_beside : (f : ℕ) → f ≢ frame_of hpa1 → f ≢ frame_of hpa2 → holding merged_now guest f ≡ holding s guest f
    merge_beside f off away =
        holding_same s merged_now guest f (merge_effect.put.elsewhere f away)
        (λ e here fixed. merged_consulted sound f here fixed guest p off)

    merge_words : (f gpa i : ℕ) → f ≢ frame_of hpa2 → holding s guest f ≡ holds gpa → word_at merged_now f i ≡ word_at s f i
    merge_words f gpa i away h =
        merge_effect.words f i away (place_apart s guest gpa f _ h (leaf_nothing s guest _ merge_effect.leaf_kind))

    -- another guest's places stay
    merge_stays : two.asid ≢ guest → Change s merged_now no_event guest
    merge_stays other =
        stays s merged_now guest merge_effect.put.same_size.same_N
        (λ f. ⊎_elim (λ here. rw here (merge_left ∙ sym was))
        (λ away. ⊎_elim (λ here. rw here first) (λ off. merge_beside f off away) (same_or_not f (frame_of hpa1)))
        (same_or_not f (frame_of hpa2)))
        (λ f gpa i h. merge_words f gpa i (place_apart s guest gpa f _ h was) h)
      where
        was : holding s guest (frame_of hpa2) ≡ nothing
        was = of_another s guest _ p.here2 p.unfixed2 other

        first : holding merged_now guest (frame_of hpa1) ≡ holding s guest (frame_of hpa1)
        first =
            holding_same s merged_now guest _ (merge_effect.put.elsewhere _ merge_apart)
            (λ e here fixed. rw (same_good s _ _ here p.here1 refl)
            (merged_others p guest (λ same. other (sym same))))

  -- the place of frame 2's owner moves from frame 2 to frame 1, whose words are the same
  merge_moves : Change s merged_now no_event two.asid
  merge_moves =
      let least = (sizes s p.size).memory_least in
      let in1 = p.inside1 in
      let in2 = p.inside2 in
      let off = place_apart merged_now two.asid two.address (frame_of hpa1) _ to (leaf_nothing merged_now two.asid _ leaf) in
      moves s merged_now two.asid merge_effect.put.same_size.same_N (frame_of hpa2) (frame_of hpa1) two.address
      (of_its_own s _ _ p.here2 p.unfixed2 p.validated2 refl)
      (absent_there s _ _ p.here1 p.fixed1 p.no_place)
      (merge_left two.asid)
      to
      (λ f away off. merge_beside two.asid f off away)
      (λ i. merge_effect.words _ i merge_apart off ∙ equal_words s _ _ p.equal (omega arith) (omega arith) i)
      (λ f gpa i away off h. merge_words two.asid f gpa i away h)
    where
      leaf : is_leaf (entry_at merged_now (leaf_frame one)) ≡ true
      leaf = rw (merge_effect.put.elsewhere _ merge_effect.apart) merge_effect.leaf_kind

      to : holding merged_now two.asid (frame_of hpa1) ≡ holds two.address
      to =
          present_there merged_now _ _ (merge_effect.put.elsewhere _ merge_apart ∙ p.here1) p.fixed1 _
          (merged_here p)

  pub merge_change : (guest : ℕ) → Change s merged_now no_event guest
  merge_change guest = ⊎_elim (λ own. rw (← own) merge_moves) (merge_stays guest) (same_or_not two.asid guest)

-- ---- PUNMERGE
module _ {s : State} (sound : Sound s) {caller hpa1 hpa2 asid : ℕ} {one two : Entry} {gpa : ℕ}
    (p : Unmerged s caller hpa1 hpa2 asid one two gpa) where
  abbrev unmerged_now : State
  unmerged_now = unmerging s (frame_of hpa1) one (frame_of hpa2) asid gpa

  unmerge_effect : Unmerges s unmerged_now (frame_of hpa1) (frame_of hpa2) (leaf_frame one) asid (entry asid MERGEABLE true false gpa)
  unmerge_effect = unmerging_does p

  -- frame 1 is MERGEABLE and frame 2 is SHARED
  pub unmerge_apart : frame_of hpa1 ≢ frame_of hpa2
  unmerge_apart same =
      let q = same_good s _ _ p.here1 p.here2 same in
      let k = p.type1 in
      let l : one.kind ≡ SHARED = rw q p.type2 in
      let z : ⊥ = omega arith in absurd z

  module _ (guest : ℕ) where
    unmerge_free : holding s guest (frame_of hpa2) ≡ nothing
    unmerge_free = nobodys s guest _ p.here2 (shared_unowned p.type2)

    unmerge_beside : (f : ℕ) → f ≢ frame_of hpa1 → f ≢ frame_of hpa2 → holding unmerged_now guest f ≡ holding s guest f
    unmerge_beside f off away =
        holding_same s unmerged_now guest f (unmerge_effect.put.elsewhere f away)
        (λ e here fixed. unmerged_consulted sound f here fixed guest p off)

    unmerge_words : (f at i : ℕ) → f ≢ frame_of hpa2 → holding s guest f ≡ holds at → word_at unmerged_now f i ≡ word_at s f i
    unmerge_words f at i away h =
        unmerge_effect.words f i away (place_apart s guest at f _ h (leaf_nothing s guest _ unmerge_effect.leaf_kind))

    unmerge_stays : asid ≢ guest → Change s unmerged_now no_event guest
    unfolding entry
    unmerge_stays other =
        stays s unmerged_now guest unmerge_effect.put.same_size.same_N
        (λ f. ⊎_elim (λ here. rw here (of_another unmerged_now guest _ unmerge_effect.put.here refl other ∙ sym unmerge_free))
        (λ away. ⊎_elim (λ here. rw here first) (λ off. unmerge_beside f off away) (same_or_not f (frame_of hpa1)))
        (same_or_not f (frame_of hpa2)))
        (λ f at i h. unmerge_words f at i (place_apart s guest at f _ h unmerge_free) h)
      where
        first : holding unmerged_now guest (frame_of hpa1) ≡ holding s guest (frame_of hpa1)
        first =
            holding_same s unmerged_now guest _ (unmerge_effect.put.elsewhere _ unmerge_apart)
            (λ e here fixed. rw (same_good s _ _ here p.here1 refl)
            (unmerged_others p guest (λ same. other (sym same))))

  -- the guest's place moves from frame 1 to its copy in frame 2
  unmerge_moves : Change s unmerged_now no_event asid
  unfolding entry
  unmerge_moves =
      moves s unmerged_now asid unmerge_effect.put.same_size.same_N (frame_of hpa1) (frame_of hpa2) gpa
      (present_there s _ _ p.here1 p.fixed1 gpa p.place)
      (unmerge_free asid)
      (absent_there unmerged_now _ _ (unmerge_effect.put.elsewhere _ unmerge_apart ∙ p.here1) p.fixed1
      (unmerged_here p))
      (of_its_own unmerged_now _ _ unmerge_effect.put.here refl refl refl)
      (unmerge_beside asid)
      unmerge_effect.copied
      (λ f at i off away h. unmerge_words asid f at i away h)

  pub unmerge_change : (guest : ℕ) → Change s unmerged_now no_event guest
  unmerge_change guest = ⊎_elim (λ own. rw (← own) unmerge_moves) (unmerge_stays guest) (same_or_not asid guest)
