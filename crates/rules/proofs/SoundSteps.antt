-- Every call keeps a state sound: the entries that it puts are well formed, PFIX alone makes a fixed page, with a leaf that no other has,
-- and every word consulted afterwards was consulted before or is the one that the call wrote.
-- Assumes nothing.
use mathlib.Core.Path.{◌≡◌, refl, sym, ◌∙◌}
use mathlib.Core.Bool.{true, false}
use mathlib.Core.Logic.{◌≢◌, ⊎_elim}
use Prim.Native.Nat.{ℕ, ◌<◌, ◌≤◌}
use Rattle.words.proofs.ChoiceLaws.{same_or_not}
use Rattle.entries.specs.Entry.{MERGEABLE, frame_of, entry, zero_entry, to_moved}
use Rattle.entries.specs.declared.entry.Entry.{Entry}
use Rattle.std.specs.Prelude.{Ok, Err}
use Rattle.entries.specs.declared.leaf.LeafWord.{LeafWord}
use Rattle.entries.proofs.Tells.{false_not_true}
use Rattle.entries.specs.declared.reason.Reason.{Reason}
use Rattle.rules.specs.Answers.{Told}
use Rattle.rules.specs.Assignment.{assigning, validating}
use Rattle.rules.specs.Calls.{Call, step}
use Rattle.rules.specs.Leaves.{leaf_frame, consulted}
use Rattle.rules.specs.Merging.{fixing, merging, unmerging}
use Rattle.rules.specs.State.{State, N, entry_at, with_word}
use Rattle.rules.proofs.Accepted.{Accepted, by_update, by_validate, by_fix, by_merge, by_unmerge, by_unfix, by_free, by_read}
use Rattle.rules.proofs.Accepted.{by_write, by_census}
use Rattle.rules.proofs.ArgumentLaws.{two_addresses}
use Rattle.rules.proofs.Consulted.{assigned_consulted, validated_consulted, fixed_consulted, merged_consulted, unmerged_consulted}
use Rattle.rules.proofs.Consulted.{unfixed_consulted, written_consulted, fixed_owner, fixed_others, merged_here, merged_others}
use Rattle.rules.proofs.Consulted.{unmerged_here, unmerged_others}
use Rattle.rules.proofs.Effects.{Put, assigning_does, validating_does, Fixes, fixing_does, merging_does, unmerging_does, Unfixes}
use Rattle.rules.proofs.Effects.{given_does, freeing_does, mergeable_owned}
use Rattle.rules.proofs.Leaves.{unused_leaf, Broken, whole_absent, whole_present}
use Rattle.rules.proofs.Passed.{Updated, Validated, Fixed, Merged, Unmerged, Unfixing, Way}
use Rattle.rules.proofs.Sound.{Sound}
use Rattle.rules.proofs.StateLaws.{SameSize, entry_tells, entry_after_word, size_word, same_good, not_bad}
use Rattle.rules.proofs.Stepped.{step_cases}

-- a fixed page is not at a frame whose entry is not fixed
unfixed_apart :
    (u : State) (f : ℕ) (e : Entry) → entry_at u f ≡ Ok e → e.fixed ≡ false
    → (g : ℕ) (d : Entry) → entry_at u g ≡ Ok d → d.fixed ≡ true → g ≢ f
unfixed_apart u f e there unfixed g d here fixed same =
    false_not_true unfixed (rw (← (same_good u g f here there same)) fixed)

module _ {s : State} (sound : Sound s) where
  -- a state with no fixed page that was not there before
  no_new_page :
      (u : State) → SameSize s u → ((f : ℕ) (reason : Reason) → f < N u → entry_at u f ≡ Err reason → ⊥)
      → ((f : ℕ) (e : Entry) → entry_at u f ≡ Ok e → e.fixed ≡ true → entry_at s f ≡ Ok e)
      → ((f : ℕ) (e : Entry) (index : ℕ) → entry_at u f ≡ Ok e → e.fixed ≡ true → Broken index (consulted u e index) → ⊥)
      → Sound u
  no_new_page u same_size decodes was unbroken =
      record {
        decodes = decodes;
        alone = λ f g d e hd he fd fe same. sound.alone f g d e (was f d hd fd) (was g e he fe) fd fe same;
        unbroken = unbroken;
        size = λ f e here fixed. same_size.same_sized ∙ sound.size f e (was f e here fixed) fixed;
      }

  -- what stays of the entries and of the words consulted
  put_decodes : {u : State} {f : ℕ} {e : Entry} → Put s u f e → (g : ℕ) (reason : Reason) → g < N u → entry_at u g ≡ Err reason → ⊥
  put_decodes {f = f} p g reason inside bad =
      ⊎_elim (λ same. not_bad _ g f p.here same bad)
      (λ other. sound.decodes g reason (rw (← p.same_size.same_N) inside) (sym (p.elsewhere g other) ∙ bad))
      (same_or_not g f)

  put_was :
      {u : State} {f : ℕ} {e : Entry} → Put s u f e → e.fixed ≡ false → (g : ℕ) (d : Entry) → entry_at u g ≡ Ok d → d.fixed ≡ true
      → entry_at s g ≡ Ok d
  put_was p unfixed g d here fixed = sym (p.elsewhere g (unfixed_apart _ _ _ p.here unfixed g d here fixed)) ∙ here

  still_unbroken :
      (g : ℕ) (d : Entry) (index : ℕ) {w : LeafWord} → entry_at s g ≡ Ok d → d.fixed ≡ true → w ≡ consulted s d index → Broken index w → ⊥
  still_unbroken g d index page fixed same broken = sound.unbroken g d index page fixed (rw same at broken)

  assigning_sound :
      {caller hpa gpa asid kind : ℕ} {old : Entry} → Updated s caller hpa gpa asid kind old
      → Sound (assigning s (frame_of hpa) old gpa asid kind)
  unfolding entry
  assigning_sound p =
      let e = (assigning_does p).put in
      no_new_page _ e.same_size (put_decodes e) (put_was e refl)
      (λ g d guest here fixed.
      let page = put_was e refl g d here fixed in
      still_unbroken g d guest page fixed (assigned_consulted sound g page fixed guest p))

  validating_sound :
      {caller gpa hpa kind : ℕ} {old : Entry} → Validated s caller gpa hpa kind old → Sound (validating s (frame_of hpa) old)
  unfolding entry
  validating_sound p =
      let e = (validating_does p).put in
      no_new_page _ e.same_size (put_decodes e) (put_was e refl)
      (λ g d guest here fixed.
      let page = put_was e refl g d here fixed in
      still_unbroken g d guest page fixed (validated_consulted sound g page fixed guest p))

  merging_sound :
      {caller hpa1 hpa2 : ℕ} {one two : Entry} → Merged s caller hpa1 hpa2 one two → Sound (merging s one (frame_of hpa2) two)
  unfolding zero_entry entry
  merging_sound {hpa1 = hpa1} {hpa2 = hpa2} {one = one} {two = two} p =
      let e = (merging_does p).put in
      no_new_page _ e.same_size (put_decodes e) (put_was e refl)
      (λ g d guest here fixed.
      let page = put_was e refl g d here fixed in
      ⊎_elim
      (λ same. rw (same_good s g _ page p.here1 same) (in_leaf guest))
      (λ other. still_unbroken g d guest page fixed (merged_consulted sound g page fixed guest p other))
      (same_or_not g (frame_of hpa1)))
    where
      some : 1 ≤ two.asid
      some = (entry_tells s _ p.here2).owned_asid (mergeable_owned _ p.type2)

      in_leaf : (guest : ℕ) → Broken guest (consulted (merging s one (frame_of hpa2) two) one guest) → ⊥
      in_leaf guest =
          ⊎_elim
          (λ same. rw same (whole_present some (merged_here p)))
          (λ other. still_unbroken (frame_of hpa1) one guest p.here1 p.fixed1 (merged_others p guest other))
          (same_or_not guest two.asid)

  unmerging_sound :
      {caller hpa1 hpa2 asid : ℕ} {one two : Entry} {gpa : ℕ} → Unmerged s caller hpa1 hpa2 asid one two gpa
      → Sound (unmerging s (frame_of hpa1) one (frame_of hpa2) asid gpa)
  unfolding entry
  unmerging_sound {hpa1 = hpa1} {hpa2 = hpa2} {asid = asid} {one = one} {gpa = gpa} p =
      let e = (unmerging_does p).put in
      no_new_page _ e.same_size (put_decodes e) (put_was e refl)
      (λ g d guest here fixed.
      let page = put_was e refl g d here fixed in
      ⊎_elim
      (λ same. rw (same_good s g _ page p.here1 same) (in_leaf guest))
      (λ other. still_unbroken g d guest page fixed
      (unmerged_consulted sound g page fixed guest p other))
      (same_or_not g (frame_of hpa1)))
    where
      in_leaf : (guest : ℕ) → Broken guest (consulted (unmerging s (frame_of hpa1) one (frame_of hpa2) asid gpa) one guest) → ⊥
      in_leaf guest =
          ⊎_elim
          (λ same. rw same (whole_absent (unmerged_here p)))
          (λ other. still_unbroken (frame_of hpa1) one guest p.here1 p.fixed1
          (unmerged_others p guest other))
          (same_or_not guest asid)

  -- both ways of PUNFIX
  module _ {caller hpa : ℕ} {old e : Entry} {u : State} (p : Unfixing s caller hpa old) (x : Unfixes s u (frame_of hpa) (leaf_frame old) e)
      (unfixed : e.fixed ≡ false) where
    off : (g : ℕ) (d : Entry) → entry_at u g ≡ Ok d → d.fixed ≡ true → (g ≢ frame_of hpa) × (g ≢ leaf_frame old)
    unfolding zero_entry entry
    off g d here fixed =
        (unfixed_apart _ _ _ x.here unfixed g d here fixed, unfixed_apart _ _ _ x.leaf_here refl g d here fixed)

    page_was : (g : ℕ) (d : Entry) → entry_at u g ≡ Ok d → d.fixed ≡ true → entry_at s g ≡ Ok d
    page_was g d here fixed = let apart = off g d here fixed in sym (x.elsewhere g apart.0 apart.1) ∙ here

    decodes : (g : ℕ) (reason : Reason) → g < N u → entry_at u g ≡ Err reason → ⊥
    decodes g reason inside bad =
        ⊎_elim (λ same. not_bad _ g _ x.here same bad)
        (λ other. ⊎_elim (λ same. not_bad _ g _ x.leaf_here same bad)
        (λ away. sound.decodes g reason (rw (← x.same_size.same_N) inside) (sym (x.elsewhere g other away) ∙ bad))
        (same_or_not g (leaf_frame old)))
        (same_or_not g (frame_of hpa))

    unfixing_sound : Sound u
    unfixing_sound =
        no_new_page u x.same_size decodes page_was
        (λ g d guest here fixed.
        let page = page_was g d here fixed in
        still_unbroken g d guest page fixed (unfixed_consulted sound g page fixed guest p x (off g d here fixed).0))

  writing_sound : {caller gpa f gtype : ℕ} (i value : ℕ) → Way s true caller gpa f gtype → Sound (with_word s f i value)
  writing_sound {f = f} i value w =
      no_new_page _ (size_word s f i value) (λ g reason inside bad. sound.decodes g reason (rw (← (size_word s f i value).same_N) inside) (sym (same g) ∙ bad))
      (λ g d here fixed. sym (same g) ∙ here)
      (λ g d guest here fixed.
      let page = sym (same g) ∙ here in
      still_unbroken g d guest page fixed (written_consulted sound g page fixed i value guest w))
    where
      same : (g : ℕ) → entry_at (with_word s f i value) g ≡ entry_at s g
      same g = entry_after_word s f i value g

  -- PFIX makes one fixed page
  module _ {caller hpa leaf : ℕ} {old : Entry} (p : Fixed s caller hpa leaf old) where
    abbrev u : State
    u = fixing s (frame_of hpa) old leaf

    abbrev new : Entry
    new = entry old.asid MERGEABLE true true leaf

    e : Fixes s u (frame_of hpa) (frame_of leaf) old new
    e = fixing_does p

    was : (g : ℕ) (d : Entry) → entry_at u g ≡ Ok d → g ≢ frame_of hpa → entry_at s g ≡ Ok d
    was g d here other = sym (e.put.elsewhere g other) ∙ here

    -- another fixed page has another leaf
    other_leaf : (g : ℕ) (d : Entry) → entry_at u g ≡ Ok d → d.fixed ≡ true → g ≢ frame_of hpa → leaf_frame d ≢ leaf_frame new
    unfolding leaf_frame entry
    other_leaf g d here fixed other =
        unused_leaf s leaf g p.unused (two_addresses _ _ _ p.arguments).1 (was g d here other) fixed

    some : 1 ≤ old.asid
    some = (entry_tells s _ p.here).owned_asid (mergeable_owned _ p.type)

    new_unbroken : (guest : ℕ) → Broken guest (consulted u new guest) → ⊥
    new_unbroken guest =
        ⊎_elim (λ same. rw same (whole_present some (fixed_owner p)))
        (λ other. whole_absent (fixed_others p guest other))
        (same_or_not guest old.asid)

    fixing_alone :
        (f g : ℕ) (c d : Entry) → entry_at u f ≡ Ok c → entry_at u g ≡ Ok d → c.fixed ≡ true → d.fixed ≡ true
        → leaf_frame c ≡ leaf_frame d → f ≡ g
    fixing_alone f g c d hc hd fc fd same =
        ⊎_elim
        (λ at. ⊎_elim (λ too. at ∙ sym too)
        (λ off. absurd (other_leaf g d hd fd off (sym same ∙ rw (same_good u f _ hc e.put.here at))))
        (same_or_not g (frame_of hpa)))
        (λ off. ⊎_elim (λ too. absurd (other_leaf f c hc fc off (same ∙ rw (same_good u g _ hd e.put.here too))))
        (λ away. sound.alone f g c d (was f c hc off) (was g d hd away) fc fd same)
        (same_or_not g (frame_of hpa)))
        (same_or_not f (frame_of hpa))

    fixing_sound : Sound u
    fixing_sound =
        record {
          decodes = put_decodes e.put;
          alone = fixing_alone;
          unbroken = λ g d guest here fixed.
              ⊎_elim (λ same. rw (same_good u g _ here e.put.here same) (new_unbroken guest))
              (λ other.
              let page = was g d here other in
              still_unbroken g d guest page fixed (fixed_consulted sound g page fixed guest p))
              (same_or_not g (frame_of hpa));
          size = λ g d here fixed. e.put.same_size.same_sized ∙ p.size;
        }

-- ---- any call
accepted_sound : {s after : State} {c : Call} {told : Told} → Sound s → Accepted s c told after → Sound after
unfolding zero_entry to_moved entry
accepted_sound sound (by_update p) = assigning_sound sound p
accepted_sound sound (by_validate p) = validating_sound sound p
accepted_sound sound (by_fix p) = fixing_sound sound p
accepted_sound sound (by_merge p) = merging_sound sound p
accepted_sound sound (by_unmerge p) = unmerging_sound sound p
accepted_sound sound (by_unfix p) = unfixing_sound sound p.page (given_does p) refl
accepted_sound sound (by_free p) = unfixing_sound sound p.page (freeing_does p) refl
accepted_sound sound (by_read p) = sound
accepted_sound sound (by_write p) = writing_sound sound _ _ p.way
accepted_sound sound (by_census p) = sound

pub step_sound : (s : State) (c : Call) → Sound s → Sound (step s c).after
step_sound s c sound = step_cases (λ o. Sound o.after) s c (λ n why. sound) (λ told after. accepted_sound sound)
