-- No page is stuck. In a sound state the leaf of a fixed page is a LEAF, and its present words are guests' with an address; so nothing but
-- the count can refuse PUNFIX. Any guest in the page can be unmerged into any SHARED frame, and one fewer is left.
-- Assumes nothing.
use mathlib.Core.Path.{◌≡◌, refl, sym, ap, subst, ◌∙◌}
use mathlib.Core.Bool.{true, false}
use mathlib.Core.List.{List, [], ◌∷◌}
use mathlib.Core.Logic.{◌≢◌, ◌⊎◌, inl, inr, ⊎_elim}
use Prim.Native.Nat.{ℕ, ◌+◌, ◌-◌, ◌<◌, ◌≤◌}
use native.Mathlib.Omega.{arith}
use lib.ListN.{length}
use Rattle.words.proofs.ChoiceLaws.{lt_or_le, same_or_not, both_true}
use Rattle.entries.specs.Entry.{MERGEABLE, is_address, frame_of, is_party, is_guest, entry, zero_entry, to_moved}
use Rattle.entries.specs.declared.entry.Entry.{Entry}
use Rattle.std.specs.Prelude.{Ok}
use Rattle.entries.specs.declared.leaf.LeafWord.{LeafWord}
use Rattle.entries.specs.declared.leaf.LeafWord.TheVariants.{Absent, Present, Misshapen}
use Rattle.entries.proofs.LeafLaws.{leaf_absent}
use Rattle.entries.proofs.Tells.{in_range}
use Rattle.rules.specs.Answers.{done, unfixed, Outcome, outcome}
use Rattle.rules.specs.Arguments.{two_frame_arguments, unmerge_arguments, one_frame_arguments}
use Rattle.rules.specs.Calls.{PUNMERGE, PUNFIX, step}
use Rattle.rules.specs.Leaves.{leaf_frame, is_leaf, consulted, present_words, last_present}
use Rattle.rules.specs.Merging.{unmerging}
use Rattle.rules.specs.State.{State, M, sized, entry_at, empty_table}
use Rattle.rules.proofs.Effects.{Unmerges, unmerging_does, given_does, freeing_does}
use Rattle.rules.proofs.Granted.{unmerged_done, shared_refused, given_done, freed_done}
use Rattle.rules.proofs.History.{empty_sound}
use Rattle.rules.proofs.Leaves.{Broken, consulted_is, is_a_leaf, leaf_has, same_frame}
use Rattle.rules.proofs.MergingChanges.{unmerge_apart}
use Rattle.rules.proofs.Passed.{Unmerged, Unfixing, Unfixed, Freed}
use Rattle.rules.proofs.Present.{last_present_lem, one_fewer}
use Rattle.rules.proofs.Sound.{Sound}
use Rattle.rules.proofs.SoundSteps.{step_sound}
use Rattle.rules.proofs.StateLaws.{entry_inside, entry_tells}
use Rattle.requests.specs.Unstuck.{AnsweredOrShared, answered, still_shared, NoneOf, IsShared, SharedFrames, Releases, unfixes, unmerges}
use Rattle.requests.specs.Unstuck.{Released, NoPageStuck}
use Rattle.requests.proofs.Asked.{afterwards_sound}

two_or_few : (n : ℕ) → (2 ≤ n) ⊎ (n < 2)
two_or_few n = ⊎_elim (λ few. inr few) (λ more. inl more) (lt_or_le n 2)

host_party : is_party 0 ≡ true
unfolding is_party
host_party = refl

-- a fixed page in a sound state
record FixedIn (s : State) (hpa : ℕ) (page : Entry) : Type 0 where
  pub sound : Sound s
  pub address : is_address hpa ≡ true
  pub here : entry_at s (frame_of hpa) ≡ Ok page
  pub fixed : page.fixed ≡ true

module _ {s : State} {hpa : ℕ} {page : Entry} (p : FixedIn s hpa page) where
  size : sized s ≡ true
  size = p.sound.size _ page p.here p.fixed

  unbroken : (index : ℕ) → Broken index (consulted s page index) → ⊥
  unbroken index = p.sound.unbroken _ page index p.here p.fixed

  leaf : is_leaf (entry_at s (leaf_frame page)) ≡ true
  leaf = is_a_leaf s page 0 (λ misshapen. unbroken 0 (inl misshapen))

  has : leaf_frame page < M s
  has = leaf_has s _ size p.here p.fixed

  checked : Unfixing s 0 hpa page
  unfolding one_frame_arguments
  checked =
      record {
        size = size;
        arguments = both_true _ _ host_party p.address;
        host = refl;
        inside = entry_inside s _ p.here;
        here = p.here;
        type = (entry_tells s _ p.here).fixed_kind p.fixed;
        fixed = p.fixed;
        leaf_kind = leaf;
      }

  -- a present word is a guest's, with an address
  guest_in : (index : ℕ) → index < 512 → consulted s page index ≢ Absent → (is_guest index ≡ true) × ((gpa : ℕ) × (consulted s page index ≡ Present gpa))
  guest_in index small there = go (consulted s page index) refl
    where
      go : (w : LeafWord) → consulted s page index ≡ w → (is_guest index ≡ true) × ((gpa : ℕ) × (consulted s page index ≡ Present gpa))
      go Misshapen word = absurd (unbroken index (inl word))
      go Absent word = absurd (there word)
      go (Present gpa) word =
          let some : index ≢ 0 = λ host. unbroken index (inr (host, there)) in
          (in_range index (omega (arith, some)) small, (gpa, word))

  -- and so is the last of them
  last_in : 1 ≤ present_words s (leaf_frame page) → (last_present s (leaf_frame page) < 512) × (consulted s page (last_present s (leaf_frame page)) ≢ Absent)
  last_in some =
      let last = last_present_lem s _ has some in
      (last.0, λ absent. last.1 (sym (consulted_is s page _ leaf) ∙ absent))

  -- ---- PUNFIX: where one guest or none is in the page, it is answered
  abbrev Answered : Outcome → Type 0
  Answered o = ((owner : ℕ) × (o.told ≡ unfixed owner)) × Released o.after hpa (leaf_frame page)

  few_answered : present_words s (leaf_frame page) ≤ 1 → Answered (step s (PUNFIX 0 hpa))
  unfolding step zero_entry to_moved entry
  few_answered few =
      ⊎_elim
      (λ none.
      let q : Freed s 0 hpa page = record { page = checked; none_left = none } in
      let x = freeing_does q in
      rw (freed_done q) ((0, refl), record { page = zero_entry; here = x.here; unfixed = refl; leaf_shared = x.leaf_here }))
      (λ (some : present_words s (leaf_frame page) ≢ 0).
      let last = last_in (omega (arith, some)) in
      let guest = guest_in _ last.0 last.1 in
      let q : Unfixed s 0 hpa page (last_present s (leaf_frame page)) guest.1.0 =
      record { page = checked; range = guest.0; one_left = omega (arith, some, few); last = refl; place = guest.1.1 } in
      let x = given_does q in
      rw (given_done q) ((_, refl), record { page = _; here = x.here; unfixed = refl; leaf_shared = x.leaf_here }))
      (same_or_not (present_words s (leaf_frame page)) 0)

  answers_to : AnsweredOrShared (step s (PUNFIX 0 hpa)).told
  unfolding step
  answers_to =
      ⊎_elim (λ more. rw (shared_refused checked more) still_shared)
      (λ (few : present_words s (leaf_frame page) < 2).
      let found = (few_answered (omega (arith, few))).0 in rw found.1 (answered found.0))
      (two_or_few (present_words s (leaf_frame page)))

  -- ---- PUNMERGE: a guest goes into a SHARED frame, the page stays fixed, and one guest fewer is in it
  module _ (frame guest : ℕ) (shared : IsShared s frame) (small : guest < 512) (there : consulted s page guest ≢ Absent) where
    abbrev gpa : ℕ
    gpa = (guest_in guest small there).1.0

    abbrev after : State
    after = (step s (PUNMERGE 0 hpa frame guest)).after

    passed : Unmerged s 0 hpa frame guest page shared.1.0 gpa
    unfolding unmerge_arguments two_frame_arguments
    passed =
        let found = guest_in guest small there in
        record {
          size = size;
          arguments = both_true _ _ (both_true _ _ (both_true _ _ host_party p.address) shared.0) found.0;
          host = refl;
          inside1 = entry_inside s _ p.here;
          inside2 = entry_inside s _ shared.1.1.0;
          here1 = p.here;
          here2 = shared.1.1.0;
          type1 = (entry_tells s _ p.here).fixed_kind p.fixed;
          type2 = shared.1.1.1;
          fixed1 = p.fixed;
          place = found.1.1;
        }

    unmerge_done : step s (PUNMERGE 0 hpa frame guest) ≡ outcome done (unmerging s (frame_of hpa) page (frame_of frame) guest gpa)
    unfolding step
    unmerge_done = unmerged_done passed

    abbrev Effect : State → Type 0
    Effect u = Unmerges s u (frame_of hpa) (frame_of frame) (leaf_frame page) guest (entry guest MERGEABLE true false gpa)

    effect : Effect after
    effect = subst Effect (ap (λ (o : Outcome). o.after) (sym unmerge_done)) (unmerging_does passed)

    still : FixedIn after hpa page
    still =
        record {
          sound = step_sound s (PUNMERGE 0 hpa frame guest) p.sound;
          address = p.address;
          here = effect.put.elsewhere _ (unmerge_apart p.sound passed) ∙ p.here;
          fixed = p.fixed;
        }

    fewer : present_words s (leaf_frame page) ≡ present_words after (leaf_frame page) + 1
    fewer =
        let has_too = leaf_has after _ (still.sound.size _ page still.here still.fixed) still.here still.fixed in
        one_fewer s after _ guest has has_too small (λ absent. there (consulted_is s page guest leaf ∙ absent))
        (rw effect.leaf_word_is leaf_absent) effect.leaf_words

    told_done : (step s (PUNMERGE 0 hpa frame guest)).told ≡ done
    told_done = ap (λ (o : Outcome). o.told) unmerge_done

-- the other SHARED frames stay SHARED
module _ (s after : State) (frame : ℕ) (address : is_address frame ≡ true)
    (same : (g : ℕ) → g ≢ frame_of frame → entry_at after g ≡ entry_at s g) where
  still_shared_frames : (frames : List ℕ) → NoneOf frames frame → SharedFrames s frames → SharedFrames after frames
  still_shared_frames [] apart shared = tt
  still_shared_frames (hpa ∷ rest) apart shared =
      let here = shared.0.1.1.0 in
      let away = same _ (λ one. apart.0 (same_frame hpa frame shared.0.0 address one)) in
      ((shared.0.0, (shared.0.1.0, (away ∙ here, shared.0.1.1.1))), shared.1, still_shared_frames rest apart.1 shared.2)

released_by :
    (frames : List ℕ) {s : State} {hpa : ℕ} {page : Entry} → FixedIn s hpa page → SharedFrames s frames
    → length frames ≡ present_words s (leaf_frame page) - 1
    → (after : State) × (Releases hpa s frames after × Released after hpa (leaf_frame page))
released_by [] p shared few =
    let found = few_answered p (omega (arith, few)) in
    (_, (unfixes found.0.0 found.0.1, found.1))
released_by (frame ∷ rest) {s} {page = page} p shared few =
    let last = last_in p (omega (arith, few)) in
    let guest = last_present s (leaf_frame page) in
    let x = effect p frame guest shared.0 last.0 last.1 in
    let one = fewer p frame guest shared.0 last.0 last.1 in
    let others = still_shared_frames s _ frame shared.0.0 x.put.elsewhere rest shared.1 shared.2 in
    let next = released_by rest (still p frame guest shared.0 last.0 last.1) others (omega (arith, few, one)) in
    (next.0, (unmerges {after = next.0} guest (told_done p frame guest shared.0 last.0 last.1) next.1.0, next.1.1))

pub no_page_stuck : NoPageStuck
no_page_stuck size memory requests hpa page address here fixed =
    let sound = afterwards_sound (empty_table size memory) requests (empty_sound size memory) in
    let p : FixedIn _ hpa page = record { sound = sound; address = address; here = here; fixed = fixed } in
    record {
      guests = guest_in p;
      unmerged = λ frame guest shared small there.
          (told_done p frame guest shared small there, (still p frame guest shared small there).here, fewer p frame guest shared small there);
      answers = answers_to p;
      released = λ frames shared few. released_by frames p shared few;
    }
