-- READ changes nothing and answers a word of a place of its caller, where it is private or mergeable; WRITE changes a word of one place of
-- its caller, or of a frame that is nobody's place.
-- Assumes nothing.
use mathlib.Core.Path.{◌≡◌, sym, ◌∙◌}
use mathlib.Core.Bool.{Bool, true, false, false≢true}
use mathlib.Core.Logic.{◌≢◌, ⊎_elim}
use Prim.Native.Nat.{ℕ, ◌≤◌}
use native.Mathlib.Omega.{arith}
use lib.Dec.{eqb}
use borrow.Author.Tests.{eq-eqb, ne_eqb}
use Rattle.words.specs.Choice.{pick, ◌and◌}
use Rattle.words.proofs.ChoiceLaws.{same_or_not, true_or_false, pick_true, pick_false, and_not}
use Rattle.entries.specs.Entry.{SHARED, frame_of, is_guest, is_owned}
use Rattle.entries.proofs.Tells.{in_range, false_not_true}
use Rattle.rules.specs.Answers.{Told, done, word}
use Rattle.rules.specs.Calls.{READ, WRITE}
use Rattle.rules.specs.Census.{holds, nothing, holding, places}
use Rattle.rules.specs.History.{reads, writes, no_event, by_answer, accepted, event_of, is_opening, is_closing, written}
use Rattle.rules.specs.State.{State, word_at, with_word}
use Rattle.rules.proofs.ArgumentLaws.{access_tells, guest_access}
use Rattle.rules.proofs.Changes.{old, Change}
use Rattle.rules.proofs.Consulted.{written_consulted}
use Rattle.rules.proofs.Holdings.{present_there, holding_same, of_another, of_its_own, nobodys}
use Rattle.rules.proofs.Leaves.{shared_unowned}
use Rattle.rules.proofs.Passed.{Way, above, shared, own, merged, Accessed}
use Rattle.rules.proofs.PlaceChanges.{places_same, stays, unchanged, only_read}
use Rattle.rules.proofs.PlaceLaws.{holding_inside, one_place, place_apart, one_address}
use Rattle.rules.proofs.Sound.{Sound}
use Rattle.rules.proofs.StateLaws.{size_word, entry_tells, entry_after_word, word_after_word, word_elsewhere, word_beside}

-- ---- READ
pub read_change :
    {s : State} {caller gpa hpa gtype ntype index : ℕ} → Accessed s false caller gpa hpa gtype ntype index → (guest : ℕ)
    → Change s s (event_of (READ caller gpa hpa gtype ntype index) (word (word_at s (frame_of hpa) index))) guest
unfolding event_of by_answer accepted
read_change {s} {gtype = gtype} p guest =
    ⊎_elim (λ o. rw (pick_true _ _ o) (only_read s guest _ _ _)) (λ o. rw (pick_false _ _ o) (unchanged s guest))
    (true_or_false (is_owned gtype))

-- an access that is private or mergeable is at a place of the caller
way_place :
    {s : State} {w : Bool} {caller gpa f gtype : ℕ} → Way s w caller gpa f gtype → is_owned gtype ≡ true → holding s caller f ≡ holds gpa
way_place (above high t) o = absurd (shared_unowned t o)
way_place (shared e l here k t) o = absurd (shared_unowned t o)
way_place (own e l here k t u a at v) o = rw (← at) (of_its_own _ _ _ here u v a)
way_place (merged e l here k t x r c) o = present_there _ _ _ here x _ c

owned_not_shared : (kind : ℕ) → is_owned kind ≡ true → eqb kind SHARED ≡ false
owned_not_shared kind o = ne_eqb kind SHARED (λ k. shared_unowned k o)

owned_access :
    {s : State} {w : Bool} {caller gpa hpa gtype ntype index : ℕ} → Accessed s w caller gpa hpa gtype ntype index → is_owned gtype ≡ true
    → is_guest caller ≡ true
owned_access {caller = caller} {gpa} {hpa} {gtype} {ntype} {index} p o =
    let some = guest_access caller gpa hpa gtype ntype index p.party (owned_not_shared gtype o) in
    let small = (access_tells caller gpa hpa gtype ntype index p.arguments).caller_small in
    in_range caller (omega (arith, some)) small

pub record ReadPlace (s : State) (guest gpa index : ℕ) (told : Told) : Type 0 where
  pub range : is_guest guest ≡ true
  pub frame : ℕ
  pub place : holding s guest frame ≡ holds gpa
  pub answer : told ≡ word (word_at s frame index)

-- an accepted private or mergeable read is a guest's, and answers a word of a place of it
pub read_of_place :
    {s : State} {caller gpa hpa gtype ntype index guest at i : ℕ} → Accessed s false caller gpa hpa gtype ntype index
    → event_of (READ caller gpa hpa gtype ntype index) (word (word_at s (frame_of hpa) index)) ≡ reads guest at i
    → ReadPlace s guest at i (word (word_at s (frame_of hpa) index))
unfolding event_of by_answer accepted
read_of_place {s} {caller} {gpa} {hpa} {gtype} {ntype} {index} {guest} {at} {i} p =
    ⊎_elim owned (λ o h. let k = sym (pick_false _ _ o) ∙ h in absurd (false≢true (cc))) (true_or_false (is_owned gtype))
  where
    named : is_owned gtype ≡ true → reads caller gpa index ≡ reads guest at i
        → ReadPlace s guest at i (word (word_at s (frame_of hpa) index))
    named o h =
        let who : caller ≡ guest = cc in
        let where_at : gpa ≡ at = cc in
        let which : index ≡ i = cc in
        record {
          range = rw (← who) (owned_access p o);
          frame = frame_of hpa;
          place = rw (← who, ← where_at) (way_place p.way o);
          answer = rw which;
        }

    owned : is_owned gtype ≡ true
        → pick (is_owned gtype) (reads caller gpa index) no_event ≡ reads guest at i
        → ReadPlace s guest at i (word (word_at s (frame_of hpa) index))
    owned o h = named o (sym (pick_true _ _ o) ∙ h)

-- ---- WRITE
-- what is written, word by word
module _ (caller gpa index value guest at i w : ℕ) where
  written_there : caller ≡ guest → gpa ≡ at → index ≡ i → written (writes caller gpa index value) guest at i w ≡ value
  unfolding written ◌and◌
  written_there who where_at which = pick_true _ _ (rw (eq-eqb _ _ who, eq-eqb _ _ where_at, eq-eqb _ _ which))

  written_beside : index ≢ i → written (writes caller gpa index value) guest at i w ≡ w
  unfolding written
  written_beside other = pick_false _ _ (and_not _ _ (ne_eqb _ _ other))

  written_elsewhere : (caller ≡ guest → gpa ≢ at) → written (writes caller gpa index value) guest at i w ≡ w
  unfolding written ◌and◌
  written_elsewhere other =
      ⊎_elim (λ who. pick_false _ _ (rw (ne_eqb gpa at (other who), eq-eqb caller guest who)))
      (λ who. pick_false _ _ (rw (ne_eqb caller guest who)))
      (same_or_not caller guest)

module _ {s : State} (sound : Sound s) {caller gpa hpa gtype ntype index : ℕ} (value : ℕ)
    (p : Accessed s true caller gpa hpa gtype ntype index) (guest : ℕ) where
  abbrev written_now : State
  written_now = with_word s (frame_of hpa) index value

  -- what frames are to guests stays
  still : (f : ℕ) → holding written_now guest f ≡ holding s guest f
  still f =
      holding_same s written_now guest f (entry_after_word s _ index value f)
      (λ e here fixed. written_consulted sound f here fixed index value guest p.way)

  -- a SHARED access is to a frame that is no place
  shared_off :
      Way s true caller gpa (frame_of hpa) gtype → is_owned gtype ≡ false → (f at : ℕ) → holding s guest f ≡ holds at → f ≢ frame_of hpa
  shared_off (above high t) o f at h same = let l = holding_inside s guest at f h in let z : ⊥ = omega arith in absurd z
  shared_off (shared e l here k t) o f at h same = place_apart s guest at f _ h (nobodys s guest _ here (shared_unowned k)) same
  shared_off (own e l here k t u a w v) o f at h same =
      false_not_true o (rw (← k) ((entry_tells s _ here).validated_owned v))
  shared_off (merged e l here k t x r c) o f at h same = absurd (false≢true (sym r))

  shared_change : is_owned gtype ≡ false → Change s written_now no_event guest
  shared_change o =
      stays s written_now guest (size_word s _ index value).same_N still
      (λ f at i h. word_elsewhere s _ index value f i (shared_off p.way o f at h))

  -- a private or mergeable one is to a place of the caller, and of no other guest
  only_callers : Way s true caller gpa (frame_of hpa) gtype → is_owned gtype ≡ true → caller ≢ guest → holding s guest (frame_of hpa) ≡ nothing
  only_callers (above high t) o other = absurd (shared_unowned t o)
  only_callers (shared e l here k t) o other = absurd (shared_unowned t o)
  only_callers (own e l here k t u a w v) o other = of_another s guest _ here u (λ same. other (sym a ∙ same))
  only_callers (merged e l here k t x r c) o other = absurd (false≢true (sym r))

  module _ (o : is_owned gtype ≡ true) where
    there : holding s caller (frame_of hpa) ≡ holds gpa
    there = way_place p.way o

    -- every other place is another frame
    off_others : (f at : ℕ) → holding s guest f ≡ holds at → (caller ≡ guest → gpa ≢ at) → f ≢ frame_of hpa
    off_others f at h other same =
        ⊎_elim (λ who. other who (one_address s guest _ f gpa at (rw (← who) there) h (sym same)))
        (λ who. place_apart s guest at f _ h (only_callers p.way o who) same)
        (same_or_not caller guest)

    words_after : (at f i : ℕ) → places s guest at ≤ 1 → holding s guest f ≡ holds at
        → word_at written_now f i ≡ written (writes caller gpa index value) guest at i (word_at s f i)
    words_after at f i most h =
        ⊎_elim
        (λ who. ⊎_elim
        (λ where_at. own_words (one_place s guest at f (frame_of hpa) most h (rw (← who, ← where_at) there)) who where_at)
        (λ away. elsewhere (λ same. away))
        (same_or_not gpa at))
        (λ who. elsewhere (λ same. absurd (who same)))
        (same_or_not caller guest)
      where
        elsewhere : (caller ≡ guest → gpa ≢ at)
            → word_at written_now f i ≡ written (writes caller gpa index value) guest at i (word_at s f i)
        elsewhere other =
            word_elsewhere s _ index value f i (off_others f at h other) ∙ sym (written_elsewhere caller gpa index value guest at i _ other)

        own_words : f ≡ frame_of hpa → caller ≡ guest → gpa ≡ at
            → word_at written_now f i ≡ written (writes caller gpa index value) guest at i (word_at s f i)
        own_words here who where_at =
            let small = (access_tells caller gpa hpa gtype ntype index p.arguments).index_small in
            ⊎_elim
            (λ which. rw (here, ← which) (word_after_word s _ index value p.inside small)
            ∙ sym (written_there caller gpa index value guest at i _ who where_at which))
            (λ beside. word_beside s _ index value f i (λ same. beside (sym same))
            ∙ sym (written_beside caller gpa index value guest at i _ beside))
            (same_or_not index i)

    private_change : Change s written_now (writes caller gpa index value) guest
    unfolding is_opening is_closing
    private_change =
        record {
          balance = λ at. rw (places_same s written_now guest (size_word s _ index value).same_N still at);
          whence = λ at f most h. let was = sym (still f) ∙ h in old f was (λ i. words_after at f i most was);
        }

  pub write_change : Change s written_now (event_of (WRITE caller gpa hpa gtype ntype index value) done) guest
  unfolding event_of by_answer accepted
  write_change =
      ⊎_elim (λ o. rw (pick_true _ _ o) (private_change o)) (λ o. rw (pick_false _ _ o) (shared_change o)) (true_or_false (is_owned gtype))
