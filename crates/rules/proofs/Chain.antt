-- A chain of checks, link by link: where a check fails, the call is refused for a cause, and where it passes, the call comes to what
-- follows. And a check by itself.
-- Assumes nothing.
use mathlib.Core.Path.{◌≡◌, refl, sym, ◌∙◌}
use mathlib.Core.Bool.{Bool, true, false, not}
use mathlib.Core.List.{List, ◌∷◌}
use mathlib.Core.Logic.{◌≢◌, inl, inr}
use Prim.Native.Nat.{ℕ, ◌<◌}
use native.Mathlib.Omega.{arith}
use lib.Dec.{eqb}
use borrow.Author.Tests.{not-true, eqb-true, eqb-false, leb-false}
use Rattle.words.specs.Choice.{pick}
use Rattle.words.proofs.ChoiceLaws.{pick_true, pick_false, pick_either}
use Rattle.entries.specs.Entry.{Decoded, is_guest}
use Rattle.entries.specs.Leaf.{leaf_word}
use Rattle.entries.specs.declared.entry.Entry.{Entry}
use Rattle.std.specs.Prelude.{Ok, Err}
use Rattle.entries.specs.declared.leaf.LeafWord.{LeafWord}
use Rattle.entries.specs.declared.leaf.LeafWord.TheVariants.{Absent, Present, Misshapen}
use Rattle.entries.proofs.Tells.{out_of_range}
use Rattle.rules.specs.Answers.{Told, Verdict, refuse, grant, settle, unless, when, begins, entered}
use Rattle.rules.specs.Calls.{Call}
use Rattle.rules.specs.Leaves.{leaf_frame, is_leaf, consulted, placed, vacant, present_words, last_present, of_guest, remaining}
use Rattle.rules.specs.Reasons.{frames_of, first_reason}
use Rattle.rules.specs.Refusals.{Refusal, alone, BROKEN_LEAF}
use Rattle.rules.specs.State.{State, N, M, sized, entry_at, word_at}
use Rattle.rules.proofs.Accepted.{Accepted, Stepped, refuses, accepts}
use Rattle.rules.proofs.FirstReason.{named_bad}
use Rattle.rules.proofs.Cause.{ordinary, Cause, plain, fault, Fault, bad_entry, broken_leaf}
use Rattle.rules.proofs.Leaves.{consulted_is, no_leaf_lem}
use Rattle.rules.proofs.Present.{last_present_lem}
use Rattle.rules.proofs.StateLaws.{entry_reason}

-- a check that passed, one that failed, and one that is made twice
pub check_passed : {t : Bool} (r : Refusal) (v : Verdict) → t ≡ true → unless t r v ≡ v
unfolding unless
check_passed r v h = pick_true _ _ h

pub check_failed : {t : Bool} (r : Refusal) (v : Verdict) → t ≡ false → unless t r v ≡ refuse r
unfolding unless
check_failed r v h = pick_false _ _ h

pub check_twice : (t : Bool) (r : Refusal) (v : Verdict) → unless t r (unless t r v) ≡ unless t r v
unfolding unless pick
check_twice true r v = refl
check_twice false r v = refl

module _ {s : State} {c : Call} where
  pub granted : {told : Told} {after : State} → Accepted s c told after → Stepped s c (settle s (grant told after))
  unfolding settle
  granted passed = accepts passed

  pub turned_down : {r : Refusal} → Cause s (frames_of s c) r → Stepped s c (settle s (refuse r))
  unfolding settle
  turned_down why = refuses _ why

  -- a choice between two chains
  pub chosen :
      (t : Bool) (v w : Verdict)
      → (t ≡ true → Stepped s c (settle s v)) → (t ≡ false → Stepped s c (settle s w)) → Stepped s c (settle s (pick t v w))
  chosen = pick_either (λ v. Stepped s c (settle s v))

  pub checked :
      (t : Bool) (n : ℕ) (v : Verdict)
      → ordinary n ≡ true → (t ≡ true → Stepped s c (settle s v)) → Stepped s c (settle s (unless t (alone n) v))
  unfolding unless
  checked t n v o f = chosen t v (refuse (alone n)) f (λ e. turned_down (plain o))

  pub checked_not :
      (t : Bool) (n : ℕ) (v : Verdict)
      → ordinary n ≡ true → (t ≡ false → Stepped s c (settle s v)) → Stepped s c (settle s (when t (alone n) v))
  unfolding when
  checked_not t n v o f = checked (not t) n v o (λ h. f (not-true t h))

  -- a check that fails only where the state has a fault
  pub faultless :
      (t : Bool) (r : Refusal) (v : Verdict)
      → (t ≡ false → Fault s (frames_of s c) r) → (t ≡ true → Stepped s c (settle s v)) → Stepped s c (settle s (unless t r v))
  unfolding unless
  faultless t r v why f = chosen t v (refuse r) f (λ e. turned_down (fault (why e)))

  pub begun :
      (arguments party inside : Bool) (v : Verdict)
      → (sized s ≡ true → arguments ≡ true → party ≡ true → inside ≡ true → Stepped s c (settle s v))
      → Stepped s c (settle s (begins s arguments party inside v))
  unfolding begins
  begun arguments party inside v f =
      checked _ _ _ refl λ size. checked _ _ _ refl λ a. checked _ _ _ refl λ p. checked _ _ _ refl λ i. f size a p i

  -- the entry of a frame that the table covers. Its reason is the first of the call's frames: it is the first, or those before are good
  pub decoded_by :
      (f : ℕ) (rest : Entry → Verdict) (others : List ℕ) → first_reason s (frames_of s c) ≡ first_reason s (f ∷ others) → f < N s
      → ((e : Entry) → entry_at s f ≡ Ok e → Stepped s c (settle s (rest e)))
      → Stepped s c (settle s (entered (entry_at s f) rest))
  unfolding entered
  decoded_by f rest others first inside ok = go (entry_at s f) refl
    where
      go : (d : Decoded) → entry_at s f ≡ d → Stepped s c (settle s (entered d rest))
      go (Ok e) here = ok e here
      go (Err reason) here =
          let some = (entry_reason s f reason inside here).0 in
          turned_down (fault (bad_entry f reason inside here (first ∙ named_bad s f reason others here some)))

  -- the word consulted for a fixed page
  module _ (f : ℕ) (e : Entry) (guest : ℕ) where
    pub placed_by :
        (rest : ℕ → Verdict) → entry_at s f ≡ Ok e → e.fixed ≡ true
        → ((gpa : ℕ) → consulted s e guest ≡ Present gpa → Stepped s c (settle s (rest gpa)))
        → Stepped s c (settle s (placed (consulted s e guest) rest))
    unfolding placed
    placed_by rest here fixed ok = go (consulted s e guest) refl
      where
        go : (w : LeafWord) → consulted s e guest ≡ w → Stepped s c (settle s (placed w rest))
        go Misshapen word = turned_down (fault (broken_leaf f e guest here fixed (inl word)))
        go Absent word = turned_down (plain refl)
        go (Present gpa) word = ok gpa word

    pub vacant_by :
        (rest : Verdict) → entry_at s f ≡ Ok e → e.fixed ≡ true → (consulted s e guest ≡ Absent → Stepped s c (settle s rest))
        → Stepped s c (settle s (vacant (consulted s e guest) rest))
    unfolding vacant
    vacant_by rest here fixed ok = go (consulted s e guest) refl
      where
        go : (w : LeafWord) → consulted s e guest ≡ w → Stepped s c (settle s (vacant w rest))
        go Misshapen word = turned_down (fault (broken_leaf f e guest here fixed (inl word)))
        go (Present gpa) word = turned_down (plain refl)
        go Absent word = ok word

  -- who is left in the leaf of a fixed page
  module _ (f : ℕ) (e : Entry) (here : entry_at s f ≡ Ok e) (fixed : e.fixed ≡ true) where
    pub leaf_by : (v : Verdict) → (is_leaf (entry_at s (leaf_frame e)) ≡ true → Stepped s c (settle s v))
        → Stepped s c (settle s (unless (is_leaf (entry_at s (leaf_frame e))) BROKEN_LEAF v))
    leaf_by v = faultless _ _ v (λ none. broken_leaf f e 0 here fixed (inl (no_leaf_lem s e 0 none)))

    module _ (leaf : is_leaf (entry_at s (leaf_frame e)) ≡ true) (has : leaf_frame e < M s) where
      guest_by :
          (index : ℕ) (w : LeafWord) (rest : ℕ → Verdict) → index < 512 → leaf_word (word_at s (leaf_frame e) index) ≡ w → w ≢ Absent
          → ((gpa : ℕ) → is_guest index ≡ true → consulted s e index ≡ Present gpa → Stepped s c (settle s (rest gpa)))
          → Stepped s c (settle s (of_guest index w rest))
      unfolding of_guest
      guest_by index Misshapen rest small word there ok =
          turned_down (fault (broken_leaf f e index here fixed (inl (consulted_is s e index leaf ∙ word))))
      guest_by index Absent rest small word there ok = absurd (there refl)
      guest_by index (Present gpa) rest small word there ok =
          let consults = consulted_is s e index leaf ∙ word in
          faultless _ _ _
          (λ host. broken_leaf f e index here fixed (inr (out_of_range index small host, λ absent. there (sym consults ∙ absent))))
          (λ range. ok gpa range consults)

      pub remaining_by :
          (one : ℕ → ℕ → Verdict) (none : Verdict)
          → ((guest gpa : ℕ) → is_guest guest ≡ true → present_words s (leaf_frame e) ≡ 1 → last_present s (leaf_frame e) ≡ guest
          → consulted s e guest ≡ Present gpa → Stepped s c (settle s (one guest gpa)))
          → (present_words s (leaf_frame e) ≡ 0 → Stepped s c (settle s none))
          → Stepped s c (settle s (remaining s (leaf_frame e) one none))
      unfolding remaining
      remaining_by one none ok nobody =
          checked_not _ _ _ refl λ few.
          chosen _ _ _
          (λ is.
          let one_left = eqb-true (present_words s (leaf_frame e)) 1 is in
          let last = last_present_lem s (leaf_frame e) has (omega arith) in
          guest_by _ _ _ last.0 refl last.1 (λ gpa range place. ok _ gpa range one_left refl place))
          (λ (is : eqb (present_words s (leaf_frame e)) 1 ≡ false).
          let not_one = eqb-false (present_words s (leaf_frame e)) 1 is in
          let less = leb-false 2 (present_words s (leaf_frame e)) few in
          nobody (omega (arith, not_one, less)))
