-- What has passed its checks is accepted: the other way round than Stepped, for PUNMERGE and for both ways of PUNFIX; and PUNFIX of a page
-- with two or more guests in it is refused with 17.
-- Assumes nothing.
use mathlib.Core.Path.{◌≡◌, sym, ap, ◌∙◌}
use mathlib.Core.Bool.{Bool, true, not}
use Prim.Native.Nat.{ℕ, ◌<◌, ◌≤◌}
use native.Mathlib.Omega.{arith}
use lib.Dec.{leb}
use borrow.Author.Tests.{lt-ltb, le-leb, lt-leb, eq-eqb, ne_eqb}
use Rattle.words.proofs.ChoiceLaws.{pick_true, pick_false, both_true}
use Rattle.frames.specs.Frame.{zeros}
use Rattle.entries.specs.Entry.{frame_of, zero_entry, to_moved}
use Rattle.entries.specs.Leaf.{leaf_word}
use Rattle.entries.specs.declared.entry.Entry.{Entry}
use Rattle.entries.specs.declared.leaf.LeafWord.TheVariants.{Present}
use Rattle.rules.specs.Answers.{refused, done, unfixed, Verdict, grant, outcome, settle, when, begins, entered, both_entered}
use Rattle.rules.specs.Arguments.{is_host}
use Rattle.rules.specs.Leaves.{leaf_frame, placed, present_words, of_guest, remaining}
use Rattle.rules.specs.Merging.{unmerging, punmerge, unfixing, punfix}
use Rattle.rules.specs.Refusals.{STILL_SHARED}
use Rattle.rules.specs.State.{State, N, sized, covers, word_at, with_frame}
use Rattle.rules.proofs.Chain.{check_passed, check_failed}
use Rattle.rules.proofs.Leaves.{consulted_is}
use Rattle.rules.proofs.Passed.{Unmerged, Unfixing, Unfixed, Freed}

host_passes : {caller : ℕ} → caller ≡ 0 → is_host caller ≡ true
unfolding is_host
host_passes h = eq-eqb _ 0 h

covers_passes : (s : State) (hpa : ℕ) → frame_of hpa < N s → covers s hpa ≡ true
unfolding covers
covers_passes s hpa inside = lt-ltb _ _ inside

few : (n : ℕ) → n < 2 → not (leb 2 n) ≡ true
few n h = ap not (lt-leb 2 n h)

module _ (s : State) (arguments party inside : Bool) (rest : Verdict) where
  begins_passed : sized s ≡ true → arguments ≡ true → party ≡ true → inside ≡ true → begins s arguments party inside rest ≡ rest
  unfolding begins
  begins_passed size a p i = check_passed _ _ size ∙ check_passed _ _ a ∙ check_passed _ _ p ∙ check_passed _ _ i

module _ {s : State} {caller hpa1 hpa2 asid : ℕ} {one two : Entry} {gpa : ℕ} (p : Unmerged s caller hpa1 hpa2 asid one two gpa) where
  pub unmerged_done : punmerge s caller hpa1 hpa2 asid ≡ outcome done (unmerging s (frame_of hpa1) one (frame_of hpa2) asid gpa)
  unfolding punmerge settle both_entered entered placed
  unmerged_done =
      rw (
        begins_passed s _ _ _ _ p.size p.arguments (host_passes p.host)
            (both_true _ _ (covers_passes s hpa1 p.inside1) (covers_passes s hpa2 p.inside2)),
        p.here1,
        p.here2,
        check_passed _ _ (both_true _ _ (eq-eqb _ _ p.type1) (eq-eqb _ _ p.type2)),
        check_passed _ _ p.fixed1,
        p.place,
      )

module _ {s : State} {caller hpa : ℕ} {old : Entry} (p : Unfixing s caller hpa old) where
  abbrev given : ℕ → ℕ → Verdict
  given guest gpa = grant (unfixed guest) (unfixing s (frame_of hpa) old (to_moved old guest gpa))

  abbrev freed : Verdict
  freed = grant (unfixed 0) (unfixing (with_frame s (frame_of hpa) zeros) (frame_of hpa) old zero_entry)

  -- up to the present words
  unfix_is : punfix s caller hpa ≡ settle s (remaining s (leaf_frame old) given freed)
  unfolding punfix entered
  unfix_is =
      rw (
        begins_passed s _ _ _ _ p.size p.arguments (host_passes p.host) (covers_passes s hpa p.inside),
        p.here,
        check_passed _ _ (eq-eqb _ _ p.type),
        check_passed _ _ p.fixed,
        check_passed _ _ p.leaf_kind,
      )

  pub shared_refused : 2 ≤ present_words s (leaf_frame old) → punfix s caller hpa ≡ outcome (refused STILL_SHARED) s
  unfolding remaining when settle
  shared_refused more = rw (unfix_is, check_failed _ _ (ap not (le-leb 2 _ more)))

module _ {s : State} {caller hpa : ℕ} {old : Entry} {guest gpa : ℕ} (p : Unfixed s caller hpa old guest gpa) where
  pub given_done :
      punfix s caller hpa ≡ outcome (unfixed guest) (unfixing s (frame_of hpa) old (to_moved old guest gpa))
  unfolding remaining when of_guest settle
  given_done =
      let word : leaf_word (word_at s (leaf_frame old) guest) ≡ Present gpa = sym (consulted_is s old guest p.page.leaf_kind) ∙ p.place in
      rw (
        unfix_is p.page,
        check_passed _ _ (few (present_words s (leaf_frame old)) (omega (arith, p.one_left))),
        pick_true _ _ (eq-eqb _ 1 p.one_left),
        p.last,
        word,
        check_passed _ _ p.range,
      )

module _ {s : State} {caller hpa : ℕ} {old : Entry} (p : Freed s caller hpa old) where
  pub freed_done :
      punfix s caller hpa ≡ outcome (unfixed 0) (unfixing (with_frame s (frame_of hpa) zeros) (frame_of hpa) old zero_entry)
  unfolding remaining when settle
  freed_done =
      rw (
        unfix_is p.page,
        check_passed _ _ (few (present_words s (leaf_frame old)) (omega (arith, p.none_left))),
        pick_false _ _ (ne_eqb (present_words s (leaf_frame old)) 1 (λ one. let none = p.none_left in absurd (omega arith))),
      )
