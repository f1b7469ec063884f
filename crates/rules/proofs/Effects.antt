-- What each accepted call does to table and memory, entry by entry and word by word. Each follows from what the call has passed and the
-- laws of the state; nothing here knows of guests' places. The proofs of demand 3 cite these and open no change.
-- Assumes nothing.
use mathlib.Core.Path.{◌≡◌, refl, sym, ◌∙◌}
use mathlib.Core.Bool.{Bool, true, false}
use mathlib.Core.List.{List}
use mathlib.Core.Logic.{◌≢◌}
use Prim.Native.Nat.{ℕ, ◌<◌}
use native.Mathlib.Omega.{arith}
use lib.Dec.{eqb}
use Rattle.words.specs.Choice.{pick, ◌or◌}
use Rattle.words.proofs.ChoiceLaws.{pick_either}
use Rattle.frames.specs.Frame.{zeros}
use Rattle.entries.specs.Entry.{SHARED, MERGEABLE, frame_of, is_owned, is_unowned, entry, zero_entry, WellFormed, to_validated, to_fixed}
use Rattle.entries.specs.Entry.{to_moved}
use Rattle.entries.specs.Leaf.{present_at}
use Rattle.entries.specs.declared.entry.Entry.{Entry}
use Rattle.std.specs.Prelude.{Ok}
use Rattle.entries.proofs.Tells.{page_fits, fixed_fits, unowned_fits, guest_range, moved_is}
use Rattle.rules.specs.Assignment.{assigning, validating}
use Rattle.rules.specs.Leaves.{leaf_frame, is_leaf}
use Rattle.rules.specs.Merging.{fixing, merging, unmerging, unfixing}
use Rattle.rules.specs.State.{State, N, M, entry_at, word_at, frame_at, with_entry, with_word, with_frame}
use Rattle.rules.proofs.ArgumentLaws.{update_fits, validate_tells, two_addresses, unmerge_tells}
use Rattle.rules.proofs.Leaves.{is_a_leaf, consulted_address, leaf_apart, not_a_leaf, leaf_inside, from_absent, from_present}
use Rattle.rules.proofs.Passed.{Updated, Validated, Fixed, Merged, Unmerged, Unfixing, Unfixed, Freed}
use Rattle.rules.proofs.StateLaws.{SameSize, size_refl, size_trans, size_entry, size_word, size_frame, sizes}
use Rattle.rules.proofs.StateLaws.{entry_tells, entry_after_entry, entry_elsewhere, entry_after_word, entry_after_frame}
use Rattle.rules.proofs.StateLaws.{word_after_entry, word_after_word, word_elsewhere, word_beside}
use Rattle.rules.proofs.StateLaws.{word_beside_frame, word_after_zeros, word_after_copy}

-- one entry is another, and every other is as it was
pub record Put (s u : State) (f : ℕ) (e : Entry) : Type 0 where
  pub same_size : SameSize s u
  pub here : entry_at u f ≡ Ok e
  pub elsewhere : (g : ℕ) → g ≢ f → entry_at u g ≡ entry_at s g

-- a change of memory alone
record MemoryOnly (s u : State) : Type 0 where
  pub same_size : SameSize s u
  pub entries : (g : ℕ) → entry_at u g ≡ entry_at s g

nothing_yet : (s : State) → MemoryOnly s s
nothing_yet s = record { same_size = size_refl s; entries = λ g. refl }

memory_word : (s : State) (f i v : ℕ) → MemoryOnly s (with_word s f i v)
memory_word s f i v = record { same_size = size_word s f i v; entries = λ g. entry_after_word s f i v g }

memory_frame : (s : State) (f : ℕ) (words : List ℕ) → MemoryOnly s (with_frame s f words)
memory_frame s f words = record { same_size = size_frame s f words; entries = λ g. entry_after_frame s f words g }

memory_both : {s u v : State} → MemoryOnly s u → MemoryOnly u v → MemoryOnly s v
memory_both p q =
    record { same_size = size_trans p.same_size q.same_size; entries = λ g. q.entries g ∙ p.entries g }

-- an entry put after memory changed, and memory changed after an entry was put
put_after : {s v : State} → MemoryOnly s v → (f : ℕ) (e : Entry) → f < N s → WellFormed (N s) e → Put s (with_entry v f e) f e
put_after {s = s} {v = v} m f e inside fits =
    let n : N v ≡ N s = m.same_size.same_N in
    record {
      same_size = size_trans m.same_size (size_entry v f e);
      here = entry_after_entry v f e (rw n inside) (rw n fits);
      elsewhere = λ g apart. entry_elsewhere v f e g apart ∙ m.entries g;
    }

put_before : {s v u : State} (f : ℕ) (e : Entry) → Put s v f e → MemoryOnly v u → Put s u f e
put_before f e p m =
    record {
      same_size = size_trans p.same_size m.same_size;
      here = m.entries f ∙ p.here;
      elsewhere = λ g apart. m.entries g ∙ p.elsewhere g apart;
    }

-- ---- RMPUPDATE
cleared : (s : State) (f : ℕ) (t : Bool) → MemoryOnly s (pick t s (with_frame s f zeros))
cleared s f t = pick_either (MemoryOnly s) t _ _ (λ same. nothing_yet s) (λ other. memory_frame s f zeros)

kept_beside : (s : State) (f g i : ℕ) (t : Bool) → g ≢ f → word_at (pick t s (with_frame s f zeros)) g i ≡ word_at s g i
kept_beside s f g i t apart =
    pick_either (λ u. word_at u g i ≡ word_at s g i) t _ _ (λ same. refl) (λ other. word_beside_frame s f zeros g i apart)

kept_here : (s : State) (f i : ℕ) (t : Bool) → word_at (pick t s (with_frame s f zeros)) f i ≡ pick t (word_at s f i) 0
unfolding pick
kept_here s f i true = refl
kept_here s f i false = word_after_zeros s f i

pub record Assigns (s u : State) (f : ℕ) (old e : Entry) : Type 0 where
  pub put : Put s u f e
  pub words : (g i : ℕ) → g ≢ f → word_at u g i ≡ word_at s g i
  pub words_here : (i : ℕ) → word_at u f i ≡ pick (eqb e.asid old.asid) (word_at s f i) 0

module _ {s : State} {caller hpa gpa asid kind : ℕ} {old : Entry} (p : Updated s caller hpa gpa asid kind old) where
  pub assigning_does : Assigns s (assigning s (frame_of hpa) old gpa asid kind) (frame_of hpa) old (entry asid kind false false gpa)
  unfolding assigning entry
  assigning_does =
      record {
        put = put_after (cleared s _ _) _ _ p.inside (update_fits caller hpa gpa asid kind p.arguments (N s));
        words = λ g i apart. word_after_entry _ _ _ g i ∙ kept_beside s _ g i _ apart;
        words_here = λ i. word_after_entry _ _ _ _ i ∙ kept_here s _ i _;
      }

-- ---- PVALIDATE
pub record Validates (s u : State) (f : ℕ) (e : Entry) : Type 0 where
  pub put : Put s u f e
  pub words : (g i : ℕ) → word_at u g i ≡ word_at s g i

module _ {s : State} {caller gpa hpa kind : ℕ} {old : Entry} (p : Validated s caller gpa hpa kind old) where
  pub validating_does : Validates s (validating s (frame_of hpa) old) (frame_of hpa) (entry caller kind true false gpa)
  unfolding validating to_validated
  validating_does =
      let t = validate_tells caller gpa hpa kind p.arguments in
      let small = t.caller_small in
      rw (p.owner, p.type, p.unfixed, p.address)
      (record {
        put = put_after (nothing_yet s) _ _ p.inside
            (page_fits (N s) caller kind true gpa t.owned (omega (arith, p.guest)) small t.guest_address);
        words = λ g i. word_after_entry s _ _ g i;
      })

-- ---- PFIX
pub mergeable_owned : (kind : ℕ) → kind ≡ MERGEABLE → is_owned kind ≡ true
unfolding is_owned ◌or◌
mergeable_owned kind h = rw h

pub record Fixes (s u : State) (f leaf : ℕ) (old e : Entry) : Type 0 where
  pub put : Put s u f e
  pub words : (g i : ℕ) → g ≢ leaf → word_at u g i ≡ word_at s g i
  pub owner_word : word_at u leaf old.asid ≡ present_at old.address
  pub other_words : (i : ℕ) → i ≢ old.asid → word_at u leaf i ≡ 0

module _ {s : State} {caller hpa leaf : ℕ} {old : Entry} (p : Fixed s caller hpa leaf old) where
  pub fixing_does : Fixes s (fixing s (frame_of hpa) old leaf) (frame_of hpa) (frame_of leaf) old (entry old.asid MERGEABLE true true leaf)
  unfolding fixing to_fixed
  fixing_does =
      let z = sizes s p.size in
      let t = entry_tells s _ p.here in
      let small = t.asid_small in
      let inside = p.leaf_inside in
      let least = z.memory_least in
      let zeroed = with_frame s (frame_of leaf) zeros in
      let m : M zeroed ≡ M s = (size_frame s (frame_of leaf) zeros).same_M in
      let below : frame_of leaf < M zeroed = rw m (omega arith) in
      rw (p.type, p.validated)
      (record {
        put = put_after (memory_both (memory_frame s _ _) (memory_word _ _ _ _)) _ _ p.inside
            (fixed_fits (N s) old.asid leaf (t.owned_asid (mergeable_owned _ p.type)) small
            (two_addresses caller hpa leaf p.arguments).1 inside);
        words = λ g i apart. word_after_entry _ _ _ g i ∙ word_elsewhere _ _ _ _ g i apart ∙ word_beside_frame s _ _ g i apart;
        owner_word = word_after_entry _ _ _ _ _ ∙ word_after_word zeroed _ _ _ below small;
        other_words = λ i apart. word_after_entry _ _ _ _ _ ∙ word_beside zeroed _ _ _ _ i apart ∙ word_after_zeros s _ i;
      })

-- ---- PMERGE, PUNMERGE and PUNFIX: the word that was consulted is in a LEAF, which is none of the named frames
zero_fits : (n : ℕ) → WellFormed n zero_entry
unfolding zero_entry is_unowned ◌or◌
zero_fits n = unowned_fits n SHARED refl

pub record Merges (s u : State) (leaf f2 : ℕ) (two : Entry) : Type 0 where
  pub put : Put s u f2 zero_entry
  pub leaf_kind : is_leaf (entry_at s leaf) ≡ true
  pub apart : leaf ≢ f2
  pub words : (g i : ℕ) → g ≢ f2 → g ≢ leaf → word_at u g i ≡ word_at s g i
  pub zeroed : (i : ℕ) → word_at u f2 i ≡ 0
  pub leaf_word_is : word_at u leaf two.asid ≡ present_at two.address
  pub leaf_words : (i : ℕ) → i ≢ two.asid → word_at u leaf i ≡ word_at s leaf i

module _ {s : State} {caller hpa1 hpa2 : ℕ} {one two : Entry} (p : Merged s caller hpa1 hpa2 one two) where
  pub merging_does : Merges s (merging s one (frame_of hpa2) two) (leaf_frame one) (frame_of hpa2) two
  unfolding merging
  merging_does =
      let inside = leaf_inside s _ p.here1 p.fixed1 in
      let least = (sizes s p.size).memory_least in
      let small = (entry_tells s _ p.here2).asid_small in
      let leaf_kind = is_a_leaf s one two.asid (from_absent p.no_place) in
      let apart = leaf_apart s _ _ leaf_kind p.here2 (not_a_leaf MERGEABLE p.type2 (omega arith)) in
      record {
        put = put_after (memory_both (memory_word s _ _ _) (memory_frame _ _ _)) _ _ p.inside2 (zero_fits (N s));
        leaf_kind = leaf_kind;
        apart = apart;
        words = λ g i other off. word_after_entry _ _ _ g i ∙ word_beside_frame _ _ _ g i other ∙ word_elsewhere s _ _ _ g i off;
        zeroed = λ i. word_after_entry _ _ _ _ i ∙ word_after_zeros _ _ i;
        leaf_word_is = word_after_entry _ _ _ _ _ ∙ word_beside_frame _ _ _ _ _ apart ∙ word_after_word s _ _ _ (omega arith) small;
        leaf_words = λ i other. word_after_entry _ _ _ _ i ∙ word_beside_frame _ _ _ _ i apart ∙ word_beside s _ _ _ _ i other;
      }

pub record Unmerges (s u : State) (f1 f2 leaf asid : ℕ) (e : Entry) : Type 0 where
  pub put : Put s u f2 e
  pub leaf_kind : is_leaf (entry_at s leaf) ≡ true
  pub apart : leaf ≢ f2
  pub words : (g i : ℕ) → g ≢ f2 → g ≢ leaf → word_at u g i ≡ word_at s g i
  pub copied : (i : ℕ) → word_at u f2 i ≡ word_at s f1 i
  pub leaf_word_is : word_at u leaf asid ≡ 0
  pub leaf_words : (i : ℕ) → i ≢ asid → word_at u leaf i ≡ word_at s leaf i

module _ {s : State} {caller hpa1 hpa2 asid : ℕ} {one two : Entry} {gpa : ℕ} (p : Unmerged s caller hpa1 hpa2 asid one two gpa) where
  pub unmerging_does :
      Unmerges s (unmerging s (frame_of hpa1) one (frame_of hpa2) asid gpa) (frame_of hpa1) (frame_of hpa2) (leaf_frame one) asid
      (entry asid MERGEABLE true false gpa)
  unfolding unmerging
  unmerging_does =
      let inside = leaf_inside s _ p.here1 p.fixed1 in
      let least = (sizes s p.size).memory_least in
      let inside1 = p.inside1 in
      let inside2 = p.inside2 in
      let range = guest_range asid (unmerge_tells caller hpa1 hpa2 asid p.arguments).2 in
      let leaf_kind = is_a_leaf s one asid (from_present p.place) in
      let apart = leaf_apart s _ _ leaf_kind p.here2 (not_a_leaf SHARED p.type2 (omega arith)) in
      let address = consulted_address s one asid gpa p.place in
      let fits = page_fits (N s) asid MERGEABLE true gpa (mergeable_owned _ refl) range.0 (omega arith) address in
      let e = entry asid MERGEABLE true false gpa in
      let copy = with_frame s (frame_of hpa2) (frame_at s (frame_of hpa1)) in
      let moved = with_entry copy (frame_of hpa2) e in
      let m : M moved ≡ M s = (size_entry copy _ e).same_M ∙ (size_frame s _ _).same_M in
      record {
        put = put_before _ e (put_after (memory_frame s _ _) _ e p.inside2 fits) (memory_word moved _ _ _);
        leaf_kind = leaf_kind;
        apart = apart;
        words = λ g i other off. word_elsewhere moved _ _ _ g i off ∙ word_after_entry copy _ e g i ∙ word_beside_frame s _ _ g i other;
        copied = λ i. word_elsewhere moved _ _ _ _ i (λ same. apart (sym same)) ∙ word_after_entry copy _ e _ i
            ∙ word_after_copy s _ _ i (omega arith) (omega arith);
        leaf_word_is = word_after_word moved _ _ _ (rw m (omega arith)) (omega arith);
        leaf_words = λ i other. word_beside moved _ _ _ _ i other ∙ word_after_entry copy _ e _ i ∙ word_beside_frame s _ _ _ i apart;
      }

-- both ways of PUNFIX: the page's entry is another, and the leaf is nobody's
pub record Unfixes (s u : State) (f leaf : ℕ) (e : Entry) : Type 0 where
  pub same_size : SameSize s u
  pub apart : leaf ≢ f
  pub here : entry_at u f ≡ Ok e
  pub leaf_here : entry_at u leaf ≡ Ok zero_entry
  pub elsewhere : (g : ℕ) → g ≢ f → g ≢ leaf → entry_at u g ≡ entry_at s g
  pub words : (g i : ℕ) → g ≢ f → g ≢ leaf → word_at u g i ≡ word_at s g i
  pub leaf_zeroed : (i : ℕ) → word_at u leaf i ≡ 0

module _ {s : State} {caller hpa : ℕ} {old : Entry} (p : Unfixing s caller hpa old) where
  unfix_apart : leaf_frame old ≢ frame_of hpa
  unfix_apart = leaf_apart s _ _ p.leaf_kind p.here (not_a_leaf MERGEABLE p.type (omega arith))

  -- after memory changed in the page alone
  module _ {v : State} (m : MemoryOnly s v) (words : (g i : ℕ) → g ≢ frame_of hpa → word_at v g i ≡ word_at s g i) (e : Entry)
      (fits : WellFormed (N s) e) where
    abbrev paged : State
    paged = with_entry v (frame_of hpa) e

    unfixed_words : (g i : ℕ) → g ≢ leaf_frame old → word_at (unfixing v (frame_of hpa) old e) g i ≡ word_at v g i
    unfolding unfixing
    unfixed_words g i off = word_beside_frame _ _ _ g i off ∙ word_after_entry paged _ zero_entry g i ∙ word_after_entry v _ e g i

    unfixing_does : Unfixes s (unfixing v (frame_of hpa) old e) (frame_of hpa) (leaf_frame old) e
    unfolding unfixing
    unfixing_does =
        let first = put_after m (frame_of hpa) e p.inside fits in
        let below : leaf_frame old < N paged = rw first.same_size.same_N (leaf_inside s _ p.here p.fixed) in
        let freed = put_after (nothing_yet paged) (leaf_frame old) zero_entry below (zero_fits (N paged)) in
        let second = put_before (leaf_frame old) zero_entry freed (memory_frame _ (leaf_frame old) zeros) in
        record {
          same_size = size_trans first.same_size second.same_size;
          apart = unfix_apart;
          here = second.elsewhere _ (λ same. unfix_apart (sym same)) ∙ first.here;
          leaf_here = second.here;
          elsewhere = λ g other off. second.elsewhere g off ∙ first.elsewhere g other;
          words = λ g i other off. unfixed_words g i off ∙ words g i other;
          leaf_zeroed = λ i. word_after_zeros _ _ i;
        }

-- to the one guest that is left: its page keeps its words
module _ {s : State} {caller hpa : ℕ} {old : Entry} {guest gpa : ℕ} (p : Unfixed s caller hpa old guest gpa) where
  given_fits : WellFormed (N s) (to_moved old guest gpa)
  given_fits =
      let range = guest_range guest p.range in
      let address = consulted_address s old guest gpa p.place in
      rw (moved_is (N s) old guest gpa (entry_tells s _ p.page.here) p.page.fixed)
      (page_fits (N s) guest MERGEABLE true gpa (mergeable_owned _ refl) range.0 (omega arith) address)

  pub given_does :
      Unfixes s (unfixing s (frame_of hpa) old (to_moved old guest gpa)) (frame_of hpa) (leaf_frame old) (to_moved old guest gpa)
  given_does = unfixing_does p.page (nothing_yet s) (λ g i other. refl) (to_moved old guest gpa) given_fits

  pub given_words : (i : ℕ) → word_at (unfixing s (frame_of hpa) old (to_moved old guest gpa)) (frame_of hpa) i ≡ word_at s (frame_of hpa) i
  given_words i =
      unfixed_words p.page (nothing_yet s) (λ g i other. refl) (to_moved old guest gpa) given_fits _ i
      (λ same. unfix_apart p.page (sym same))

-- to nobody: the page is zeroed
module _ {s : State} {caller hpa : ℕ} {old : Entry} (p : Freed s caller hpa old) where
  pub freeing_does :
      Unfixes s (unfixing (with_frame s (frame_of hpa) zeros) (frame_of hpa) old zero_entry) (frame_of hpa) (leaf_frame old) zero_entry
  freeing_does =
      unfixing_does p.page (memory_frame s (frame_of hpa) zeros) (λ g i other. word_beside_frame s _ _ g i other) zero_entry (zero_fits (N s))

  pub freed_words : (i : ℕ) → word_at (unfixing (with_frame s (frame_of hpa) zeros) (frame_of hpa) old zero_entry) (frame_of hpa) i ≡ 0
  freed_words i =
      unfixed_words p.page (memory_frame s (frame_of hpa) zeros) (λ g i other. word_beside_frame s _ _ g i other) zero_entry (zero_fits (N s)) _ i
      (λ same. unfix_apart p.page (sym same))
      ∙ word_after_zeros s _ i
