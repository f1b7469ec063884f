-- Table and memory as the rules read and change them: an entry after an entry was put or memory changed, a word after a word or a frame
-- was put, and that no change alters a size. In this crate only this file opens the state: all other proofs cite these laws. Each is a
-- law of the table or of a frame, carried over.
-- Assumes nothing.
use mathlib.Core.Path.{◌≡◌, refl, ◌∙◌}
use mathlib.Core.Bool.{true, false, false≢true}
use mathlib.Core.List.{List, [], ◌∷◌}
use mathlib.Core.Logic.{◌≢◌}
use Prim.Native.Nat.{ℕ, suc, ◌≤◌, ◌<◌}
use lib.ListN.{length, get_or}
use borrow.Author.Tests.{leb-true, ltb-true, ltb-false}
use Rattle.words.specs.Run.{differing}
use Rattle.words.proofs.ChoiceLaws.{and_left, and_right}
use Rattle.frames.specs.Frame.{zeros}
use Rattle.frames.proofs.FrameLaws.{count_put_word, framed_put_word, word_put_same, word_put_other_frame, word_put_other_index}
use Rattle.frames.proofs.FrameLaws.{count_put_frame, framed_put_frame, word_frame_same, word_frame_other, word_zeroed, word_copied}
use Rattle.frames.proofs.FrameLaws.{frame_long, frame_word, differing_is, differing_within, same_words, put_words, words_are_frame}
use Rattle.entries.specs.Entry.{frame_of, zero_entry, WellFormed}
use Rattle.entries.specs.declared.entry.Entry.{Entry}
use Rattle.std.specs.Prelude.{Ok, Err}
use Rattle.entries.proofs.Tells.{Tells, tells}
use Rattle.entries.specs.declared.reason.Reason.{Reason}
use Rattle.entries.proofs.RuleLaws.{IsOneOfFour}
use Rattle.rmp.proofs.TableLaws.{covered_put, whole_put, entry_put_same, entry_put_other, put_same, entry_good, entry_bad, entry_empty}
use Rattle.rules.specs.State.{State, state, empty_table, N, M, sized, covers}
use Rattle.rules.specs.State.{entry_at, word_at, frame_at, differing_at, with_entry, with_word, with_frame}

-- ---- sizes
pub record Sizes (s : State) : Type 0 where
  pub some_frame : 1 ≤ N s
  pub table_most : N s ≤ 4096
  pub memory_least : N s ≤ M s
  pub memory_most : M s ≤ 8192

pub sizes : (s : State) → sized s ≡ true → Sizes s
unfolding sized
sizes s h =
    let h1 = and_left _ _ h in
    let h2 = and_left _ _ h1 in
    let h3 = and_left _ _ h2 in
    record {
      some_frame = leb-true _ _ (and_right _ _ h3);
      table_most = leb-true _ _ (and_right _ _ h2);
      memory_least = leb-true _ _ (and_right _ _ h1);
      memory_most = leb-true _ _ (and_right _ _ h);
    }

-- the sizes of one state are those of another
pub record SameSize (s u : State) : Type 0 where
  pub same_N : N u ≡ N s
  pub same_M : M u ≡ M s
  pub same_sized : sized u ≡ sized s

pub size_refl : (s : State) → SameSize s s
size_refl s = record { same_N = refl; same_M = refl; same_sized = refl }

pub size_trans : {s u v : State} → SameSize s u → SameSize u v → SameSize s v
size_trans p q =
    record {
      same_N = q.same_N ∙ p.same_N;
      same_M = q.same_M ∙ p.same_M;
      same_sized = q.same_sized ∙ p.same_sized;
    }

pub size_entry : (s : State) (f : ℕ) (e : Entry) → SameSize s (with_entry s f e)
unfolding with_entry N M sized
size_entry s f e =
    let n = covered_put s.table f e in
    record { same_N = n; same_M = refl; same_sized = rw (n, whole_put s.table f e) }

pub size_word : (s : State) (f i v : ℕ) → SameSize s (with_word s f i v)
unfolding with_word N M sized
size_word s f i v =
    let m = count_put_word s.memory f i v in
    record { same_N = refl; same_M = m; same_sized = rw (m, framed_put_word s.memory f i v) }

pub size_frame : (s : State) (f : ℕ) (words : List ℕ) → SameSize s (with_frame s f words)
unfolding with_frame N M sized
size_frame s f words =
    let m = count_put_frame s.memory f words in
    record { same_N = refl; same_M = m; same_sized = rw (m, framed_put_frame s.memory f words) }

-- ---- the frame at an address
module _ (s : State) (hpa : ℕ) where
  pub covered_frame : covers s hpa ≡ true → frame_of hpa < N s
  unfolding covers
  covered_frame h = ltb-true _ _ h

  pub uncovered_frame : covers s hpa ≡ false → N s ≤ frame_of hpa
  unfolding covers
  uncovered_frame h = ltb-false _ _ h

-- ---- entries
module _ (s : State) (f : ℕ) where
  -- a good entry: the table covers its frame, and it is well formed
  pub entry_inside : {e : Entry} → entry_at s f ≡ Ok e → f < N s
  unfolding entry_at N
  entry_inside h = (entry_good s.table f _ h).0

  pub entry_fits : {e : Entry} → entry_at s f ≡ Ok e → WellFormed (N s) e
  unfolding entry_at N
  entry_fits h = (entry_good s.table f _ h).1

  pub entry_tells : {e : Entry} → entry_at s f ≡ Ok e → Tells (N s) e
  entry_tells h = tells (N s) _ (entry_fits h)

  -- a bad one that it covers has one of the four reasons
  pub entry_reason : (reason : Reason) → f < N s → entry_at s f ≡ Err reason → IsOneOfFour reason
  unfolding entry_at N
  entry_reason reason = entry_bad s.table f reason

  pub entry_after_entry : (e : Entry) → f < N s → WellFormed (N s) e → entry_at (with_entry s f e) f ≡ Ok e
  unfolding entry_at with_entry N
  entry_after_entry e h w = entry_put_same s.table f e h w

  -- the entry that stands there, put again
  pub same_entry : {e : Entry} → entry_at s f ≡ Ok e → with_entry s f e ≡ s
  unfolding entry_at with_entry
  same_entry h = rw (put_same s.table f _ h)

  pub entry_elsewhere : (e : Entry) (g : ℕ) → g ≢ f → entry_at (with_entry s f e) g ≡ entry_at s g
  unfolding entry_at with_entry
  entry_elsewhere e g apart = entry_put_other s.table f e g apart

  pub entry_after_word : (i v g : ℕ) → entry_at (with_word s f i v) g ≡ entry_at s g
  unfolding entry_at with_word
  entry_after_word i v g = refl

  pub entry_after_frame : (words : List ℕ) (g : ℕ) → entry_at (with_frame s f words) g ≡ entry_at s g
  unfolding entry_at with_frame
  entry_after_frame words g = refl

-- two readings of one frame are one entry, and not both good and bad
pub same_good : (s : State) (g f : ℕ) {d e : Entry} → entry_at s g ≡ Ok d → entry_at s f ≡ Ok e → g ≡ f → d ≡ e
same_good s g f h k same = cc

pub not_bad : (s : State) (g f : ℕ) {d : Entry} {reason : Reason} → entry_at s f ≡ Ok d → g ≡ f → entry_at s g ≡ Err reason → ⊥
not_bad s g f h same k = absurd (false≢true (cc))

-- "Empty table: all words zero": every frame is SHARED
pub entry_of_empty :
    (length : ℕ) (memory : List ℕ) (f : ℕ) → f < N (empty_table length memory) → entry_at (empty_table length memory) f ≡ Ok zero_entry
unfolding empty_table entry_at N
entry_of_empty length memory f h = entry_empty length f h

-- ---- words
module _ (s : State) (f : ℕ) where
  pub word_after_entry : (e : Entry) (g i : ℕ) → word_at (with_entry s f e) g i ≡ word_at s g i
  unfolding word_at with_entry
  word_after_entry e g i = refl

  pub word_after_word : (i v : ℕ) → f < M s → i < 512 → word_at (with_word s f i v) f i ≡ v
  unfolding word_at with_word M
  word_after_word i v h l = word_put_same s.memory f i v h l

  pub word_elsewhere : (i v g j : ℕ) → g ≢ f → word_at (with_word s f i v) g j ≡ word_at s g j
  unfolding word_at with_word
  word_elsewhere i v g j apart = word_put_other_frame s.memory f i v g j apart

  pub word_beside : (i v g j : ℕ) → j ≢ i → word_at (with_word s f i v) g j ≡ word_at s g j
  unfolding word_at with_word
  word_beside i v g j apart = word_put_other_index s.memory f i v g j apart

  pub word_after_frame : (words : List ℕ) (i : ℕ) → f < M s → length words ≡ 512 → word_at (with_frame s f words) f i ≡ get_or words i 0
  unfolding word_at with_frame M
  word_after_frame words i h long = word_frame_same s.memory f words i h long

  pub word_beside_frame : (words : List ℕ) (g i : ℕ) → g ≢ f → word_at (with_frame s f words) g i ≡ word_at s g i
  unfolding word_at with_frame
  word_beside_frame words g i apart = word_frame_other s.memory f words g i apart

  -- a frame zeroed, and one that frame `from` is copied to
  pub word_after_zeros : (i : ℕ) → word_at (with_frame s f zeros) f i ≡ 0
  unfolding word_at with_frame
  word_after_zeros i = word_zeroed s.memory f i

  pub word_after_copy : (from i : ℕ) → from < M s → f < M s → word_at (with_frame s f (frame_at s from)) f i ≡ word_at s from i
  unfolding word_at with_frame frame_at M
  word_after_copy from i h k = word_copied s.memory from f i h k

  -- all words of a frame that memory has
  pub frame_has : f < M s → (length (frame_at s f) ≡ 512) × ((i : ℕ) → get_or (frame_at s f) i 0 ≡ word_at s f i)
  unfolding frame_at word_at M
  frame_has h = (frame_long s.memory f h, λ i. frame_word s.memory f i h)

  -- two frames compared, and two with no differing word
  pub differing_words : (g : ℕ) → f < M s → g < M s → differing_at s f g ≡ differing (frame_at s f) (frame_at s g) 512
  unfolding differing_at frame_at M
  differing_words g h k = differing_is s.memory f g h k

  pub differing_few : (g : ℕ) → differing_at s f g ≤ 512
  unfolding differing_at
  differing_few g = differing_within s.memory f g

  pub equal_words : (g : ℕ) → differing_at s f g ≡ 0 → f < M s → g < M s → (i : ℕ) → word_at s f i ≡ word_at s g i
  unfolding word_at differing_at M
  equal_words g e h k i = same_words s.memory f g e h k i

-- words put into a frame one by one, from a place on: 512 of them are the frame put whole
unfoldable pub with_words : State → ℕ → ℕ → List ℕ → State
with_words s f i [] = s
with_words s f i (v ∷ rest) = with_words (with_word s f i v) f (suc i) rest

words_in_memory : (s : State) (f i : ℕ) (words : List ℕ) → with_words s f i words ≡ state s.table (put_words s.memory f i words)
unfolding with_words put_words with_word
words_in_memory s f i [] = refl
words_in_memory s f i (v ∷ rest) = words_in_memory (with_word s f i v) f (suc i) rest

pub frame_by_words : (s : State) (f : ℕ) (words : List ℕ) → f < M s → length words ≡ 512 → with_words s f 0 words ≡ with_frame s f words
unfolding with_frame M
frame_by_words s f words h e = words_in_memory s f 0 words ∙ rw (words_are_frame s.memory f words h e)
