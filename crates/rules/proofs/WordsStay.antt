-- Memory whose words fit into 64 bits stays so under a call whose numbers do: a call puts the value of a WRITE, an address and one, or zero
-- into a word, zeroes a frame, or copies one.
-- Assumes nothing.
use mathlib.Core.Path.{◌≡◌}
use mathlib.Core.List.{List, [], ◌∷◌}
use mathlib.Core.Logic.{⊎_elim}
use Prim.Native.Nat.{ℕ, zero, suc, ◌+◌, ◌*◌, ◌<◌, ◌^◌}
use native.Mathlib.Omega.{arith}
use lib.ListN.{length, get_or}
use Rattle.words.proofs.ChoiceLaws.{lt_or_le, same_or_not, pick_either, bounds_either}
use Rattle.frames.specs.Frame.{frame_count, word_in, zeros}
use Rattle.frames.proofs.FrameLaws.{put_outside, put_past, frame_outside, frame_unlike, frame_had, frame_word, zeros_at}
use Rattle.entries.specs.Leaf.{present_at}
use Rattle.entries.specs.declared.entry.Entry.{Entry}
use Rattle.rules.specs.Answers.{Told}
use Rattle.rules.specs.Assignment.{assigning, validating}
use Rattle.rules.specs.Calls.{Call}
use Rattle.rules.specs.Merging.{fixing, merging, unmerging, unfixing}
use Rattle.rules.specs.State.{State, M, word_at, frame_at, with_entry, with_word, with_frame}
use Rattle.rules.specs.Words.{AreWords, HoldsWords, numbers, WordsStay}
use Rattle.rules.proofs.Accepted.{Accepted, by_update, by_validate, by_fix, by_merge, by_unmerge, by_unfix, by_free, by_read}
use Rattle.rules.proofs.Accepted.{by_write, by_census}
use Rattle.rules.proofs.StateLaws.{word_after_entry, word_after_word, word_elsewhere, word_beside, word_after_frame}
use Rattle.rules.proofs.StateLaws.{word_beside_frame}
use Rattle.rules.proofs.Stepped.{step_cases}

-- ---- memory that is a list of 64-bit words
word_small : (memory : List ℕ) (i : ℕ) → AreWords memory → get_or memory i 0 < 2 ^ 64
word_small [] i h = omega arith
word_small (n ∷ rest) zero h = h.0
word_small (n ∷ rest) (suc i) h = word_small rest i h.1

pub words_held : (s : State) → AreWords s.memory → HoldsWords s
unfolding word_at word_in
words_held s h frame index =
    bounds_either frame (frame_count s.memory) index 512 (get_or s.memory (512 * frame + index) 0) 0 (λ n. n < 2 ^ 64)
    (λ f i. word_small s.memory (512 * frame + index) h) (omega arith)

-- ---- what a call does to words
module _ (s : State) (words : HoldsWords s) where
  entry_words_lem : (f : ℕ) (e : Entry) → HoldsWords (with_entry s f e)
  entry_words_lem f e g j = rw (word_after_entry s f e g j) (words g j)

  -- a word put there, or nothing changed
  module _ (f i v : ℕ) (small : v < 2 ^ 64) where
    put_there : word_at (with_word s f i v) f i < 2 ^ 64
    unfolding with_word M
    put_there =
        ⊎_elim
        (λ h. ⊎_elim (λ l. rw (word_after_word s f i v h l) small) (λ l. rw (put_past s.memory f i v l) (words f i)) (lt_or_le i 512))
        (λ h. rw (put_outside s.memory f i v h) (words f i))
        (lt_or_le f (M s))

    put_words_lem : HoldsWords (with_word s f i v)
    put_words_lem g j =
        ⊎_elim
        (λ (frame : g ≡ f).
        ⊎_elim (λ (place : j ≡ i). rw (frame, place) put_there) (λ apart. rw (word_beside s f i v g j apart) (words g j)) (same_or_not j i))
        (λ apart. rw (word_elsewhere s f i v g j apart) (words g j))
        (same_or_not g f)

  -- a frame put there, or nothing changed
  module _ (f : ℕ) (run : List ℕ) (small : (j : ℕ) → length run ≡ 512 → get_or run j 0 < 2 ^ 64) where
    frame_there : (j : ℕ) → word_at (with_frame s f run) f j < 2 ^ 64
    unfolding with_frame M
    frame_there j =
        ⊎_elim
        (λ h.
        ⊎_elim (λ long. rw (word_after_frame s f run j h long) (small j long)) (λ not. rw (frame_unlike s.memory f run not) (words f j))
        (same_or_not (length run) 512))
        (λ h. rw (frame_outside s.memory f run h) (words f j))
        (lt_or_le f (M s))

    frame_words : HoldsWords (with_frame s f run)
    frame_words g j =
        ⊎_elim (λ (same : g ≡ f). rw same (frame_there j)) (λ apart. rw (word_beside_frame s f run g j apart) (words g j)) (same_or_not g f)

  zero_words : (f : ℕ) → HoldsWords (with_frame s f zeros)
  zero_words f = frame_words f zeros (λ j long. rw (zeros_at j) (omega arith))

  word_of : (from j : ℕ) → length (frame_at s from) ≡ 512 → get_or (frame_at s from) j 0 ≡ word_at s from j
  unfolding frame_at word_at
  word_of from j long = frame_word s.memory from j (frame_had s.memory from long)

  copy_words : (from to : ℕ) → HoldsWords (with_frame s to (frame_at s from))
  copy_words from to = frame_words to (frame_at s from) (λ j long. rw (word_of from j long) (words from j))

-- ---- what is done
present_small : (gpa : ℕ) → present_at gpa < 2 ^ 64
unfolding present_at
present_small gpa = omega arith

module _ (s : State) (words : HoldsWords s) where
  assigned : (frame : ℕ) (old : Entry) (gpa asid kind : ℕ) → HoldsWords (assigning s frame old gpa asid kind)
  unfolding assigning
  assigned frame old gpa asid kind = entry_words_lem _ (pick_either HoldsWords _ _ _ (λ same. words) (λ other. zero_words s words frame)) _ _

  fixed : (frame : ℕ) (old : Entry) (leaf : ℕ) → HoldsWords (fixing s frame old leaf)
  unfolding fixing
  fixed frame old leaf = entry_words_lem _ (put_words_lem _ (zero_words s words _) _ _ _ (present_small old.address)) _ _

  merged : (one : Entry) (frame : ℕ) (two : Entry) → HoldsWords (merging s one frame two)
  unfolding merging
  merged one frame two = entry_words_lem _ (zero_words _ (put_words_lem s words _ _ _ (present_small two.address)) frame) _ _

  unmerged : (from : ℕ) (one : Entry) (to asid gpa : ℕ) → HoldsWords (unmerging s from one to asid gpa)
  unfolding unmerging
  unmerged from one to asid gpa = put_words_lem _ (entry_words_lem _ (copy_words s words from to) _ _) _ _ 0 (omega arith)

  unfixed : (frame : ℕ) (old new : Entry) → HoldsWords (unfixing s frame old new)
  unfolding unfixing
  unfixed frame old new = zero_words _ (entry_words_lem _ (entry_words_lem s words _ _) _ _) _

accepted_words :
    {s after : State} {c : Call} {told : Told} → HoldsWords s → AreWords (numbers c) → Accepted s c told after → HoldsWords after
unfolding numbers validating
accepted_words words fit (by_update p) = assigned _ words _ _ _ _ _
accepted_words words fit (by_validate p) = entry_words_lem _ words _ _
accepted_words words fit (by_fix p) = fixed _ words _ _ _
accepted_words words fit (by_merge p) = merged _ words _ _ _
accepted_words words fit (by_unmerge p) = unmerged _ words _ _ _ _ _
accepted_words words fit (by_unfix p) = unfixed _ words _ _ _
accepted_words words fit (by_free p) = unfixed _ (zero_words _ words _) _ _ _
accepted_words words fit (by_read p) = words
accepted_words words fit (by_write p) = put_words_lem _ words _ _ _ fit.1.1.1.1.1.1.0
accepted_words words fit (by_census p) = words

pub words_stay : WordsStay
words_stay s call words fit =
    step_cases (λ o. HoldsWords o.after) s call (λ n why. words) (λ told after. accepted_words words fit)
