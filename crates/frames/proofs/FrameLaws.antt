-- Frames of memory: which words a change to a frame gives and which it leaves, for every frame and every index. The crates above cite
-- these laws, and need not open the definitions. Each holds because a frame's words are a run of memory, and two frames' runs are apart.
-- Assumes nothing.
use Rattle.std.proofs.Common.{◌≡◌, refl, sym, ◌∙◌, List, [], ◌∷◌, ◌≢◌, ⊎_elim, ℕ, suc, ◌+◌, ◌-◌, ◌*◌, ◌≤◌, ◌<◌, arith, length, get_or, set, take, drop, length-set, length-drop, length-take, get_or-set_same, get_or-set_other, get_or-take, get_or-drop, lt-ltb, le-ltb, eq-eqb, ne_eqb}
use Rattle.std.proofs.lemmas.List.{length-replicate, get_or-replicate, get_or_past, take_all}
use Rattle.std.proofs.Math.Seq.{paste}
use Rattle.std.proofs.lemmas.List.Edits.{sets, sets-eq, length-paste}
use borrow.Rule.Slice.PartMut.{put_mid}
use Rattle.std.proofs.lemmas.Slice.{put_mid-paste}
use Rattle.words.specs.Choice.{◌and◌}
use Rattle.words.specs.Run.{differing, copied}
use Rattle.words.proofs.ChoiceLaws.{lt_or_le, same_or_not, pick_true, pick_false, and_not}
use Rattle.words.proofs.ChoiceLaws.{bounds_kept, first_not, second_not, bounds_either}
use Rattle.words.proofs.CompareLaws.{differing_most, none_differ}
use Rattle.words.proofs.RunLaws.{paste_there, paste_before, paste_after, copied_whole}
use Rattle.frames.specs.Frame.{frame_count, is_framed, word_in, frame_in, zeros, put_word, put_frame, differing_in}

-- a frame that memory has is a whole run of it
frame_whole : (m : List ℕ) (f : ℕ) → f < frame_count m → 512 * f + 512 ≤ length m
unfolding frame_count
frame_whole m f h = omega arith

-- the word of a frame
module _ (m : List ℕ) (f i : ℕ) where
  pub word_is : f < frame_count m → i < 512 → word_in m f i ≡ get_or m (512 * f + i) 0
  unfolding word_in
  word_is = bounds_kept f (frame_count m) i 512 _ _

  pub word_outside : frame_count m ≤ f → word_in m f i ≡ 0
  unfolding word_in
  word_outside = first_not f (frame_count m) i 512 _ _

  pub word_past : 512 ≤ i → word_in m f i ≡ 0
  unfolding word_in
  word_past = second_not f (frame_count m) i 512 _ _

-- the words of a frame, all at once: 512 where memory has it, and none elsewhere
module _ (m : List ℕ) (f : ℕ) where
  part_is : f < frame_count m → frame_in m f ≡ take 512 (drop (512 * f) m)
  unfolding frame_in
  part_is h = pick_true _ _ (lt-ltb _ _ h)

  pub part_outside : frame_count m ≤ f → frame_in m f ≡ []
  unfolding frame_in
  part_outside h = pick_false _ _ (le-ltb _ _ h)

  pub frame_long : f < frame_count m → length (frame_in m f) ≡ 512
  frame_long h = rw (part_is h, length-take, length-drop) (omega (arith, frame_whole m f h))

  pub frame_had : length (frame_in m f) ≡ 512 → f < frame_count m
  frame_had e =
      ⊎_elim (λ h. h) (λ h. let none : length (frame_in m f) ≡ 0 = rw (part_outside h) in absurd (omega arith)) (lt_or_le f (frame_count m))

  pub frame_word : (i : ℕ) → f < frame_count m → get_or (frame_in m f) i 0 ≡ word_in m f i
  frame_word i h =
      ⊎_elim
      (λ l. rw (part_is h) (get_or-take 512 (drop (512 * f) m) i 0 l ∙ get_or-drop (512 * f) m i 0) ∙ sym (word_is m f i h l))
      (λ l. get_or_past (frame_in m f) i 0 (rw (frame_long h) l) ∙ sym (word_past m f i l))
      (lt_or_le i 512)

  -- also where memory does not have it
  pub word_of_part : (i : ℕ) → get_or (frame_in m f) i 0 ≡ word_in m f i
  word_of_part i =
      ⊎_elim (frame_word i) (λ (h : frame_count m ≤ f). rw (part_outside h) (sym (word_outside m f i h))) (lt_or_le f (frame_count m))

-- the word of a frame in two memories of one length
unchanged :
    (m n : List ℕ) (f i : ℕ) → length m ≡ length n → (i < 512 → get_or m (512 * f + i) 0 ≡ get_or n (512 * f + i) 0)
    → word_in m f i ≡ word_in n f i
unfolding frame_count
unchanged m n f i e same =
    ⊎_elim
    (λ h.
    ⊎_elim (λ l. word_is m f i (rw e h) l ∙ same l ∙ sym (word_is n f i h l)) (λ l. word_past m f i l ∙ sym (word_past n f i l))
    (lt_or_le i 512))
    (λ h. word_outside m f i (rw e h) ∙ sym (word_outside n f i h))
    (lt_or_le f (frame_count n))

-- memories of one length have as many frames, and both or neither are whole
same_count : (m n : List ℕ) → length m ≡ length n → frame_count m ≡ frame_count n
unfolding frame_count
same_count m n e = rw e

same_framed : (m n : List ℕ) → length m ≡ length n → is_framed m ≡ is_framed n
unfolding is_framed
same_framed m n e = rw e

-- memory with another word in a frame
module _ (m : List ℕ) (f i v : ℕ) where
  pub put_is : f < frame_count m → i < 512 → put_word m f i v ≡ set m (512 * f + i) v
  unfolding put_word
  put_is = bounds_kept f (frame_count m) i 512 _ _

  pub put_outside : frame_count m ≤ f → put_word m f i v ≡ m
  unfolding put_word
  put_outside = first_not f (frame_count m) i 512 _ _

  pub put_past : 512 ≤ i → put_word m f i v ≡ m
  unfolding put_word
  put_past = second_not f (frame_count m) i 512 _ _

  put_either : (P : List ℕ → Type 0) → (f < frame_count m → i < 512 → P (set m (512 * f + i) v)) → P m → P (put_word m f i v)
  unfolding put_word
  put_either = bounds_either f (frame_count m) i 512 _ _

  pub length_put_word : length (put_word m f i v) ≡ length m
  length_put_word = put_either (λ n. length n ≡ length m) (λ h l. length-set m (512 * f + i) v) refl

  pub count_put_word : frame_count (put_word m f i v) ≡ frame_count m
  count_put_word = same_count (put_word m f i v) m length_put_word

  pub framed_put_word : is_framed (put_word m f i v) ≡ is_framed m
  framed_put_word = same_framed (put_word m f i v) m length_put_word

  pub word_put_same : f < frame_count m → i < 512 → word_in (put_word m f i v) f i ≡ v
  word_put_same h l =
      word_is (put_word m f i v) f i (rw count_put_word h) l
      ∙ rw (put_is h l) (get_or-set_same m (512 * f + i) v 0 (omega (arith, frame_whole m f h)))

  put_other : (g j : ℕ) → (i < 512 → j < 512 → 512 * g + j ≢ 512 * f + i) → word_in (put_word m f i v) g j ≡ word_in m g j
  put_other g j apart =
      put_either (λ n. word_in n g j ≡ word_in m g j)
      (λ h l. unchanged (set m (512 * f + i) v) m g j (length-set m (512 * f + i) v)
      (λ k. get_or-set_other m (512 * f + i) (512 * g + j) v 0 (apart l k)))
      refl

  pub word_put_other_frame : (g j : ℕ) → g ≢ f → word_in (put_word m f i v) g j ≡ word_in m g j
  word_put_other_frame g j apart = put_other g j (λ l k e. apart (omega arith))

  pub word_put_other_index : (g j : ℕ) → j ≢ i → word_in (put_word m f i v) g j ≡ word_in m g j
  word_put_other_index g j apart = put_other g j (λ l k e. apart (omega arith))

-- memory with other words in a frame
module _ (m : List ℕ) (f : ℕ) (run : List ℕ) where
  frame_put : f < frame_count m → length run ≡ 512 → put_frame m f run ≡ paste m (512 * f) run 512
  unfolding put_frame ◌and◌
  frame_put h e = rw (lt-ltb _ _ h, eq-eqb _ _ e) (pick_true _ _ refl)

  pub frame_outside : frame_count m ≤ f → put_frame m f run ≡ m
  unfolding put_frame ◌and◌
  frame_outside h = rw (le-ltb _ _ h) (pick_false _ _ refl)

  pub frame_unlike : length run ≢ 512 → put_frame m f run ≡ m
  unfolding put_frame
  frame_unlike e = pick_false _ _ (and_not _ _ (ne_eqb _ _ e))

  frame_either :
      (P : List ℕ → Type 0) → (f < frame_count m → length run ≡ 512 → P (paste m (512 * f) run 512)) → P m → P (put_frame m f run)
  frame_either P changed kept =
      ⊎_elim
      (λ h. ⊎_elim (λ e. rw (frame_put h e) (changed h e)) (λ e. rw (frame_unlike e) kept) (same_or_not (length run) 512))
      (λ h. rw (frame_outside h) kept)
      (lt_or_le f (frame_count m))

  pub length_put_frame : length (put_frame m f run) ≡ length m
  length_put_frame =
      frame_either (λ n. length n ≡ length m) (λ h e. length-paste m (512 * f) run 512 (frame_whole m f h) (omega arith)) refl

  pub count_put_frame : frame_count (put_frame m f run) ≡ frame_count m
  count_put_frame = same_count (put_frame m f run) m length_put_frame

  pub framed_put_frame : is_framed (put_frame m f run) ≡ is_framed m
  framed_put_frame = same_framed (put_frame m f run) m length_put_frame

  pub word_frame_same : (i : ℕ) → f < frame_count m → length run ≡ 512 → word_in (put_frame m f run) f i ≡ get_or run i 0
  word_frame_same i h e =
      ⊎_elim
      (λ l. word_is (put_frame m f run) f i (rw count_put_frame h) l
      ∙ rw (frame_put h e) (paste_there m (512 * f) run 512 (frame_whole m f h) (omega arith) i l))
      (λ l. word_past (put_frame m f run) f i l ∙ sym (get_or_past run i 0 (omega arith)))
      (lt_or_le i 512)

  pub word_frame_other : (g i : ℕ) → g ≢ f → word_in (put_frame m f run) g i ≡ word_in m g i
  word_frame_other g i apart =
      frame_either (λ n. word_in n g i ≡ word_in m g i)
      (λ h e. unchanged (paste m (512 * f) run 512) m g i (length-paste m (512 * f) run 512 (frame_whole m f h) (omega arith))
      (λ l. ⊎_elim (λ b. paste_before m (512 * f) run 512 (frame_whole m f h) (omega arith) (512 * g + i) (omega arith))
      (λ b. paste_after m (512 * f) run 512 (frame_whole m f h) (omega arith) (512 * g + i) (omega (arith, apart)))
      (lt_or_le g f)))
      refl

-- a frame that is zeroed
pub length_zeros : length zeros ≡ 512
unfolding zeros
length_zeros = length-replicate {A = ℕ} 512 0

pub zeros_at : (i : ℕ) → get_or zeros i 0 ≡ 0
unfolding zeros
zeros_at i =
    ⊎_elim (λ l. get_or-replicate 512 i 0 0 l) (λ l. get_or_past zeros i 0 l) (lt_or_le i 512)

pub word_zeroed : (m : List ℕ) (f i : ℕ) → word_in (put_frame m f zeros) f i ≡ 0
word_zeroed m f i =
    ⊎_elim (λ h. word_frame_same m f zeros i h length_zeros ∙ zeros_at i)
    (λ h. word_outside (put_frame m f zeros) f i (rw (count_put_frame m f zeros) h))
    (lt_or_le f (frame_count m))

-- a frame that is copied to another: its words, and nothing where memory does not have it
pub word_copied : (m : List ℕ) (f g i : ℕ) → f < frame_count m → g < frame_count m → word_in (put_frame m g (frame_in m f)) g i ≡ word_in m f i
word_copied m f g i h k = word_frame_same m g (frame_in m f) i k (frame_long m f h) ∙ frame_word m f i h

pub copied_outside : (m : List ℕ) (f g : ℕ) → frame_count m ≤ f → put_frame m g (frame_in m f) ≡ m
copied_outside m f g h = frame_unlike m g (frame_in m f) (λ e. absurd (omega (arith, frame_had m f e)))

-- a frame that is lent from where its words stand, and one that comes back as `run`
module _ (m : List ℕ) (f s e : ℕ) (had : f < frame_count m) (start : s ≡ 512 * f) (end : e ≡ 512 * f + 512) where
  pub lent_frame : take (e - s) (drop s m) ≡ frame_in m f
  lent_frame =
      let all : e - s ≡ 512 = omega arith in
      rw (all, start, part_is m f had)

  pub frame_back : (run back : List ℕ) → length run ≡ 512 → back ≡ run → put_mid s (e - s) m back ≡ put_frame m f run
  frame_back run back long is =
      let all : e - s ≡ 512 = omega arith in
      put_mid-paste s (e - s) m back run 512 is (omega arith) (sym long) ∙ rw start (sym (frame_put m f run had long))

  -- 512 words laid over it
  pub frame_laid :
      (run last : List ℕ) → length run ≡ 512 → last ≡ copied (take (e - s) (drop s m)) run → put_mid s (e - s) m last ≡ put_frame m f run
  frame_laid run last long laid =
      frame_back run last long (laid ∙ rw lent_frame (copied_whole (frame_in m f) run (frame_long m f had ∙ sym long)))

-- two frames compared
module _ (m : List ℕ) (f g : ℕ) where
  pub differing_is :
      f < frame_count m → g < frame_count m → differing_in m f g ≡ differing (frame_in m f) (frame_in m g) 512
  unfolding differing_in
  differing_is = bounds_kept f (frame_count m) g (frame_count m) _ _

  pub differing_outside_one : frame_count m ≤ f → differing_in m f g ≡ 0
  unfolding differing_in
  differing_outside_one = first_not f (frame_count m) g (frame_count m) _ _

  pub differing_outside_two : frame_count m ≤ g → differing_in m f g ≡ 0
  unfolding differing_in
  differing_outside_two = second_not f (frame_count m) g (frame_count m) _ _

  -- 512 at most
  pub differing_within : differing_in m f g ≤ 512
  unfolding differing_in
  differing_within =
      bounds_either f (frame_count m) g (frame_count m) _ _ (λ (n : ℕ). n ≤ 512) (λ h k. differing_most (frame_in m f) (frame_in m g) 512)
      (omega arith)

  pub same_words : differing_in m f g ≡ 0 → f < frame_count m → g < frame_count m → (i : ℕ) → word_in m f i ≡ word_in m g i
  same_words e h k i =
      ⊎_elim
      (λ l. sym (frame_word m f i h) ∙ none_differ (frame_in m f) (frame_in m g) 512 (sym (differing_is h k) ∙ e) i l ∙ frame_word m g i k)
      (λ l. word_past m f i l ∙ sym (word_past m g i l))
      (lt_or_le i 512)

-- words put into a frame one by one, from a place on
unfoldable pub put_words : List ℕ → ℕ → ℕ → List ℕ → List ℕ
put_words m f i [] = m
put_words m f i (v ∷ rest) = put_words (put_word m f i v) f (suc i) rest

words_set :
    (m : List ℕ) (f i : ℕ) (run : List ℕ) → f < frame_count m → i + length run ≤ 512 → put_words m f i run ≡ sets m (512 * f + i) run
unfolding put_words
words_set m f i [] h fits = refl
words_set m f i (v ∷ rest) h fits =
    let next : 512 * f + suc i ≡ suc (512 * f + i) = omega arith in
    words_set (put_word m f i v) f (suc i) rest (rw (count_put_word m f i v) h) (omega arith)
    ∙ rw (next, put_is m f i v h (omega arith))

-- 512 of them are the frame put whole
pub words_are_frame : (m : List ℕ) (f : ℕ) (run : List ℕ) → f < frame_count m → length run ≡ 512 → put_words m f 0 run ≡ put_frame m f run
words_are_frame m f run h e =
    let start : 512 * f + 0 ≡ 512 * f = omega arith in
    words_set m f 0 run h (omega arith)
    ∙ rw (start, frame_put m f run h e, take_all 512 run (omega arith))
    (sets-eq run m (512 * f) (omega (arith, frame_whole m f h)) ∙ rw e)
