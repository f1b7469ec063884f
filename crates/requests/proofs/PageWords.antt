-- A page that is read is what 512 READs answer, and a page that is written is what 512 WRITEs leave: the checks are those of a SHARED
-- access, which every word of the frame passes or none does, and 512 words put one by one are the frame put whole.
-- Assumes nothing.
use mathlib.Core.Path.{◌≡◌, refl, sym, ap, ◌∙◌}
use mathlib.Core.Bool.{Bool, true, false, false≢true}
use mathlib.Core.List.{List, [], ◌∷◌, ◌++◌}
use Prim.Native.Nat.{ℕ, suc, ◌+◌, ◌≤◌, ◌<◌}
use native.Mathlib.Omega.{arith}
use lib.ListN.{length}
use borrow.Author.Tests.{eq-eqb, ne_eqb}
use Rattle.words.specs.Choice.{pick}
use Rattle.entries.specs.Entry.{SHARED, frame_of}
use Rattle.rules.specs.Access.{read, write}
use Rattle.rules.specs.Answers.{Told, refused, done, word, Outcome, outcome, Verdict, refuse, grant, settle, unless}
use Rattle.rules.specs.Calls.{WRITE, step}
use Rattle.rules.specs.History.{Made, made, history, finally}
use Rattle.rules.specs.Refusals.{Refusal, GEOMETRY, ARGUMENT}
use Rattle.rules.specs.State.{State, sized, word_at, with_word, with_frame}
use Rattle.rules.proofs.Chain.{check_passed, check_failed}
use Rattle.rules.proofs.Settled.{Settled, passes, refuses, Sane}
use Rattle.rules.proofs.StateLaws.{frame_has, with_words, frame_by_words, size_word, entry_after_word}
use Rattle.requests.specs.Pages.{shared_access, readable, handed, page_read, page_check, page_write}
use Rattle.requests.specs.PageWords.{PageIsReads, whole, empty, PageReadIsReads, writes, PageIsWrites, PageWriteIsWrites}
use Rattle.requests.specs.PageWords.{UnfitIsArgument}
use Rattle.requests.proofs.Shared.{shared, access_shared, shared_settled, shared_same, sized_again}

module _ (caller gpa hpa : ℕ) where
  -- ---- a reading
  module _ (s : State) where
    readable_is : readable s caller gpa hpa ≡ shared s caller gpa hpa (grant done s)
    unfolding readable shared_access
    readable_is = access_shared s _ caller gpa hpa 0 _ (omega arith)

    read_is :
        (i : ℕ) → i < 512
        → read s caller gpa hpa SHARED SHARED i ≡ settle s (shared s caller gpa hpa (grant (word (word_at s (frame_of hpa) i)) s))
    unfolding read
    read_is i h = ap (settle s) (access_shared s _ caller gpa hpa i _ h)

    read_by : Settled (Sane s (frame_of hpa)) (shared s caller gpa hpa) → PageIsReads s caller gpa hpa
    unfolding page_check page_read handed settle
    read_by (passes sane through) =
        let frame = frame_has s (frame_of hpa) sane.0 in
        whole (rw (readable_is, through _)) (rw (readable_is, through _) frame.0)
        (λ i h. read_is i h ∙ rw (readable_is, through (grant done s), through _, frame.1 i))
    read_by (refuses r stops) =
        empty r (rw (readable_is, stops _)) (rw (readable_is, stops _)) (λ i h. read_is i h ∙ rw (stops _))

  -- ---- a writing
  write_is :
      (s : State) (i value : ℕ) → i < 512
      → step s (WRITE caller gpa hpa SHARED SHARED i value)
      ≡ settle s (shared s caller gpa hpa (grant done (with_word s (frame_of hpa) i value)))
  unfolding step write
  write_is s i value h = ap (settle s) (access_shared s _ caller gpa hpa i _ h)

  page_write_is :
      (s : State) (words : List ℕ) → length words ≡ 512
      → page_write s caller gpa hpa words ≡ settle s (shared s caller gpa hpa (grant done (with_frame s (frame_of hpa) words)))
  unfolding page_write shared_access
  page_write_is s words e =
      ap (settle s)
      (rw (access_shared s _ caller gpa hpa 0 _ (omega arith), check_passed ARGUMENT _ (eq-eqb _ _ e)) (sized_again s caller gpa hpa _))

  -- the WRITEs of a run, from the word i on: where an access to the frame passes, each is done, and where it is refused, each is refused
  Through : State → Type 0
  Through s = (v : Verdict) → shared s caller gpa hpa v ≡ v

  write_through :
      (s : State) (i value : ℕ) → Through s → i < 512
      → step s (WRITE caller gpa hpa SHARED SHARED i value) ≡ outcome done (with_word s (frame_of hpa) i value)
  unfolding Through settle
  write_through s i value through h = write_is s i value h ∙ rw (through _)

  still_through : (s : State) (i value : ℕ) → Through s → Through (with_word s (frame_of hpa) i value)
  unfolding Through
  still_through s i value through v =
      shared_same caller gpa hpa v (size_word s (frame_of hpa) i value) (entry_after_word s (frame_of hpa) i value) ∙ through v

  writes_leave :
      (s : State) (i : ℕ) (words : List ℕ) → Through s → i + length words ≤ 512
      → finally s (writes caller gpa hpa i words) ≡ with_words s (frame_of hpa) i words
  unfolding finally writes with_words
  writes_leave s i [] through fits = refl
  writes_leave s i (value ∷ rest) through fits =
      ap (λ (o : Outcome). finally o.after (writes caller gpa hpa (suc i) rest)) (write_through s i value through (omega arith))
      ∙ writes_leave (with_word s (frame_of hpa) i value) (suc i) rest (still_through s i value through) (omega arith)

  write_stopped :
      (s : State) (i value : ℕ) (r : Refusal) → ((v : Verdict) → shared s caller gpa hpa v ≡ refuse r) → i < 512
      → step s (WRITE caller gpa hpa SHARED SHARED i value) ≡ outcome (refused r) s
  unfolding settle
  write_stopped s i value r stops h = write_is s i value h ∙ rw (stops _)

  writes_stopped :
      (s : State) (i : ℕ) (words : List ℕ) (r : Refusal) → ((v : Verdict) → shared s caller gpa hpa v ≡ refuse r) → i + length words ≤ 512
      → finally s (writes caller gpa hpa i words) ≡ s
  unfolding finally writes
  writes_stopped s i [] r stops fits = refl
  writes_stopped s i (value ∷ rest) r stops fits =
      ap (λ (o : Outcome). finally o.after (writes caller gpa hpa (suc i) rest)) (write_stopped s i value r stops (omega arith))
      ∙ writes_stopped s (suc i) rest r stops (omega arith)

  -- each of them is answered the same
  module _ (P : State → Type 0) (t : Told)
      (same : (s : State) (i value : ℕ) → P s → i < 512 → ((step s (WRITE caller gpa hpa SHARED SHARED i value)).told ≡ t)
      × P (step s (WRITE caller gpa hpa SHARED SHARED i value)).after) where
    each_answered :
        (s : State) (i : ℕ) (words : List ℕ) (past rest : List Made) (m : Made) → P s → i + length words ≤ 512
        → history s (writes caller gpa hpa i words) ≡ past ++ (m ∷ rest) → m.told ≡ t
    unfolding history writes
    each_answered s i [] [] rest m p fits e = absurd (false≢true (cc))
    each_answered s i [] (first ∷ past) rest m p fits e = absurd (false≢true (cc))
    each_answered s i (value ∷ words) [] rest m p fits e =
        let this : made (WRITE caller gpa hpa SHARED SHARED i value) s (step s (WRITE caller gpa hpa SHARED SHARED i value)) ≡ m = cc in
        sym (ap (λ n. n.told) this) ∙ (same s i value p (omega arith)).0
    each_answered s i (value ∷ words) (first ∷ past) rest m p fits e =
        each_answered (step s (WRITE caller gpa hpa SHARED SHARED i value)).after (suc i) words past rest m (same s i value p (omega arith)).1 (omega arith) (cc)

  written_by :
      (s : State) (words : List ℕ) → length words ≡ 512 → Settled (Sane s (frame_of hpa)) (shared s caller gpa hpa)
      → PageIsWrites s caller gpa hpa words
  unfolding settle Through
  written_by s words e (passes sane through) =
      let written : page_write s caller gpa hpa words ≡ outcome done (with_frame s (frame_of hpa) words) =
      page_write_is s words e ∙ rw (through _) in
      record {
        leaves = ap (λ o. o.after) written
            ∙ sym (writes_leave s 0 words through (omega arith) ∙ frame_by_words s (frame_of hpa) words sane.0 e);
        answers = λ past rest m h.
            each_answered Through done
            (λ u i value p l. let w = write_through u i value p l in (ap (λ o. o.told) w, rw w (still_through u i value p)))
            s 0 words past rest m through (omega arith) h
            ∙ sym (ap (λ o. o.told) written);
      }
  written_by s words e (refuses r stops) =
      let written : page_write s caller gpa hpa words ≡ outcome (refused r) s = page_write_is s words e ∙ rw (stops _) in
      record {
        leaves = ap (λ o. o.after) written ∙ sym (writes_stopped s 0 words r stops (omega arith));
        answers = λ past rest m h.
            each_answered (λ u. u ≡ s) (refused r)
            (λ u i value p l. let w = write_stopped s i value r stops l in rw p (ap (λ o. o.told) w, ap (λ o. o.after) w))
            s 0 words past rest m refl (omega arith) h
            ∙ sym (ap (λ o. o.told) written);
      }

pub page_read_is_reads : PageReadIsReads
page_read_is_reads s caller gpa hpa = read_by caller gpa hpa s (shared_settled s caller gpa hpa)

pub page_write_is_writes : PageWriteIsWrites
page_write_is_writes s caller gpa hpa words e = written_by caller gpa hpa s words e (shared_settled s caller gpa hpa)

-- ---- a run of another length
stopped : (s : State) (t : Bool) → settle s (unless t GEOMETRY (refuse ARGUMENT)) ≡ outcome (refused (pick t ARGUMENT GEOMETRY)) s
unfolding settle unless pick
stopped s true = refl
stopped s false = refl

pub unfit_is_argument : UnfitIsArgument
unfolding page_write
unfit_is_argument s caller gpa hpa words e = rw (check_failed ARGUMENT _ (ne_eqb _ _ e)) (stopped s (sized s))
