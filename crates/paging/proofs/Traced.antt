-- A walk and the frames that it meets. Where it reaches something, none of them is bad. Where it stops, it does so by a check of its own,
-- or because a read was refused, and then the refusal has its cause in the frames.
-- Assumes nothing.
use mathlib.Core.Path.{◌≡◌, refl, ◌∙◌}
use mathlib.Core.Bool.{Bool, true, false}
use mathlib.Core.List.{List, [], ◌∷◌, ◌++◌}
use Prim.Native.Nat.{ℕ, zero, suc}
use Rattle.words.specs.Choice.{pick}
use Rattle.entries.specs.Entry.{frame_of, reason_of}
use Rattle.rules.specs.Access.{reading, access, read}
use Rattle.rules.specs.Answers.{refused, grant, done, settle}
use Rattle.rules.specs.Calls.{READ, step}
use Rattle.rules.specs.Reasons.{frames_of, first_reason}
use Rattle.rules.specs.Refusals.{Refusal, alone}
use Rattle.rules.specs.State.{State, entry_at}
use Rattle.rules.proofs.Cause.{bad_entry, broken_leaf, ordinary, Cause, plain, fault, more_frames}
use Rattle.rules.proofs.FirstReason.{none_before}
use Rattle.rules.proofs.Settled.{Settled, passes, refuses, Sane, access_settled}
use Rattle.rules.proofs.Steps.{refused_why}
use Rattle.paging.specs.Entry.{index_at}
use Rattle.paging.specs.Met.{beyond, walk_met, table_met, host_met, guest_met, frames_met}
use Rattle.paging.specs.Walk.{Walked, reaches, stops, onward, provided, Pointer, follow, down, walk, let_through, look, host_reads}
use Rattle.paging.specs.Walk.{at_last, host_walk, host_half, guest_reads, always, Virtual, guest_walk, walked, translated}

pub data Traced (s : State) (frames : List ℕ) {A : Type 0} : Walked A → Type 0 where
  clear : {found : A} → first_reason s frames ≡ 0 → Traced s frames (reaches found)
  caused : {r : Refusal} → Cause s frames r → Traced s frames (stops r)

-- a check of the walk's own: its number comes alone, and is neither 5 nor 12
data Own {A : Type 0} : Walked A → Type 0 where
  goes : {found : A} → Own (reaches found)
  refuses_own : {n : ℕ} → ordinary n ≡ true → Own (stops (alone n))

own_check : {A : Type 0} (n : ℕ) (t : Bool) (w : Walked A) → ordinary n ≡ true → Own w → Own (provided t (alone n) w)
unfolding provided pick
own_check n true w o own = own
own_check n false w o own = refuses_own o

follow_own : (level : ℕ) (leaf_refused : Bool) (w : ℕ) → Own (follow level leaf_refused w)
unfolding follow
follow_own level leaf_refused w = own_check 18 _ _ refl (own_check 19 _ _ refl (own_check 6 _ _ refl goes))

module _ (s : State) where
  -- ---- frames before, where none is bad, and after
  pub cause_before :
      {frames : List ℕ} (before : List ℕ) {r : Refusal} → first_reason s before ≡ 0 → Cause s frames r → Cause s (before ++ frames) r
  cause_before before none (plain o) = plain o
  cause_before before none (fault (bad_entry f reason inside here first)) =
      fault (bad_entry f reason inside here (none_before s before _ none ∙ first))
  cause_before before none (fault (broken_leaf f e index here fixed word)) = fault (broken_leaf f e index here fixed word)

  pub cause_after : {frames : List ℕ} (after : List ℕ) {r : Refusal} → Cause s frames r → Cause s (frames ++ after) r
  cause_after after (plain o) = plain o
  cause_after {frames} after (fault f) = fault (more_frames s frames after f)

  traced_before :
      {A : Type 0} {frames : List ℕ} {w : Walked A} (before : List ℕ) → first_reason s before ≡ 0 → Traced s frames w
      → Traced s (before ++ frames) w
  traced_before before none (clear later) = clear (none_before s before _ none ∙ later)
  traced_before before none (caused why) = caused (cause_before before none why)

  by_own : {B : Type 0} {frames : List ℕ} {w : Walked B} → first_reason s frames ≡ 0 → Own w → Traced s frames w
  by_own none goes = clear none
  by_own none (refuses_own o) = caused (plain o)

  -- ---- a walk that goes on: past frames that it meets, or past a check of its own
  module _ {A B : Type 0} {frames : List ℕ} where
    traced_onward :
        {w : Walked A} (more : A → List ℕ) (rest : A → Walked B) → Traced s frames w → ((found : A) → Traced s (more found) (rest found))
        → Traced s (frames ++ beyond w more) (onward w rest)
    unfolding beyond onward
    traced_onward more rest (clear {found} none) on = traced_before frames none (on found)
    traced_onward more rest (caused why) on = caused (cause_after [] why)

    traced_own :
        {w : Walked A} (rest : A → Walked B) → Traced s frames w → ((found : A) → Own (rest found)) → Traced s frames (onward w rest)
    unfolding onward
    traced_own rest (clear {found} none) own = by_own none (own found)
    traced_own rest (caused why) own = caused why

  traced_check :
      {B : Type 0} {frames : List ℕ} {w : Walked B} (n : ℕ) (t : Bool) → ordinary n ≡ true → Traced s frames w
      → Traced s frames (provided t (alone n) w)
  unfolding provided pick
  traced_check n true o traced = traced
  traced_check n false o traced = caused (plain o)

  -- where nothing is met unless the check passes
  traced_past :
      {A : Type 0} {w : Walked A} (n : ℕ) (t : Bool) (frames : List ℕ) → ordinary n ≡ true → Traced s frames w
      → Traced s (pick t frames []) (provided t (alone n) w)
  unfolding provided pick
  traced_past n true frames o traced = traced
  traced_past n false frames o traced = caused (plain o)

  -- ---- the reading of an entry
  sane_frame : (f : ℕ) → reason_of (entry_at s f) ≡ 0 → first_reason s (f ∷ []) ≡ 0
  unfolding first_reason pick
  sane_frame f none = rw none

  look_by :
      (caller gpa hpa gtype ntype index : ℕ) → Settled (Sane s (frame_of hpa)) (access s reading caller gpa hpa gtype ntype index)
      → Traced s (frame_of hpa ∷ []) (look s caller gpa hpa gtype ntype index)
  unfolding look let_through frames_of read settle step
  look_by caller gpa hpa gtype ntype index (passes sane through) = rw (through (grant done s)) (clear (sane_frame _ sane.1))
  look_by caller gpa hpa gtype ntype index (refuses r stopped) =
      let told : (read s caller gpa hpa gtype ntype index).told ≡ refused r = rw (stopped _) in
      rw (stopped (grant done s)) (caused (refused_why s (READ caller gpa hpa gtype ntype index) r told))

  look_traced : (caller gpa hpa gtype ntype index : ℕ) → Traced s (frame_of hpa ∷ []) (look s caller gpa hpa gtype ntype index)
  look_traced caller gpa hpa gtype ntype index =
      look_by caller gpa hpa gtype ntype index (access_settled s reading caller gpa hpa gtype ntype index)

  -- ---- a walk
  module _ (reads : Pointer → ℕ → Walked ℕ) (leaf_refused : ℕ → Bool) (met : Pointer → List ℕ)
      (traced : (from : Pointer) (index : ℕ) → Traced s (met from) (reads from index)) where
    down_traced : (level index : ℕ) (from : Pointer) → Traced s (met from) (down reads leaf_refused level index from)
    unfolding down
    down_traced level index from = traced_own _ (traced from index) (λ w. follow_own level (leaf_refused level) w)

    walk_traced :
        (level page : ℕ) (from : Pointer)
        → Traced s (walk_met reads leaf_refused met level page from) (walk reads leaf_refused level page from)
    unfolding walk walk_met first_reason
    walk_traced zero page from = clear refl
    walk_traced (suc level) page from = traced_onward _ _ (down_traced level (index_at level page) from) (walk_traced level page)

  host_reads_traced : (from : Pointer) (index : ℕ) → Traced s (table_met from) (host_reads s from index)
  unfolding table_met host_reads
  host_reads_traced from index = look_traced 0 0 _ _ _ index

  module _ (host_root : ℕ) where
    host_traced : (gpa : ℕ) → Traced s (host_met s host_root gpa) (host_half s host_root gpa)
    unfolding host_met host_half host_walk
    host_traced gpa = traced_past 2 _ _ refl (walk_traced (host_reads s) at_last table_met host_reads_traced 4 _ _)

    guest_traced : (caller : ℕ) (from : Pointer) (index : ℕ) → Traced s (guest_met s host_root from) (guest_reads s caller host_root from index)
    unfolding guest_met guest_reads table_met
    guest_traced caller from index =
        traced_onward table_met _ (host_traced from.address) (λ at. look_traced caller _ _ _ _ index)

  walked_traced : (at : Virtual) → Traced s (frames_met s at) (walked s at)
  unfolding frames_met walked guest_walk
  walked_traced at =
      traced_onward _ _
      (walk_traced (guest_reads s at.caller at.host_root) always (guest_met s at.host_root)
      (guest_traced at.host_root at.caller) 4 _ _)
      (λ page. traced_own _ (host_traced at.host_root page.address) (λ frame. goes))

  pub translated_traced : (at : Virtual) (fits : Bool) → Traced s (frames_met s at) (translated s at fits)
  unfolding translated
  translated_traced at fits = traced_check 1 _ refl (traced_check 2 _ refl (traced_check 3 _ refl (walked_traced at)))
