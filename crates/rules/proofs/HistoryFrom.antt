-- A list of calls from any sound state: places plus closings are the places at the start plus the openings, and a guest with one place at
-- an address reads there what it found or wrote. By induction on the calls, from what one call does to the places of a guest (Change).
-- Assumes nothing.
use mathlib.Core.Path.{◌≡◌, refl, sym, ap, subst, ◌∙◌}
use mathlib.Core.Bool.{true, false}
use mathlib.Core.List.{List, [], ◌∷◌, ◌++◌}
use Prim.Native.Nat.{ℕ, ◌+◌, ◌≤◌}
use native.Mathlib.Omega.{arith}
use Rattle.entries.specs.Entry.{is_address, is_guest, bit}
use Rattle.rules.specs.Answers.{Told, word}
use Rattle.rules.specs.Calls.{Call, step}
use Rattle.rules.specs.Census.{holds, holding, places}
use Rattle.rules.specs.History.{Made, history, finally, Event, opens, reads, event_of, event, is_opening, openings, closings}
use Rattle.rules.specs.History.{written, last_write}
use Rattle.rules.specs.State.{State, word_at}
use Rattle.rules.proofs.AccessChanges.{ReadPlace}
use Rattle.rules.proofs.CensusLaws.{no_place}
use Rattle.rules.proofs.Changes.{Whence, old, new, Change}
use Rattle.rules.proofs.HistoryLists.{opens_here, only_opening, one_event, Cut, cut}
use Rattle.rules.proofs.PlaceLaws.{place_counts, one_place}
use Rattle.rules.proofs.Sound.{Sound}
use Rattle.rules.proofs.SoundSteps.{step_sound}
use Rattle.rules.proofs.StateLaws.{SameSize, size_refl, size_trans}
use Rattle.rules.proofs.StepChanges.{step_change, read_place}
use Rattle.rules.proofs.Steps.{step_size}

-- ---- what a guest's only place at an address holds
pub record Kept (s : State) (guest gpa : ℕ) (w : ℕ → ℕ) : Type 0 where
  pub single : places s guest gpa ≤ 1
  pub words : (f i : ℕ) → holding s guest f ≡ holds gpa → word_at s f i ≡ w i

-- a place that stands
pub kept_standing :
    (s : State) (guest gpa frame : ℕ) → places s guest gpa ≤ 1 → holding s guest frame ≡ holds gpa
    → Kept s guest gpa (λ i. word_at s frame i)
kept_standing s guest gpa frame most here =
    record { single = most; words = λ f i h. rw (one_place s guest gpa f frame most h here) refl }

module _ {s u : State} {guest : ℕ} (gpa : ℕ) where
  -- a place that is opened, where there was none
  pub kept_opened :
      (frame : ℕ) → Change s u (opens guest gpa frame) guest → places s guest gpa ≡ 0 → Kept u guest gpa (λ i. word_at s frame i)
  kept_opened frame change vacant =
      record { single = omega (arith, change.balance gpa, opens_here guest gpa frame); words = found }
    where
      go : (f i : ℕ) → Whence s u (opens guest gpa frame) guest gpa f → word_at u f i ≡ word_at s frame i
      go f i (old p h same) = let z : ⊥ = omega (arith, place_counts s guest gpa p h) in absurd z
      go f i (new at e same) = cc (same i)

      found : (f i : ℕ) → holding u guest f ≡ holds gpa → word_at u f i ≡ word_at s frame i
      found f i h = go f i (change.whence gpa f (omega arith) h)

  -- a call that opens none here: the place holds what the call wrote, or what it held
  pub kept_beyond :
      {e : Event} {w : ℕ → ℕ} → Change s u e guest → bit (is_opening e guest gpa) ≡ 0 → Kept s guest gpa w
      → Kept u guest gpa (λ i. written e guest gpa i (w i))
  kept_beyond {e} {w} change none kept =
      record { single = omega (arith, change.balance gpa, none, kept.single); words = found }
    where
      go : (f i : ℕ) → Whence s u e guest gpa f → word_at u f i ≡ written e guest gpa i (w i)
      go f i (old p h same) = rw (← kept.words p i h) (same i)
      go f i (new frame here same) = let z : ⊥ = omega (arith, opens_here guest gpa frame, rw here at none) in absurd z

      found : (f i : ℕ) → holding u guest f ≡ holds gpa → word_at u f i ≡ written e guest gpa i (w i)
      found f i h = go f i (change.whence gpa f kept.single h)

-- ---- a read in a list of calls: the calls before it, and the place that it read from
record ReadIn (s : State) (past : List Made) (guest gpa index : ℕ) (told : Told) : Type 0 where
  earlier : List Call
  past_is : past ≡ history s earlier
  from : ReadPlace (finally s earlier) guest gpa index told

-- ---- what holds of a list of calls from a sound state
pub record RunsOn (s : State) (calls : List Call) : Type 0 where
  pub counted :
      (guest gpa : ℕ) → is_guest guest ≡ true
      → places (finally s calls) guest gpa + closings (history s calls) guest gpa
      ≡ places s guest gpa + openings (history s calls) guest gpa
  pub opened_before :
      (past rest : List Made) (read : Made) (guest gpa index : ℕ)
      → history s calls ≡ past ++ (read ∷ rest) → event read ≡ reads guest gpa index
      → 1 ≤ places s guest gpa + openings past guest gpa
  -- since an opening in the list
  pub kept :
      (past since rest : List Made) (opening read : Made) (guest gpa frame index : ℕ)
      → history s calls ≡ past ++ (opening ∷ (since ++ (read ∷ rest)))
      → event opening ≡ opens guest gpa frame → event read ≡ reads guest gpa index
      → places s guest gpa + openings (past ++ (opening ∷ since)) guest gpa ≤ 1
      → read.told ≡ word (last_write since guest gpa index (word_at opening.got frame index))
  -- of a place that stands at the start
  pub kept_since_start :
      (past rest : List Made) (read : Made) (guest gpa frame index : ℕ)
      → history s calls ≡ past ++ (read ∷ rest) → holding s guest frame ≡ holds gpa → event read ≡ reads guest gpa index
      → places s guest gpa + openings past guest gpa ≤ 1
      → read.told ≡ word (last_write past guest gpa index (word_at s frame index))

pub finally_sound : (s : State) (calls : List Call) → Sound s → Sound (finally s calls)
unfolding finally
finally_sound s [] sound = sound
finally_sound s (call ∷ rest) sound = finally_sound (step s call).after rest (step_sound s call sound)

-- no call of a list changes a size
pub finally_size : (s : State) (calls : List Call) → SameSize s (finally s calls)
unfolding finally
finally_size s [] = size_refl s
finally_size s (call ∷ rest) = size_trans (step_size s call) (finally_size (step s call).after rest)

-- ---- counts
pub places_over :
    (s : State) (calls : List Call) (guest gpa : ℕ) → Sound s → is_guest guest ≡ true
    → places (finally s calls) guest gpa + closings (history s calls) guest gpa
    ≡ places s guest gpa + openings (history s calls) guest gpa
unfolding finally history openings closings event
places_over s [] guest gpa sound g = refl
places_over s (call ∷ rest) guest gpa sound g =
    let then = places_over (step s call).after rest guest gpa (step_sound s call sound) g in
    omega (arith, (step_change s guest call sound g).balance gpa)

-- at what is no address nothing opens or closes: there is no place there before a call, nor after it
pub none_there :
    (s : State) (calls : List Call) (guest gpa : ℕ) → Sound s → is_guest guest ≡ true → is_address gpa ≡ false
    → (closings (history s calls) guest gpa ≡ 0) × (openings (history s calls) guest gpa ≡ 0)
unfolding history closings openings event
none_there s [] guest gpa sound g none = (refl, refl)
none_there s (call ∷ rest) guest gpa sound g none =
    let after = (step s call).after in
    let then = none_there after rest guest gpa (step_sound s call sound) g none in
    let balance = (step_change s guest call sound g).balance gpa in
    omega (arith, balance, one_event (event_of call (step s call).told) guest gpa, no_place s guest gpa none, no_place after guest gpa none)

-- ---- words: where no call of the list opens the address
pub kept_over :
    (s : State) (calls : List Call) (guest gpa : ℕ) (w : ℕ → ℕ) → Sound s → is_guest guest ≡ true
    → openings (history s calls) guest gpa ≡ 0 → Kept s guest gpa w
    → Kept (finally s calls) guest gpa (λ i. last_write (history s calls) guest gpa i (w i))
unfolding finally history openings last_write event
kept_over s [] guest gpa w sound g none kept = kept
kept_over s (call ∷ rest) guest gpa w sound g none kept =
    kept_over (step s call).after rest guest gpa _ (step_sound s call sound) g (omega arith)
    (kept_beyond gpa (step_change s guest call sound g) (omega arith) kept)

-- ---- a read in a list
read_in :
    (s : State) (calls : List Call) (past rest : List Made) (read : Made) (guest gpa index : ℕ)
    → history s calls ≡ past ++ (read ∷ rest) → event read ≡ reads guest gpa index → ReadIn s past guest gpa index read.told
unfolding event
read_in s calls past rest read guest gpa index whole e =
    let c = cut s calls past read rest whole in
    let found = read_place (finally s c.earlier) c.this guest gpa index (rw c.this_is at e) in
    record {
      earlier = c.earlier;
      past_is = c.past_is;
      from = subst (ReadPlace _ guest gpa index) (sym (ap (λ m. m.told) c.this_is)) found;
    }

module _ {s : State} {past : List Made} {guest gpa index : ℕ} {told : Told} (sound : Sound s) (r : ReadIn s past guest gpa index told) where
  -- there is a place to read from, so there was one at the start or an opening since
  read_somewhere : 1 ≤ places s guest gpa + openings past guest gpa
  read_somewhere =
      let some = place_counts (finally s r.earlier) guest gpa r.from.frame r.from.place in
      rw r.past_is (omega (arith, places_over s r.earlier guest gpa sound r.from.range))

  -- it is the only one still, and holds what was written last
  read_kept :
      (w : ℕ → ℕ) → openings past guest gpa ≡ 0 → Kept s guest gpa w → told ≡ word (last_write past guest gpa index (w index))
  read_kept w none kept =
      let then = kept_over s r.earlier guest gpa w sound r.from.range (rw r.past_is at none) kept in
      rw r.past_is (r.from.answer ∙ ap word (then.words r.from.frame index r.from.place))

-- a read after an opening, at an address that has no more than one place or opening until then
read_since :
    {s : State} {past since tail : List Made} {opening : Made} {guest gpa index : ℕ} {told : Told} (frame : ℕ) → Sound s
    → (c : Cut s past opening tail) → ReadIn (step (finally s c.earlier) c.this).after since guest gpa index told
    → event opening ≡ opens guest gpa frame → places s guest gpa + openings (past ++ (opening ∷ since)) guest gpa ≤ 1
    → told ≡ word (last_write since guest gpa index (word_at opening.got frame index))
unfolding event
read_since {s} {past} {since} {tail} {opening} {guest} {gpa} frame sound c r e most =
    let before = finally s c.earlier in
    let sound_before = finally_sound s c.earlier sound in
    let only = only_opening past since opening guest gpa frame (places s guest gpa) e most in
    let none = rw c.past_is at only.1 in
    let balance = places_over s c.earlier guest gpa sound r.from.range in
    let vacant : places before guest gpa ≡ 0 = omega (arith, only.0) in
    let change = rw (rw c.this_is at e) at (step_change before guest c.this sound_before r.from.range) in
    rw c.this_is (read_kept (step_sound before c.this sound_before) r _ only.2 (kept_opened gpa frame change vacant))

pub runs_on : (s : State) (calls : List Call) → Sound s → RunsOn s calls
runs_on s calls sound =
    record {
      counted = λ guest gpa g. places_over s calls guest gpa sound g;
      opened_before = λ past rest read guest gpa index whole e.
          read_somewhere sound (read_in s calls past rest read guest gpa index whole e);
      kept = λ past since rest opening read guest gpa frame index whole o e most.
          let c = cut s calls past opening (since ++ (read ∷ rest)) whole in
          let r = read_in _ c.later since rest read guest gpa index (sym c.rest_is) e in
          read_since frame sound c r o most;
      kept_since_start = λ past rest read guest gpa frame index whole here e most.
          let some = place_counts s guest gpa frame here in
          read_kept sound (read_in s calls past rest read guest gpa index whole e) _ (omega arith)
          (kept_standing s guest gpa frame (omega arith) here);
    }
