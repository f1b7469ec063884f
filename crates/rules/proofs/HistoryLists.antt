-- Lists of calls as they were made: their openings counted and found, one list after another, and a list that is cut at one of its calls,
-- which got what the calls before it left. By induction on the calls.
-- Assumes nothing.
use mathlib.Core.Path.{◌≡◌, refl, ap}
use mathlib.Core.Bool.{Bool, true, false, false≢true}
use mathlib.Core.List.{List, [], ◌∷◌, ◌++◌}
use mathlib.Core.Logic.{⊎_elim}
use Prim.Native.Nat.{ℕ, ◌+◌, ◌≤◌}
use native.Mathlib.Omega.{arith}
use borrow.Author.Tests.{eqb-true, eq-eqb}
use Rattle.words.specs.Choice.{pick, ◌and◌}
use Rattle.words.proofs.ChoiceLaws.{true_or_false, pick_false, and_left, and_right}
use Rattle.entries.specs.Entry.{bit}
use Rattle.rules.specs.Calls.{Call, step}
use Rattle.rules.specs.History.{Made, made, history, finally, Event, opens, closes, reads, writes, no_event, event}
use Rattle.rules.specs.History.{is_opening, is_closing, openings, closings}
use Rattle.rules.specs.State.{State}

-- ---- counts
pub openings_append :
    (past rest : List Made) (guest gpa : ℕ) → openings (past ++ rest) guest gpa ≡ openings past guest gpa + openings rest guest gpa
unfolding openings
openings_append [] rest guest gpa = omega arith
openings_append (m ∷ past) rest guest gpa = let tail = openings_append past rest guest gpa in omega arith

pub closings_append :
    (past rest : List Made) (guest gpa : ℕ) → closings (past ++ rest) guest gpa ≡ closings past guest gpa + closings rest guest gpa
unfolding closings
closings_append [] rest guest gpa = omega arith
closings_append (m ∷ past) rest guest gpa = let tail = closings_append past rest guest gpa in omega arith

-- an event counts at most one, and an opening one
pub bit_most : (b : Bool) → bit b ≤ 1
unfolding bit pick
bit_most true = omega arith
bit_most false = omega arith

pub opens_here : (guest gpa frame : ℕ) → bit (is_opening (opens guest gpa frame) guest gpa) ≡ 1
unfolding is_opening bit pick ◌and◌
opens_here guest gpa frame = rw (eq-eqb guest guest refl, eq-eqb gpa gpa refl)

-- no event is both an opening and a closing
pub one_event : (e : Event) (guest gpa : ℕ) → bit (is_opening e guest gpa) + bit (is_closing e guest gpa) ≤ 1
unfolding is_opening is_closing bit pick
one_event (opens who at frame) guest gpa = omega (arith, bit_most (is_opening (opens who at frame) guest gpa))
one_event (closes who at) guest gpa = omega (arith, bit_most (is_closing (closes who at) guest gpa))
one_event (reads who at index) guest gpa = omega arith
one_event (writes who at index value) guest gpa = omega arith
one_event no_event guest gpa = omega arith

-- where some places and the openings of a list are no more than one, an opening in it is the only one, and there are no places
pub only_opening :
    (past since : List Made) (m : Made) (guest gpa frame places : ℕ) → event m ≡ opens guest gpa frame
    → places + openings (past ++ (m ∷ since)) guest gpa ≤ 1
    → (places ≡ 0) × (openings past guest gpa ≡ 0) × (openings since guest gpa ≡ 0)
unfolding openings
only_opening past since m guest gpa frame places e most =
    let both = openings_append past (m ∷ since) guest gpa in
    let one = rw (← e) at (opens_here guest gpa frame) in
    omega arith

-- ---- an opening of a guest at an address, in a list that counts one
pub record Opened (past : List Made) (guest gpa : ℕ) : Type 0 where
  pub earlier : List Made
  pub opening : Made
  pub since : List Made
  pub frame : ℕ
  pub past_is : past ≡ earlier ++ (opening ∷ since)
  pub opens_it : event opening ≡ opens guest gpa frame

is_opening_lem : (e : Event) (guest gpa : ℕ) → is_opening e guest gpa ≡ true → (frame : ℕ) × (e ≡ opens guest gpa frame)
unfolding is_opening
is_opening_lem (opens who at frame) guest gpa h =
    (frame, rw (eqb-true who guest (and_left _ _ h), eqb-true at gpa (and_right _ _ h)))
is_opening_lem (closes who at) guest gpa h = absurd (false≢true h)
is_opening_lem (reads who at index) guest gpa h = absurd (false≢true h)
is_opening_lem (writes who at index value) guest gpa h = absurd (false≢true h)
is_opening_lem no_event guest gpa h = absurd (false≢true h)

uncounted : {t : Bool} → t ≡ false → bit t ≡ 0
unfolding bit
uncounted h = pick_false _ _ h

opened_first : (m : Made) (rest : List Made) (guest gpa : ℕ) → is_opening (event m) guest gpa ≡ true → Opened (m ∷ rest) guest gpa
opened_first m rest guest gpa h =
    let o = is_opening_lem (event m) guest gpa h in
    record { earlier = []; opening = m; since = rest; frame = o.0; past_is = refl; opens_it = o.1 }

opened_later : (m : Made) {rest : List Made} {guest gpa : ℕ} → Opened rest guest gpa → Opened (m ∷ rest) guest gpa
opened_later m o =
    record {
      earlier = m ∷ o.earlier;
      opening = o.opening;
      since = o.since;
      frame = o.frame;
      past_is = ap (λ l. m ∷ l) o.past_is;
      opens_it = o.opens_it;
    }

pub opening_there : (past : List Made) (guest gpa : ℕ) → 1 ≤ openings past guest gpa → Opened past guest gpa
unfolding openings
opening_there [] guest gpa some = let z : ⊥ = omega arith in absurd z
opening_there (m ∷ rest) guest gpa some =
    ⊎_elim (opened_first m rest guest gpa)
    (λ h. opened_later m (opening_there rest guest gpa (omega (arith, uncounted h))))
    (true_or_false (is_opening (event m) guest gpa))

-- ---- one list after another
pub history_append : (s : State) (a b : List Call) → history s (a ++ b) ≡ history s a ++ history (finally s a) b
unfolding history finally
history_append s [] b = refl
history_append s (call ∷ a) b = ap (λ l. made call s (step s call) ∷ l) (history_append (step s call).after a b)

pub finally_append : (s : State) (a b : List Call) → finally s (a ++ b) ≡ finally (finally s a) b
unfolding finally
finally_append s [] b = refl
finally_append s (call ∷ a) b = finally_append (step s call).after a b

-- ---- a list cut at one of its calls
pub record Cut (s : State) (past : List Made) (m : Made) (rest : List Made) : Type 0 where
  pub earlier : List Call
  pub this : Call
  pub later : List Call
  pub past_is : past ≡ history s earlier
  pub this_is : m ≡ made this (finally s earlier) (step (finally s earlier) this)
  pub rest_is : rest ≡ history (step (finally s earlier) this).after later

pub cut :
    (s : State) (calls : List Call) (past : List Made) (m : Made) (rest : List Made)
    → history s calls ≡ past ++ (m ∷ rest) → Cut s past m rest
unfolding history finally
cut s [] [] m rest e = absurd (false≢true (cc))
cut s [] (first ∷ past) m rest e = absurd (false≢true (cc))
cut s (call ∷ calls) [] m rest e =
    record { earlier = []; this = call; later = calls; past_is = refl; this_is = cc; rest_is = cc }
cut s (call ∷ calls) (first ∷ past) m rest e =
    let c = cut (step s call).after calls past m rest (cc) in
    let same : made call s (step s call) ≡ first = cc in
    record {
      earlier = call ∷ c.earlier;
      this = c.this;
      later = c.later;
      past_is = cc (c.past_is, same);
      this_is = c.this_is;
      rest_is = c.rest_is;
    }
