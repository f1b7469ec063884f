-- Calls that are no events, left out of a list: what is claimed of the whole list holds of what is left. They open and close nothing, and
-- write nothing of a guest's.
-- Assumes nothing.
use mathlib.Core.Path.{◌≡◌, refl, ap, ◌∙◌}
use mathlib.Core.Bool.{false≢true}
use mathlib.Core.List.{List, [], ◌∷◌, ◌++◌}
use Prim.Native.Nat.{ℕ}
use native.Mathlib.Omega.{arith}
use Rattle.words.specs.Choice.{pick}
use Rattle.entries.specs.Entry.{bit}
use Rattle.rules.specs.History.{Made, no_event, event, is_opening, is_closing, openings, closings, written, last_write, NoCounterGoesBack}
use Rattle.rules.specs.State.{State, word_at}

pub data Thins : List Made → List Made → Type 0 where
  none : Thins [] []
  keep : (m : Made) {all few : List Made} → Thins all few → Thins (m ∷ all) (m ∷ few)
  skip : (m : Made) {all few : List Made} → event m ≡ no_event → Thins all few → Thins (m ∷ all) few

pub thins_append : {all few : List Made} {more fewer : List Made} → Thins all few → Thins more fewer → Thins (all ++ more) (few ++ fewer)
thins_append none rest = rest
thins_append (keep m first) rest = keep m (thins_append first rest)
thins_append (skip m e first) rest = skip m e (thins_append first rest)

-- ---- counts and writes
module _ (guest gpa : ℕ) where
  pub thin_openings : {all few : List Made} → Thins all few → openings all guest gpa ≡ openings few guest gpa
  unfolding openings is_opening bit pick
  thin_openings none = refl
  thin_openings (keep m rest) = rw (thin_openings rest)
  thin_openings (skip m e rest) = rw (e, thin_openings rest) (omega arith)

  pub thin_closings : {all few : List Made} → Thins all few → closings all guest gpa ≡ closings few guest gpa
  unfolding closings is_closing bit pick
  thin_closings none = refl
  thin_closings (keep m rest) = rw (thin_closings rest)
  thin_closings (skip m e rest) = rw (e, thin_closings rest) (omega arith)

  thin_writes :
      {all few : List Made} (index before : ℕ) → Thins all few
      → last_write all guest gpa index before ≡ last_write few guest gpa index before
  unfolding last_write written
  thin_writes index before none = refl
  thin_writes index before (keep m rest) = thin_writes index _ rest
  thin_writes index before (skip m e rest) = rw e (thin_writes index before rest)

-- ---- a list that is cut where a part of it is
record Cut (all past : List Made) (m : Made) (rest : List Made) : Type 0 where
  earlier : List Made
  later : List Made
  all_is : all ≡ earlier ++ (m ∷ later)
  thins_earlier : Thins earlier past
  thins_later : Thins later rest

module _ {all past rest : List Made} {m : Made} (n : Made) (c : Cut all past m rest) where
  one_earlier : {before : List Made} → Thins (n ∷ c.earlier) before → Cut (n ∷ all) before m rest
  one_earlier t =
      record {
        earlier = n ∷ c.earlier;
        later = c.later;
        all_is = ap (λ l. n ∷ l) c.all_is;
        thins_earlier = t;
        thins_later = c.thins_later;
      }

  cut_keep : {first : Made} → n ≡ first → Cut (n ∷ all) (first ∷ past) m rest
  cut_keep same = rw (← same) (one_earlier (keep n c.thins_earlier))

  cut_skip : event n ≡ no_event → Cut (n ∷ all) past m rest
  cut_skip quiet = one_earlier (skip n quiet c.thins_earlier)

thin_cut :
    {all few : List Made} (past : List Made) (m : Made) (rest : List Made) → Thins all few → few ≡ past ++ (m ∷ rest)
    → Cut all past m rest
thin_cut [] m rest none e = absurd (false≢true (cc))
thin_cut (first ∷ past) m rest none e = absurd (false≢true (cc))
thin_cut [] m rest (keep n {all} {few} t) e =
    let same : n ≡ m = cc in
    let others : few ≡ rest = cc in
    record { earlier = []; later = all; all_is = rw same refl; thins_earlier = none; thins_later = rw (← others) t }
thin_cut (first ∷ past) m rest (keep n t) e = cut_keep n (thin_cut past m rest t (cc)) (cc)
thin_cut past m rest (skip n quiet t) e = cut_skip n (thin_cut past m rest t e) quiet

-- ---- the claim
pub thinned : {all few : List Made} {end : State} → Thins all few → NoCounterGoesBack all end → NoCounterGoesBack few end
thinned {all} {few} {end} t claim =
    record {
      counted = λ guest gpa g. rw (← thin_closings guest gpa t, ← thin_openings guest gpa t) (claim.counted guest gpa g);
      opened_before = λ past rest read guest gpa index whole e.
          let c = thin_cut past read rest t whole in
          rw (← thin_openings guest gpa c.thins_earlier)
          (claim.opened_before c.earlier c.later read guest gpa index c.all_is e);
      kept = λ past since rest opening read guest gpa frame index whole o e most.
          let c = thin_cut past opening (since ++ (read ∷ rest)) t whole in
          let d = thin_cut since read rest c.thins_later refl in
          let parts = c.all_is ∙ ap (λ l. c.earlier ++ (opening ∷ l)) d.all_is in
          let until = thins_append c.thins_earlier (keep opening d.thins_earlier) in
          rw (← thin_writes guest gpa index (word_at opening.got frame index) d.thins_earlier)
          (claim.kept c.earlier d.earlier d.later opening read guest gpa frame index parts o e
          (rw (thin_openings guest gpa until) most));
    }
