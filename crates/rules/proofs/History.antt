-- No counter goes back: the claim of `specs/History`, of every list of calls from an empty table and any memory. An empty table is sound
-- and has no place, and of any sound start RunsOn says the rest.
-- Assumes nothing.
use mathlib.Core.Path.{◌≡◌, refl, ◌∙◌}
use mathlib.Core.Bool.{false, false≢true}
use mathlib.Core.List.{List}
use Prim.Native.Nat.{ℕ}
use native.Mathlib.Omega.{arith}
use Rattle.entries.specs.Entry.{entry, zero_entry}
use Rattle.entries.specs.declared.entry.Entry.{Entry}
use Rattle.std.specs.Prelude.{Ok}
use Rattle.entries.proofs.Tells.{false_not_true}
use Rattle.rules.specs.Census.{places}
use Rattle.rules.specs.History.{Demand3}
use Rattle.rules.specs.State.{empty_table, entry_at}
use Rattle.rules.proofs.HistoryFrom.{runs_on}
use Rattle.rules.proofs.Holdings.{unopened}
use Rattle.rules.proofs.PlaceLaws.{places_are, nothing_counts}
use Rattle.rules.proofs.Sound.{Sound}
use Rattle.rules.proofs.StateLaws.{entry_inside, entry_of_empty}
use Rattle.rules.proofs.Sums.{sum_none}

-- ---- the start
module _ (length : ℕ) (memory : List ℕ) where
  none_fixed : (f : ℕ) (e : Entry) → entry_at (empty_table length memory) f ≡ Ok e → e.fixed ≡ false
  unfolding zero_entry entry
  none_fixed f e here =
      let zero_here = entry_of_empty length memory f (entry_inside (empty_table length memory) f here) in
      let same : e ≡ zero_entry = cc in
      rw same refl

  pub empty_sound : Sound (empty_table length memory)
  empty_sound =
      record {
        decodes = λ f reason h bad. let zero_here = entry_of_empty length memory f h in absurd (false≢true (cc));
        alone = λ f g d e here there fixed k leaf. false_not_true (none_fixed f d here) fixed;
        unbroken = λ f e guest here fixed broken. false_not_true (none_fixed f e here) fixed;
        size = λ f e here fixed. absurd (false_not_true (none_fixed f e here) fixed);
      }

  pub no_place_yet : (guest gpa : ℕ) → places (empty_table length memory) guest gpa ≡ 0
  unfolding zero_entry entry
  no_place_yet guest gpa =
      places_are (empty_table length memory) guest gpa
      ∙ sum_none _ _ (λ f h. nothing_counts gpa (unopened _ guest f (entry_of_empty length memory f h) refl refl))

pub no_counter_goes_back : Demand3
no_counter_goes_back length memory calls =
    let runs = runs_on (empty_table length memory) calls (empty_sound length memory) in
    record {
      counted = λ guest gpa g. omega (arith, runs.counted guest gpa g, no_place_yet length memory guest gpa);
      opened_before = λ past rest read guest gpa index whole e.
          omega (arith, runs.opened_before past rest read guest gpa index whole e, no_place_yet length memory guest gpa);
      kept = λ past since rest opening read guest gpa frame index whole o e most.
          runs.kept past since rest opening read guest gpa frame index whole o e
          (omega (arith, no_place_yet length memory guest gpa));
    }
