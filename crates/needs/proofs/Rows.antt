-- Each row of an instruction says what its rule says, cell by cell: what the row asks is the rule's chain of checks.
-- Assumes nothing.
use mathlib.Core.Path.{◌≡◌, refl}
use Prim.Native.Nat.{ℕ}
use lib.Dec.{eqb}
use Rattle.std.specs.Prelude.{Some}
use Rattle.words.specs.Choice.{pick, ◌and◌}
use Rattle.entries.specs.Entry.{SHARED, MERGEABLE, LEAF}
use Rattle.entries.specs.declared.entry.Entry.{Entry}
use Rattle.rules.specs.Answers.{Verdict, unless, when}
use Rattle.rules.specs.Refusals.{TYPE, NOT_VALIDATED, FIXED, NOT_FIXED}
use Rattle.needs.specs.Needed.{fixed_refusal, flags_needed, one_frame_needed, two_frames_needed}
use Rattle.needs.specs.Needs.{needs_table, kind_met, flag_met}

-- PVALIDATE checks the owner between the type and the flags of its row, and the address after them
pub validate_kind : (page : Entry) (called : ℕ) → kind_met needs_table.pvalidate.kind page.kind (Some called) ≡ eqb page.kind called
unfolding needs_table kind_met
validate_kind page called = refl

module _ (page : Entry) (v : Verdict) where
  pub update_row : one_frame_needed needs_table.rmpupdate page v ≡ when (eqb page.kind LEAF) TYPE (when page.fixed FIXED v)
  unfolding one_frame_needed flags_needed fixed_refusal unless when needs_table kind_met flag_met pick
  update_row = refl

  pub validate_flags : flags_needed needs_table.pvalidate page v ≡ when page.fixed FIXED v
  unfolding flags_needed fixed_refusal unless when needs_table flag_met pick
  validate_flags = refl

  pub unfix_row :
      one_frame_needed needs_table.punfix page v ≡ unless (eqb page.kind MERGEABLE) TYPE (unless page.fixed NOT_FIXED v)
  unfolding one_frame_needed flags_needed fixed_refusal unless needs_table kind_met flag_met pick
  unfix_row = refl

module _ (one two : Entry) (v : Verdict) where
  pub fix_row :
      two_frames_needed needs_table.pfix one two v
      ≡ unless (eqb one.kind MERGEABLE and eqb two.kind LEAF) TYPE
      (when one.fixed FIXED (unless one.validated NOT_VALIDATED v))
  unfolding two_frames_needed flags_needed fixed_refusal unless when needs_table kind_met flag_met pick
  fix_row = refl

  pub merge_row :
      two_frames_needed needs_table.pmerge one two v
      ≡ unless (eqb one.kind MERGEABLE and eqb two.kind MERGEABLE) TYPE
      (unless one.fixed NOT_FIXED (when two.fixed FIXED (unless two.validated NOT_VALIDATED v)))
  unfolding two_frames_needed flags_needed fixed_refusal unless when needs_table kind_met flag_met pick
  merge_row = refl

  pub unmerge_row :
      two_frames_needed needs_table.punmerge one two v
      ≡ unless (eqb one.kind MERGEABLE and eqb two.kind SHARED) TYPE (unless one.fixed NOT_FIXED v)
  unfolding two_frames_needed flags_needed fixed_refusal unless needs_table kind_met flag_met pick
  unmerge_row = refl
