-- What a row of the table asks, as a chain of checks: types before flags, FIXED before VALIDATED, the first named frame before the second.
-- Of the promises only those of private functions of `gates` name these. The public ones promise the rules' own chains.
use Rattle.std.specs.Prelude.{Bool, None}
use Rattle.words.specs.Choice.{pick, ◌and◌}
use Rattle.entries.specs.declared.entry.Entry.{Entry}
use Rattle.rules.specs.Answers.{Verdict, unless}
use Rattle.rules.specs.Refusals.{Refusal, TYPE, NOT_VALIDATED, FIXED, NOT_FIXED}
use Rattle.needs.specs.Needs.{needs_table, kind_met, flag_met}
use Rattle.needs.specs.declared.need.FlagNeed.{FlagNeed}
use Rattle.needs.specs.declared.need.FlagNeed.TheVariants.{Clear, Set, Either}
use Rattle.needs.specs.declared.need.Need.{Need}
use Rattle.needs.specs.declared.table.TwoFrames.{TwoFrames}

-- 11 where FIXED must be set, else 10
unfoldable pub fixed_refusal : FlagNeed → Refusal
fixed_refusal Set = NOT_FIXED
fixed_refusal Clear = FIXED
fixed_refusal Either = FIXED

unfoldable pub flags_needed : Need → Entry → Verdict → Verdict
flags_needed need page rest =
    unless (flag_met need.fixed page.fixed) (fixed_refusal need.fixed)
    (unless (flag_met need.validated page.validated) NOT_VALIDATED rest)

-- of an instruction whose call names no type
unfoldable pub one_frame_needed : Need → Entry → Verdict → Verdict
one_frame_needed need page rest = unless (kind_met need.kind page.kind None) TYPE (flags_needed need page rest)

unfoldable pub two_frames_needed : TwoFrames → Entry → Entry → Verdict → Verdict
two_frames_needed row one two rest =
    unless (kind_met row.first.kind one.kind None and kind_met row.second.kind two.kind None) TYPE
    (flags_needed row.first one (flags_needed row.second two rest))

-- what WRITE needs, or READ
unfoldable pub access_need : Bool → Need
access_need writes = pick writes needs_table.write needs_table.read
