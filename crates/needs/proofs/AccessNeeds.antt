-- The rows of READ and WRITE, cell by cell: the type that the call names, VALIDATED set, and FIXED clear for WRITE alone. That the FIXED
-- cell is met by a page that is not fixed, whichever the access, and by a fixed one for READ alone, decides it.
-- Assumes nothing.
use mathlib.Core.Path.{◌≡◌, refl}
use mathlib.Core.Bool.{Bool, true, false, not}
use Rattle.words.specs.Choice.{pick}
use Rattle.needs.specs.Needed.{access_need}
use Rattle.needs.specs.Needs.{needs_table, flag_met}
use Rattle.needs.specs.declared.need.FlagNeed.TheVariants.{Set}
use Rattle.needs.specs.declared.need.TypeNeed.TheVariants.{AsCalled}

pub kind_called : (writes : Bool) → (access_need writes).kind ≡ AsCalled
unfolding access_need needs_table pick
kind_called true = refl
kind_called false = refl

pub validated_set : (writes : Bool) → (access_need writes).validated ≡ Set
unfolding access_need needs_table pick
validated_set true = refl
validated_set false = refl

pub unfixed_meets : (writes : Bool) → flag_met (access_need writes).fixed false ≡ true
unfolding access_need needs_table flag_met pick
unfixed_meets true = refl
unfixed_meets false = refl

pub fixed_meets : (writes : Bool) → flag_met (access_need writes).fixed true ≡ not writes
unfolding access_need needs_table flag_met pick
fixed_meets true = refl
fixed_meets false = refl
