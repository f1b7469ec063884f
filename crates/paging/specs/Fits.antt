-- What a walk yields is what 01 asks of a call's arguments: so 01's call on it can't be refused with 1, 2 or 3.
use Rattle.std.specs.Prelude.{◌≡◌, Bool, true, leb}
use Rattle.entries.specs.Entry.{MERGEABLE, is_address, is_guest}
use Rattle.rules.specs.State.{State, sized}
use Rattle.paging.specs.Walk.{reaches, Virtual, Mapping, translated}

pub record Fits (s : State) (at : Virtual) (m : Mapping) : Type 0 where
  pub size : sized s ≡ true
  pub caller : is_guest at.caller ≡ true
  pub gpa : is_address m.gpa ≡ true
  pub hpa : is_address m.hpa ≡ true
  pub gtype : leb m.gtype MERGEABLE ≡ true
  pub ntype : leb m.ntype MERGEABLE ≡ true

abbrev pub YieldFits : Type 0
YieldFits = (s : State) (at : Virtual) (others : Bool) (m : Mapping) → translated s at others ≡ reaches m → Fits s at m
