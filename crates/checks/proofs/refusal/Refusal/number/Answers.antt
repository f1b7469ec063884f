-- `checks::refusal::Refusal::number` meets its contract: an arm for each refusal.
use Rattle.checks.proofs.refusal.Refusal.number.Goals as goal

pub returns-in-Geometry : goal.returns-in-Geometry
returns-in-Geometry c = rw c.in-Geometry.is

pub returns-in-Argument : goal.returns-in-Argument
returns-in-Argument c = rw c.in-Argument.is

pub returns-in-Caller : goal.returns-in-Caller
returns-in-Caller c = rw c.in-Caller.is

pub returns-in-Outside : goal.returns-in-Outside
returns-in-Outside c = rw c.in-Outside.is

pub returns-in-BadEntry : goal.returns-in-BadEntry
returns-in-BadEntry c = rw c.in-BadEntry.is

pub returns-in-PageType : goal.returns-in-PageType
returns-in-PageType c = rw c.in-PageType.is

pub returns-in-Owner : goal.returns-in-Owner
returns-in-Owner c = rw c.in-Owner.is

pub returns-in-Address : goal.returns-in-Address
returns-in-Address c = rw c.in-Address.is

pub returns-in-NotValidated : goal.returns-in-NotValidated
returns-in-NotValidated c = rw c.in-NotValidated.is

pub returns-in-Fixed : goal.returns-in-Fixed
returns-in-Fixed c = rw c.in-Fixed.is

pub returns-in-NotFixed : goal.returns-in-NotFixed
returns-in-NotFixed c = rw c.in-NotFixed.is

pub returns-in-BrokenLeaf : goal.returns-in-BrokenLeaf
returns-in-BrokenLeaf c = rw c.in-BrokenLeaf.is

pub returns-in-NoPlace : goal.returns-in-NoPlace
returns-in-NoPlace c = rw c.in-NoPlace.is

pub returns-in-PlaceTaken : goal.returns-in-PlaceTaken
returns-in-PlaceTaken c = rw c.in-PlaceTaken.is

pub returns-in-LeafInUse : goal.returns-in-LeafInUse
returns-in-LeafInUse c = rw c.in-LeafInUse.is

pub returns-in-Contents : goal.returns-in-Contents
returns-in-Contents c = rw c.in-Contents.is

pub returns-in-StillShared : goal.returns-in-StillShared
returns-in-StillShared c = rw c.in-StillShared.is

pub returns-in-AbsentEntry : goal.returns-in-AbsentEntry
returns-in-AbsentEntry c = rw c.in-AbsentEntry.is

pub returns-in-LargePage : goal.returns-in-LargePage
returns-in-LargePage c = rw c.in-LargePage.is
