-- What an accepted call has passed, as facts: one record for each call.
-- Assumes nothing.
use mathlib.Core.Path.{◌≡◌}
use mathlib.Core.Bool.{Bool, true, false}
use Prim.Native.Nat.{ℕ, ◌<◌, ◌≤◌}
use lib.Dec.{eqb}
use Rattle.entries.specs.Entry.{SHARED, MERGEABLE, LEAF, frame_of, is_guest}
use Rattle.entries.specs.declared.entry.Entry.{Entry}
use Rattle.std.specs.Prelude.{Ok}
use Rattle.entries.specs.declared.leaf.LeafWord.TheVariants.{Absent, Present}
use Rattle.rules.specs.Arguments.{update_arguments, validate_arguments, two_frame_arguments, unmerge_arguments}
use Rattle.rules.specs.Arguments.{one_frame_arguments, access_arguments, may_access}
use Rattle.rules.specs.Census.{total, tally}
use Rattle.rules.specs.Leaves.{leaf_frame, is_leaf, consulted, leaf_in_use, present_words, last_present}
use Rattle.rules.specs.State.{State, N, M, sized, entry_at, differing_at}

-- ---- RMPUPDATE
pub record Updated (s : State) (caller hpa gpa asid kind : ℕ) (old : Entry) : Type 0 where
  pub size : sized s ≡ true
  pub arguments : update_arguments caller hpa gpa asid kind ≡ true
  pub host : caller ≡ 0
  pub inside : frame_of hpa < N s
  pub here : entry_at s (frame_of hpa) ≡ Ok old
  pub no_leaf_lem : eqb old.kind LEAF ≡ false
  pub unfixed : old.fixed ≡ false

-- ---- PVALIDATE
pub record Validated (s : State) (caller gpa hpa kind : ℕ) (old : Entry) : Type 0 where
  pub size : sized s ≡ true
  pub arguments : validate_arguments caller gpa hpa kind ≡ true
  pub guest : caller ≡ 0 → ⊥
  pub inside : frame_of hpa < N s
  pub here : entry_at s (frame_of hpa) ≡ Ok old
  pub type : old.kind ≡ kind
  pub owner : old.asid ≡ caller
  pub unfixed : old.fixed ≡ false
  pub address : old.address ≡ gpa

-- ---- PFIX
pub record Fixed (s : State) (caller hpa leaf : ℕ) (old : Entry) : Type 0 where
  pub size : sized s ≡ true
  pub arguments : two_frame_arguments caller hpa leaf ≡ true
  pub host : caller ≡ 0
  pub inside : frame_of hpa < N s
  pub leaf_inside : frame_of leaf < N s
  pub here : entry_at s (frame_of hpa) ≡ Ok old
  pub leaf_kind : is_leaf (entry_at s (frame_of leaf)) ≡ true
  pub type : old.kind ≡ MERGEABLE
  pub unfixed : old.fixed ≡ false
  pub validated : old.validated ≡ true
  pub unused : leaf_in_use s leaf (N s) ≡ false

-- ---- PMERGE
pub record Merged (s : State) (caller hpa1 hpa2 : ℕ) (one two : Entry) : Type 0 where
  pub size : sized s ≡ true
  pub arguments : two_frame_arguments caller hpa1 hpa2 ≡ true
  pub host : caller ≡ 0
  pub inside1 : frame_of hpa1 < N s
  pub inside2 : frame_of hpa2 < N s
  pub here1 : entry_at s (frame_of hpa1) ≡ Ok one
  pub here2 : entry_at s (frame_of hpa2) ≡ Ok two
  pub type1 : one.kind ≡ MERGEABLE
  pub type2 : two.kind ≡ MERGEABLE
  pub fixed1 : one.fixed ≡ true
  pub unfixed2 : two.fixed ≡ false
  pub validated2 : two.validated ≡ true
  pub no_place : consulted s one two.asid ≡ Absent
  pub equal : differing_at s (frame_of hpa1) (frame_of hpa2) ≡ 0

-- ---- PUNMERGE
pub record Unmerged (s : State) (caller hpa1 hpa2 asid : ℕ) (one two : Entry) (gpa : ℕ) : Type 0 where
  pub size : sized s ≡ true
  pub arguments : unmerge_arguments caller hpa1 hpa2 asid ≡ true
  pub host : caller ≡ 0
  pub inside1 : frame_of hpa1 < N s
  pub inside2 : frame_of hpa2 < N s
  pub here1 : entry_at s (frame_of hpa1) ≡ Ok one
  pub here2 : entry_at s (frame_of hpa2) ≡ Ok two
  pub type1 : one.kind ≡ MERGEABLE
  pub type2 : two.kind ≡ SHARED
  pub fixed1 : one.fixed ≡ true
  pub place : consulted s one asid ≡ Present gpa

-- ---- PUNFIX: what it has passed before the present words count, and the two ways in which it goes on: to the one guest that is left, or
-- to nobody
pub record Unfixing (s : State) (caller hpa : ℕ) (old : Entry) : Type 0 where
  pub size : sized s ≡ true
  pub arguments : one_frame_arguments caller hpa ≡ true
  pub host : caller ≡ 0
  pub inside : frame_of hpa < N s
  pub here : entry_at s (frame_of hpa) ≡ Ok old
  pub type : old.kind ≡ MERGEABLE
  pub fixed : old.fixed ≡ true
  pub leaf_kind : is_leaf (entry_at s (leaf_frame old)) ≡ true

pub record Unfixed (s : State) (caller hpa : ℕ) (old : Entry) (guest gpa : ℕ) : Type 0 where
  pub page : Unfixing s caller hpa old
  pub range : is_guest guest ≡ true
  pub one_left : present_words s (leaf_frame old) ≡ 1
  pub last : last_present s (leaf_frame old) ≡ guest
  pub place : consulted s old guest ≡ Present gpa

pub record Freed (s : State) (caller hpa : ℕ) (old : Entry) : Type 0 where
  pub page : Unfixing s caller hpa old
  pub none_left : present_words s (leaf_frame old) ≡ 0

-- ---- READ and WRITE: the four ways in which an access is accepted
pub data Way (s : State) (writes : Bool) (caller gpa frame gtype : ℕ) : Type 0 where
  above : N s ≤ frame → gtype ≡ SHARED → Way s writes caller gpa frame gtype
  shared :
      (page : Entry) → frame < N s → entry_at s frame ≡ Ok page → page.kind ≡ SHARED → gtype ≡ SHARED
      → Way s writes caller gpa frame gtype
  own :
      (page : Entry) → frame < N s → entry_at s frame ≡ Ok page → page.kind ≡ gtype → eqb gtype SHARED ≡ false
      → page.fixed ≡ false
      → page.asid ≡ caller → page.address ≡ gpa → page.validated ≡ true → Way s writes caller gpa frame gtype
  merged :
      (page : Entry) → frame < N s → entry_at s frame ≡ Ok page → page.kind ≡ gtype → eqb gtype SHARED ≡ false
      → page.fixed ≡ true
      → writes ≡ false → consulted s page caller ≡ Present gpa → Way s writes caller gpa frame gtype

pub record Accessed (s : State) (writes : Bool) (caller gpa hpa gtype ntype index : ℕ) : Type 0 where
  pub size : sized s ≡ true
  pub arguments : access_arguments caller gpa hpa gtype ntype index ≡ true
  pub party : may_access caller gtype ntype ≡ true
  pub inside : frame_of hpa < M s
  pub types : gtype ≡ ntype
  pub way : Way s writes caller gpa (frame_of hpa) gtype

-- ---- CENSUS
pub record Counted (s : State) (asid n : ℕ) : Type 0 where
  pub size : sized s ≡ true
  pub guest : is_guest asid ≡ true
  pub sum : tally s asid (N s) ≡ total n
