-- 01, "Refusal numbers": the table, whole, and what 02 adds to it. The rules name a refusal, and only this file gives the names their
-- numbers.
use Rattle.std.specs.Prelude.{ℕ}

-- 02, Q-2: "Every call that refuses with 5 passes the reason on ..; else it is zero." So a refusal is a number with a reason; "5 no longer
-- comes alone", and every other does.
pub record Refusal : Type 0 where
  pub number : ℕ
  pub reason : ℕ

abbrev pub alone : ℕ → Refusal
alone number = record { number = number; reason = 0 }

-- lengths break the sizes
abbrev pub GEOMETRY : Refusal
GEOMETRY = alone 1

-- bad address, ASID above 511, word index above 511, type not allowed, or as said at the call
abbrev pub ARGUMENT : Refusal
ARGUMENT = alone 2

-- wrong party
abbrev pub CALLER : Refusal
CALLER = alone 3

-- a named frame is N or above (instruction), M or above (access)
abbrev pub OUTSIDE : Refusal
OUTSIDE = alone 4

-- an entry of a named frame is not well formed, for this reason
abbrev pub BAD_ENTRY : ℕ → Refusal
BAD_ENTRY reason = record { number = 5; reason = reason }

-- type differs from the one needed
abbrev pub TYPE : Refusal
TYPE = alone 6

-- ASID differs from caller
abbrev pub OWNER : Refusal
OWNER = alone 7

-- guest address differs
abbrev pub ADDRESS : Refusal
ADDRESS = alone 8

abbrev pub NOT_VALIDATED : Refusal
NOT_VALIDATED = alone 9

-- fixed where it must not be
abbrev pub FIXED : Refusal
FIXED = alone 10

abbrev pub NOT_FIXED : Refusal
NOT_FIXED = alone 11

-- the leaf's entry is not a well formed LEAF, or the word consulted is misshapen; 02, Q-3: or the one present word is at index 0
abbrev pub BROKEN_LEAF : Refusal
BROKEN_LEAF = alone 12

-- the word consulted is absent
abbrev pub NO_PLACE : Refusal
NO_PLACE = alone 13

-- the word consulted is present
abbrev pub PLACE_TAKEN : Refusal
PLACE_TAKEN = alone 14

-- some well formed FIXED entry names this leaf
abbrev pub LEAF_IN_USE : Refusal
LEAF_IN_USE = alone 15

-- the two frames differ
abbrev pub CONTENTS : Refusal
CONTENTS = alone 16

-- 02, Q-3: two or more words of the leaf are present
abbrev pub STILL_SHARED : Refusal
STILL_SHARED = alone 17

-- 02, Q-4: the walk meets an entry of a page table that is not present
abbrev pub ABSENT_ENTRY : Refusal
ABSENT_ENTRY = alone 18

-- 02, Q-4: the walk meets an entry of a large page, or one at the top level with bit 7 set
abbrev pub LARGE_PAGE : Refusal
LARGE_PAGE = alone 19
