-- 01, "The calls": "The needed type and flags of each named frame, by instruction, stand in one constant table". This is the table, row
-- for row. That each row says what its rule says, cell by cell, is shown in proofs/Rows.antt and AccessNeeds.antt.
use Rattle.std.specs.Prelude.{Bool, true, false, not, Option, None, Some, ℕ, eqb}
use Rattle.entries.specs.Entry.{SHARED, MERGEABLE, LEAF}
use Rattle.needs.specs.declared.need.FlagNeed.{FlagNeed}
use Rattle.needs.specs.declared.need.FlagNeed.TheVariants.{Clear, Set, Either}
use Rattle.needs.specs.declared.need.Need.{Need}
use Rattle.needs.specs.declared.need.TypeNeed.{TypeNeed}
use Rattle.needs.specs.declared.need.TypeNeed.TheVariants.{Only, NotLeaf, AsCalled}
use Rattle.needs.specs.declared.table.Needs.{Needs}
use Rattle.needs.specs.declared.table.TwoFrames.{TwoFrames}

-- What is needed of a named frame: its type, VALIDATED, FIXED. A type is one of the four (`Only`), any but LEAF, or the one that the call
-- names; a flag must be clear, must be set, or may be either.
abbrev pub need : TypeNeed → FlagNeed → FlagNeed → Need
need kind validated fixed = record { kind = kind; validated = validated; fixed = fixed }

-- of an instruction that names two frames: the first, the second
abbrev pub two : Need → Need → TwoFrames
two first second = record { first = first; second = second }

-- one row an instruction. READ and WRITE need the flags of a page of a guest alone: a SHARED frame has none.
unfoldable pub needs_table : Needs
needs_table =
    record {
      rmpupdate = need NotLeaf Either Clear;
      pvalidate = need AsCalled Either Clear;
      pfix = two (need (Only MERGEABLE) Set Clear) (need (Only LEAF) Either Either);
      pmerge = two (need (Only MERGEABLE) Either Set) (need (Only MERGEABLE) Set Clear);
      punmerge = two (need (Only MERGEABLE) Either Set) (need (Only SHARED) Either Either);
      punfix = need (Only MERGEABLE) Either Set;
      read = need AsCalled Set Either;
      write = need AsCalled Set Clear;
    }

-- whether a page's type meets a need, in a call that names the type `called`, or names none; whether a flag does
unfoldable pub kind_met : TypeNeed → ℕ → Option ℕ → Bool
kind_met (Only needed) kind called = eqb kind needed
kind_met NotLeaf kind called = not (eqb kind LEAF)
kind_met AsCalled kind None = false
kind_met AsCalled kind (Some called) = eqb kind called

unfoldable pub flag_met : FlagNeed → Bool → Bool
flag_met Clear flag = not flag
flag_met Set flag = flag
flag_met Either flag = true
