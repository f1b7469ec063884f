-- 01, "Refusal numbers", 2 and 3: what arguments must be. "ASID above 511" holds for the caller too.
use Rattle.std.specs.Prelude.{Bool, not, ℕ, leb, eqb}
use Rattle.words.specs.Choice.{◌and◌, ◌or◌}
use Rattle.entries.specs.Entry.{SHARED, MERGEABLE, LEAF, is_address, is_party, is_guest, is_owned, is_unowned}

-- "0 is the host"
unfoldable pub is_host : ℕ → Bool
is_host caller = eqb caller 0

-- RMPUPDATE: "2 also if SHARED or LEAF has asid or gpa not 0, or PRIVATE or MERGEABLE has asid 0"
unfoldable pub update_arguments : ℕ → ℕ → ℕ → ℕ → ℕ → Bool
update_arguments caller hpa gpa asid kind =
    is_party caller and is_address hpa and is_address gpa and is_party asid and leb kind LEAF
    and (not (is_unowned kind) or (eqb asid 0 and eqb gpa 0)) and (not (is_owned kind) or not (eqb asid 0))

-- PVALIDATE: "2 unless type is 1 or 2"
unfoldable pub validate_arguments : ℕ → ℕ → ℕ → ℕ → Bool
validate_arguments caller gpa hpa kind = is_party caller and is_address gpa and is_address hpa and is_owned kind

-- PFIX and PMERGE
unfoldable pub two_frame_arguments : ℕ → ℕ → ℕ → Bool
two_frame_arguments caller hpa1 hpa2 = is_party caller and is_address hpa1 and is_address hpa2

-- PUNMERGE: "2 if asid is 0"
unfoldable pub unmerge_arguments : ℕ → ℕ → ℕ → ℕ → Bool
unmerge_arguments caller hpa1 hpa2 asid = two_frame_arguments caller hpa1 hpa2 and is_guest asid

-- PUNFIX
unfoldable pub one_frame_arguments : ℕ → ℕ → Bool
one_frame_arguments caller hpa = is_party caller and is_address hpa

-- READ and WRITE: "Types 0 to 2, else 2". `index` is the paper's word.
unfoldable pub access_arguments : ℕ → ℕ → ℕ → ℕ → ℕ → ℕ → Bool
access_arguments caller gpa hpa gtype ntype index =
    is_party caller and is_address gpa and is_address hpa and leb gtype MERGEABLE and leb ntype MERGEABLE and leb index 511

-- "3 if caller 0 gives a gtype or ntype other than SHARED"
unfoldable pub may_access : ℕ → ℕ → ℕ → Bool
may_access caller gtype ntype = not (is_host caller) or (eqb gtype SHARED and eqb ntype SHARED)
