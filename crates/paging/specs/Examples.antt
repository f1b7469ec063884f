-- 02, Q-4: worked walks, one or more for each sentence of the request. They are worked by hand; that the definitions give them is shown in
-- proofs/Examples.
use Rattle.std.specs.Prelude.{List, [], ◌∷◌, ◌++◌, ℕ, ◌-◌, length, replicate}
use Rattle.rules.specs.Refusals.{alone, BAD_ENTRY}
use Rattle.rules.specs.State.{State, state}
use Rattle.paging.specs.Walk.{Walked, reaches, stops, Virtual, virtual, Mapping, mapping}

-- a frame that begins with these words
unfoldable pub table : List ℕ → List ℕ
table words = words ++ replicate (512 - length words) 0

-- ---- a box of three frames. Its tables are short: a table may be its own table of the next level.
-- frame 0 is SHARED, and the host's table
unfoldable pub host_table : List ℕ
host_table =
    -- 0: itself, and the page at 0, SHARED. 1, 2: the pages in frames 1, PRIVATE, and 2, MERGEABLE
    0x0000000000000001 ∷ 0x0010000000001001 ∷ 0x0020000000002001
    -- 3: LEAF. 4: bit 7. 5: absent, and every other bit set. 6: frame 2 as PRIVATE. 7: frame 3, which memory lacks
    ∷ 0x0030000000000001 ∷ 0x0000000000000081 ∷ 0xfffffffffffffffe ∷ 0x0010000000002001 ∷ 0x0000000000003001
    -- 8: itself, with every bit set that is ignored
    ∷ 0xffc0000000000f7f ∷ []

-- frame 1 is guest 7's, PRIVATE at 1000, and the top of its tables
unfoldable pub guest_table : List ℕ
guest_table =
    -- 0: itself. 1: the table at 2000, MERGEABLE. 2: LEAF. 3: bit 7. 4: a guest address of 2^48. 5: absent
    0x0010000000001001 ∷ 0x0020000000002001 ∷ 0x0030000000001001 ∷ 0x0010000000001081 ∷ 0x0011000000000001 ∷ 0
    -- 6: the page at 0, SHARED. 7: that at 3000, which is a LEAF to the host. 8: at 5000, which the host has not. 9: at 6000, PRIVATE
    ∷ 0x0000000000000001 ∷ 0x0010000000003001 ∷ 0x0010000000005001 ∷ 0x0010000000006001
    -- a: the table at 2000 as PRIVATE. b: the page at 4000, SHARED. c: itself, with every bit set that is ignored
    ∷ 0x0010000000002001 ∷ 0x0000000000004001 ∷ 0xffd0000000001f7f
    -- d: the page at 1000 as SHARED. e: LEAF and bit 7. f: LEAF and a guest address of 2^48
    ∷ 0x0000000000001001 ∷ 0x0030000000001081 ∷ 0x0031000000000001 ∷ []

-- frame 2 is guest 7's, MERGEABLE at 2000, and a table of it
unfoldable pub lower_table : List ℕ
lower_table =
    -- 0: the table at 1000. 1: itself. 2: the page at 0
    0x0010000000001001 ∷ 0x0020000000002001 ∷ 0x0000000000000001 ∷ []

unfoldable pub box : State
box =
    state (0 ∷ 0 ∷ 0x50007 ∷ 0x1000 ∷ 0x60007 ∷ 0x2000 ∷ [])
    (table host_table ++ (table guest_table ++ table lower_table))

-- ---- others, each with its table, and with words that differ from those of `box`
-- half an entry too many; frame 0's entry is bad; frame 1's is
unfoldable pub half_entry : State
half_entry = state (0 ∷ box.table) box.memory

unfoldable pub bad_host : State
bad_host = state (0x100000 ∷ 0 ∷ 0x50007 ∷ 0x1000 ∷ 0x60007 ∷ 0x2000 ∷ []) box.memory

unfoldable pub bad_guest : State
bad_guest = state (0 ∷ 0 ∷ 0x50207 ∷ 0x1000 ∷ 0x60007 ∷ 0x2000 ∷ []) box.memory

-- the top of guest 7's tables is in a merged page: frame 1 is fixed, guest 9 owns it, and guest 7's word in its leaf, frame 2, says 1000
unfoldable pub merged : State
merged =
    state (0 ∷ 0 ∷ 0xe0009 ∷ 0x2000 ∷ 0x30000 ∷ 0 ∷ [])
    (table (0x0000000000000001 ∷ 0x0020000000001001 ∷ [])
    ++ (table (0x0020000000001001 ∷ []) ++ table (0 ∷ 0 ∷ 0 ∷ 0 ∷ 0 ∷ 0 ∷ 0 ∷ 0x1001 ∷ 0 ∷ 0x70001 ∷ [])))

-- the host says MERGEABLE of frame 1, which is PRIVATE to the RMP and to the guest
unfoldable pub other_type : State
other_type =
    state box.table (table (0x0000000000000001 ∷ 0x0020000000001001 ∷ []) ++ (table guest_table ++ table lower_table))

-- the host's table is in frame 1, which the RMP does not cover
unfoldable pub above : State
above = state (0x50007 ∷ 0x1000 ∷ []) (table guest_table ++ table (0x0000000000001001 ∷ 0x0010000000000001 ∷ []))

-- ---- the walks
pub record Example : Type 0 where
  pub state : State
  pub at : Virtual
  pub comes_to : Walked Mapping

abbrev pub finds : State → Virtual → Mapping → Example
finds s at m = record { state = s; at = at; comes_to = reaches m }

abbrev pub refuses : State → Virtual → ℕ → Example
refuses s at number = record { state = s; at = at; comes_to = stops (alone number) }

abbrev pub refuses_for : State → Virtual → ℕ → Example
refuses_for s at reason = record { state = s; at = at; comes_to = stops (BAD_ENTRY reason) }

-- guest 7, with its root at 1000, PRIVATE, and the host's at 0
abbrev pub to : ℕ → Virtual
to va = virtual 7 0x1000 1 0 va

-- guest 7, with another root: its address goes through the host's table first
abbrev pub from : ℕ → ℕ → Virtual
from root root_type = virtual 7 root root_type 0 0

unfoldable pub examples : List Example
examples =
    -- the four indexes are those of the address; the last entry's type is the page's, and the host's last entry's the host type
    finds box (to 0) (mapping 0x1000 0x1000 1 1)
    ∷ finds box (to 0x1000) (mapping 0x2000 0x2000 2 2)
    ∷ finds box (to 0x8080206000) (mapping 0 0 0 0)
    ∷ finds box (to 0xd000) (mapping 0x1000 0x1000 0 1)
    ∷ finds box (to 0x9000) (mapping 0x6000 0x2000 1 1)
    -- "absent entry 18", in the guest's tables, at the last level and at the top, and in the host's
    ∷ refuses box (to 0x5000) 18
    ∷ refuses box (to 0x28000000000) 18
    ∷ refuses box (to 0x8000) 18
    ∷ refuses box (from 0xa00000 1) 18
    ∷ refuses box (from 0x28000000000 1) 18
    -- "large page, or bit 7 set at the top level, 19"; at the last level it is ignored
    ∷ refuses box (to 0x18000000000) 19
    ∷ refuses box (to 0xc0000000) 19
    ∷ refuses box (to 0x600000) 19
    ∷ finds box (to 0x3000) (mapping 0x1000 0x1000 1 1)
    ∷ refuses box (from 0x20000001000 1) 19
    ∷ refuses box (from 0x100001000 1) 19
    ∷ refuses box (from 0x801000 1) 19
    ∷ finds box (to 0xb000) (mapping 0x4000 0 0 0)
    -- "type LEAF 6", in the guest's tables at every level
    ∷ refuses box (to 0x10000000000) 6
    ∷ refuses box (to 0x80000000) 6
    ∷ refuses box (to 0x400000) 6
    ∷ refuses box (to 0x2000) 6
    -- "in the host's table at the last level only": above it the walk goes on, to a page of another guest address, 8
    ∷ refuses box (to 0x7000) 6
    ∷ refuses box (from 0x601000 1) 8
    ∷ refuses box (from 0xc0001000 1) 8
    ∷ refuses box (from 0x18000001000 1) 8
    -- "2 for a guest address of 2^48 or more", of a page, of a table and of the root; and just below it
    ∷ refuses box (to 0x4000) 2
    ∷ refuses box (to 0x20000000000) 2
    ∷ refuses box (from 0x1000000000000 1) 2
    ∷ refuses box (from 0xfffffffff000 1) 18
    -- "an entry's own before those of the address it gives": 18, 19, 6, 2
    ∷ refuses box (to 0x70000000000) 19
    ∷ refuses box (to 0xe000) 6
    ∷ refuses box (to 0xf000) 6
    -- "All other bits are ignored"
    ∷ finds box (to 0xc000) (mapping 0x1000 0x1000 1 1)
    ∷ finds box (to 0x6030180c000) (mapping 0x1000 0x1000 1 1)
    ∷ refuses box (from 0x40201001000 1) 8
    -- tables are read with the type from the entry above, and for the root from the call; host type and guest's must be the same
    ∷ finds box (from 0x2000 2) (mapping 0x1000 0x1000 1 1)
    ∷ refuses box (from 0x2000 1) 6
    ∷ refuses box (from 0x1000 2) 6
    ∷ refuses box (from 0x1000 0) 6
    ∷ finds box (virtual 7 0 0 0 0x1000) (mapping 0x1000 0x1000 1 1)
    ∷ refuses box (to 0x50000000000) 6
    ∷ refuses other_type (from 0x1000 1) 6
    ∷ refuses box (to 0x48000000000) 6
    -- as the guest's own accesses
    ∷ refuses box (virtual 9 0x1000 1 0 0) 7
    ∷ finds merged (from 0x1000 2) (mapping 0x1000 0x1000 2 2)
    ∷ refuses merged (virtual 9 0x1000 2 0 0) 8
    ∷ refuses merged (virtual 8 0x1000 2 0 0) 13
    -- "Host tables are read as the host's SHARED accesses": 6, 4, and a frame that the RMP does not cover
    ∷ refuses box (virtual 7 0x1000 1 0x1000 0) 6
    ∷ refuses box (virtual 7 0x1000 1 0x3000 0) 4
    ∷ refuses box (from 0xe00000 0) 4
    ∷ refuses box (from 0x7000 0) 4
    ∷ finds above (virtual 7 0x1000 1 0x1000 0) (mapping 0x1000 0 1 1)
    -- a refused read's reason
    ∷ refuses_for bad_host (to 0) 1
    ∷ refuses_for bad_guest (to 0) 2
    -- 1 before all; 2 of each argument; 3; and only then what is met on the way
    ∷ refuses half_entry (virtual 512 1 3 1 1) 1
    ∷ refuses box (virtual 512 0x1000 1 0 0) 2
    ∷ refuses box (virtual 7 0x1001 1 0 0) 2
    ∷ refuses box (virtual 7 0x10000000000000 1 0 0) 2
    ∷ refuses box (virtual 7 0x1000 3 0 0) 2
    ∷ refuses box (virtual 7 0x1000 1 1 0) 2
    ∷ refuses box (virtual 7 0x1000 1 0x10000000000000 0) 2
    ∷ refuses box (to 0x1) 2
    ∷ refuses box (virtual 0 0x1000 3 0 0) 2
    ∷ refuses box (virtual 0 0x1000000000000 1 0x1000 0) 3
    -- bits 63:48 are like bit 47: the last address of the lower half, and the first of the upper one, are walked, to an absent entry
    ∷ refuses box (to 0x7ffffffff000) 18
    ∷ refuses box (to 0xffff800000000000) 18
    ∷ refuses box (to 0x800000000000) 2
    ∷ refuses box (to 0xffff7ffffffff000) 2
    ∷ refuses box (to 0x1000000000000) 2
    ∷ refuses box (to 0x7fff800000000000) 2
    ∷ []
