-- 02, Q-4: the four-level walk, in two halves. One definition serves both, over how an entry is read and at which levels LEAF is refused.
use Rattle.std.specs.Prelude.{◌≡◌, Bool, true, not, ℕ, zero, suc, leb, ltb, eqb}
use Rattle.words.specs.Choice.{pick, ◌and◌, ◌or◌}
use Rattle.entries.specs.Entry.{SHARED, MERGEABLE, LEAF, is_address, frame_of, is_party}
use Rattle.rules.specs.Access.{reading, access, read}
use Rattle.rules.specs.Answers.{Told, refused, done, word, outcome, Verdict, refuse, grant}
use Rattle.rules.specs.Arguments.{is_host}
use Rattle.rules.specs.Refusals.{Refusal, GEOMETRY, ARGUMENT, CALLER, TYPE, ABSENT_ENTRY, LARGE_PAGE}
use Rattle.rules.specs.State.{State, sized, word_at}
use Rattle.paging.specs.Entry.{is_present, is_large, address_of, type_of, page_of, index_at, is_virtual}

-- what a walk, or a part of it, comes to: what it reaches, or the refusal that it meets
pub data Walked (A : Type 0) : Type 0 where
  reaches : (found : A) → Walked A
  stops : (refusal : Refusal) → Walked A

-- it goes on from what it reaches, and only past a check that passes: "each where it is met, before the next read"
unfoldable pub onward : {A B : Type 0} → Walked A → (A → Walked B) → Walked B
onward (reaches found) rest = rest found
onward (stops refusal) rest = stops refusal

unfoldable pub provided : {A : Type 0} → Bool → Refusal → Walked A → Walked A
provided passes refusal rest = pick passes rest (stops refusal)

-- what an entry points to, a table or at the end a page: its address and its type
pub record Pointer : Type 0 where
  pub address : ℕ
  pub type : ℕ

abbrev pub pointer : ℕ → ℕ → Pointer
pointer address type = record { address = address; type = type }

-- ---- one walk for both tables
-- an entry: "absent entry 18; large page, or bit 7 set at the top level, 19; type LEAF 6", where LEAF is refused. At the last level bit 7
-- is ignored.
unfoldable pub follow : ℕ → Bool → ℕ → Walked Pointer
follow level leaf_refused w =
    provided (is_present w) ABSENT_ENTRY
    (provided (eqb level 0 or not (is_large w)) LARGE_PAGE
    (provided (not (leaf_refused and eqb (type_of w) LEAF)) TYPE
    (reaches (pointer (address_of w) (type_of w)))))

module _ (reads : Pointer → ℕ → Walked ℕ) (leaf_refused : ℕ → Bool) where
  -- from a table down by its entry at an index
  unfoldable pub down : ℕ → ℕ → Pointer → Walked Pointer
  down level index from = onward (reads from index) λ w. follow level (leaf_refused level) w

  -- so many levels down, to a page by its number
  unfoldable pub walk : ℕ → ℕ → Pointer → Walked Pointer
  walk zero page from = reaches from
  walk (suc level) page from = onward (down level (index_at level page) from) λ to. walk level page to

-- ---- an entry is read by 01's rule: the word that the checks of READ let through, or "a refused read's own number", with its reason
unfoldable pub let_through : Verdict → ℕ → Walked ℕ
let_through (refuse refusal) w = stops refusal
let_through (grant answer after) w = reaches w

unfoldable pub look : State → ℕ → ℕ → ℕ → ℕ → ℕ → ℕ → Walked ℕ
look s caller gpa hpa gtype ntype index =
    let_through (access s reading caller gpa hpa gtype ntype index (grant done s)) (word_at s (frame_of hpa) index)

-- that is what READ answers
unfoldable pub as_read : Walked ℕ → Told
as_read (reaches w) = word w
as_read (stops refusal) = refused refusal

abbrev pub LookIsRead : Type 0
LookIsRead =
    (s : State) (caller gpa hpa gtype ntype index : ℕ)
    → read s caller gpa hpa gtype ntype index ≡ outcome (as_read (look s caller gpa hpa gtype ntype index)) s

-- ---- the host half
-- "Host tables are read as the host's SHARED accesses", with guest address 0
unfoldable pub host_reads : State → Pointer → ℕ → Walked ℕ
host_reads s from index = look s 0 0 from.address SHARED SHARED index

-- "type LEAF 6, in the host's table at the last level only"
unfoldable pub at_last : ℕ → Bool
at_last level = eqb level 0

-- a guest page, by its number, through the host's four levels; "the last entry's type is the host type"
unfoldable pub host_walk : State → ℕ → ℕ → Walked Pointer
host_walk s host_root page = walk (host_reads s) at_last 4 page (pointer host_root SHARED)

-- "2 for a guest address of 2^48 or more"
unfoldable pub host_half : State → ℕ → ℕ → Walked Pointer
host_half s host_root gpa = provided (ltb gpa 0x1000000000000) ARGUMENT (host_walk s host_root (page_of gpa))

-- ---- the guest's walk
-- "Guest tables are read as that guest's own accesses, the type coming from the entry above ..; each guest address goes through the host's
-- table first"
unfoldable pub guest_reads : State → ℕ → ℕ → Pointer → ℕ → Walked ℕ
guest_reads s caller host_root from index =
    onward (host_half s host_root from.address) λ at.
    look s caller from.address at.address from.type at.type index

unfoldable pub always : ℕ → Bool
always level = true

-- how a guest names a virtual address: its number, the root of its tables with the type, the host's root, and the address
pub record Virtual : Type 0 where
  pub caller : ℕ
  pub root : ℕ
  pub root_type : ℕ
  pub host_root : ℕ
  pub va : ℕ

abbrev pub virtual : ℕ → ℕ → ℕ → ℕ → ℕ → Virtual
virtual caller root root_type host_root va =
    record { caller = caller; root = root; root_type = root_type; host_root = host_root; va = va }

-- through the guest's four levels; the type "for the root from the call"
unfoldable pub guest_walk : State → Virtual → Walked Pointer
guest_walk s at =
    walk (guest_reads s at.caller at.host_root) always 4 (page_of at.va) (pointer at.root at.root_type)

-- "The walk yields guest address, frame and both types, or a refusal"
pub record Mapping : Type 0 where
  pub gpa : ℕ
  pub hpa : ℕ
  pub gtype : ℕ
  pub ntype : ℕ

abbrev pub mapping : ℕ → ℕ → ℕ → ℕ → Mapping
mapping gpa hpa gtype ntype = record { gpa = gpa; hpa = hpa; gtype = gtype; ntype = ntype }

unfoldable pub walked : State → Virtual → Walked Mapping
walked s at =
    onward (guest_walk s at) λ page.
    onward (host_half s at.host_root page.address) λ frame.
    reaches (mapping page.address frame.address page.type frame.type)

-- ---- the walk as a call
-- 2 for "a bad root or other argument, a virtual address that .."
unfoldable pub virtual_arguments : Virtual → Bool
virtual_arguments at =
    is_party at.caller and is_address at.root and leb at.root_type MERGEABLE and is_address at.host_root and is_virtual at.va

-- "Refusals: 1; 2 ..; 3 for caller 0; then on the way". `fits`: whatever other arguments the call has are as they must be.
unfoldable pub translated : State → Virtual → Bool → Walked Mapping
translated s at fits =
    provided (sized s) GEOMETRY
    (provided (virtual_arguments at and fits) ARGUMENT
    (provided (not (is_host at.caller)) CALLER
    (walked s at)))
