-- 02, Q-4: an entry of a page table of the public x86-64 architecture, which entry of a table is an address's, and which addresses are
-- virtual. An entry of the RMP (01's) is another thing.
use Rattle.std.specs.Prelude.{Bool, ℕ, ◌*◌, ◌/◌, ◌%◌, ◌^◌, eqb}
use Rattle.words.specs.Choice.{◌and◌, ◌or◌}

-- "present in bit 0"
unfoldable pub is_present : ℕ → Bool
is_present w = eqb (w % 2) 1

-- "large page in bit 7"
unfoldable pub is_large : ℕ → Bool
is_large w = eqb (w / 0x80 % 2) 1

-- "frame in bits 51:12": its address
unfoldable pub address_of : ℕ → ℕ
address_of w = w / 0x1000 % 0x10000000000 * 0x1000

-- "the design's type in bits 53:52. All other bits are ignored."
unfoldable pub type_of : ℕ → ℕ
type_of w = w / 0x10000000000000 % 4

-- a page's number: its address without bits 11:0
unfoldable pub page_of : ℕ → ℕ
page_of address = address / 0x1000

-- "index bits 47:39, 38:30, 29:21, 20:12": nine bits of the page's number for each level. `level` is how many levels there are below the
-- table's entries: 3 at the top, 0 at the last.
unfoldable pub index_at : ℕ → ℕ → ℕ
index_at level page = page / 512 ^ level % 512

-- 2 for "a virtual address that is not a multiple of 4,096 or whose bits 63:48 are unlike bit 47": bits 63:47 are all clear, or all set
unfoldable pub is_virtual : ℕ → Bool
is_virtual va = eqb (va % 0x1000) 0 and (eqb (va / 0x800000000000) 0 or eqb (va / 0x800000000000) 0x1ffff)
