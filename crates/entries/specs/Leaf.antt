-- 01, "Sizes and layout": the words of a leaf page, indexed by ASID.
use Rattle.std.specs.Prelude.{ℕ, ◌+◌, ◌-◌, ◌%◌, eqb}
use Rattle.words.specs.Choice.{pick}
use Rattle.entries.specs.Entry.{address_limit, is_address}
use Rattle.entries.specs.declared.leaf.LeafWord.{LeafWord}
use Rattle.entries.specs.declared.leaf.LeafWord.TheVariants.{Absent, Present, Misshapen}

-- "Bit 0 set: present, and the rest is the guest's address. Bit 0 clear: absent, whatever the other bits. Present with any of bits
-- 11:1 or 63:52 set: misshapen."
unfoldable pub leaf_word : ℕ → LeafWord
leaf_word w = pick (eqb (w % 2) 0) Absent (pick (is_address (w - 1)) (Present (w - 1)) Misshapen)

-- "GPA + 1", for an address, which is below 2^52
unfoldable pub present_at : ℕ → ℕ
present_at gpa = gpa % address_limit + 1
