-- 01, "Entries on both sides of the line (to be proved, N = 8)": the sixteen examples, in the paper's order, the bad entries with the
-- reason that 02, Q-2 gives them; and then entries that break two rules.
use Rattle.std.specs.Prelude.{List, [], ◌∷◌, ℕ, Ok, Err}
use Rattle.entries.specs.Entry.{Decoded, decoded}
use Rattle.entries.specs.Leaf.{leaf_word}
use Rattle.entries.specs.Reasons.{reason_number}
use Rattle.entries.specs.declared.leaf.LeafWord.{LeafWord}
use Rattle.entries.specs.declared.leaf.LeafWord.TheVariants.{Absent, Present, Misshapen}

-- what an example gives: the two words of an entry, or the word of a leaf
pub data Given : Type 0 where
  entry_words : ℕ → ℕ → Given
  leaf_page_word : ℕ → Given

-- what the paper, or a definition, says of it
pub data Says : Type 0 where
  good : Says
  bad : (reason : ℕ) → Says
  present : ℕ → Says
  absent : Says
  misshapen : Says

pub record Example : Type 0 where
  pub given : Given
  pub says : Says

infix 70 ◌is◌
abbrev pub ◌is◌ : Given → Says → Example
g is s = record { given = g; says = s }

-- what the definitions say
unfoldable pub of_entry : Decoded → Says
of_entry (Ok e) = good
of_entry (Err reason) = bad (reason_number reason)

unfoldable pub of_leaf : LeafWord → Says
of_leaf Absent = absent
of_leaf (Present a) = present a
of_leaf Misshapen = misshapen

unfoldable pub judged : Given → Says
judged (entry_words word0 word1) = of_entry (decoded 8 word0 word1)
judged (leaf_page_word w) = of_leaf (leaf_word w)

-- the examples with what the papers say of each
unfoldable pub examples : List Example
examples =
    entry_words 0x0 0x0 is good
    ∷ entry_words 0x20007 0x50000 is good
    ∷ entry_words 0x60007 0x50000 is good
    ∷ entry_words 0xe0007 0x3000 is good
    ∷ entry_words 0x101ff 0x1000 is good
    ∷ entry_words 0x30000 0x0 is good
    ∷ entry_words 0xe0007 0x8000 is bad 4
    ∷ entry_words 0xa0007 0x3000 is bad 3
    ∷ entry_words 0x10000 0x1000 is bad 2
    ∷ entry_words 0x10200 0x1000 is bad 2
    ∷ entry_words 0x30000 0x1000 is bad 4
    ∷ entry_words 0x100000 0x0 is bad 1
    ∷ leaf_page_word 0x50001 is present 0x50000
    ∷ leaf_page_word 0x50000 is absent
    ∷ leaf_page_word 0x50003 is misshapen
    ∷ leaf_page_word 0x10000000000001 is misshapen
    -- two rules broken, and the first of them decides: a spare bit and PRIVATE with no ASID; SHARED with an ASID and VALIDATED; FIXED and
    -- not VALIDATED with a leaf at frame N
    ∷ entry_words 0x110000 0x1000 is bad 1
    ∷ entry_words 0x40007 0x0 is bad 2
    ∷ entry_words 0xa0007 0x8000 is bad 3
    ∷ []
