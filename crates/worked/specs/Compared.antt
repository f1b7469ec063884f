-- 02, Q-5: "it answers exactly how many of them differ": worked examples, of frames 0 and 1 of a memory.
use Rattle.std.specs.Prelude.{List, [], ◌∷◌, ◌++◌, ℕ, replicate}
use Rattle.worked.specs.Examples.{blank, page, page_of_two}

pub record Compared : Type 0 where
  pub memory : List ℕ
  pub number : ℕ

abbrev pub differ : List ℕ → ℕ → Compared
differ memory number = record { memory = memory; number = number }

unfoldable pub compared_examples : List Compared
compared_examples =
    differ (blank ++ blank) 0
    -- the first word, the last, both
    ∷ differ (blank ++ page 0 1) 1
    ∷ differ (blank ++ page 511 1) 1
    ∷ differ (blank ++ page_of_two 0 1 511 1) 2
    -- one word, of which one bit is another; two words, where one stands at the place of the other
    ∷ differ (page 3 0x2a ++ page 3 0x2b) 1
    ∷ differ (page 3 0x2a ++ page 4 0x2a) 2
    -- all
    ∷ differ (blank ++ replicate 512 1) 512
    -- a frame that memory does not have whole
    ∷ differ (page 3 0x2a) 0
    ∷ differ (page 3 0x2a ++ replicate 511 1) 0
    ∷ []
