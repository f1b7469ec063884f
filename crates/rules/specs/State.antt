-- 01, "Sizes and layout": table and memory, their sizes, and what the rules read and change in them. The rules go through these names
-- alone, and the proofs about the rules through the laws about them.
use Rattle.std.specs.Prelude.{Bool, List, ℕ, leb, ltb, replicate}
use Rattle.words.specs.Choice.{◌and◌}
use Rattle.frames.specs.Frame.{frame_count, is_framed, word_in, frame_in, put_word, put_frame, differing_in}
use Rattle.entries.specs.Entry.{Decoded, frame_of}
use Rattle.entries.specs.declared.entry.Entry.{Entry}
use Rattle.rmp.specs.Table.{covered, is_whole, entry_in, put_entry}

pub record State : Type 0 where
  pub table : List ℕ
  pub memory : List ℕ

abbrev pub state : List ℕ → List ℕ → State
state table memory = record { table = table; memory = memory }

-- "Empty table: all words zero. Memory may hold anything."
unfoldable pub empty_table : ℕ → List ℕ → State
empty_table length memory = state (replicate length 0) memory

-- N, the frames that the table covers, and M, the frames of memory
unfoldable pub N : State → ℕ
N s = covered s.table

unfoldable pub M : State → ℕ
M s = frame_count s.memory

-- "1 ≤ N ≤ 4,096 and N ≤ M ≤ 8,192; table length 2N, memory length 512·M"
unfoldable pub sized : State → Bool
sized s =
    is_whole s.table and is_framed s.memory and leb 1 (N s) and leb (N s) 4096 and leb (N s) (M s) and leb (M s) 8192

-- whether the table covers the frame at an address
unfoldable pub covers : State → ℕ → Bool
covers s hpa = ltb (frame_of hpa) (N s)

-- what a frame holds: its entry, a word of it, all its words, and how many words of two frames differ
unfoldable pub entry_at : State → ℕ → Decoded
entry_at s frame = entry_in s.table frame

unfoldable pub word_at : State → ℕ → ℕ → ℕ
word_at s frame index = word_in s.memory frame index

unfoldable pub frame_at : State → ℕ → List ℕ
frame_at s frame = frame_in s.memory frame

unfoldable pub differing_at : State → ℕ → ℕ → ℕ
differing_at s one two = differing_in s.memory one two

-- the changes: an entry, a word, all words of a frame
unfoldable pub with_entry : State → ℕ → Entry → State
with_entry s frame e = state (put_entry s.table frame e) s.memory

unfoldable pub with_word : State → ℕ → ℕ → ℕ → State
with_word s frame index value = state s.table (put_word s.memory frame index value)

unfoldable pub with_frame : State → ℕ → List ℕ → State
with_frame s frame words = state s.table (put_frame s.memory frame words)
