-- 01, "Sizes and layout": memory is a run of 64-bit words, 512 to a frame. In a frame that memory does not have whole, and at an index
-- above 511, a word reads as zero and a change changes nothing.
use Rattle.std.specs.Prelude.{Bool, List, [], ℕ, ◌+◌, ◌*◌, ◌/◌, ◌%◌, ltb, eqb, length, get_or, set, take, drop, replicate}
use Rattle.std.proofs.Math.Seq.{paste}
use Rattle.words.specs.Choice.{pick, ◌and◌}
use Rattle.words.specs.Run.{differing}

-- how many whole frames memory has
unfoldable pub frame_count : List ℕ → ℕ
frame_count memory = length memory / 512

-- whether no part of a frame is left over at its end
unfoldable pub is_framed : List ℕ → Bool
is_framed memory = eqb (length memory % 512) 0

-- the word of a frame
unfoldable pub word_in : List ℕ → ℕ → ℕ → ℕ
word_in memory frame index =
    pick (ltb frame (frame_count memory)) (pick (ltb index 512) (get_or memory (512 * frame + index) 0) 0) 0

-- all 512 words of a frame, and no words where memory does not have it whole
unfoldable pub frame_in : List ℕ → ℕ → List ℕ
frame_in memory frame = pick (ltb frame (frame_count memory)) (take 512 (drop (512 * frame) memory)) []

-- the words of a frame that is zeroed
unfoldable pub zeros : List ℕ
zeros = replicate 512 0

-- memory with another word there
unfoldable pub put_word : List ℕ → ℕ → ℕ → ℕ → List ℕ
put_word memory frame index value =
    pick (ltb frame (frame_count memory)) (pick (ltb index 512) (set memory (512 * frame + index) value) memory) memory

-- memory with `words` for the words of a frame. A run that is not 512 words changes nothing.
unfoldable pub put_frame : List ℕ → ℕ → List ℕ → List ℕ
put_frame memory frame words =
    pick (ltb frame (frame_count memory) and eqb (length words) 512) (paste memory (512 * frame) words 512) memory

-- how many words of two frames differ; none where memory has not both
unfoldable pub differing_in : List ℕ → ℕ → ℕ → ℕ
differing_in memory one two =
    pick (ltb one (frame_count memory))
    (pick (ltb two (frame_count memory)) (differing (frame_in memory one) (frame_in memory two) 512) 0)
    0
