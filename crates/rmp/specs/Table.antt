-- 01, "Sizes and layout": the table is a run of words, two for each of the first N frames. Where they lie is said here alone:
-- all else goes through these five.
use Rattle.std.specs.Prelude.{Bool, List, ℕ, ◌+◌, ◌*◌, ◌/◌, ◌%◌, ltb, eqb, length, get_or, set, Err}
use Rattle.words.specs.Choice.{pick}
use Rattle.entries.specs.Entry.{Decoded, decoded, encoded}
use Rattle.entries.specs.declared.entry.Entry.{Entry}
use Rattle.entries.specs.declared.reason.Reason.TheVariants.{NoEntry}

-- N, how many frames the table covers
unfoldable pub covered : List ℕ → ℕ
covered table = length table / 2

-- whether its length is 2N
unfoldable pub is_whole : List ℕ → Bool
is_whole table = eqb (length table % 2) 0

-- a frame's entry; a frame that the table does not cover has a bad one, with no reason
unfoldable pub entry_in : List ℕ → ℕ → Decoded
entry_in table frame =
    pick (ltb frame (covered table))
    (decoded (covered table) (get_or table (2 * frame) 0) (get_or table (2 * frame + 1) 0))
    (Err NoEntry)

-- the address that stands in a frame's entry, whatever else does; 0 where the table does not cover the frame
unfoldable pub address_in : List ℕ → ℕ → ℕ
address_in table frame = pick (ltb frame (covered table)) (get_or table (2 * frame + 1) 0) 0

-- the table with another entry there; at a frame that it does not cover, the table as it was
unfoldable pub put_entry : List ℕ → ℕ → Entry → List ℕ
put_entry table frame e =
    pick (ltb frame (covered table))
    (set (set table (2 * frame) (encoded e).0) (2 * frame + 1) (encoded e).1)
    table
