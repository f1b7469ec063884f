-- A turn: there is room for all that is printed and kept, so that what `feed` and `run` promise of the text's bytes is what is promised of
-- the turn. And turns in a row are a run of a text in pieces.
-- Assumes nothing.
use mathlib.Core.Path.{◌≡◌, refl, ap, sym, subst}
use mathlib.Core.List.{List, [], ◌∷◌, ◌++◌}
use Prim.Native.Nat.{ℕ, zero, suc, ◌+◌, ◌≤◌, ◌<◌, min}
use native.Mathlib.Nat.{add-zero}
use native.Mathlib.Omega.{arith}
use lib.ListN.{length, take, drop, length-take, length-drop}
use lib.Seq.{take-add}
use Rattle.std.specs.Prelude.{Option, Some, None, IfSome, Result, Ok, Err}
use Rattle.std.proofs.lemmas.Option.{none-some, same_Some}
use Rattle.std.specs.declared.io.Error.{Error}
use Rattle.rules.specs.State.{State}
use Rattle.format.specs.Piece.{cut, whole_lines, unfinished, complete, broken_off, ended, stopped, fed}
use Rattle.format.specs.Text.{printed, after, room}
use Rattle.numbers.specs.Buffer.{buffer, fitting, appended}
use Rattle.script.proofs.AllPrinted.{all_appended, all_printed}
use Rattle.run_script.specs.Turn.{count, Turned, Ran}

-- ---- how many bytes are printed and kept
pub count_is :
    (before now bytes : List ℕ) (count : ℕ) → buffer now count ≡ appended (buffer before 0) bytes
    → count ≡ min (length bytes) (length before)
unfolding appended fitting
count_is before now bytes count is = let filled = ap (λ b. b.filled) is in omega arith

whole_most : (text : List ℕ) → length (whole_lines text) ≤ length text
unfolding whole_lines
whole_most text = let count = length-take (cut text (length text)) text in omega arith

pub unfinished_most : (text : List ℕ) → (length (unfinished text) ≤ length text) × (length (unfinished text) ≤ 121)
unfolding unfinished
unfinished_most text =
    let rest = drop (cut text (length text)) text in
    let left = length-drop (cut text (length text)) text in
    let count = length-take 121 rest in
    (omega arith, omega arith)

-- ---- a turn: there is room for what is printed and kept of the first bytes of the text
module _ (s : State) (text out now : List ℕ) (count : ℕ) (enough : room text ≤ length out) where
  pub piece_prints :
      (filled : ℕ) → buffer now count ≡ appended (buffer out 0) (printed s (whole_lines (take filled text)))
      → take count now ≡ printed s (whole_lines (take filled text))
  piece_prints filled prints =
      let fewer = length-take filled text in
      let whole = whole_most (take filled text) in
      all_printed s (whole_lines (take filled text)) out now count (omega arith) prints

  pub last_prints :
      (filled : ℕ) → buffer now count ≡ appended (buffer out 0) (printed s (take filled text))
      → take count now ≡ printed s (take filled text)
  last_prints filled prints =
      let fewer = length-take filled text in
      all_printed s (take filled text) out now count (omega arith) prints

-- the unfinished line, by how many bytes were kept
pub piece_keeps :
    (text next : List ℕ) (filled held : ℕ) → buffer next held ≡ appended (buffer text 0) (unfinished (take filled text))
    → take held next ≡ unfinished (take filled text)
piece_keeps text next filled held keeps =
    let fewer = length-take filled text in
    let rest = (unfinished_most (take filled text)).0 in
    all_appended text next (unfinished (take filled text)) held (omega arith) keeps

module _ (text next : List ℕ) (filled held : ℕ) (keeps : buffer next held ≡ appended (buffer text 0) (unfinished (take filled text))) where
  pub all_kept : held ≡ length (unfinished (take filled text))
  all_kept =
      let fewer = length-take filled text in
      let rest = (unfinished_most (take filled text)).0 in
      let count = count_is text next (unfinished (take filled text)) held keeps in
      omega arith

  pub piece_left : take (length (unfinished (take filled text))) next ≡ unfinished (take filled text)
  piece_left = rw (← all_kept) (piece_keeps text next filled held keeps)

-- what holds of a piece, of which some bytes were read
pub turned_piece :
    (n : ℕ) → 0 < n → (next : Option ℕ) (s end : State) (text handed left : List ℕ)
    → (end ≡ after s (whole_lines text)) × (handed ≡ printed s (whole_lines text))
    × (take (length (unfinished text)) left ≡ unfinished text) × IfSome next (λ kept. kept ≡ length (unfinished text))
    → Turned (Ok n) next s text end handed left
unfolding Turned
turned_piece zero h next s end text handed left did = absurd (omega arith)
turned_piece (suc n) h next s end text handed left did = did

-- what the next turn begins with, if one follows
pub next_is : (next : Option ℕ) (P : ℕ → Type 0) (kept : ℕ) → P kept → IfSome next (λ k. Some kept ≡ Some k) → IfSome next P
next_is None P kept h is = is
next_is (Some k) P kept h is = subst P (same_Some kept k is) h

pub none_follows : (next : Option ℕ) → IfSome next (λ k. None ≡ Some k) → next ≡ None
none_follows None is = refl
none_follows (Some k) is = absurd (none-some k is)

-- ---- turns in a row
pub no_more : (s : State) (begun : List ℕ) → Ran s begun s
no_more s begun = record { how = broken_off; pieces = []; bytes = []; turns = stopped }

-- `text` is as the read left it: `begun` is still at its start
module _ (s left : State) (begun text handed next : List ℕ) (kept : ℕ) (is : take kept text ≡ begun) where
  piece_before :
      (n : ℕ) (more : Option ℕ) (end : State) → Turned (Ok (suc n)) more s (take (kept + suc n) text) left handed next
      → Ran left (unfinished (take (kept + suc n) text)) end → Ran s begun end
  unfolding Turned
  piece_before n more end turn rest =
      let piece = take (suc n) (drop kept text) in
      let both : take (kept + suc n) text ≡ begun ++ piece = rw (take-add kept (suc n) text, is) in
      let did = rw both at turn in
      let on = rw both at rest in
      record {
        how = on.how;
        pieces = piece ∷ on.pieces;
        bytes = handed ++ on.bytes;
        turns = rw did.1 (fed (rw did.0 at on.turns));
      }

  pub turn_before :
      (got : Result ℕ Error) (held : ℕ) (end : State) → Turned got (Some held) s (take (kept + count got) text) left handed next
      → Ran left (take held next) end → Ran s begun end
  unfolding Turned
  turn_before (Ok zero) held end turn rest = absurd (none-some held (sym turn.0))
  turn_before (Ok (suc n)) held end turn rest = piece_before n (Some held) end turn (rw (turn.3, turn.2) at rest)
  turn_before (Err e) held end turn rest = absurd (none-some held (sym turn.0))

  pub turn_last : (got : Result ℕ Error) → Turned got None s (take (kept + count got) text) left handed next → Ran s begun left
  unfolding Turned
  turn_last (Ok zero) turn =
      let did = rw (add-zero, is) at turn in
      record { how = complete; pieces = []; bytes = handed; turns = rw (did.1, did.2) ended }
  turn_last (Ok (suc n)) turn = piece_before n None left turn (no_more left (unfinished (take (kept + suc n) text)))
  turn_last (Err e) turn = rw turn.1 (no_more s begun)
