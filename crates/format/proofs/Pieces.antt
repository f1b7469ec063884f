-- However a text is cut into pieces, what is printed and what is left are those of the text: by induction on the pieces, of any line that
-- was begun before them. The whole lines are run first, and what is kept of the rest tells as much as all of it. Where the last line is not
-- run, nothing after the last line feed is: if the pieces that follow have none, what was run so far is all.
-- Assumes nothing.
use mathlib.Core.Path.{◌≡◌, refl, sym, ap, ◌∙◌}
use mathlib.Core.List.{List, [], ◌∷◌, ◌++◌, append_assoc, append-nil}
use mathlib.Core.Logic.{⊎_elim}
use Prim.Native.Nat.{ℕ}
use native.Mathlib.Omega.{arith}
use lib.ListN.{length, take, drop, take-append-drop}
use Rattle.words.proofs.ChoiceLaws.{lt_or_le}
use Rattle.rules.specs.State.{State, empty_table}
use Rattle.format.specs.Piece.{cut, whole_lines, unfinished, Ending, complete, broken_off, Streamed, ended, stopped, fed}
use Rattle.format.specs.Piece.{joined, ran_of, StreamPrints, StreamDemand3}
use Rattle.format.specs.Text.{printed, after}
use Rattle.format.proofs.Cut.{whole_lines_lem, rest_unfed, tail_unfed, whole_first, whole_second}
use Rattle.format.proofs.LongLine.{said_cut}
use Rattle.format.proofs.ResponseLaws.{nothing_printed, nothing_after}
use Rattle.format.proofs.TextKeeps.{text_keeps_demand_3}
use Rattle.format.proofs.Texts.{printed_append, after_append, same_printed, same_after}

-- a text, and what follows it: its whole lines, and then the line that it left unfinished
cut_there : (text rest : List ℕ) → text ++ rest ≡ whole_lines text ++ (drop (cut text (length text)) text ++ rest)
unfolding whole_lines
cut_there text rest = let at = cut text (length text) in rw (← append_assoc (take at text) (drop at text) rest, take-append-drop at text)

printed_on :
    (s : State) (text rest : List ℕ)
    → printed s (text ++ rest) ≡ printed s (whole_lines text) ++ printed (after s (whole_lines text)) (unfinished text ++ rest)
unfolding unfinished
printed_on s text rest =
    let tail = drop (cut text (length text)) text in
    rw (same_printed (after s (whole_lines text)) (take 121 tail ++ rest) (tail ++ rest) (said_cut tail rest (rest_unfed text)))
    (ap (printed s) (cut_there text rest) ∙ printed_append s (whole_lines text) (tail ++ rest) (whole_lines_lem text))

after_on :
    (s : State) (text rest : List ℕ) → after s (text ++ rest) ≡ after (after s (whole_lines text)) (unfinished text ++ rest)
unfolding unfinished
after_on s text rest =
    let tail = drop (cut text (length text)) text in
    rw (same_after (after s (whole_lines text)) (take 121 tail ++ rest) (tail ++ rest) (said_cut tail rest (rest_unfed text)))
    (ap (after s) (cut_there text rest) ∙ after_append s (whole_lines text) (tail ++ rest) (whole_lines_lem text))

unfinished_unfed : (text : List ℕ) → whole_lines (unfinished text) ≡ []
unfolding unfinished
unfinished_unfed text = tail_unfed 121 text

-- and so of what is run of them: where there is no line feed in the rest, nothing of it
ran_printed :
    (how : Ending) (s : State) (text rest : List ℕ)
    → printed s (ran_of how (text ++ rest))
    ≡ printed s (whole_lines text) ++ printed (after s (whole_lines text)) (ran_of how (unfinished text ++ rest))
unfolding ran_of
ran_printed complete s text rest = printed_on s text rest
ran_printed broken_off s text rest =
    ⊎_elim
    (λ some. rw (whole_second text rest some, whole_second (unfinished text) rest some) (printed_on s text (whole_lines rest)))
    (λ few.
    let none : cut rest (length rest) ≡ 0 = omega arith in
    rw (whole_first text rest none, whole_first (unfinished text) rest none, unfinished_unfed text)
    (rw (nothing_printed (after s (whole_lines text)) [] 0 (omega arith), append-nil)))
    (lt_or_le 0 (cut rest (length rest)))

ran_after :
    (how : Ending) (s : State) (text rest : List ℕ)
    → after s (ran_of how (text ++ rest)) ≡ after (after s (whole_lines text)) (ran_of how (unfinished text ++ rest))
unfolding ran_of
ran_after complete s text rest = after_on s text rest
ran_after broken_off s text rest =
    ⊎_elim
    (λ some. rw (whole_second text rest some, whole_second (unfinished text) rest some) (after_on s text (whole_lines rest)))
    (λ few.
    let none : cut rest (length rest) ≡ 0 = omega arith in
    rw (whole_first text rest none, whole_first (unfinished text) rest none, unfinished_unfed text)
    (sym (nothing_after (after s (whole_lines text)) [] 0 (omega arith))))
    (lt_or_le 0 (cut rest (length rest)))

streamed :
    (how : Ending) (s : State) (begun : List ℕ) (end : State) (pieces : List (List ℕ)) (bytes : List ℕ)
    → whole_lines begun ≡ [] → Streamed how s begun pieces bytes end
    → (bytes ≡ printed s (ran_of how (begun ++ joined pieces))) × (end ≡ after s (ran_of how (begun ++ joined pieces)))
unfolding ran_of joined
streamed complete s begun end [] bytes unfed ended = (rw append-nil, rw append-nil)
streamed broken_off s begun end [] bytes unfed stopped =
    rw (append-nil, unfed) (sym (nothing_printed s [] 0 (omega arith)), sym (nothing_after s [] 0 (omega arith)))
streamed how s begun end (piece ∷ pieces) bytes unfed (fed more) =
    let text = begun ++ piece in
    let rest = streamed how (after s (whole_lines text)) (unfinished text) end pieces _ (unfinished_unfed text) more in
    rw (← append_assoc begun piece (joined pieces)) (
      ap (λ b. printed s (whole_lines text) ++ b) rest.0 ∙ sym (ran_printed how s text (joined pieces)),
      rest.1 ∙ sym (ran_after how s text (joined pieces)),
    )

pub stream_prints : StreamPrints
unfolding whole_lines cut
stream_prints how s end pieces bytes all = streamed how s [] end pieces bytes refl all

pub stream_keeps_demand_3 : StreamDemand3
stream_keeps_demand_3 how size memory end pieces bytes all =
    let start = empty_table size memory in
    let text = ran_of how (joined pieces) in
    let ran = stream_prints how start end pieces bytes all in
    let kept = text_keeps_demand_3 size memory text in
    (ran.0 ∙ kept.1.0, (kept.0, rw ran.1 kept.1.1))
