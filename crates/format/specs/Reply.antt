-- 01, "The script program": what is printed for a line. "A wrong line prints `?`. Else: the letter, then `ok` and the answer's word and hex
-- numbers (no leading zeros), or `no` and the refusal in decimal." (02, Q-2, "the script's output stays": the reason is not
-- printed. Q-3: "The answer names the new owner, 0 for none, in the script in hex".)
use Rattle.std.specs.Prelude.{List, [], ◌∷◌, ◌++◌, ℕ}
use Rattle.rules.specs.Answers.{Told, refused, done, none, closed, opened, already, unfixed, word, count}
use Rattle.rules.specs.Calls.{Call}
use Rattle.format.specs.Ascii.{ascii}
use Rattle.format.specs.Number.{hex, decimal}
use Rattle.format.specs.Written.{letter}

unfoldable pub answered : Told → List ℕ
answered (refused refusal) = ascii " no " ++ decimal refusal.number
answered done = ascii " ok"
answered none = ascii " ok none"
answered (closed asid gpa) = ascii " ok closed " ++ hex asid ++ ascii " " ++ hex gpa
answered opened = ascii " ok opened"
answered already = ascii " ok already"
answered (unfixed owner) = ascii " ok " ++ hex owner
answered (word value) = ascii " ok " ++ hex value
answered (count number) = ascii " ok " ++ hex number

-- the whole line of an answer, with its line feed
unfoldable pub reply : Call → Told → List ℕ
reply call told = (letter call ∷ []) ++ answered told ++ ascii "\n"

unfoldable pub wrong_reply : List ℕ
wrong_reply = ascii "?\n"
