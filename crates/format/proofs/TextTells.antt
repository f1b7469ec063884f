-- What is printed for a text tells the answers of all its calls: the numbers of its calls fit into 64 bits, so memory's words stay so and
-- each answer is one that its call may give, where it meets no bad entry, and of such answers the printed lines tell. From an empty table
-- no call meets one.
-- Assumes nothing.
use mathlib.Core.Path.{refl}
use mathlib.Core.List.{List, [], ◌∷◌, map}
use Prim.Native.Nat.{ℕ}
use Rattle.rules.specs.Calls.{Call, step}
use Rattle.rules.specs.History.{history}
use Rattle.rules.specs.State.{State, empty_table}
use Rattle.rules.specs.Words.{AreWords, HoldsWords, numbers}
use Rattle.rules.proofs.History.{empty_sound}
use Rattle.rules.proofs.Never.{sound_never}
use Rattle.rules.proofs.Sound.{Sound}
use Rattle.rules.proofs.SoundSteps.{step_sound}
use Rattle.rules.proofs.StepAnswers.{step_answers}
use Rattle.rules.proofs.WordsStay.{words_held, words_stay}
use Rattle.format.specs.Line.{Said, says, wrong, said}
use Rattle.format.specs.Tells.{AllAnswer, NoneBad, TextTells, EmptyTextTells}
use Rattle.format.specs.Text.{lines, said_by, calls_of, calls, printed}
use Rattle.format.proofs.PrintedTells.{printed_tells}
use Rattle.format.proofs.SaidFits.{Fits, said_fits}
use Rattle.format.proofs.TextKeeps.{calls_made}

-- ---- calls whose numbers fit
abbrev AllFit : List Call → Type 0
AllFit [] = Unit {0}
AllFit (call ∷ rest) = AreWords (numbers call) × AllFit rest

more_fit : (first : Said) (rest : List Said) → Fits first → AllFit (calls_of rest) → AllFit (calls_of (first ∷ rest))
unfolding calls_of
more_fit (says call) rest h all = (h, all)
more_fit wrong rest h all = all

lines_fit : (parts : List (List ℕ)) → AllFit (calls_of (map said parts))
unfolding calls_of
lines_fit [] = tt
lines_fit (line ∷ rest) = more_fit (said line) (map said rest) (said_fits line) (lines_fit rest)

text_fits : (text : List ℕ) → AllFit (calls text)
unfolding calls said_by
text_fits text = lines_fit (lines text)

-- ---- their answers
all_answer : (s : State) (all : List Call) → HoldsWords s → NoneBad (history s all) → AllFit all → AllAnswer (history s all)
unfolding history
all_answer s [] words met fit = tt
all_answer s (call ∷ rest) words met fit =
    (step_answers s call words met.0, all_answer (step s call).after rest (words_stay s call words fit.0) met.1 fit.1)

pub text_tells : TextTells
unfolding printed calls
text_tells one two text h k met1 met2 e =
    let all = calls text in
    let fit = text_fits text in
    printed_tells (said_by text) (history one all) (history two all) (calls_made one all) (calls_made two all)
    (all_answer one all (words_held one h) met1 fit) (all_answer two all (words_held two k) met2 fit) e

-- ---- from an empty table no call meets a bad entry
sound_none_bad : (s : State) (all : List Call) → Sound s → NoneBad (history s all)
unfolding history
sound_none_bad s [] sound = tt
sound_none_bad s (call ∷ rest) sound =
    (λ reason h. (sound_never s sound call _ h).0 reason refl, sound_none_bad (step s call).after rest (step_sound s call sound))

pub empty_text_tells : EmptyTextTells
unfolding empty_table
empty_text_tells size1 size2 memory1 memory2 text h k =
    text_tells (empty_table size1 memory1) (empty_table size2 memory2) text h k
    (sound_none_bad _ _ (empty_sound size1 memory1)) (sound_none_bad _ _ (empty_sound size2 memory2))
