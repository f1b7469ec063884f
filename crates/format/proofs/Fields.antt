-- The fields of a line: a run without a space before the end of the line or a space is the first field, so the fields of a letter and its
-- numbers are the letter and their hex digits; and the first field of any bytes is what stands up to the first space. By induction on the
-- bytes, and on the numbers.
-- Assumes nothing.
use mathlib.Core.Path.{◌≡◌, refl, ap, ◌∙◌}
use mathlib.Core.List.{List, [], ◌∷◌, ◌++◌, map}
use mathlib.Core.Logic.{◌≢◌, ⊎_elim}
use Prim.Native.Char.{code}
use Prim.Native.Nat.{ℕ, ◌≤◌}
use native.Mathlib.Omega.{arith}
use lib.ListN.{length}
use borrow.Author.Tests.{ne_eqb}
use Rattle.words.proofs.ChoiceLaws.{same_or_not, pick_true, pick_false}
use Rattle.format.specs.Line.{longer, fields}
use Rattle.format.specs.Number.{hex}
use Rattle.format.specs.Place.{up_to}
use Rattle.format.specs.Written.{spaced}
use Rattle.format.proofs.NumberLaws.{hex_without}
use Rattle.format.proofs.UpTo.{up_to_here, up_to_past}
use Rattle.format.proofs.Without.{Without}

pub fields_byte : (byte : ℕ) (rest : List ℕ) → byte ≢ code " " → fields (byte ∷ rest) ≡ longer byte (fields rest)
unfolding fields
fields_byte byte rest h = pick_false _ _ (ne_eqb byte (code " ") h)

pub fields_space : (rest : List ℕ) → fields (code " " ∷ rest) ≡ [] ∷ fields rest
unfolding fields
fields_space rest = pick_true _ _ refl

-- the first field, where the rest begins with an empty one
pub fields_first :
    (run rest : List ℕ) (others : List (List ℕ)) → Without (code " ") run → fields rest ≡ [] ∷ others → fields (run ++ rest) ≡ run ∷ others
unfolding longer
fields_first [] rest others none e = e
fields_first (byte ∷ run) rest others none e =
    fields_byte byte (run ++ rest) none.0 ∙ ap (longer byte) (fields_first run rest others none.1 e)

pub fields_spaced : (run numbers : List ℕ) → Without (code " ") run → fields (run ++ spaced numbers) ≡ run ∷ map hex numbers
unfolding fields spaced
fields_spaced run [] none = fields_first run [] [] none refl
fields_spaced run (n ∷ numbers) none =
    fields_first run (spaced (n ∷ numbers)) (map hex (n ∷ numbers)) none
    (fields_space (hex n ++ spaced numbers) ∙ ap (λ l. [] ∷ l) (fields_spaced (hex n) numbers (hex_without (code " ") n (omega arith))))

-- ---- the first field, by the first space
-- no space: one field
pub fields_one : (bytes : List ℕ) → length bytes ≤ length (up_to (code " ") bytes) → fields bytes ≡ bytes ∷ []
unfolding longer fields
fields_one [] h = refl
fields_one (byte ∷ rest) h =
    ⊎_elim
    (λ e. let fewer : length {A = ℕ} (byte ∷ rest) ≤ 0 = rw (up_to_here (code " ") byte rest e) at h in absurd (omega arith))
    (λ e.
    let on : length {A = ℕ} (byte ∷ rest) ≤ length {A = ℕ} (byte ∷ up_to (code " ") rest) = rw (up_to_past (code " ") byte rest e) at h in
    let tail : fields rest ≡ rest ∷ [] = fields_one rest (omega arith) in
    rw (fields_byte byte rest e, tail))
    (same_or_not byte (code " "))
