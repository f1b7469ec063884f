-- 01, "How tight the promises are": "zeroing, copying and comparing frames .. for a run of any length". What copying and comparing runs of
-- words gives; a run that is zeroed is `replicate n 0`.
use Rattle.std.specs.Prelude.{List, ℕ, zero, suc, min, ◌+◌, eqb, length, get_or}
use Rattle.std.proofs.Math.Seq.{paste}
use Rattle.words.specs.Choice.{pick}

-- `target` with as many words of `source` at its front as it has room for. (`paste d at s n`, of the library, is `d` with the first n of `s`
-- laid over it from the place `at` on.)
unfoldable pub copied : List ℕ → List ℕ → List ℕ
copied target source = paste target 0 source (min (length target) (length source))

-- how many of the first n words of two runs differ; past its end a run counts as zero. 02, Q-5: "it answers exactly how many of them differ"
unfoldable pub differing : List ℕ → List ℕ → ℕ → ℕ
differing a b zero = 0
differing a b (suc n) = differing a b n + pick (eqb (get_or a n 0) (get_or b n 0)) 0 1
