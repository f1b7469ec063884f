-- The definitions give the worked examples of how many words of two frames differ: computed.
-- Assumes nothing.
use mathlib.Core.Path.{◌≡◌, refl}
use mathlib.Core.List.{map, []}
use Rattle.rules.specs.State.{state, differing_at}
use Rattle.worked.specs.Compared.{Compared, compared_examples}
use Rattle.worked.specs.Examples.{blank, page, page_of_two}
use Rattle.worked.proofs.Computed.{computed}

pub compared_as_worked :
    map (λ (x : Compared). differing_at (state [] x.memory) 0 1) compared_examples ≡ map (λ (x : Compared). x.number) compared_examples
unfolding computed compared_examples blank page page_of_two
compared_as_worked = refl
