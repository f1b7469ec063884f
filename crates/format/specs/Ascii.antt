-- A quoted text as its bytes.
use Rattle.std.specs.Prelude.{List, [], ◌∷◌, ℕ}
use Prim.Native.Char.{code}
use Prim.Native.String.{String, [] as empty, ◌∷◌ as ◌before◌}

abbrev pub ascii : String → List ℕ
ascii empty = []
ascii (first before rest) = code first ∷ ascii rest
