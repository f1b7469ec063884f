-- Bytes that are filled from the start: what is appended follows what is there, as much of it as there is room for.
use Rattle.std.specs.Prelude.{List, ℕ, ◌+◌, ◌-◌, min, length}
use Rattle.std.proofs.Math.Seq.{paste}

pub record Buffer : Type 0 where
  pub bytes : List ℕ
  pub filled : ℕ

abbrev pub buffer : List ℕ → ℕ → Buffer
buffer bytes filled = record { bytes = bytes; filled = filled }

-- how many of `count` bytes there is room for
unfoldable pub fitting : Buffer → ℕ → ℕ
fitting b count = min count (length b.bytes - b.filled)

unfoldable pub appended : Buffer → List ℕ → Buffer
appended b more =
    let n = fitting b (length more) in
    buffer (paste b.bytes b.filled more n) (b.filled + n)
