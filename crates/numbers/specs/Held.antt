-- What the code's buffer holds, in the words of `Buffer`.
use Rattle.std.specs.Prelude.{◌≡◌, List, ℕ}
use Rattle.std.specs.Borrow.{MutBor}
use Rattle.numbers.specs.Buffer.{Buffer, buffer, appended}
use Rattle.numbers.specs.declared.buffer.Buffer as code

-- the reference under which its bytes are lent
abbrev pub lent : code.Buffer → MutBor (List ℕ)
lent b = b.bytes

abbrev pub held : code.Buffer → Buffer
held b = buffer (lent b).now b.filled

-- the same bytes are lent, and `more` is appended
pub record Appends (old : code.Buffer) (more : List ℕ) (new : code.Buffer) : Type 0 where
  pub same_reference : (lent new).ghost_name ≡ (lent old).ghost_name
  pub grown : held new ≡ appended (held old) more
