-- `rmp::encoding::encode` meets its contract, which is its code.
use mathlib.Core.Path.{◌≡◌, refl}
use mathlib.Core.Bool.{Bool, true, false}
use mir.Val.{bool_byte}
use Rattle.words.specs.Choice.{pick}
use Rattle.entries.specs.Entry.{bit, encoded}
use Rattle.rmp.proofs.encoding.encode.Goals as goal

flag_bit : (b : Bool) → bool_byte b ≡ bit b
unfolding bit pick
flag_bit true = refl
flag_bit false = refl

pub returns : goal.returns
unfolding encoded
returns c = rw (c.from.ensures, c.from-2.ensures, flag_bit c.args.e.validated, flag_bit c.args.e.fixed)
