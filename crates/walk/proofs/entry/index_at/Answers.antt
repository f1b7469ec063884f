-- `walk::entry::index_at` meets its contract: nine bits are taken off for each level below.
use mathlib.Core.Path.{◌≡◌, refl}
use Prim.Native.Nat.{ℕ, zero, suc, ◌*◌, ◌^◌, ◌<◌}
use native.Mathlib.Omega.{arith}
use Rattle.paging.specs.Entry.{index_at}
use Rattle.walk.proofs.entry.index_at.Goals as goal

nine_bits : (level : ℕ) → level < 4 → 2 ^ (9 * level) ≡ 512 ^ level
nine_bits zero few = refl
nine_bits (suc zero) few = refl
nine_bits (suc (suc zero)) few = refl
nine_bits (suc (suc (suc zero))) few = refl
nine_bits (suc (suc (suc (suc level)))) few = absurd (omega arith)

pub returns : goal.returns
unfolding index_at
returns c = rw (nine_bits c.args.level c.requires)
