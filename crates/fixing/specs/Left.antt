-- 02, Q-3: "One, at the ASID of any guest: that guest becomes the owner, with that word's address .. None: page and leaf are both zeroed
-- and turn SHARED." What follows for who is left in a fixed page, in code: for one guest, with its number and its address, and for nobody.
use Rattle.std.specs.Prelude.{ℕ, Option, Some, None}
use Rattle.rules.specs.Answers.{Verdict}
use Rattle.fixing.specs.declared.unfix.Guest.{Guest}

unfoldable pub by_left : Option Guest → (ℕ → ℕ → Verdict) → Verdict → Verdict
by_left (Some guest) one none = one guest.asid guest.gpa
by_left None one none = none
