-- 01, CENSUS: what an answered census says, of any table and memory, by the guest's places at all addresses together.
use Rattle.std.specs.Prelude.{◌≡◌, false, ℕ, zero, suc, ◌+◌, ◌≤◌}
use Rattle.entries.specs.Entry.{address_limit, is_address}
use Rattle.rules.specs.Answers.{count}
use Rattle.rules.specs.Calls.{CENSUS, step}
use Rattle.rules.specs.Census.{places}
use Rattle.rules.specs.State.{State, N}

-- the first n terms together
unfoldable pub sum : (ℕ → ℕ) → ℕ → ℕ
sum t zero = 0
sum t (suc n) = sum t n + t n

-- a sum over all addresses
unfoldable pub over_addresses : (ℕ → ℕ) → ℕ
over_addresses t = sum t address_limit

-- what a census says that answers n
pub record CensusSays (s : State) (guest n : ℕ) : Type 0 where
  -- "Answer: the number of places of this guest."
  pub counts : n ≡ over_addresses (places s guest)
  -- "The census of a guest is never more than N."
  pub bounded : n ≤ N s
  -- a number that is no address adds nothing to the sum; every address is below 2^52, so none is left out of it
  pub nowhere_else : (gpa : ℕ) → is_address gpa ≡ false → places s guest gpa ≡ 0

-- on any table and memory, whatever is wrong with them, wherever a census is answered
abbrev pub CensusCounts : Type 0
CensusCounts = (s : State) (guest n : ℕ) → (step s (CENSUS guest)).told ≡ count n → CensusSays s guest n
