-- What a call does to the places of one guest: how many there are at each address, and whence each of them comes.
-- Assumes nothing.
use mathlib.Core.Path.{◌≡◌}
use Prim.Native.Nat.{ℕ, ◌+◌, ◌≤◌}
use Rattle.entries.specs.Entry.{bit}
use Rattle.rules.specs.Census.{holds, holding, places}
use Rattle.rules.specs.History.{Event, opens, is_opening, is_closing, written}
use Rattle.rules.specs.State.{State, word_at}

-- whence the guest's place at an address comes, that frame f is after an event: from a place before it, with its words and what the event
-- wrote; or from the opening, with the words found
pub data Whence (s u : State) (e : Event) (guest gpa f : ℕ) : Type 0 where
  old : (p : ℕ) → holding s guest p ≡ holds gpa → ((i : ℕ) → word_at u f i ≡ written e guest gpa i (word_at s p i)) → Whence s u e guest gpa f
  new : (frame : ℕ) → e ≡ opens guest gpa frame → ((i : ℕ) → word_at u f i ≡ word_at s frame i) → Whence s u e guest gpa f

pub record Change (s u : State) (e : Event) (guest : ℕ) : Type 0 where
  pub balance :
      (gpa : ℕ) → places u guest gpa + bit (is_closing e guest gpa) ≡ places s guest gpa + bit (is_opening e guest gpa)
  -- a guest with two places at an address may write to one of them alone
  pub whence : (gpa f : ℕ) → places s guest gpa ≤ 1 → holding u guest f ≡ holds gpa → Whence s u e guest gpa f
