-- What an entry's read comes to is what READ answers: both are what the checks of an access make of what follows. And how walks go on.
-- Assumes nothing.
use mathlib.Core.Path.{◌≡◌, refl}
use mathlib.Core.Bool.{Bool, true}
use Prim.Native.Nat.{ℕ, zero, suc, ◌/◌, ◌-◌, ◌<◌, ◌≤◌}
use native.Mathlib.Omega.{arith}
use Rattle.entries.specs.Entry.{frame_of}
use Rattle.rules.specs.Access.{reading, access, read}
use Rattle.rules.specs.Answers.{done, outcome, grant, settle}
use Rattle.rules.specs.Refusals.{Refusal}
use Rattle.rules.specs.State.{State}
use Rattle.rules.proofs.Settled.{Settled, passes, refuses, Sane, access_settled}
use Rattle.paging.specs.Entry.{page_of, index_at}
use Rattle.paging.specs.Walk.{Walked, reaches, stops, onward, Pointer, pointer, follow, down, walk, let_through, look}
use Rattle.paging.specs.Walk.{as_read, LookIsRead}
use Rattle.paging.specs.Walk.{host_half, guest_reads, always, Virtual, guest_walk, Mapping, mapping, walked}
use Rattle.paging.proofs.IndexLaws.{shifted, top_index}

read_by :
    (s : State) (caller gpa hpa gtype ntype index : ℕ)
    → Settled (Sane s (frame_of hpa)) (access s reading caller gpa hpa gtype ntype index)
    → read s caller gpa hpa gtype ntype index ≡ outcome (as_read (look s caller gpa hpa gtype ntype index)) s
unfolding read look let_through as_read settle
read_by s caller gpa hpa gtype ntype index (passes sane through) = rw (through (grant done s), through _)
read_by s caller gpa hpa gtype ntype index (refuses r stopped) = rw (stopped (grant done s), stopped _)

pub look_is_read : LookIsRead
look_is_read s caller gpa hpa gtype ntype index =
    read_by s caller gpa hpa gtype ntype index (access_settled s reading caller gpa hpa gtype ntype index)

-- with some levels to go, a walk is one level down and then the rest
pub walk_down :
    (reads : Pointer → ℕ → Walked ℕ) (leaf_refused : ℕ → Bool) (level page : ℕ) (from : Pointer) → 0 < level
    → walk reads leaf_refused level page from
    ≡ onward (down reads leaf_refused (level - 1) (index_at (level - 1) page) from) λ to. walk reads leaf_refused (level - 1) page to
unfolding walk
walk_down reads leaf_refused zero page from some = let z : ⊥ = omega arith in absurd z
walk_down reads leaf_refused (suc level) page from some = let e : suc level - 1 ≡ level = omega arith in rw e

-- a turn of a loop that walks: the next index is on top of what is left of the page's number
pub turn :
    (reads : Pointer → ℕ → Walked ℕ) (leaf_refused : ℕ → Bool) (level page rest : ℕ) (from : Pointer) (below : Walked Pointer)
    → 0 < level → level ≤ 4 → rest ≡ shifted level page → below ≡ down reads leaf_refused (level - 1) (rest / 0x8000000) from
    → walk reads leaf_refused level page from ≡ onward below λ to. walk reads leaf_refused (level - 1) page to
turn reads leaf_refused level page rest from below some most left went =
    rw (walk_down reads leaf_refused level page from some, ← top_index page level some most, ← left, ← went)

-- ---- the guest's walk and, at its end, the frame of the page: what is left of it, with so many levels to go
onward_again :
    {A B C : Type 0} (w : Walked A) (f : A → Walked B) (g : B → Walked C) → onward (onward w f) g ≡ onward w (λ a. onward (f a) g)
unfolding onward
onward_again (reaches found) f g = refl
onward_again (stops refusal) f g = refl

by_frame :
    {A B C D E : Type 0} (w : Walked A) (f : A → Walked B) (g : B → Walked C) (h : C → Walked D) (k : D → Walked E)
    → onward (onward (onward (onward w f) g) h) k ≡ onward w λ a. onward (onward (f a) g) λ c. onward (h c) k
unfolding onward
by_frame (reaches found) f g h k = onward_again (onward (f found) g) h k
by_frame (stops refusal) f g h k = refl

module _ (s : State) (at : Virtual) where
  unfoldable pub left : ℕ → Pointer → Walked Mapping
  left level from =
      onward (walk (guest_reads s at.caller at.host_root) always level (page_of at.va) from) λ page.
      onward (host_half s at.host_root page.address) λ frame.
      reaches (mapping page.address frame.address page.type frame.type)

  pub all_left : left 4 (pointer at.root at.root_type) ≡ walked s at
  unfolding left walked guest_walk
  all_left = refl

  pub none_left :
      (from : Pointer)
      → left 0 from
      ≡ onward (host_half s at.host_root from.address) λ frame.
      reaches (mapping from.address frame.address from.type frame.type)
  unfolding left walk onward
  none_left from = refl

  pub left_stops :
      (level : ℕ) (from : Pointer) (r : Refusal) → host_half s at.host_root from.address ≡ stops r → left level from ≡ stops r
  unfolding left walk down guest_reads onward
  left_stops zero from r stopped = rw stopped
  left_stops (suc level) from r stopped = rw stopped

  -- a turn of the loop: the table's address through the host's, its entry, and then the rest
  pub left_by_index :
      (level : ℕ) (from : Pointer) → 0 < level
      → left level from
      ≡ onward (host_half s at.host_root from.address) λ frame.
      onward (onward (look s at.caller from.address frame.address from.type frame.type (index_at (level - 1) (page_of at.va)))
      λ w. follow (level - 1) true w)
      λ to. left (level - 1) to
  unfolding left down guest_reads always
  left_by_index level from some =
      rw (walk_down _ always level _ from some) (by_frame (host_half s at.host_root from.address) _ _ _ _)

  -- and so with the next index on top of what is left of the page's number
  pub left_down :
      (level rest : ℕ) (from : Pointer) → 0 < level → level ≤ 4 → rest ≡ shifted level (page_of at.va)
      → left level from
      ≡ onward (host_half s at.host_root from.address) λ frame.
      onward (onward (look s at.caller from.address frame.address from.type frame.type (rest / 0x8000000))
      λ w. follow (level - 1) true w)
      λ to. left (level - 1) to
  unfolding left down guest_reads always
  left_down level rest from some most have =
      rw (turn _ always level _ rest from _ some most have refl) (by_frame (host_half s at.host_root from.address) _ _ _ _)
