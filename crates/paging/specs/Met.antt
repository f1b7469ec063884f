-- What a walk reads: the frames of the words that it reads, in the order in which it meets them; and that there are at most 24.
use Rattle.std.specs.Prelude.{Bool, List, [], ◌∷◌, ◌++◌, ℕ, zero, suc, ◌≤◌, ltb, length}
use Rattle.words.specs.Choice.{pick}
use Rattle.entries.specs.Entry.{SHARED, frame_of}
use Rattle.rules.specs.State.{State}
use Rattle.paging.specs.Entry.{page_of, index_at}
use Rattle.paging.specs.Walk.{Walked, reaches, stops, Pointer, pointer, down, host_reads, at_last, host_half, guest_reads, always}
use Rattle.paging.specs.Walk.{Virtual, guest_walk}

-- what is met from what a walk reaches; nothing where it stops
unfoldable pub beyond : {A : Type 0} → Walked A → (A → List ℕ) → List ℕ
beyond (reaches found) rest = rest found
beyond (stops refusal) rest = []

-- a walk as `walk` has it, where the reading of a table's entry meets these frames
module _ (reads : Pointer → ℕ → Walked ℕ) (leaf_refused : ℕ → Bool) (met : Pointer → List ℕ) where
  unfoldable pub walk_met : ℕ → ℕ → Pointer → List ℕ
  walk_met zero page from = []
  walk_met (suc level) page from =
      met from ++ beyond (down reads leaf_refused level (index_at level page) from) λ to. walk_met level page to

-- the host's tables: each entry is one read
unfoldable pub table_met : Pointer → List ℕ
table_met from = frame_of from.address ∷ []

unfoldable pub host_met : State → ℕ → ℕ → List ℕ
host_met s host_root gpa =
    pick (ltb gpa 0x1000000000000) (walk_met (host_reads s) at_last table_met 4 (page_of gpa) (pointer host_root SHARED)) []

-- the guest's: the table's address goes through the host's first, and then the entry is read
unfoldable pub guest_met : State → ℕ → Pointer → List ℕ
guest_met s host_root from = host_met s host_root from.address ++ beyond (host_half s host_root from.address) table_met

unfoldable pub frames_met : State → Virtual → List ℕ
frames_met s at =
    walk_met (guest_reads s at.caller at.host_root) always (guest_met s at.host_root) 4
    (page_of at.va) (pointer at.root at.root_type)
    ++ beyond (guest_walk s at) λ page. host_met s at.host_root page.address

-- five addresses through four levels of the host's, and four entries of the guest's
abbrev pub FewReads : Type 0
FewReads = (s : State) (at : Virtual) → length (frames_met s at) ≤ 24
