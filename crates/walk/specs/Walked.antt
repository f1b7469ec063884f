-- What the code's walks come to, in the words of the definitions.
use Rattle.std.specs.Prelude.{ℕ, Result, Ok, Err}
use Rattle.checks.specs.Answer.{means}
use Rattle.checks.specs.declared.refusal.Refusal.{Refusal}
use Rattle.paging.specs.Walk as paging
use Rattle.paging.specs.Walk.{Walked, reaches, stops, pointer, mapping, virtual}
use Rattle.walk.specs.declared.entry.Pointer.{Pointer}
use Rattle.walk.specs.declared.guest.Mapping.{Mapping}
use Rattle.walk.specs.declared.guest.Virtual.{Virtual}

-- "The walk yields guest address, frame and both types, or a refusal": what is found, in those words, or the refusal that is met
abbrev pub found : {A B : Type 0} → (A → B) → Result A Refusal → Walked B
found words (Ok a) = reaches (words a)
found words (Err r) = stops (means r)

abbrev pub seen : Result ℕ Refusal → Walked ℕ
seen r = found (λ w. w) r

abbrev pub points : Pointer → paging.Pointer
points p = pointer p.address p.kind

abbrev pub pointed : Result Pointer Refusal → Walked paging.Pointer
pointed r = found points r

abbrev pub maps : Mapping → paging.Mapping
maps m = mapping m.gpa m.hpa m.gtype m.ntype

abbrev pub mapped : Result Mapping Refusal → Walked paging.Mapping
mapped r = found maps r

-- how a guest names a virtual address
abbrev pub virtual_of : Virtual → paging.Virtual
virtual_of at = virtual at.caller at.root at.root_type at.host_root at.va
