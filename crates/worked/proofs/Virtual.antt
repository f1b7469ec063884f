-- The definitions give the worked examples of calls by virtual address, reply, table and memory of each: computed.
-- Assumes nothing.
use mathlib.Core.Path.{◌≡◌, refl}
use mathlib.Core.List.{map}
use Rattle.paging.specs.Entry.{is_present, is_large, address_of, type_of, page_of, index_at, is_virtual}
use Rattle.paging.specs.Examples.{table, host_table, guest_table, lower_table, box}
use Rattle.paging.specs.Walk.{onward, provided, follow, down, walk, let_through, look, host_reads, at_last, host_walk, host_half, guest_reads}
use Rattle.paging.specs.Walk.{always, guest_walk, walked, virtual_arguments, translated}
use Rattle.requests.specs.Requests.{mapped, named, by_virtual, respond}
use Rattle.requests.specs.Virtual.{form_fits, call_on}
use Rattle.worked.specs.Pages.{RequestExample}
use Rattle.worked.specs.Virtual.{unopened_box, written_box, virtual_examples}
use Rattle.worked.proofs.Computed.{computed}

pub virtual_as_worked :
    map (λ (x : RequestExample). respond x.before x.request) virtual_examples
    ≡ map (λ (x : RequestExample). x.gives) virtual_examples
unfolding computed is_present is_large address_of type_of page_of index_at is_virtual onward provided follow down walk let_through look host_reads
    at_last host_walk host_half guest_reads always guest_walk walked virtual_arguments translated mapped named by_virtual respond form_fits call_on
    table host_table guest_table lower_table box unopened_box written_box virtual_examples
virtual_as_worked = refl
