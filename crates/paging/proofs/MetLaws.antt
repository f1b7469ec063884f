-- A walk reads at most 24 words: an entry of the host's is one read, so that an address is four, and an entry of the guest's is five.
-- Assumes nothing.
use mathlib.Core.Bool.{Bool}
use mathlib.Core.List.{List, [], ◌++◌}
use Prim.Native.Nat.{ℕ, zero, suc, ◌+◌, ◌*◌, ◌≤◌}
use native.Mathlib.Nat.{mul-suc}
use native.Mathlib.Omega.{arith}
use lib.ListN.{length, length-append}
use Rattle.words.proofs.ChoiceLaws.{pick_either}
use Rattle.entries.specs.Entry.{SHARED}
use Rattle.rules.specs.State.{State}
use Rattle.paging.specs.Entry.{page_of, index_at}
use Rattle.paging.specs.Met.{beyond, walk_met, table_met, host_met, guest_met, frames_met, FewReads}
use Rattle.paging.specs.Walk.{Walked, reaches, stops, Pointer, pointer, down, host_half, guest_walk}

beyond_few : {A : Type 0} (w : Walked A) (rest : A → List ℕ) (n : ℕ) → ((a : A) → length (rest a) ≤ n) → length (beyond w rest) ≤ n
unfolding beyond
beyond_few (reaches found) rest n few = few found
beyond_few (stops refusal) rest n few = omega arith

both_few : (a b : List ℕ) (m n most : ℕ) → m + n ≤ most → length a ≤ m → length b ≤ n → length (a ++ b) ≤ most
both_few a b m n most fits one two = rw (length-append a b) (omega (arith, fits, one, two))

module _ (reads : Pointer → ℕ → Walked ℕ) (leaf_refused : ℕ → Bool) (met : Pointer → List ℕ) (n : ℕ)
    (few : (from : Pointer) → length (met from) ≤ n) where
  walk_few : (level page : ℕ) (from : Pointer) → length (walk_met reads leaf_refused met level page from) ≤ n * level
  unfolding walk_met
  walk_few zero page from = omega arith
  walk_few (suc level) page from =
      let lower : Pointer → List ℕ = λ to. walk_met reads leaf_refused met level page to in
      let next = down reads leaf_refused level (index_at level page) from in
      both_few (met from) (beyond next lower) n (n * level) _ (omega (arith, mul-suc n level)) (few from)
      (beyond_few next lower _ (walk_few level page))

table_few : (from : Pointer) → length (table_met from) ≤ 1
unfolding table_met
table_few from = omega arith

module _ (s : State) (host_root : ℕ) where
  host_few : (gpa : ℕ) → length (host_met s host_root gpa) ≤ 4
  unfolding host_met
  host_few gpa =
      pick_either (λ met. length met ≤ 4) _ _ []
      (λ low. walk_few _ _ table_met 1 table_few 4 (page_of gpa) (pointer host_root SHARED))
      (λ high. omega arith)

  guest_few : (from : Pointer) → length (guest_met s host_root from) ≤ 5
  unfolding guest_met
  guest_few from =
      both_few (host_met s host_root from.address) (beyond (host_half s host_root from.address) table_met) 4 1 5 (omega arith)
      (host_few from.address) (beyond_few _ table_met 1 table_few)

pub few_reads : FewReads
unfolding frames_met
few_reads s at =
    let last : Pointer → List ℕ = λ page. host_met s at.host_root page.address in
    both_few (walk_met _ _ _ 4 _ _) (beyond (guest_walk s at) last) 20 4 24 (omega arith)
    (walk_few _ _ _ 5 (guest_few s at.host_root) 4 _ _)
    (beyond_few (guest_walk s at) last 4 (λ page. host_few s at.host_root page.address))
