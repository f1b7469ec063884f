-- What a walk yields fits 01's call. The last entry of each table was followed: its address is one by its bits, and its type is not LEAF.
-- Assumes nothing.
use mathlib.Core.Path.{◌≡◌, refl, subst}
use mathlib.Core.Bool.{Bool, true, false, false≢true, not}
use Prim.Native.Nat.{ℕ, zero, suc, ◌*◌, ◌/◌, ◌%◌, ◌<◌}
use native.Mathlib.Omega.{arith}
use lib.Dec.{leb, eqb}
use borrow.Author.Tests.{eq-eqb, lt-ltb, le-leb, eqb-false, leb-true, not-true}
use Rattle.words.specs.Choice.{pick, ◌and◌}
use Rattle.words.proofs.ChoiceLaws.{and_left, both_true}
use Rattle.entries.specs.Entry.{MERGEABLE, LEAF, address_limit, is_address, is_party, is_guest}
use Rattle.entries.proofs.Tells.{in_range}
use Rattle.rules.specs.Arguments.{is_host}
use Rattle.rules.specs.Refusals.{Refusal}
use Rattle.rules.specs.State.{State}
use Rattle.paging.specs.Entry.{address_of, type_of, page_of, index_at}
use Rattle.paging.specs.Fits.{YieldFits}
use Rattle.paging.specs.Walk.{Walked, reaches, stops, onward, provided, Pointer, pointer, follow, down, walk, host_reads, at_last}
use Rattle.paging.specs.Walk.{host_walk, host_half, guest_reads, always, Virtual, guest_walk, mapping, walked, virtual_arguments, translated}

-- ---- what was reached, was reached past every check and by every part
passed : {A : Type 0} (t : Bool) (r : Refusal) (w : Walked A) (a : A) → provided t r w ≡ reaches a → (t ≡ true) × (w ≡ reaches a)
unfolding provided pick
passed true r w a h = (refl, h)
passed false r w a h = absurd (false≢true (cc))

went : {A B : Type 0} (w : Walked A) (f : A → Walked B) (b : B) → onward w f ≡ reaches b → (a : A) × ((w ≡ reaches a) × (f a ≡ reaches b))
unfolding onward
went (reaches found) f b h = (found, (refl, h))
went (stops refusal) f b h = absurd (false≢true (cc))

-- ---- an entry
record PointerFits (p : Pointer) : Type 0 where
  address : is_address p.address ≡ true
  type : leb p.type MERGEABLE ≡ true

entry_address : (w : ℕ) → is_address (address_of w) ≡ true
unfolding is_address address_of
entry_address w =
    let whole : w / 0x1000 % 0x10000000000 * 0x1000 % 4096 ≡ 0 = omega arith in
    let low : w / 0x1000 % 0x10000000000 * 0x1000 < address_limit = omega arith in
    both_true _ _ (eq-eqb _ 0 whole) (lt-ltb _ _ low)

entry_type : (w : ℕ) → not (true and eqb (type_of w) LEAF) ≡ true → leb (type_of w) MERGEABLE ≡ true
unfolding type_of ◌and◌
entry_type w other =
    let unlike : w / 0x10000000000000 % 4 ≡ 3 → ⊥ = eqb-false _ _ (not-true _ other) in
    le-leb (w / 0x10000000000000 % 4) 2 (omega (arith, unlike))

followed : (level w : ℕ) (p : Pointer) → follow level true w ≡ reaches p → PointerFits p
unfolding follow
followed level w p h =
    let small = passed _ _ _ p (passed _ _ _ p h).1 in
    let last = passed _ _ _ p small.1 in
    let same : pointer (address_of w) (type_of w) ≡ p = cc in
    rw (← same) (record { address = entry_address w; type = entry_type w last.0 })

-- ---- a walk of one level or more, where LEAF is refused at the last
module _ (reads : Pointer → ℕ → Walked ℕ) (leaf_refused : ℕ → Bool) (refused : leaf_refused 0 ≡ true) where
  down_fits : (index : ℕ) (from p : Pointer) → down reads leaf_refused 0 index from ≡ reaches p → PointerFits p
  unfolding down
  down_fits index from p h =
      let read = went (reads from index) _ p h in
      followed 0 read.0 p (subst (λ t. follow 0 t read.0 ≡ reaches p) refused read.1.1)

  walk_fits : (level page : ℕ) (from p : Pointer) → walk reads leaf_refused (suc level) page from ≡ reaches p → PointerFits p
  unfolding walk
  walk_fits zero page from p h =
      let step = went (down reads leaf_refused 0 (index_at 0 page) from) _ p h in
      let same : step.0 ≡ p = cc in
      down_fits (index_at 0 page) from p (rw (← same) step.1.0)
  walk_fits (suc level) page from p h =
      let step = went (down reads leaf_refused (suc level) (index_at (suc level) page) from) _ p h in
      walk_fits level page step.0 p step.1.1

host_fits : (s : State) (host_root gpa : ℕ) (p : Pointer) → host_half s host_root gpa ≡ reaches p → PointerFits p
unfolding host_half host_walk at_last
host_fits s host_root gpa p h = walk_fits (host_reads s) at_last refl 3 (page_of gpa) _ p (passed _ _ _ p h).1

guest_fits : (s : State) (at : Virtual) (p : Pointer) → guest_walk s at ≡ reaches p → PointerFits p
unfolding guest_walk always
guest_fits s at p h = walk_fits (guest_reads s at.caller at.host_root) always refl 3 (page_of at.va) _ p h

-- ---- the caller
is_a_guest : (caller : ℕ) → is_party caller ≡ true → not (is_host caller) ≡ true → is_guest caller ≡ true
unfolding is_party is_host
is_a_guest caller party other =
    let small = leb-true caller 511 party in
    let some : caller ≡ 0 → ⊥ = eqb-false _ _ (not-true _ other) in
    in_range caller (omega (arith, some)) (omega (arith, small))

pub yield_fits : YieldFits
unfolding translated walked virtual_arguments
yield_fits s at others m h =
    let size = passed _ _ _ m h in
    let arguments = passed _ _ _ m size.1 in
    let party = passed _ _ _ m arguments.1 in
    let given = and_left _ _ arguments.0 in
    let page = went (guest_walk s at) _ m party.1 in
    let frame = went (host_half s at.host_root page.0.address) _ m page.1.1 in
    let same : mapping page.0.address frame.0.address page.0.type frame.0.type ≡ m = cc in
    let page_fits = guest_fits s at page.0 page.1.0 in
    let frame_fits = host_fits s at.host_root page.0.address frame.0 frame.1.0 in
    rw (← same)
    (record {
      size = size.0;
      caller = is_a_guest at.caller (and_left _ _ (and_left _ _ (and_left _ _ (and_left _ _ given)))) party.0;
      gpa = page_fits.address;
      hpa = frame_fits.address;
      gtype = page_fits.type;
      ntype = frame_fits.type;
    })
