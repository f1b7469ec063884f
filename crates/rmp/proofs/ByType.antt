-- The three tests of an entry's fields, by type and FIXED: each test is one part of two, and the type chooses the part.
-- Assumes nothing.
use mathlib.Core.Path.{◌≡◌, refl, sym}
use mathlib.Core.Bool.{Bool, true, false, false≢true, not}
use Prim.Native.Nat.{ℕ, zero, suc, ◌<◌}
use native.Mathlib.Omega.{arith}
use lib.Dec.{eqb, ltb}
use Rattle.words.specs.Choice.{◌and◌, ◌or◌}
use Rattle.entries.specs.Entry.{MERGEABLE, is_address, frame_of, is_guest, is_owned, is_unowned, asid_fits, flags_fit, address_fits}
use Rattle.entries.specs.declared.entry.Entry.{Entry}
use Rattle.entries.proofs.Tells.{not_unowned}

or_none : (b : Bool) → b or false ≡ b
unfolding ◌or◌
or_none true = refl
or_none false = refl

and_all : (b : Bool) → b and true ≡ b
unfolding ◌and◌
and_all true = refl
and_all false = refl

-- a type that is not owned is unowned: there are four
unowned_else : (kind : ℕ) → kind < 4 → is_owned kind ≡ false → is_unowned kind ≡ true
unfolding is_owned is_unowned ◌or◌
unowned_else zero small o = refl
unowned_else (suc zero) small o = absurd (false≢true (sym o))
unowned_else (suc (suc zero)) small o = absurd (false≢true (sym o))
unowned_else (suc (suc (suc zero))) small o = refl
unowned_else (suc (suc (suc (suc n)))) small o = let no : ⊥ = omega arith in absurd no

module _ (e : Entry) where
  module _ (small : e.kind < 4) (o : is_owned e.kind ≡ false) where
    pub unowned_asid : asid_fits e ≡ eqb e.asid 0
    unfolding asid_fits ◌and◌
    unowned_asid = rw (o, unowned_else e.kind small o) (or_none _)

    pub unowned_flags : flags_fit e ≡ not e.validated and not e.fixed
    unfolding flags_fit ◌and◌
    unowned_flags = rw (o, unowned_else e.kind small o) (or_none _)

    unowned_address : (n : ℕ) → address_fits n e ≡ eqb e.address 0
    unfolding address_fits ◌and◌
    unowned_address n = rw (o, unowned_else e.kind small o) (or_none _)

    pub unowned_rest : (n : ℕ) → flags_fit e and address_fits n e ≡ not e.validated and not e.fixed and eqb e.address 0
    unowned_rest n = rw (unowned_flags, unowned_address n)

  module _ (o : is_owned e.kind ≡ true) where
    pub owned_asid : asid_fits e ≡ is_guest e.asid
    unfolding asid_fits ◌and◌ ◌or◌
    owned_asid = rw (not_unowned e.kind o, o)

    pub unfixed_flags : e.fixed ≡ false → flags_fit e ≡ true
    unfolding flags_fit ◌and◌ ◌or◌
    unfixed_flags f = rw (not_unowned e.kind o, o, f)

    unfixed_address : (n : ℕ) → e.fixed ≡ false → address_fits n e ≡ is_address e.address
    unfolding address_fits ◌and◌ ◌or◌
    unfixed_address n f = rw (not_unowned e.kind o, o, f) (and_all _)

    pub unfixed_rest : (n : ℕ) → e.fixed ≡ false → flags_fit e and address_fits n e ≡ is_address e.address
    unfolding ◌and◌
    unfixed_rest n f = rw (unfixed_flags f, unfixed_address n f)

    pub fixed_flags : e.fixed ≡ true → flags_fit e ≡ eqb e.kind MERGEABLE and e.validated
    unfolding flags_fit ◌and◌ ◌or◌
    fixed_flags f = rw (not_unowned e.kind o, o, f)

    fixed_address : (n : ℕ) → e.fixed ≡ true → address_fits n e ≡ is_address e.address and ltb (frame_of e.address) n
    unfolding address_fits ◌and◌ ◌or◌
    fixed_address n f = rw (not_unowned e.kind o, o, f)

    pub fixed_rest :
        (n : ℕ) → e.fixed ≡ true
        → flags_fit e and address_fits n e
        ≡ eqb e.kind MERGEABLE and e.validated and (is_address e.address and ltb (frame_of e.address) n)
    fixed_rest n f = rw (fixed_flags f, fixed_address n f)
