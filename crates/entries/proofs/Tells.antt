-- What a well formed entry tells, and which entries are well formed: each fact follows from one or two of the three tests of its fields.
-- The proofs of other crates cite these and never open the tests.
-- Assumes nothing.
use mathlib.Core.Path.{◌≡◌, refl, sym, ◌∙◌}
use mathlib.Core.Bool.{Bool, true, false, false≢true}
use mathlib.Core.Logic.{◌≢◌, ◌⊎◌, inl, inr, ⊎_elim}
use Prim.Native.Nat.{ℕ, ◌≤◌, ◌<◌}
use native.Mathlib.Omega.{arith}
use borrow.Author.Tests.{eqb-true, leb-true, ltb-true, le-leb, lt-ltb, not-true}
use Rattle.words.specs.Choice.{pick, ◌and◌, ◌or◌}
use Rattle.words.proofs.ChoiceLaws.{same_or_not, and_left, and_right, or_cases}
use Rattle.entries.specs.Entry.{SHARED, PRIVATE, MERGEABLE, LEAF, is_address, frame_of, is_guest, is_owned, is_unowned, entry}
use Rattle.entries.specs.Entry.{asid_fits, flags_fit, address_fits, rule, by_rules, WellFormed, to_validated, to_moved}
use Rattle.entries.specs.declared.entry.Entry.{Entry}
use Rattle.entries.proofs.RuleLaws.{obeyed}

-- joined tests that passed, from what each of them tells
module _ {s t : Bool} {A B : Type 0} (f : s ≡ true → A) (g : t ≡ true → B) where
  both : s and t ≡ true → A × B
  both h = (f (and_left _ _ h), g (and_right _ _ h))

  either : s or t ≡ true → A ⊎ B
  either h = ⊎_elim (λ l. inl (f l)) (λ r. inr (g r)) (or_cases _ _ h)

same : {A : Type 0} → A → A
same a = a

-- the types that are owned, and those that are not
pub owned_kinds : (kind : ℕ) → is_owned kind ≡ true → (kind ≡ PRIVATE) ⊎ (kind ≡ MERGEABLE)
unfolding is_owned
owned_kinds kind = either (eqb-true _ _) (eqb-true _ _)

pub unowned_kinds : (kind : ℕ) → is_unowned kind ≡ true → (kind ≡ SHARED) ⊎ (kind ≡ LEAF)
unfolding is_unowned
unowned_kinds kind = either (eqb-true _ _) (eqb-true _ _)

-- the numbers of guests
pub guest_range : (asid : ℕ) → is_guest asid ≡ true → (1 ≤ asid) × (asid ≤ 511)
unfolding is_guest
guest_range asid = both (leb-true _ _) (leb-true _ _)

pub in_range : (asid : ℕ) → 1 ≤ asid → asid < 512 → is_guest asid ≡ true
unfolding is_guest ◌and◌
in_range asid one small = rw (le-leb 1 asid one, le-leb asid 511 (omega arith))

pub out_of_range : (asid : ℕ) → asid < 512 → is_guest asid ≡ false → asid ≡ 0
out_of_range asid small not_one =
    ⊎_elim same (λ (some : asid ≢ 0). absurd (false≢true (sym not_one ∙ in_range asid (omega (arith, some)) small))) (same_or_not asid 0)

pub record Tells (n : ℕ) (e : Entry) : Type 0 where
  pub asid_small : e.asid < 512
  pub kind_small : e.kind < 4
  pub owned_asid : is_owned e.kind ≡ true → 1 ≤ e.asid
  pub unowned_asid : is_unowned e.kind ≡ true → e.asid ≡ 0
  pub unowned_address : is_unowned e.kind ≡ true → e.address ≡ 0
  pub validated_owned : e.validated ≡ true → is_owned e.kind ≡ true
  pub fixed_kind : e.fixed ≡ true → e.kind ≡ MERGEABLE
  pub fixed_validated : e.fixed ≡ true → e.validated ≡ true
  pub fixed_leaf : e.fixed ≡ true → frame_of e.address < n
  pub address_ok : is_address e.address ≡ true

zero_address : is_address 0 ≡ true
unfolding is_address ◌and◌
zero_address = refl

-- no test both fails and passes, and no type is both owned and unowned
pub false_not_true : {A : Type 0} {b : Bool} → b ≡ false → b ≡ true → A
false_not_true p q = absurd (false≢true (sym p ∙ q))

pub not_unowned : (kind : ℕ) → is_owned kind ≡ true → is_unowned kind ≡ false
unfolding is_unowned ◌or◌
not_unowned kind o = ⊎_elim (λ k. rw k) (λ k. rw k) (owned_kinds kind o)

not_both : {A : Type 0} (kind : ℕ) → is_owned kind ≡ true → is_unowned kind ≡ true → A
not_both kind o u = false_not_true (not_unowned kind o) u

-- the three tests, each read as it is written
module _ (n : ℕ) (e : Entry) where
  abbrev OfAsid : Type 0
  OfAsid =
      ((is_unowned e.kind ≡ true) × (e.asid ≡ 0))
      ⊎ ((is_owned e.kind ≡ true) × ((1 ≤ e.asid) × (e.asid ≤ 511)))

  of_asid : asid_fits e ≡ true → OfAsid
  unfolding asid_fits
  of_asid = either (both same (eqb-true _ _)) (both same (guest_range _))

  abbrev OfFlags : Type 0
  OfFlags =
      (((is_unowned e.kind ≡ true) × (e.validated ≡ false)) × (e.fixed ≡ false))
      ⊎ ((is_owned e.kind ≡ true) × ((e.fixed ≡ false) ⊎ ((e.kind ≡ MERGEABLE) × (e.validated ≡ true))))

  of_flags : flags_fit e ≡ true → OfFlags
  unfolding flags_fit
  of_flags =
      either (both (both same (not-true _)) (not-true _)) (both same (either (not-true _) (both (eqb-true _ _) same)))

  abbrev OfAddress : Type 0
  OfAddress =
      ((is_unowned e.kind ≡ true) × (e.address ≡ 0))
      ⊎ (((is_owned e.kind ≡ true) × (is_address e.address ≡ true)) × ((e.fixed ≡ false) ⊎ (frame_of e.address < n)))

  of_address : address_fits n e ≡ true → OfAddress
  unfolding address_fits
  of_address = either (both same (eqb-true _ _)) (both (both same same) (either (not-true _) (ltb-true _ _)))

  -- and what they tell together
  module _ (a : OfAsid) (f : OfFlags) (w : OfAddress) where
    from_asid : (e.asid < 512) × (e.kind < 4)
    from_asid =
        ⊎_elim (λ u. ⊎_elim (λ k. omega arith) (λ k. omega arith) (unowned_kinds e.kind u.0))
        (λ o. ⊎_elim (λ k. omega arith) (λ k. omega arith) (owned_kinds e.kind o.0))
        a

    from_fixed : e.fixed ≡ true → (is_owned e.kind ≡ true) × (e.kind ≡ MERGEABLE) × (e.validated ≡ true)
    from_fixed h =
        ⊎_elim (λ u. false_not_true u.1 h)
        (λ o. ⊎_elim (λ q. false_not_true q h) (λ q. (o.0, q.0, q.1)) o.1)
        f

    from_parts : Tells n e
    from_parts =
        record {
          asid_small = from_asid.0;
          kind_small = from_asid.1;
          owned_asid = λ o. ⊎_elim (λ u. not_both e.kind o u.0) (λ q. q.1.0) a;
          unowned_asid = λ u. ⊎_elim (λ q. q.1) (λ o. not_both e.kind o.0 u) a;
          unowned_address = λ u. ⊎_elim (λ q. q.1) (λ o. not_both e.kind o.0.0 u) w;
          validated_owned = λ v. ⊎_elim (λ u. false_not_true u.0.1 v) (λ o. o.0) f;
          fixed_kind = λ h. (from_fixed h).1;
          fixed_validated = λ h. (from_fixed h).2;
          fixed_leaf = λ h. ⊎_elim (λ u. not_both e.kind (from_fixed h).0 u.0)
              (λ o. ⊎_elim (λ q. false_not_true q h) same o.1)
              w;
          address_ok = ⊎_elim (λ u. rw u.1 zero_address) (λ o. o.0.1) w;
        }

  pub tells : WellFormed n e → Tells n e
  tells h =
      let q = obeyed n true e e h in
      from_parts (of_asid q.asid_ok) (of_flags q.flags_ok) (of_address q.address_ok)

-- an unowned entry, an unfixed page and a fixed page that are well formed
module _ (n : ℕ) where
  pub unowned_fits : (kind : ℕ) → is_unowned kind ≡ true → WellFormed n (entry 0 kind false false 0)
  unfolding by_rules rule pick asid_fits flags_fit address_fits entry ◌and◌ ◌or◌
  unowned_fits kind u = rw u

  pub page_fits :
      (asid kind : ℕ) (validated : Bool) (gpa : ℕ) → is_owned kind ≡ true → 1 ≤ asid → asid < 512 → is_address gpa ≡ true
      → WellFormed n (entry asid kind validated false gpa)
  unfolding by_rules rule pick asid_fits flags_fit address_fits entry ◌and◌ ◌or◌
  page_fits asid kind validated gpa o one small a =
      rw (not_unowned kind o, o, in_range asid one small, a)

  pub fixed_fits :
      (asid leaf : ℕ) → 1 ≤ asid → asid < 512 → is_address leaf ≡ true → frame_of leaf < n
      → WellFormed n (entry asid MERGEABLE true true leaf)
  unfolding by_rules rule pick asid_fits flags_fit address_fits entry is_owned is_unowned ◌and◌ ◌or◌
  fixed_fits asid leaf one small a below =
      rw (in_range asid one small, a, lt-ltb (frame_of leaf) n below)

-- a validated page, validated again
pub validated_is : (e : Entry) → e.validated ≡ true → to_validated e ≡ e
unfolding to_validated entry
validated_is e h = rw (← h)

-- a fixed page, moved: MERGEABLE, VALIDATED and unfixed
pub moved_is :
    (n : ℕ) (e : Entry) (asid gpa : ℕ) → Tells n e → e.fixed ≡ true → to_moved e asid gpa ≡ entry asid MERGEABLE true false gpa
unfolding to_moved
moved_is n e asid gpa t h = rw (t.fixed_kind h, t.fixed_validated h)
