-- What arguments that passed tell, call by call; and that RMPUPDATE's arguments make a well formed entry: that is what its own part of
-- check 2 is for.
-- Assumes nothing.
use mathlib.Core.Path.{◌≡◌, refl}
use mathlib.Core.Bool.{true, false}
use mathlib.Core.Logic.{◌⊎◌, inl, inr, ⊎_elim}
use Prim.Native.Nat.{ℕ, zero, suc, ◌≤◌, ◌<◌}
use native.Mathlib.Omega.{arith}
use lib.Dec.{eqb}
use borrow.Author.Tests.{leb-true, eqb-true, eqb-false, not-true}
use Rattle.words.specs.Choice.{◌or◌}
use Rattle.words.proofs.ChoiceLaws.{and_left, and_right, or_cases}
use Rattle.entries.specs.Entry.{SHARED, LEAF, is_address, is_party, is_guest, is_owned, is_unowned, entry, WellFormed}
use Rattle.entries.proofs.Tells.{unowned_fits, page_fits, false_not_true}
use Rattle.rules.specs.Arguments.{is_host, update_arguments, validate_arguments, two_frame_arguments, unmerge_arguments, access_arguments}
use Rattle.rules.specs.Arguments.{may_access}

party_small : (asid : ℕ) → is_party asid ≡ true → asid < 512
unfolding is_party
party_small asid h = let l = leb-true asid 511 h in omega arith

-- a type up to LEAF is owned or unowned
either_kind : (kind : ℕ) → kind ≤ LEAF → (is_owned kind ≡ true) ⊎ (is_unowned kind ≡ true)
unfolding is_owned is_unowned ◌or◌
either_kind zero l = inr refl
either_kind (suc zero) l = inl refl
either_kind (suc (suc zero)) l = inl refl
either_kind (suc (suc (suc zero))) l = inr refl
either_kind (suc (suc (suc (suc k)))) l = let z : ⊥ = omega arith in absurd z

-- ---- RMPUPDATE
pub record UpdateTells (hpa gpa asid kind : ℕ) : Type 0 where
  pub frame_address : is_address hpa ≡ true
  pub guest_address : is_address gpa ≡ true
  pub asid_small : asid < 512
  pub kind_small : kind ≤ LEAF
  pub unowned_zero : is_unowned kind ≡ true → (asid ≡ 0) × (gpa ≡ 0)
  pub owned_guest : is_owned kind ≡ true → 1 ≤ asid

module _ (caller hpa gpa asid kind : ℕ) (h : update_arguments caller hpa gpa asid kind ≡ true) where
  pub update_tells : UpdateTells hpa gpa asid kind
  unfolding update_arguments
  update_tells =
      let h6 = and_left _ _ h in
      let h5 = and_left _ _ h6 in
      let h4 = and_left _ _ h5 in
      let h3 = and_left _ _ h4 in
      record {
        frame_address = and_right _ _ (and_left _ _ h3);
        guest_address = and_right _ _ h3;
        asid_small = party_small asid (and_right _ _ h4);
        kind_small = leb-true _ _ (and_right _ _ h5);
        unowned_zero = λ u. ⊎_elim (λ n. false_not_true (not-true _ n) u)
            (λ z. (eqb-true _ _ (and_left _ _ z), eqb-true _ _ (and_right _ _ z)))
            (or_cases _ _ (and_right _ _ h6));
        owned_guest = λ o. ⊎_elim (λ n. false_not_true (not-true _ n) o)
            (λ z. omega (arith, eqb-false asid 0 (not-true (eqb asid 0) z)))
            (or_cases _ _ (and_right _ _ h));
      }

  pub update_fits : (n : ℕ) → WellFormed n (entry asid kind false false gpa)
  update_fits n = ⊎_elim owned unowned (either_kind kind update_tells.kind_small)
    where
      owned : is_owned kind ≡ true → WellFormed n (entry asid kind false false gpa)
      owned o =
          let t = update_tells in
          page_fits n asid kind false gpa o (t.owned_guest o) t.asid_small t.guest_address

      unowned : is_unowned kind ≡ true → WellFormed n (entry asid kind false false gpa)
      unowned u = let z = update_tells.unowned_zero u in rw (z.0, z.1) (unowned_fits n kind u)

-- ---- PVALIDATE
pub record ValidateTells (caller gpa hpa kind : ℕ) : Type 0 where
  pub caller_small : caller < 512
  pub guest_address : is_address gpa ≡ true
  pub frame_address : is_address hpa ≡ true
  pub owned : is_owned kind ≡ true

pub validate_tells : (caller gpa hpa kind : ℕ) → validate_arguments caller gpa hpa kind ≡ true → ValidateTells caller gpa hpa kind
unfolding validate_arguments
validate_tells caller gpa hpa kind h =
    let h2 = and_left _ _ h in
    let h1 = and_left _ _ h2 in
    record {
      caller_small = party_small caller (and_left _ _ h1);
      guest_address = and_right _ _ h1;
      frame_address = and_right _ _ h2;
      owned = and_right _ _ h;
    }

-- ---- PFIX and PMERGE, PUNMERGE, PUNFIX
module _ (caller hpa1 hpa2 : ℕ) where
  pub two_addresses : two_frame_arguments caller hpa1 hpa2 ≡ true → (is_address hpa1 ≡ true) × (is_address hpa2 ≡ true)
  unfolding two_frame_arguments
  two_addresses h = (and_right _ _ (and_left _ _ h), and_right _ _ h)

  pub unmerge_tells :
      (asid : ℕ) → unmerge_arguments caller hpa1 hpa2 asid ≡ true
      → (is_address hpa1 ≡ true) × (is_address hpa2 ≡ true) × (is_guest asid ≡ true)
  unfolding unmerge_arguments
  unmerge_tells asid h = let a = two_addresses (and_left _ _ h) in (a.0, a.1, and_right _ _ h)

-- ---- READ and WRITE
pub record AccessTells (caller gpa hpa gtype ntype index : ℕ) : Type 0 where
  pub caller_small : caller < 512
  pub guest_address : is_address gpa ≡ true
  pub frame_address : is_address hpa ≡ true
  pub index_small : index < 512

module _ (caller gpa hpa gtype ntype index : ℕ) where
  pub access_tells : access_arguments caller gpa hpa gtype ntype index ≡ true → AccessTells caller gpa hpa gtype ntype index
  unfolding access_arguments
  access_tells h =
      let h4 = and_left _ _ h in
      let h3 = and_left _ _ h4 in
      let h2 = and_left _ _ h3 in
      let h1 = and_left _ _ h2 in
      let l = leb-true index 511 (and_right _ _ h) in
      record {
        caller_small = party_small caller (and_left _ _ h1);
        guest_address = and_right _ _ h1;
        frame_address = and_right _ _ h2;
        index_small = omega arith;
      }

  -- the host's accesses give SHARED on both sides, so one with another type is a guest's
  pub host_access : may_access caller gtype ntype ≡ true → caller ≡ 0 → (gtype ≡ SHARED) × (ntype ≡ SHARED)
  unfolding may_access is_host
  host_access h z =
      ⊎_elim (λ g. absurd (eqb-false _ _ (not-true _ g) z))
      (λ q. (eqb-true _ _ (and_left _ _ q), eqb-true _ _ (and_right _ _ q)))
      (or_cases _ _ h)

  pub guest_access : may_access caller gtype ntype ≡ true → eqb gtype SHARED ≡ false → caller ≡ 0 → ⊥
  guest_access h n z = eqb-false _ _ n (host_access h z).0
