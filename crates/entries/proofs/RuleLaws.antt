-- The rules of an entry, one after the other: an entry that comes out good obeys all of them, the reason of a bad one is one of the four,
-- and what they come to, good where all hold and else bad with the first that is broken.
-- Assumes nothing.
use mathlib.Core.Path.{◌≡◌, refl, sym, subst}
use mathlib.Core.Bool.{Bool, true, false, false≢true}
use Prim.Native.Nat.{ℕ, ◌≤◌}
use native.Mathlib.Omega.{arith}
use Rattle.words.specs.Choice.{pick, ◌and◌}
use Rattle.entries.specs.Entry.{Decoded, asid_fits, flags_fit, address_fits, rule, by_rules}
use Rattle.entries.specs.Reasons.{reason_number}
use Rattle.entries.specs.declared.reason.Reason.{Reason}
use Rattle.entries.specs.declared.reason.Reason.TheVariants.{SpareBits, Asid, Flags, Address}
use Rattle.entries.specs.declared.entry.Entry.{Entry}
use Rattle.std.specs.Prelude.{Ok, Err}

-- a good entry was chosen by a test that passed
pub chosen : (b : Bool) (reason : Reason) {d : Decoded} {e : Entry} → pick b d (Err reason) ≡ Ok e → (b ≡ true) × (d ≡ Ok e)
unfolding pick
chosen true reason q = (refl, q)
chosen false reason q = absurd (false≢true (cc))

-- it obeys all rules, and is the one that was given
pub record Obeyed (n : ℕ) (clear : Bool) (given e : Entry) : Type 0 where
  pub is_clear : clear ≡ true
  pub asid_ok : asid_fits given ≡ true
  pub flags_ok : flags_fit given ≡ true
  pub address_ok : address_fits n given ≡ true
  pub same_entry : given ≡ e

pub obeyed : (n : ℕ) (clear : Bool) (given e : Entry) → by_rules n clear given ≡ Ok e → Obeyed n clear given e
unfolding by_rules rule
obeyed n clear given e h =
    let one = chosen _ _ h in
    let two = chosen _ _ one.1 in
    let three = chosen _ _ two.1 in
    let four = chosen _ _ three.1 in
    record {
      is_clear = one.0;
      asid_ok = two.0;
      flags_ok = three.0;
      address_ok = four.0;
      same_entry = cc four.1;
    }

-- one of the four that an entry which the table covers may have
abbrev pub IsOneOfFour : Reason → Type 0
IsOneOfFour reason = (1 ≤ reason_number reason) × (reason_number reason ≤ 4)

-- the reason of a bad entry is
one_rule :
    (holds : Bool) (mine : Reason) {d : Decoded} (reason : Reason) → IsOneOfFour mine → (d ≡ Err reason → IsOneOfFour reason)
    → rule holds mine d ≡ Err reason → IsOneOfFour reason
unfolding rule pick
one_rule true mine reason within rest h = rest h
one_rule false mine reason within rest h = let same : mine ≡ reason = cc in subst IsOneOfFour same within

pub reason_within : (n : ℕ) (clear : Bool) (e : Entry) (reason : Reason) → by_rules n clear e ≡ Err reason → IsOneOfFour reason
unfolding by_rules
reason_within n clear e reason =
    one_rule _ _ reason (omega arith, omega arith)
    (one_rule _ _ reason (omega arith, omega arith)
    (one_rule _ _ reason (omega arith, omega arith)
    (one_rule _ _ reason (omega arith, omega arith)
    (λ h. absurd (false≢true (cc))))))

-- what four rules come to
module _ (e : Entry) where
  abbrev chain : Bool → Bool → Bool → Bool → Decoded
  chain clear asid flags address = rule clear SpareBits (rule asid Asid (rule flags Flags (rule address Address (Ok e))))

  good : (clear asid flags address : Bool) → clear and asid and (flags and address) ≡ true → chain clear asid flags address ≡ Ok e
  unfolding rule pick ◌and◌
  good false asid flags address h = absurd (false≢true h)
  good true false flags address h = absurd (false≢true h)
  good true true false address h = absurd (false≢true h)
  good true true true false h = absurd (false≢true h)
  good true true true true h = refl

  bad :
      (clear asid flags address : Bool) → clear and asid and (flags and address) ≡ false
      → chain clear asid flags address ≡ Err (pick clear (pick asid (pick flags Address Flags) Asid) SpareBits)
  unfolding rule pick ◌and◌
  bad false asid flags address h = refl
  bad true false flags address h = refl
  bad true true false address h = refl
  bad true true true false h = refl
  bad true true true true h = absurd (false≢true (sym h))

module _ (n : ℕ) (clear : Bool) (e : Entry) where
  pub all_hold : clear and asid_fits e and (flags_fit e and address_fits n e) ≡ true → by_rules n clear e ≡ Ok e
  unfolding by_rules
  all_hold = good e clear (asid_fits e) (flags_fit e) (address_fits n e)

  pub one_broken :
      clear and asid_fits e and (flags_fit e and address_fits n e) ≡ false
      → by_rules n clear e ≡ Err (pick clear (pick (asid_fits e) (pick (flags_fit e) Address Flags) Asid) SpareBits)
  unfolding by_rules
  one_broken = bad e clear (asid_fits e) (flags_fit e) (address_fits n e)
