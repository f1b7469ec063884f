-- The table as a map from frames to entries: an entry that was put is read back, every other frame's entry stays, and so do the
-- table's sizes; what is read is well formed; an empty table reads as zero entries. With the five definitions of `specs/Table` these are
-- all that knows an entry's words in the table, but for worked examples.
-- Assumes nothing.
use mathlib.Core.Path.{◌≡◌, refl, sym, ap, ◌∙◌}
use mathlib.Core.Bool.{true}
use mathlib.Core.List.{List}
use mathlib.Core.Logic.{◌≢◌, ⊎_elim}
use Prim.Native.Nat.{ℕ, ◌+◌, ◌*◌, ◌≤◌, ◌<◌}
use native.Mathlib.Omega.{arith}
use lib.Dec.{eqb}
use lib.ListN.{length, get_or, set, replicate, length-set, length-replicate, get_or-replicate}
use lib.Seq.{get_or-set_same, get_or-set_other, set-get_or}
use borrow.Author.Tests.{lt-ltb, le-ltb, ltb-true, eqb-true}
use Rattle.words.specs.Choice.{pick, ◌and◌, ◌or◌}
use Rattle.words.proofs.ChoiceLaws.{lt_or_le, pick_true, pick_false, and_left, and_right}
use Rattle.entries.specs.Entry.{is_owned, is_unowned, zero_entry, entry, asid_fits, flags_fit, address_fits, rule, by_rules, WellFormed}
use Rattle.entries.specs.Entry.{fields, decoded, encoded}
use Rattle.entries.specs.declared.reason.Reason.{Reason}
use Rattle.entries.specs.declared.reason.Reason.TheVariants.{NoEntry}
use Rattle.rmp.specs.Table.{covered, is_whole, entry_in, address_in, put_entry}
use Rattle.entries.specs.declared.entry.Entry.{Entry}
use Rattle.std.specs.Prelude.{Ok, Err}
use Rattle.entries.proofs.EntryLaws.{decode_encode, decode_good, encode_decode}
use Rattle.entries.proofs.RuleLaws.{IsOneOfFour, chosen, reason_within}

-- the words of a table after an entry was put
module _ (t : List ℕ) (f : ℕ) (e : Entry) where
  abbrev changed : List ℕ
  changed = set (set t (2 * f) (encoded e).0) (2 * f + 1) (encoded e).1

  put_in : f < covered t → put_entry t f e ≡ changed
  unfolding put_entry
  put_in h = pick_true _ _ (lt-ltb _ _ h)

  pub put_out : covered t ≤ f → put_entry t f e ≡ t
  unfolding put_entry
  put_out h = pick_false _ _ (le-ltb _ _ h)

  put_either : (P : List ℕ → Type 0) → P changed → P t → P (put_entry t f e)
  put_either P x y = ⊎_elim (λ h. rw (put_in h) x) (λ h. rw (put_out h) y) (lt_or_le f (covered t))

  length_put : length (put_entry t f e) ≡ length t
  length_put = put_either (λ l. length l ≡ length t) (simp length-set) refl

  pub covered_put : covered (put_entry t f e) ≡ covered t
  unfolding covered
  covered_put = rw length_put

  pub whole_put : is_whole (put_entry t f e) ≡ is_whole t
  unfolding is_whole
  whole_put = rw length_put

  words_other : (k : ℕ) → k ≢ 2 * f → k ≢ 2 * f + 1 → get_or (put_entry t f e) k 0 ≡ get_or t k 0
  words_other k p q = put_either (λ l. get_or l k 0 ≡ get_or t k 0) (rw (get_or-set_other, get_or-set_other)) refl

  word0_same : f < covered t → get_or (put_entry t f e) (2 * f) 0 ≡ (encoded e).0
  unfolding covered
  word0_same h =
      let apart : 2 * f ≢ 2 * f + 1 = λ q. omega arith in
      let within : 2 * f < length t = omega arith in
      rw (put_in h, get_or-set_other, get_or-set_same)

  word1_same : f < covered t → get_or (put_entry t f e) (2 * f + 1) 0 ≡ (encoded e).1
  unfolding covered
  word1_same h =
      let within : 2 * f + 1 < length (set t (2 * f) (encoded e).0) = rw length-set (omega arith) in
      rw (put_in h, get_or-set_same)

  pub entry_put_same : f < covered t → WellFormed (covered t) e → entry_in (put_entry t f e) f ≡ Ok e
  unfolding entry_in
  entry_put_same h w =
      rw (covered_put, word0_same h, word1_same h, decode_encode (covered t) e w) (pick_true _ _ (lt-ltb _ _ h))

  pub entry_put_other : (g : ℕ) → g ≢ f → entry_in (put_entry t f e) g ≡ entry_in t g
  unfolding entry_in
  entry_put_other g n =
      let word0 = words_other (2 * g) (λ q. n (omega arith)) (λ q. omega arith) in
      let word1 = words_other (2 * g + 1) (λ q. omega arith) (λ q. n (omega arith)) in
      rw (covered_put, word0, word1)

-- what a good entry tells: the table covers its frame, and it is well formed
pub entry_good : (t : List ℕ) (f : ℕ) (e : Entry) → entry_in t f ≡ Ok e → (f < covered t) × (WellFormed (covered t) e)
unfolding entry_in
entry_good t f e g = let q = chosen _ NoEntry g in (ltb-true _ _ q.0, (decode_good _ _ _ e q.1).2)

-- a bad one that the table covers has one of the four reasons
pub entry_bad : (t : List ℕ) (f : ℕ) (reason : Reason) → f < covered t → entry_in t f ≡ Err reason → IsOneOfFour reason
unfolding entry_in decoded
entry_bad t f reason h bad = reason_within _ _ _ reason (sym (pick_true _ _ (lt-ltb _ _ h)) ∙ bad)

-- a good entry's address is the one that stands there
pub entry_address : (t : List ℕ) (f : ℕ) (e : Entry) → entry_in t f ≡ Ok e → address_in t f ≡ e.address
unfolding entry_in address_in fields entry
entry_address t f e g =
    let q = chosen _ NoEntry g in
    pick_true _ _ q.0 ∙ ap (λ (x : Entry). x.address) (decode_good _ _ _ e q.1).1

-- the entry that stands there, put again, changes no word
pub put_same : (t : List ℕ) (f : ℕ) (e : Entry) → entry_in t f ≡ Ok e → put_entry t f e ≡ t
unfolding entry_in
put_same t f e g =
    let q = chosen _ NoEntry g in
    let words = encode_decode (covered t) (get_or t (2 * f) 0) (get_or t (2 * f + 1) 0) e q.1 in
    rw (put_in t f e (ltb-true _ _ q.0), words, set-get_or, set-get_or)

-- an empty table: all words zero
pub decode_zero : (n : ℕ) → decoded n 0 0 ≡ Ok zero_entry
unfolding decoded fields zero_entry entry by_rules rule asid_fits flags_fit address_fits is_owned is_unowned pick ◌and◌ ◌or◌
decode_zero n = refl

-- an entry of two zero words
pub entry_blank :
    (t : List ℕ) (f : ℕ) → f < covered t → eqb (get_or t (2 * f) 0) 0 and eqb (get_or t (2 * f + 1) 0) 0 ≡ true → entry_in t f ≡ Ok zero_entry
unfolding entry_in
entry_blank t f h blank =
    let word0 : get_or t (2 * f) 0 ≡ 0 = eqb-true _ _ (and_left _ _ blank) in
    let word1 : get_or t (2 * f + 1) 0 ≡ 0 = eqb-true _ _ (and_right _ _ blank) in
    pick_true _ _ (lt-ltb _ _ h) ∙ rw (word0, word1) (decode_zero (covered t))

pub entry_empty : (k f : ℕ) → f < covered (replicate k 0) → entry_in (replicate k 0) f ≡ Ok zero_entry
unfolding entry_in covered
entry_empty k f h =
    let word1 : 2 * f + 1 < k = omega (arith, length-replicate {A = ℕ} k 0) in
    let word0 : 2 * f < k = omega arith in
    simp (get_or-replicate, decode_zero) (pick_true _ _ (lt-ltb _ _ h))
