-- An entry and its two words: encoding what two words decode to gives the words, and encoding a well formed entry and decoding the
-- words gives the entry. Each field is a digit of word 0, and `omega` reads the digits.
-- Assumes nothing.
use mathlib.Core.Path.{◌≡◌, refl}
use mathlib.Core.Bool.{Bool, true, false}
use Prim.Native.Nat.{ℕ, zero, suc, ◌+◌, ◌*◌, ◌/◌, ◌%◌, ◌≤◌, ◌<◌}
use native.Mathlib.Omega.{arith}
use lib.Dec.{eqb}
use borrow.Author.Tests.{eqb-true}
use Rattle.words.specs.Choice.{pick}
use Rattle.entries.specs.Entry.{bit, entry, fields, WellFormed, decoded, encoded}
use Rattle.entries.specs.declared.entry.Entry.{Entry}
use Rattle.std.specs.Prelude.{Ok}
use Rattle.entries.proofs.RuleLaws.{obeyed}
use Rattle.entries.proofs.Tells.{tells}

pub bit_small : (b : Bool) → bit b ≤ 1
unfolding bit pick
bit_small true = omega arith
bit_small false = omega arith

bit_read : (b : Bool) → eqb (bit b) 1 ≡ b
unfolding bit pick
bit_read true = refl
bit_read false = refl

read_bit : (x : ℕ) → x < 2 → bit (eqb x 1) ≡ x
unfolding bit pick
read_bit zero l = refl
read_bit (suc zero) l = refl
read_bit (suc (suc x)) l = omega arith

-- a word with no spare bit set is made of its digits: each quotient is a digit and the next quotient
whole_word :
    (w : ℕ) → w / 0x100000 ≡ 0
    → w % 0x10000 % 0x10000 + 0x10000 * (w / 0x10000 % 4 % 4) + 0x40000 * (w / 0x40000 % 2) + 0x80000 * (w / 0x80000 % 2) ≡ w
whole_word w none =
    joined (w / 0x10000) (w / 0x40000) (w / 0x80000) _ _ _ _ (omega arith) (omega arith) (omega arith) (omega arith)
  where
    joined :
        (x y z asid kind v f : ℕ) → w ≡ asid + 0x10000 * x → x ≡ kind + 4 * y → y ≡ v + 2 * z → z ≡ f
        → asid + 0x10000 * kind + 0x40000 * v + 0x80000 * f ≡ w
    joined x y z asid kind v f p q r s = omega arith

-- encode after decode is the two words, for every pair that decodes
module _ (n w0 w1 : ℕ) (e : Entry) where
  pub decode_good : decoded n w0 w1 ≡ Ok e → (w0 / 0x100000 ≡ 0) × (fields w0 w1 ≡ e) × WellFormed n e
  unfolding decoded
  decode_good g =
      let q = obeyed n _ _ e g in
      (eqb-true _ _ q.is_clear, q.same_entry, rw (q.is_clear, q.same_entry) at g)

  pub encode_decode : decoded n w0 w1 ≡ Ok e → encoded e ≡ record { 0 = w0; 1 = w1 }
  unfolding encoded fields entry
  encode_decode g =
      let q = decode_good g in
      rw (← q.1, read_bit (w0 / 0x40000 % 2) (omega arith), read_bit (w0 / 0x80000 % 2) (omega arith), whole_word w0 q.0)

-- word 0 of four fields that are small enough has them for its digits, from the lowest, and no spare bit set
record Digits (w asid kind v f : ℕ) : Type 0 where
  asid_digit : w % 0x10000 ≡ asid
  kind_digit : w / 0x10000 % 4 ≡ kind
  validated_digit : w / 0x40000 % 2 ≡ v
  fixed_digit : w / 0x80000 % 2 ≡ f
  no_spare : w / 0x100000 ≡ 0

digits :
    (asid kind v f : ℕ) → asid < 0x10000 → kind < 4 → v ≤ 1 → f ≤ 1
    → Digits (asid % 0x10000 + 0x10000 * (kind % 4) + 0x40000 * v + 0x80000 * f) asid kind v f
digits asid kind v f a k p q =
    record {
      asid_digit = omega arith;
      kind_digit = omega arith;
      validated_digit = omega arith;
      fixed_digit = omega arith;
      no_spare = omega arith;
    }

-- decode after encode is the entry, for every well formed one
module _ (n : ℕ) (e : Entry) (h : WellFormed n e) where
  digits_of : Digits (encoded e).0 e.asid e.kind (bit e.validated) (bit e.fixed)
  unfolding encoded
  digits_of =
      let t = tells n e h in
      digits e.asid e.kind _ _ (omega arith) t.kind_small (bit_small _) (bit_small _)

  same_fields : fields (encoded e).0 (encoded e).1 ≡ e
  unfolding fields entry encoded
  same_fields =
      let d = digits_of in
      rw (d.asid_digit, d.kind_digit, d.validated_digit, d.fixed_digit, bit_read e.validated, bit_read e.fixed)

  pub decode_encode : decoded n (encoded e).0 (encoded e).1 ≡ Ok e
  unfolding decoded
  decode_encode = rw (digits_of.no_spare, same_fields) h
