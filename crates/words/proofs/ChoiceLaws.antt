-- Choices and joined tests: what a test that passed tells, comparisons taken apart, and a choice behind two bounds.
-- Assumes nothing.
pub use Rattle.std.proofs.lemmas.Bool.{cases_lt as lt_or_le, cases_eq as same_or_not, cases_Bool as true_or_false}
use Rattle.std.proofs.Common.{◌≡◌, ◌∙◌, refl, Bool, true, false, ◌⊎◌, ⊎_elim, ℕ, ◌≤◌, ◌<◌, ltb, lt-ltb, le-ltb}
use Rattle.std.proofs.lemmas.Bool as Tests
use Rattle.std.proofs.lemmas.Bool.{and_parts, and_from, cond-true, cond-false, cond_both}
use Rattle.words.specs.Choice.{pick, ◌and◌, ◌or◌}

module _ {A : Type 0} where
  pub pick_true : {t : Bool} (a b : A) → t ≡ true → pick t a b ≡ a
  unfolding pick
  pick_true {t} a b = cond-true t a b

  pub pick_false : {t : Bool} (a b : A) → t ≡ false → pick t a b ≡ b
  unfolding pick
  pick_false {t} a b = cond-false t a b

  -- what holds of both holds of the choice
  pub pick_either : (P : A → Type 0) (t : Bool) (a b : A) → (t ≡ true → P a) → (t ≡ false → P b) → P (pick t a b)
  unfolding pick
  pick_either P t a b = cond_both t a b P

  pub pick_same : (t : Bool) (a : A) → pick t a a ≡ a
  pick_same t a = pick_either (λ (x : A). x ≡ a) t a a (λ e. refl) (λ e. refl)

module _ (s t : Bool) where
  pub and_left : s and t ≡ true → s ≡ true
  unfolding ◌and◌
  and_left e = (and_parts s t e).0

  pub and_right : s and t ≡ true → t ≡ true
  unfolding ◌and◌
  and_right e = (and_parts s t e).1

  pub both_true : s ≡ true → t ≡ true → s and t ≡ true
  unfolding ◌and◌
  both_true = and_from s t

  pub and_not : t ≡ false → s and t ≡ false
  unfolding ◌and◌
  and_not = Tests.and_right s t

  pub or_cases : s or t ≡ true → (s ≡ true) ⊎ (t ≡ true)
  unfolding ◌or◌
  or_cases = Tests.or_cases s t

pub or_true : (t : Bool) → t or true ≡ true
unfolding ◌or◌
or_true t = Tests.or_right t true refl

-- a choice behind two bounds: both are kept, or one is not
module _ {A : Type 0} (a b c d : ℕ) (x y : A) where
  pub bounds_kept : a < b → c < d → pick (ltb a b) (pick (ltb c d) x y) y ≡ x
  bounds_kept h l = pick_true _ _ (lt-ltb _ _ h) ∙ pick_true _ _ (lt-ltb _ _ l)

  pub first_not : b ≤ a → pick (ltb a b) (pick (ltb c d) x y) y ≡ y
  first_not h = pick_false _ _ (le-ltb _ _ h)

  pub second_not : d ≤ c → pick (ltb a b) (pick (ltb c d) x y) y ≡ y
  second_not l = ⊎_elim (λ h. pick_true _ _ (lt-ltb _ _ h) ∙ pick_false _ _ (le-ltb _ _ l)) first_not (lt_or_le a b)

  pub bounds_either : (P : A → Type 0) → (a < b → c < d → P x) → P y → P (pick (ltb a b) (pick (ltb c d) x y) y)
  bounds_either P kept not =
      ⊎_elim
      (λ h. ⊎_elim (λ l. rw (bounds_kept h l) (kept h l)) (λ l. rw (second_not l) not) (lt_or_le c d))
      (λ h. rw (first_not h) not)
      (lt_or_le a b)
