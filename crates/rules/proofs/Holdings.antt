-- What a frame is to a guest, by its entry: a fixed page by the word consulted, any other by its owner and VALIDATED alone; that it stays
-- where the entry and that word stay; and that a place is at an address.
-- Assumes nothing.
use mathlib.Core.Path.{◌≡◌, refl, sym, ◌∙◌}
use mathlib.Core.Bool.{Bool, true, false, false≢true}
use mathlib.Core.Logic.{◌≢◌, ⊎_elim}
use Prim.Native.Nat.{ℕ}
use lib.Dec.{eqb}
use borrow.Author.Tests.{eq-eqb, ne_eqb}
use Rattle.words.specs.Choice.{pick, ◌and◌}
use Rattle.words.proofs.ChoiceLaws.{true_or_false, pick_true, pick_false, and_not}
use Rattle.entries.specs.Entry.{Decoded, is_address, is_owned}
use Rattle.entries.specs.declared.entry.Entry.{Entry}
use Rattle.std.specs.Prelude.{Ok, Err}
use Rattle.entries.specs.declared.leaf.LeafWord.{LeafWord}
use Rattle.entries.specs.declared.leaf.LeafWord.TheVariants.{Absent, Present, Misshapen}
use Rattle.entries.proofs.Tells.{false_not_true}
use Rattle.rules.specs.Census.{Holding, holds, nothing, in_leaf, in_entry, holding}
use Rattle.rules.specs.Leaves.{is_leaf, consulted}
use Rattle.rules.specs.State.{State, entry_at}
use Rattle.rules.proofs.Leaves.{consulted_address, leaf_good, owned_no_leaf}
use Rattle.rules.proofs.StateLaws.{entry_tells}

module _ (s : State) (guest f : ℕ) {e : Entry} (here : entry_at s f ≡ Ok e) where
  -- a fixed page
  module _ (fixed : e.fixed ≡ true) where
    by_word : holding s guest f ≡ in_leaf (consulted s e guest)
    unfolding holding in_entry
    by_word = rw here (pick_true _ _ fixed)

    pub present_there : (gpa : ℕ) → consulted s e guest ≡ Present gpa → holding s guest f ≡ holds gpa
    unfolding in_leaf
    present_there gpa w = by_word ∙ rw w

    pub absent_there : consulted s e guest ≡ Absent → holding s guest f ≡ nothing
    unfolding in_leaf
    absent_there w = by_word ∙ rw w

  -- any other page
  module _ (unfixed : e.fixed ≡ false) where
    by_owner : holding s guest f ≡ pick (e.validated and eqb e.asid guest) (holds e.address) nothing
    unfolding holding in_entry
    by_owner = rw here (pick_false _ _ unfixed)

    pub unopened : e.validated ≡ false → holding s guest f ≡ nothing
    unfolding ◌and◌
    unopened v = by_owner ∙ pick_false _ _ (rw v)

    pub of_another : e.asid ≢ guest → holding s guest f ≡ nothing
    of_another other = by_owner ∙ pick_false _ _ (and_not _ _ (ne_eqb _ _ other))

    pub of_its_own : e.validated ≡ true → e.asid ≡ guest → holding s guest f ≡ holds e.address
    unfolding ◌and◌
    of_its_own v own = by_owner ∙ pick_true _ _ (rw (v, eq-eqb _ _ own))

-- a frame that belongs to no guest
pub nobodys : (s : State) (guest f : ℕ) {e : Entry} → entry_at s f ≡ Ok e → (is_owned e.kind ≡ true → ⊥) → holding s guest f ≡ nothing
nobodys s guest f {e} here none =
    let t = entry_tells s f here in
    let v : e.validated ≡ false = ⊎_elim (λ v. absurd (none (t.validated_owned v))) (λ v. v) (true_or_false e.validated) in
    let x : e.fixed ≡ false = ⊎_elim (λ x. false_not_true v (t.fixed_validated x)) (λ x. x) (true_or_false e.fixed) in
    unopened s guest f here x v

pub leaf_nothing : (s : State) (guest f : ℕ) → is_leaf (entry_at s f) ≡ true → holding s guest f ≡ nothing
leaf_nothing s guest f h =
    let leaf = leaf_good (entry_at s f) h in nobodys s guest f leaf.1.0 (λ o. owned_no_leaf _ o leaf.1.1)

pub holding_same :
    (s u : State) (guest f : ℕ) → entry_at u f ≡ entry_at s f
    → ((e : Entry) → entry_at s f ≡ Ok e → e.fixed ≡ true → consulted u e guest ≡ consulted s e guest)
    → holding u guest f ≡ holding s guest f
unfolding holding in_entry
holding_same s u guest f entries words = rw entries (go (entry_at s f) refl)
  where
    page : (e : Entry) (t : Bool) (h : Holding) → (t ≡ true → consulted u e guest ≡ consulted s e guest)
        → pick t (in_leaf (consulted u e guest)) h ≡ pick t (in_leaf (consulted s e guest)) h
    page e true h w = rw (w refl)
    page e false h w = pick_false _ _ refl ∙ sym (pick_false _ _ refl)

    go : (d : Decoded) → entry_at s f ≡ d → in_entry u guest d ≡ in_entry s guest d
    go (Ok e) here = page e e.fixed _ (words e here)
    go (Err reason) here = refl

-- ---- a place is at an address
present_only : (w : LeafWord) (gpa : ℕ) → in_leaf w ≡ holds gpa → w ≡ Present gpa
unfolding in_leaf
present_only Absent gpa h = absurd (false≢true (cc))
present_only (Present at) gpa h = let same : at ≡ gpa = cc in rw same
present_only Misshapen gpa h = absurd (false≢true (cc))

own_only : (t : Bool) (at gpa : ℕ) → pick t (holds at) nothing ≡ holds gpa → at ≡ gpa
unfolding pick
own_only true at gpa h = cc
own_only false at gpa h = absurd (false≢true (cc))

pub holding_address : (s : State) (guest gpa f : ℕ) → holding s guest f ≡ holds gpa → is_address gpa ≡ true
unfolding holding in_entry
holding_address s guest gpa f = go (entry_at s f) refl
  where
    go : (d : Decoded) → entry_at s f ≡ d → in_entry s guest d ≡ holds gpa → is_address gpa ≡ true
    go (Ok e) here h =
        ⊎_elim (λ fixed. consulted_address s e guest gpa (present_only _ gpa (sym (pick_true _ _ fixed) ∙ h)))
        (λ unfixed. rw (own_only _ _ gpa (sym (pick_false _ _ unfixed) ∙ h)) at (entry_tells s f here).address_ok)
        (true_or_false e.fixed)
    go (Err reason) here h = absurd (false≢true (cc))
