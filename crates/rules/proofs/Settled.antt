-- A chain of checks passes whatever follows, or refuses it in one way. So are the checks of an access, to whichever page: where they pass,
-- memory has the frame, and its entry has no reason.
-- Assumes nothing.
use mathlib.Core.Path.{◌≡◌, refl, ◌∙◌}
use mathlib.Core.Bool.{Bool, true, false}
use Prim.Native.Nat.{ℕ, ◌<◌}
use borrow.Author.Tests.{ltb-true}
use Rattle.words.specs.Choice.{pick}
use Rattle.words.proofs.ChoiceLaws.{pick_false}
use Rattle.entries.specs.Entry.{Decoded, frame_of, reason_of}
use Rattle.entries.specs.declared.entry.Entry.{Entry}
use Rattle.std.specs.Prelude.{Ok, Err}
use Rattle.entries.specs.declared.leaf.LeafWord.{LeafWord}
use Rattle.entries.specs.declared.leaf.LeafWord.TheVariants.{Absent, Present, Misshapen}
use Rattle.rmp.specs.Table.{entry_in}
use Rattle.rules.specs.Access.{unfixed_access, fixed_access, covered_access, access}
use Rattle.rules.specs.Answers.{Verdict, refuse, unless, when, begins, entered}
use Rattle.rules.specs.Leaves.{placed}
use Rattle.rules.specs.Refusals.{Refusal}
use Rattle.rules.specs.State.{State, N, M, covers, entry_at}

pub data Settled (P : Type 0) (chain : Verdict → Verdict) : Type 0 where
  passes : P → ((v : Verdict) → chain v ≡ v) → Settled P chain
  refuses : (r : Refusal) → ((v : Verdict) → chain v ≡ refuse r) → Settled P chain

module _ {P : Type 0} where
  pub settled_as : (one two : Verdict → Verdict) → ((v : Verdict) → one v ≡ two v) → Settled P two → Settled P one
  settled_as one two same (passes holds through) = passes holds (λ v. same v ∙ through v)
  settled_as one two same (refuses r stopped) = refuses r (λ v. same v ∙ stopped v)

  after_check : (t : Bool) (r : Refusal) (chain : Verdict → Verdict) → (t ≡ true → Settled P chain) → Settled P (λ v. unless t r (chain v))
  unfolding unless pick
  after_check true r chain follows = follows refl
  after_check false r chain follows = refuses r (λ v. refl)

  after_choice :
      (t : Bool) (one two : Verdict → Verdict) → (t ≡ true → Settled P one) → (t ≡ false → Settled P two)
      → Settled P (λ v. pick t (one v) (two v))
  unfolding pick
  after_choice true one two first second = first refl
  after_choice false one two first second = second refl

  after_entry :
      (d : Decoded) (chain : Entry → Verdict → Verdict) → ((e : Entry) → d ≡ Ok e → Settled P (chain e))
      → Settled P (λ v. entered d λ e. chain e v)
  unfolding entered
  after_entry (Ok e) chain follows = follows e refl
  after_entry (Err reason) chain follows = refuses _ (λ v. refl)

  after_place :
      (w : LeafWord) (chain : ℕ → Verdict → Verdict) → ((gpa : ℕ) → Settled P (chain gpa)) → Settled P (λ v. placed w λ gpa. chain gpa v)
  unfolding placed
  after_place Misshapen chain follows = refuses _ (λ v. refl)
  after_place Absent chain follows = refuses _ (λ v. refl)
  after_place (Present gpa) chain follows = follows gpa

-- ---- an access
-- memory has the frame, and nothing is bad in its entry
abbrev pub Sane : State → ℕ → Type 0
Sane s frame = (frame < M s) × (reason_of (entry_at s frame) ≡ 0)

good_sane : (s : State) (frame : ℕ) (e : Entry) → entry_at s frame ≡ Ok e → reason_of (entry_at s frame) ≡ 0
unfolding reason_of
good_sane s frame e here = rw here

-- a frame above the table has no entry
above_sane : (s : State) (hpa : ℕ) → covers s hpa ≡ false → reason_of (entry_at s (frame_of hpa)) ≡ 0
unfolding covers N entry_at entry_in reason_of
above_sane s hpa above = rw (pick_false _ _ above)

module _ (s : State) (writes : Bool) (caller gpa hpa gtype ntype index : ℕ) where
  through : {chain : Verdict → Verdict} → ((v : Verdict) → chain v ≡ v) → frame_of hpa < M s → reason_of (entry_at s (frame_of hpa)) ≡ 0
      → Settled (Sane s (frame_of hpa)) chain
  through all inside sane = passes (inside, sane) all

  module _ (inside : frame_of hpa < M s) where
    page_settled :
        (page : Entry) → reason_of (entry_at s (frame_of hpa)) ≡ 0
        → Settled (Sane s (frame_of hpa)) (λ v. pick page.fixed (fixed_access s writes caller gpa page v) (unfixed_access caller gpa page v))
    unfolding fixed_access unfixed_access when
    page_settled page sane =
        let done = through (λ v. refl) inside sane in
        after_choice _ _ _
        (λ fixed. after_check _ _ _ λ reads. after_place _ _ λ held. after_check _ _ _ λ same. done)
        (λ unfixed. after_check _ _ _ λ owner. after_check _ _ _ λ address. after_check _ _ _ λ validated. done)

    covered_settled : Settled (Sane s (frame_of hpa)) (covered_access s writes caller gpa hpa gtype)
    unfolding covered_access
    covered_settled =
        after_entry _ _ λ page here.
        let sane = good_sane s _ page here in
        after_check _ _ _ λ type.
        after_choice _ _ _ (λ shared. through (λ v. refl) inside sane) (λ owned. page_settled page sane)

  pub access_settled : Settled (Sane s (frame_of hpa)) (access s writes caller gpa hpa gtype ntype index)
  unfolding access begins
  access_settled =
      after_check _ _ _ λ size.
      after_check _ _ _ λ arguments.
      after_check _ _ _ λ party.
      after_check _ _ _ λ inside.
      after_check _ _ _ λ types.
      after_choice _ _ _
      (λ covered. covered_settled (ltb-true _ _ inside))
      (λ above. after_check _ _ _ λ shared. through (λ v. refl) (ltb-true _ _ inside) (above_sane s hpa above))
