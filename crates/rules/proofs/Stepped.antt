-- Every call is refused for a cause, with the state as it was, or has passed its checks and done what its rule says. The proofs of
-- demand 3 go by these two cases and open no rule.
-- Assumes nothing.
use mathlib.Core.Path.{◌≡◌, refl, ◌∙◌}
use mathlib.Core.Bool.{Bool, true, false, not}
use mathlib.Core.List.{[], ◌∷◌}
use Prim.Native.Nat.{ℕ}
use native.Mathlib.Nat.{le_refl}
use lib.Dec.{eqb}
use borrow.Author.Tests.{eqb-true, eqb-false, ltb-true, not-true}
use Rattle.words.specs.Choice.{pick}
use Rattle.words.proofs.ChoiceLaws.{and_left, and_right}
use Rattle.entries.specs.Entry.{Decoded, SHARED, LEAF, frame_of}
use Rattle.entries.specs.declared.entry.Entry.{Entry}
use Rattle.std.specs.Prelude.{Ok}
use Rattle.rules.specs.Access.{unfixed_access, fixed_access, covered_access, access, read, write}
use Rattle.rules.specs.Answers.{Told, refused, Outcome, outcome, Verdict, settle, unless, both_entered}
use Rattle.rules.specs.Arguments.{is_host}
use Rattle.rules.specs.Assignment.{rmpupdate, pvalidate}
use Rattle.rules.specs.Calls.{Call, RMPUPDATE, PVALIDATE, PFIX, PMERGE, PUNMERGE, PUNFIX, READ, WRITE, CENSUS, step}
use Rattle.rules.specs.Census.{Tally, total, stopped, reported, census}
use Rattle.rules.specs.Leaves.{is_leaf}
use Rattle.rules.specs.Merging.{pfix, pmerge_by, pmerge, punmerge, punfix}
use Rattle.rules.specs.Reasons.{frames_of}
use Rattle.rules.specs.Refusals.{Refusal, TYPE}
use Rattle.rules.specs.State.{State, N, covers}
use Rattle.rules.proofs.Accepted.{Accepted, by_update, by_validate, by_fix, by_merge, by_unmerge, by_unfix, by_free, by_read}
use Rattle.rules.proofs.Accepted.{by_write, by_census, Stepped, refuses, accepts}
use Rattle.rules.proofs.Chain.{granted, turned_down, chosen, checked, checked_not, begun, decoded_by, placed_by, vacant_by, leaf_by}
use Rattle.rules.proofs.Chain.{remaining_by}
use Rattle.rules.proofs.FirstReason.{named_good}
use Rattle.rules.proofs.Leaves.{leaf_has}
use Rattle.rules.proofs.Passed.{Way, above, shared, own, merged, Unfixing, Accessed, Counted}
use Rattle.rules.proofs.Cause.{Cause, fault, tally_stops}
use Rattle.rules.proofs.StateLaws.{covered_frame, uncovered_frame}

host_is : (caller : ℕ) → is_host caller ≡ true → caller ≡ 0
unfolding is_host
host_is caller h = eqb-true _ _ h

guest_is : (caller : ℕ) → not (is_host caller) ≡ true → caller ≡ 0 → ⊥
unfolding is_host
guest_is caller h = eqb-false _ _ (not-true _ h)

leaf_is : (d : Decoded) (e : Entry) → d ≡ Ok e → eqb e.kind LEAF ≡ true → is_leaf d ≡ true
unfolding is_leaf
leaf_is d e h k = rw h k

module _ (s : State) where
  update_stepped :
      (caller hpa gpa asid kind : ℕ) → Stepped s (RMPUPDATE caller hpa gpa asid kind) (rmpupdate s caller hpa gpa asid kind)
  unfolding rmpupdate frames_of
  update_stepped caller hpa gpa asid kind =
      begun _ _ _ _ λ size arguments host inside.
      decoded_by _ _ [] refl (covered_frame s _ inside) λ old here.
      checked_not _ _ _ refl λ no_leaf_lem.
      checked_not _ _ _ refl λ unfixed.
      granted
      (by_update
      (record {
        size = size;
        arguments = arguments;
        host = host_is caller host;
        inside = covered_frame s _ inside;
        here = here;
        no_leaf_lem = no_leaf_lem;
        unfixed = unfixed;
      }))

  validate_stepped : (caller gpa hpa kind : ℕ) → Stepped s (PVALIDATE caller gpa hpa kind) (pvalidate s caller gpa hpa kind)
  unfolding pvalidate frames_of
  validate_stepped caller gpa hpa kind =
      begun _ _ _ _ λ size arguments guest inside.
      decoded_by _ _ [] refl (covered_frame s _ inside) λ old here.
      checked _ _ _ refl λ type.
      checked _ _ _ refl λ owner.
      checked_not _ _ _ refl λ unfixed.
      checked _ _ _ refl λ address.
      granted
      (by_validate
      (record {
        size = size;
        arguments = arguments;
        guest = guest_is caller guest;
        inside = covered_frame s _ inside;
        here = here;
        type = eqb-true _ _ type;
        owner = eqb-true _ _ owner;
        unfixed = unfixed;
        address = eqb-true _ _ address;
      }))

  fix_stepped : (caller hpa leaf : ℕ) → Stepped s (PFIX caller hpa leaf) (pfix s caller hpa leaf)
  unfolding pfix both_entered frames_of
  fix_stepped caller hpa leaf =
      begun _ _ _ _ λ size arguments host inside.
      decoded_by _ _ _ refl (covered_frame s _ (and_left _ _ inside)) λ old here.
      decoded_by _ _ [] (named_good s _ old _ here) (covered_frame s _ (and_right _ _ inside)) λ leafs there.
      checked _ _ _ refl λ types.
      checked_not _ _ _ refl λ unfixed.
      checked _ _ _ refl λ validated.
      checked_not _ _ _ refl λ unused.
      granted
      (by_fix
      (record {
        size = size;
        arguments = arguments;
        host = host_is caller host;
        inside = covered_frame s _ (and_left _ _ inside);
        leaf_inside = covered_frame s _ (and_right _ _ inside);
        here = here;
        leaf_kind = leaf_is _ leafs there (and_right _ _ types);
        type = eqb-true _ _ (and_left _ _ types);
        unfixed = unfixed;
        validated = validated;
        unused = unused;
      }))

  merge_stepped : (caller hpa1 hpa2 : ℕ) → Stepped s (PMERGE caller hpa1 hpa2) (pmerge s caller hpa1 hpa2)
  unfolding pmerge pmerge_by both_entered frames_of
  merge_stepped caller hpa1 hpa2 =
      begun _ _ _ _ λ size arguments host inside.
      decoded_by _ _ _ refl (covered_frame s _ (and_left _ _ inside)) λ one here1.
      decoded_by _ _ [] (named_good s _ one _ here1) (covered_frame s _ (and_right _ _ inside)) λ two here2.
      checked _ _ _ refl λ types.
      checked _ _ _ refl λ fixed1.
      checked_not _ _ _ refl λ unfixed2.
      checked _ _ _ refl λ validated2.
      vacant_by _ _ _ _ here1 fixed1 λ no_place.
      checked _ _ _ refl λ equal.
      granted
      (by_merge
      (record {
        size = size;
        arguments = arguments;
        host = host_is caller host;
        inside1 = covered_frame s _ (and_left _ _ inside);
        inside2 = covered_frame s _ (and_right _ _ inside);
        here1 = here1;
        here2 = here2;
        type1 = eqb-true _ _ (and_left _ _ types);
        type2 = eqb-true _ _ (and_right _ _ types);
        fixed1 = fixed1;
        unfixed2 = unfixed2;
        validated2 = validated2;
        no_place = no_place;
        equal = eqb-true _ _ equal;
      }))

  unmerge_stepped : (caller hpa1 hpa2 asid : ℕ) → Stepped s (PUNMERGE caller hpa1 hpa2 asid) (punmerge s caller hpa1 hpa2 asid)
  unfolding punmerge both_entered frames_of
  unmerge_stepped caller hpa1 hpa2 asid =
      begun _ _ _ _ λ size arguments host inside.
      decoded_by _ _ _ refl (covered_frame s _ (and_left _ _ inside)) λ one here1.
      decoded_by _ _ [] (named_good s _ one _ here1) (covered_frame s _ (and_right _ _ inside)) λ two here2.
      checked _ _ _ refl λ types.
      checked _ _ _ refl λ fixed1.
      placed_by _ _ _ _ here1 fixed1 λ gpa place.
      granted
      (by_unmerge
      (record {
        size = size;
        arguments = arguments;
        host = host_is caller host;
        inside1 = covered_frame s _ (and_left _ _ inside);
        inside2 = covered_frame s _ (and_right _ _ inside);
        here1 = here1;
        here2 = here2;
        type1 = eqb-true _ _ (and_left _ _ types);
        type2 = eqb-true _ _ (and_right _ _ types);
        fixed1 = fixed1;
        place = place;
      }))

  unfix_stepped : (caller hpa : ℕ) → Stepped s (PUNFIX caller hpa) (punfix s caller hpa)
  unfolding punfix frames_of
  unfix_stepped caller hpa =
      begun _ _ _ _ λ size arguments host inside.
      decoded_by _ _ [] refl (covered_frame s _ inside) λ old here.
      checked _ _ _ refl λ type.
      checked _ _ _ refl λ fixed.
      leaf_by _ old here fixed _ λ leaf_kind.
      let page : Unfixing s caller hpa old =
      record {
        size = size;
        arguments = arguments;
        host = host_is caller host;
        inside = covered_frame s _ inside;
        here = here;
        type = eqb-true _ _ type;
        fixed = fixed;
        leaf_kind = leaf_kind;
      } in
      remaining_by _ old here fixed leaf_kind (leaf_has s _ size here fixed) _ _
      (λ guest gpa range one_left last place.
      granted (by_unfix (record { page = page; range = range; one_left = one_left; last = last; place = place })))
      (λ none_left. granted (by_free (record { page = page; none_left = none_left })))

  -- the checks of an access, whatever it is to do
  module _ {c : Call} (writes : Bool) (caller gpa hpa gtype ntype index : ℕ) (rest : Verdict)
      (named : frames_of s c ≡ frame_of hpa ∷ []) where
    way_taken :
        (Way s writes caller gpa (frame_of hpa) gtype → Stepped s c (settle s rest))
        → Stepped s c
        (settle s (pick (covers s hpa) (covered_access s writes caller gpa hpa gtype rest) (unless (eqb gtype SHARED) TYPE rest)))
    unfolding covered_access fixed_access unfixed_access
    way_taken ok =
        chosen _ _ _
        (λ covered.
        let inside = covered_frame s _ covered in
        decoded_by _ _ [] (rw named refl) inside λ page here.
        checked _ _ _ refl λ type.
        chosen _ _ _
        (λ is_shared. ok (shared page inside here (eqb-true _ _ type ∙ eqb-true _ _ is_shared) (eqb-true _ _ is_shared)))
        (λ not_shared.
        chosen _ _ _
        (λ fixed.
        checked_not _ _ _ refl λ reads.
        placed_by _ _ _ _ here fixed λ held place.
        checked _ _ _ refl λ address.
        ok (merged page inside here (eqb-true _ _ type) not_shared fixed reads (rw (← (eqb-true held gpa address)) place)))
        (λ unfixed.
        checked _ _ _ refl λ owner.
        checked _ _ _ refl λ address.
        checked _ _ _ refl λ validated.
        ok (own page inside here (eqb-true _ _ type) not_shared unfixed (eqb-true _ _ owner) (eqb-true _ _ address) validated))))
        (λ outside. checked _ _ _ refl λ is_shared. ok (above (uncovered_frame s _ outside) (eqb-true _ _ is_shared)))

    access_stepped :
        (Accessed s writes caller gpa hpa gtype ntype index → Stepped s c (settle s rest))
        → Stepped s c (settle s (access s writes caller gpa hpa gtype ntype index rest))
    unfolding access
    access_stepped ok =
        begun _ _ _ _ λ size arguments party inside.
        checked _ _ _ refl λ types.
        way_taken λ way.
        ok
        (record {
          size = size;
          arguments = arguments;
          party = party;
          inside = ltb-true _ _ inside;
          types = eqb-true _ _ types;
          way = way;
        })

  read_stepped :
      (caller gpa hpa gtype ntype index : ℕ)
      → Stepped s (READ caller gpa hpa gtype ntype index) (read s caller gpa hpa gtype ntype index)
  unfolding read frames_of
  read_stepped caller gpa hpa gtype ntype index =
      access_stepped false caller gpa hpa gtype ntype index _ refl λ passed. granted (by_read passed)

  write_stepped :
      (caller gpa hpa gtype ntype index value : ℕ)
      → Stepped s (WRITE caller gpa hpa gtype ntype index value) (write s caller gpa hpa gtype ntype index value)
  unfolding write frames_of
  write_stepped caller gpa hpa gtype ntype index value =
      access_stepped true caller gpa hpa gtype ntype index _ refl λ passed. granted (by_write passed)

  reported_stepped :
      (asid : ℕ) (t : Tally) → ((r : Refusal) → t ≡ stopped r → Cause s (frames_of s (CENSUS asid)) r)
      → ((n : ℕ) → t ≡ total n → Counted s asid n)
      → Stepped s (CENSUS asid) (settle s (reported s t))
  unfolding reported
  reported_stepped asid (total n) why ok = granted (by_census (ok n refl))
  reported_stepped asid (stopped r) why ok = turned_down (why r refl)

  census_stepped : (asid : ℕ) → Stepped s (CENSUS asid) (census s asid)
  unfolding census frames_of
  census_stepped asid =
      checked _ _ _ refl λ size.
      checked _ _ _ refl λ guest.
      reported_stepped asid _ (λ r h. fault (tally_stops s asid r (N s) (le_refl _) h)) λ n sum.
      record { size = size; guest = guest; sum = sum }

pub stepped : (s : State) (c : Call) → Stepped s c (step s c)
unfolding step
stepped s (RMPUPDATE caller hpa gpa asid kind) = update_stepped s caller hpa gpa asid kind
stepped s (PVALIDATE caller gpa hpa kind) = validate_stepped s caller gpa hpa kind
stepped s (PFIX caller hpa leaf) = fix_stepped s caller hpa leaf
stepped s (PMERGE caller hpa1 hpa2) = merge_stepped s caller hpa1 hpa2
stepped s (PUNMERGE caller hpa1 hpa2 asid) = unmerge_stepped s caller hpa1 hpa2 asid
stepped s (PUNFIX caller hpa) = unfix_stepped s caller hpa
stepped s (READ caller gpa hpa gtype ntype index) = read_stepped s caller gpa hpa gtype ntype index
stepped s (WRITE caller gpa hpa gtype ntype index value) = write_stepped s caller gpa hpa gtype ntype index value
stepped s (CENSUS asid) = census_stepped s asid

-- what holds of a refusal for a cause, and of an accepted call, holds of what any call comes to
module _ (P : Outcome → Type 0) (s : State) (c : Call) (refusal : (r : Refusal) → Cause s (frames_of s c) r → P (outcome (refused r) s))
    (acceptance : (told : Told) (after : State) → Accepted s c told after → P (outcome told after)) where
  either : (o : Outcome) → Stepped s c o → P o
  either _ (refuses r why) = refusal r why
  either _ (accepts passed) = acceptance _ _ passed

  pub step_cases : P (step s c)
  step_cases = either (step s c) (stepped s c)
