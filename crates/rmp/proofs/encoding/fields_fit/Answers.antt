-- `rmp::encoding::fields_fit` meets its contract: each return has the tests as they are by type and FIXED.
use mathlib.Core.Path.{sym, ◌∙◌}
use Rattle.words.specs.Choice.{◌and◌}
use Rattle.rmp.proofs.ByType.{unowned_asid, unowned_flags, unowned_rest, owned_asid, unfixed_flags, unfixed_rest}
use Rattle.rmp.proofs.ByType.{fixed_flags, fixed_rest}
use Rattle.rmp.proofs.encoding.fields_fit.Goals as goal

pub returns-then-e : goal.returns-then-e
unfolding ◌and◌
returns-then-e c = let guest = c.is_guest-asid.ensures in record { asid_value = guest ∙ sym (owned_asid _ (cc)); flags_value = sym (fixed_flags _ (cc) (cc)); rest_value = rw (c.frame_of.ensures, c.is_address.ensures) (sym (fixed_rest _ (cc) _ (cc))) }

pub returns-then-is_owned : goal.returns-then-is_owned
unfolding ◌and◌
returns-then-is_owned c = let guest = c.is_guest-asid.ensures in record { asid_value = guest ∙ sym (owned_asid _ (cc)); flags_value = sym (unfixed_flags _ (cc) (cc)); rest_value = c.is_address-then-is_owned.ensures ∙ sym (unfixed_rest _ (cc) _ (cc)) }

pub returns : goal.returns
unfolding ◌and◌
returns c = let small = c.requires in
    record { asid_value = sym (unowned_asid _ small (cc)); flags_value = sym (unowned_flags _ small (cc)); rest_value = sym (unowned_rest _ small (cc) _) }
