-- `fixing::scan::names_leaf` meets its contract: an entry in which another address stands does not name the leaf, and any other
-- is decoded.
use Rattle.std.proofs.Common.{◌≡◌, sym, ℕ, Bool, false, ◌&&◌, rules}
use Rattle.std.specs.Prelude.{Ok, Err, eqb, MatchResult}
use Rattle.std.proofs.lemmas.Result.{MatchResult-weaker}
use borrow.Author.Tests.{ne_eqb, tests}
use Rattle.words.specs.Choice.{◌and◌}
use Rattle.entries.specs.Entry.{Decoded}
use Rattle.rules.specs.Leaves.{names_leaf}
use Rattle.fixing.proofs.ScanLaws.{not_named}
use Rattle.fixing.proofs.scan.names_leaf.Goals as goal

by_entry : (d : Decoded) (leaf : ℕ) (r : Bool) → MatchResult d (λ e. r ≡ e.fixed && eqb e.address leaf) (λ _. r ≡ false) → r ≡ names_leaf d leaf
unfolding names_leaf ◌and◌
by_entry (Ok e) leaf r h = h
by_entry (Err reason) leaf r h = h

pub returns-then-there : goal.returns-then-there
returns-then-there c = rw (← c.entry.ensures)
    (by_entry _ _ _ (MatchResult-weaker c.entry.result c.is_ok_and.ensures (λ e h. search (rules, tests)) (λ reason h. h)))

pub returns-else-there : goal.returns-else-there
returns-else-there c = let other = ne_eqb _ _ c.if-there.false in rw other (sym (not_named _ _ _ (rw c.address.ensures at other)))
