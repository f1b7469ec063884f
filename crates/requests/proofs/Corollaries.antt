-- What follows. No list of requests changes a size. From an empty table and any memory: the census is the number of places, which closings
-- and openings balance; and what an accepted read returns, in one piece. By the theorem, and by soundness.
-- Assumes nothing.
use mathlib.Core.Path.{◌≡◌, sym, ap, subst, ◌∙◌}
use mathlib.Core.List.{List, ◌∷◌, ◌++◌, append_assoc}
use Prim.Native.Nat.{ℕ, ◌≤◌}
use Rattle.rules.specs.Answers.{Told, word}
use Rattle.rules.specs.Balance.{over_addresses}
use Rattle.rules.specs.Calls.{step}
use Rattle.rules.specs.History.{Made, reads, event, openings, last_write, NoCounterGoesBack}
use Rattle.rules.specs.State.{State, empty_table, word_at}
use Rattle.rules.proofs.CensusLaws.{census_answered, places_together}
use Rattle.rules.proofs.History.{empty_sound}
use Rattle.rules.proofs.HistoryFrom.{finally_size, none_there}
use Rattle.rules.proofs.HistoryLists.{Opened, opening_there}
use Rattle.rules.proofs.StateLaws.{SameSize}
use Rattle.rules.proofs.Sums.{sum_add}
use Rattle.requests.specs.Asked.{requested, afterwards, counted, SizesStay}
use Rattle.requests.specs.Balance.{CensusClaim}
use Rattle.requests.specs.Requests.{Request}
use Rattle.requests.proofs.AsCalls.{all_calls, all_leave, all_count}
use Rattle.requests.proofs.Asked.{requests_keep_demand_3, afterwards_sound}
use Rattle.requests.proofs.Thinned.{thin_openings, thin_closings}

-- ---- no request of a list changes a size
same_size : (s : State) (requests : List Request) → SameSize s (afterwards s requests)
same_size s requests = subst (SameSize s) (all_leave s requests) (finally_size s (all_calls s requests))

pub sizes_stay : SizesStay
sizes_stay s requests = let same = same_size s requests in (same.same_N, same.same_M, same.same_sized)

-- ---- the census
pub census_kept : CensusClaim
unfolding over_addresses step
census_kept length memory requests guest size g =
    let start = empty_table length memory in
    let end = afterwards start requests in
    let sound = afterwards_sound start requests (empty_sound length memory) in
    let whole = places_together end guest in
    let thins = all_count start requests in
    record {
      answered = rw whole (census_answered end sound guest ((same_size start requests).same_sized ∙ size) g);
      balanced = sum_add _ _ _ _ (λ gpa. (requests_keep_demand_3 length memory requests).counted guest gpa g);
      nowhere_else = λ gpa none.
          let nothing = none_there start (all_calls start requests) guest gpa (empty_sound length memory) g none in
          (sym (thin_closings guest gpa thins) ∙ nothing.0, sym (thin_openings guest gpa thins) ∙ nothing.1);
    }

-- ---- what a read returns, at an address that was opened at most once before it
-- "the read returns the guest's own last accepted such write to that word since the opening, or, where there is none, the word found at
-- the opening"
abbrev pub Returned : (past : List Made) (guest gpa index : ℕ) (told : Told) → Type 0
Returned past guest gpa index told =
    (o : Opened past guest gpa) × (told ≡ word (last_write o.since guest gpa index (word_at o.opening.got o.frame index)))

returned_since :
    {all past : List Made} {end : State} {guest gpa : ℕ} (rest : List Made) (read : Made) (index : ℕ)
    → NoCounterGoesBack all end → all ≡ past ++ (read ∷ rest) → event read ≡ reads guest gpa index
    → openings past guest gpa ≤ 1 → Opened past guest gpa → Returned past guest gpa index read.told
returned_since {guest = guest} {gpa = gpa} rest read index claim whole e most o =
    let parts = ap (λ l. l ++ (read ∷ rest)) o.past_is ∙ append_assoc o.earlier (o.opening ∷ o.since) (read ∷ rest) in
    let once = rw o.past_is at most in
    (o, claim.kept o.earlier o.since rest o.opening read guest gpa o.frame index (whole ∙ parts) o.opens_it e once)

pub read_returns :
    (length : ℕ) (memory : List ℕ) (requests : List Request) (past rest : List Made) (read : Made) (guest gpa index : ℕ)
    → counted (requested (empty_table length memory) requests) ≡ past ++ (read ∷ rest) → event read ≡ reads guest gpa index
    → openings past guest gpa ≤ 1 → Returned past guest gpa index read.told
read_returns length memory requests past rest read guest gpa index whole e most =
    let claim = requests_keep_demand_3 length memory requests in
    returned_since rest read index claim whole e most
    (opening_there past guest gpa (claim.opened_before past rest read guest gpa index whole e))
