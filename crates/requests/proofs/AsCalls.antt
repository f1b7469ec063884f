-- A list of requests is, to table and memory, a list of calls of 01: a page that is written is its 512 WRITEs, a call by virtual address is
-- 01's on what its walk yields, and what only reads is none. Of these calls those that the requests count as are all events, in the same
-- order: a SHARED access is none.
-- Assumes nothing.
use mathlib.Core.Path.{◌≡◌, refl, sym, ap, ◌∙◌}
use mathlib.Core.List.{List, [], ◌∷◌, ◌++◌, map}
use mathlib.Core.Bool.{true}
use mathlib.Core.Logic.{⊎_elim}
use Prim.Native.Nat.{ℕ, suc}
use lib.Dec.{eqb}
use lib.ListN.{length}
use borrow.Author.Tests.{eqb-true, eqb-false}
use Rattle.words.specs.Choice.{pick, ◌or◌}
use Rattle.words.proofs.ChoiceLaws.{pick_either, true_or_false, pick_true, pick_false}
use Rattle.entries.specs.Entry as entries
use Rattle.entries.specs.Entry.{is_owned}
use Rattle.rules.specs.Answers as answers
use Rattle.rules.specs.Answers.{Told, refused, done, closed, opened, already, unfixed, word, count, outcome}
use Rattle.rules.specs.Calls as calls
use Rattle.rules.specs.Calls.{Call, step}
use Rattle.rules.specs.History.{made, history, finally, event_of, event}
use Rattle.rules.specs.State.{State}
use Rattle.rules.proofs.HistoryLists.{history_append, finally_append}
use Rattle.paging.specs.Walk.{Walked, reaches, stops, Mapping, translated}
use Rattle.requests.specs.Asked.{requested, afterwards, call_there, comes_to, made_as, counts_as, counted}
use Rattle.requests.specs.Pages.{page_check}
use Rattle.requests.specs.PageWords.{PageIsReads, whole, empty, writes}
use Rattle.requests.specs.Requests.{Request, CALL, PAGE_READ, PAGE_WRITE, PAGE_CHECK, WALK, BY_VA, Reply, tells, hands, names, maps}
use Rattle.requests.specs.Requests.{mapped, named, by_virtual, respond}
use Rattle.requests.specs.Virtual.{Form, form_fits, call_on}
use Rattle.requests.proofs.PageWords.{page_read_is_reads, page_write_is_writes, unfit_is_argument}
use Rattle.requests.proofs.Thinned.{Thins, none, keep, skip, thins_append}

unfoldable pub as_calls : State → Request → List Call
as_calls s (CALL call) = call ∷ []
as_calls s (PAGE_READ caller gpa hpa) = []
as_calls s (PAGE_WRITE caller gpa hpa words) = pick (eqb (length words) 512) (writes caller gpa hpa 0 words) []
as_calls s (PAGE_CHECK caller gpa hpa) = []
as_calls s (WALK at) = []
as_calls s (BY_VA at form) = call_there at.caller form (translated s at (form_fits form))

unfoldable pub all_calls : State → List Request → List Call
all_calls s [] = []
all_calls s (request ∷ rest) = as_calls s request ++ all_calls (respond s request).after rest

-- ---- what is left
check_leaves : (s : State) (caller gpa hpa : ℕ) → PageIsReads s caller gpa hpa → (page_check s caller gpa hpa).after ≡ s
check_leaves s caller gpa hpa (whole checked long reads) = ap (λ o. o.after) checked
check_leaves s caller gpa hpa (empty n checked nothing reads) = ap (λ o. o.after) checked

there_leaves :
    (s : State) (caller : ℕ) (form : Form) (w : Walked Mapping) → finally s (call_there caller form w) ≡ (by_virtual s caller form w).after
unfolding finally call_there by_virtual
there_leaves s caller form (reaches m) = refl
there_leaves s caller form (stops r) = refl

calls_leave : (s : State) (request : Request) → finally s (as_calls s request) ≡ (respond s request).after
unfolding finally as_calls respond
calls_leave s (CALL call) = refl
calls_leave s (PAGE_READ caller gpa hpa) = refl
calls_leave s (PAGE_WRITE caller gpa hpa words) =
    ⊎_elim
    (λ h. ap (finally s) (pick_true _ _ h) ∙ sym (page_write_is_writes s caller gpa hpa words (eqb-true _ _ h)).leaves)
    (λ h. ap (finally s) (pick_false _ _ h) ∙ sym (ap (λ o. o.after) (unfit_is_argument s caller gpa hpa words (eqb-false _ _ h))))
    (true_or_false (eqb (length words) 512))
calls_leave s (PAGE_CHECK caller gpa hpa) = sym (check_leaves s caller gpa hpa (page_read_is_reads s caller gpa hpa))
calls_leave s (WALK at) = refl
calls_leave s (BY_VA at form) = there_leaves s at.caller form (translated s at (form_fits form))

-- ---- what counts
nothing_made : (reply : Reply) (got left : State) → Thins [] (made_as [] reply got left)
unfolding made_as
nothing_made (tells told) got left = none
nothing_made (names gpa told) got left = none
nothing_made (hands part) got left = none
nothing_made (maps mapping) got left = none

no_events : (s : State) (caller gpa hpa i : ℕ) (words : List ℕ) → Thins (history s (writes caller gpa hpa i words)) []
unfolding history writes event event_of is_owned pick ◌or◌
no_events s caller gpa hpa i [] = none
no_events s caller gpa hpa i (value ∷ rest) = skip _ refl (no_events (step s (calls.WRITE caller gpa hpa entries.SHARED entries.SHARED i value)).after caller gpa hpa (suc i) rest)

-- an answer counts the same with and without the guest address that it names
pub named_made :
    (calls : List Call) (gpa : ℕ) (told : Told) (got left : State)
    → made_as calls (named gpa told) got left ≡ map (λ (call : Call). made call got (outcome told left)) calls
unfolding named made_as
named_made calls gpa (refused refusal) got left = refl
named_made calls gpa done got left = refl
named_made calls gpa answers.none got left = refl
named_made calls gpa (closed asid address) got left = refl
named_made calls gpa opened got left = refl
named_made calls gpa already got left = refl
named_made calls gpa (unfixed owner) got left = refl
named_made calls gpa (word value) got left = refl
named_made calls gpa (count places) got left = refl

there_counts :
    (s : State) (caller : ℕ) (form : Form) (w : Walked Mapping)
    → let r = by_virtual s caller form w in
    Thins (history s (call_there caller form w)) (made_as (call_there caller form w) r.reply s r.after)
unfolding history call_there by_virtual made_as
there_counts s caller form (reaches m) =
    let call = call_on caller form m in
    rw (named_made (call ∷ []) m.gpa (step s call).told s (step s call).after) (keep _ none)
there_counts s caller form (stops r) = none

calls_count :
    (s : State) (request : Request)
    → Thins (history s (as_calls s request)) (counts_as request (respond s request).reply s (respond s request).after)
unfolding history as_calls comes_to made_as counts_as respond
calls_count s (CALL call) = keep _ none
calls_count s (PAGE_READ caller gpa hpa) = none
calls_count s (PAGE_WRITE caller gpa hpa words) =
    pick_either (λ calls. Thins (history s calls) []) _ _ _ (λ h. no_events s caller gpa hpa 0 words) (λ h. none)
calls_count s (PAGE_CHECK caller gpa hpa) = none
calls_count s (WALK at) = nothing_made (mapped (translated s at true)) s s
calls_count s (BY_VA at form) = there_counts s at.caller form (translated s at (form_fits form))

-- ---- lists
pub all_leave : (s : State) (requests : List Request) → finally s (all_calls s requests) ≡ afterwards s requests
unfolding finally all_calls afterwards
all_leave s [] = refl
all_leave s (request ∷ rest) =
    let after = (respond s request).after in
    finally_append s (as_calls s request) (all_calls after rest)
    ∙ ap (λ u. finally u (all_calls after rest)) (calls_leave s request)
    ∙ all_leave after rest

pub all_count : (s : State) (requests : List Request) → Thins (history s (all_calls s requests)) (counted (requested s requests))
unfolding history all_calls counted requested
all_count s [] = none
all_count s (request ∷ rest) =
    rw (history_append s (as_calls s request) (all_calls (respond s request).after rest), calls_leave s request)
    (thins_append (calls_count s request) (all_count (respond s request).after rest))
