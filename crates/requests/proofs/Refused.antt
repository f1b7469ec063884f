-- Why a request is refused: it has a cause as a call of 01 has, in the frames that it names or meets, or it is refused for its run, or on
-- the way of a walk. And so what the refusal carries.
-- Assumes nothing.
use mathlib.Core.Path.{◌≡◌, refl, sym, ap, ◌∙◌}
use mathlib.Core.Bool.{true, false≢true}
use mathlib.Core.List.{List, [], ◌∷◌, ◌++◌}
use mathlib.Core.Logic.{◌≢◌, ⊎_elim}
use Prim.Native.Nat.{ℕ}
use native.Mathlib.Omega.{arith}
use lib.ListN.{length}
use Rattle.words.proofs.ChoiceLaws.{pick_either, same_or_not}
use Rattle.entries.specs.Entry.{SHARED, frame_of}
use Rattle.rules.specs.Answers.{Told, refused, done, none, closed, opened, already, unfixed, word, count}
use Rattle.rules.specs.Calls.{READ, WRITE, step}
use Rattle.rules.specs.History.{history}
use Rattle.rules.specs.Reasons.{frames_of}
use Rattle.rules.specs.Refusals.{Refusal, GEOMETRY, ARGUMENT}
use Rattle.rules.specs.State.{State, sized}
use Rattle.rules.proofs.Carried.{carried}
use Rattle.rules.proofs.Cause.{Cause, plain}
use Rattle.rules.proofs.Steps.{refused_why}
use Rattle.paging.specs.Met.{beyond}
use Rattle.paging.specs.Walk.{Walked, Mapping}
use Rattle.paging.proofs.Traced.{Traced, clear, caused, cause_before, cause_after, translated_traced}
use Rattle.requests.specs.Pages.{page_check, page_write}
use Rattle.requests.specs.PageWords.{PageIsReads, whole, empty, PageIsWrites, writes}
use Rattle.requests.specs.Reasons.{frames_named, ReasonsCarried}
use Rattle.requests.specs.Requests.{Request, CALL, PAGE_READ, PAGE_WRITE, PAGE_CHECK, WALK, BY_VA, tells, mapped, named, by_virtual}
use Rattle.requests.specs.Requests.{respond}
use Rattle.requests.specs.Virtual.{Form, VALIDATE, LOAD, STORE, form_fits, call_on}
use Rattle.requests.proofs.PageWords.{page_read_is_reads, page_write_is_writes, unfit_is_argument}

-- ---- whole pages: as a READ or WRITE of word 0, or for the run
module _ (s : State) (caller gpa hpa : ℕ) (r : Refusal) where
  check_why : PageIsReads s caller gpa hpa → (page_check s caller gpa hpa).told ≡ refused r → Cause s (frame_of hpa ∷ []) r
  unfolding frames_of step
  check_why (whole checked long reads) h = absurd (false≢true (cc (ap (λ o. o.told) checked)))
  check_why (empty refusal checked nothing reads) h =
      refused_why s (READ caller gpa hpa SHARED SHARED 0) r
      (ap (λ o. o.told) (reads 0 (omega arith)) ∙ sym (ap (λ o. o.told) checked) ∙ h)

  write_why :
      (words : List ℕ) → length words ≡ 512 → PageIsWrites s caller gpa hpa words → (page_write s caller gpa hpa words).told ≡ refused r
      → Cause s (frame_of hpa ∷ []) r
  unfolding frames_of history writes
  write_why [] long p h = let z : ⊥ = omega arith in absurd z
  write_why (value ∷ rest) long p h = refused_why s (WRITE caller gpa hpa SHARED SHARED 0 value) r (p.answers [] _ _ refl ∙ h)

  unfit_why : (words frames : List ℕ) → length words ≢ 512 → (page_write s caller gpa hpa words).told ≡ refused r → Cause s frames r
  unfit_why words frames e h =
      pick_either (λ x. refused x ≡ refused r → Cause s frames r) (sized s) ARGUMENT GEOMETRY
      (λ t k. let same : r ≡ ARGUMENT = cc in rw same (plain {n = 2} refl))
      (λ t k. let same : r ≡ GEOMETRY = cc in rw same (plain {n = 1} refl))
      (sym (ap (λ o. o.told) (unfit_is_argument s caller gpa hpa words e)) ∙ h)

-- ---- a walk, and 01's call on what it yields
walk_why :
    {s : State} {frames : List ℕ} {w : Walked Mapping} (given : Refusal) → Traced s frames w → mapped w ≡ tells (refused given)
    → Cause s frames given
unfolding mapped
walk_why given (clear sane) h = absurd (false≢true (cc))
walk_why given (caused {r} why) h = let same : r ≡ given = cc in rw same at why

-- an answer that names an address is no refusal, and a refusal names none
named_refused : (gpa : ℕ) (told : Told) (r : Refusal) → named gpa told ≡ tells (refused r) → told ≡ refused r
unfolding named
named_refused gpa (refused x) r h = cc
named_refused gpa done r h = absurd (false≢true (cc))
named_refused gpa none r h = absurd (false≢true (cc))
named_refused gpa (closed asid address) r h = absurd (false≢true (cc))
named_refused gpa opened r h = absurd (false≢true (cc))
named_refused gpa already r h = absurd (false≢true (cc))
named_refused gpa (unfixed owner) r h = absurd (false≢true (cc))
named_refused gpa (word value) r h = absurd (false≢true (cc))
named_refused gpa (count places) r h = absurd (false≢true (cc))

one_frame : (s : State) (caller : ℕ) (form : Form) (m : Mapping) → frames_of s (call_on caller form m) ≡ frame_of m.hpa ∷ []
unfolding frames_of call_on
one_frame s caller (VALIDATE type) m = refl
one_frame s caller (LOAD index) m = refl
one_frame s caller (STORE index value) m = refl

virtual_why :
    {s : State} {frames : List ℕ} {w : Walked Mapping} (caller : ℕ) (form : Form) (given : Refusal) → Traced s frames w
    → (by_virtual s caller form w).reply ≡ tells (refused given) → Cause s (frames ++ beyond w λ (m : Mapping). frame_of m.hpa ∷ []) given
unfolding by_virtual beyond
virtual_why {s} {frames} caller form given (clear {found} sane) h =
    let why = refused_why s (call_on caller form found) given (named_refused found.gpa _ given h) in
    cause_before s frames sane (rw (one_frame s caller form found) at why)
virtual_why {s} caller form given (caused {r} why) h = let same : r ≡ given = cc in cause_after s [] (rw same at why)

-- ---- any request
pub request_why :
    (s : State) (request : Request) (r : Refusal) → (respond s request).reply ≡ tells (refused r) → Cause s (frames_named s request) r
unfolding respond frames_named
request_why s (CALL call) r h = refused_why s call r (cc)
request_why s (PAGE_READ caller gpa hpa) r h = absurd (false≢true (cc))
request_why s (PAGE_WRITE caller gpa hpa words) r h =
    ⊎_elim
    (λ long. write_why s caller gpa hpa r words long (page_write_is_writes s caller gpa hpa words long) (cc))
    (λ e. unfit_why s caller gpa hpa r words _ e (cc))
    (same_or_not (length words) 512)
request_why s (PAGE_CHECK caller gpa hpa) r h = check_why s caller gpa hpa r (page_read_is_reads s caller gpa hpa) (cc)
request_why s (WALK at) r h = walk_why r (translated_traced s at true) h
request_why s (BY_VA at form) r h = virtual_why at.caller form r (translated_traced s at (form_fits form)) h

pub reasons_carried : ReasonsCarried
reasons_carried s request r h = carried (request_why s request r h)
