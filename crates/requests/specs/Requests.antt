-- What may be asked of the monitor: the nine calls of 01, and the calls that paper 02 adds to them. The calls of 01, their answers and
-- `step` know nothing of this.
use Rattle.std.specs.Prelude.{true, List, ℕ}
use Rattle.rules.specs.Answers.{Told, refused, done, none, closed, opened, already, unfixed, word, count, Outcome, outcome}
use Rattle.rules.specs.Calls.{Call, step}
use Rattle.rules.specs.State.{State}
use Rattle.paging.specs.Walk.{Walked, reaches, stops, Virtual, Mapping, translated}
use Rattle.requests.specs.Pages.{page_read, page_write, page_check}
use Rattle.requests.specs.Virtual.{Form, form_fits, call_on}

pub data Request : Type 0 where
  CALL : (call : Call) → Request
  -- Q-1
  PAGE_READ : (caller gpa hpa : ℕ) → Request
  PAGE_WRITE : (caller gpa hpa : ℕ) (words : List ℕ) → Request
  PAGE_CHECK : (caller gpa hpa : ℕ) → Request
  -- Q-4: the walk alone, and PVALIDATE, READ or WRITE by virtual address
  WALK : (at : Virtual) → Request
  BY_VA : (at : Virtual) (form : Form) → Request

-- what is replied: an answer of 01, a part of memory, an answer of 01 with the guest address that it names, or what a walk yields
pub data Reply : Type 0 where
  tells : (told : Told) → Reply
  hands : (part : List ℕ) → Reply
  names : (gpa : ℕ) (told : Told) → Reply
  maps : (mapping : Mapping) → Reply

-- a reply, with table and memory after it
pub record Response : Type 0 where
  pub reply : Reply
  pub after : State

abbrev pub response : Reply → State → Response
response reply after = record { reply = reply; after = after }

abbrev pub telling : Outcome → Response
telling o = response (tells o.told) o.after

-- "The walk yields guest address, frame and both types, or a refusal"
unfoldable pub mapped : Walked Mapping → Reply
mapped (reaches m) = maps m
mapped (stops refusal) = tells (refused refusal)

-- "an accepted one's answer names that guest address too": an accepted PVALIDATE, READ or WRITE has one of four answers
unfoldable pub named : ℕ → Told → Reply
named gpa opened = names gpa opened
named gpa already = names gpa already
named gpa (word value) = names gpa (word value)
named gpa done = names gpa done
named gpa (refused refusal) = tells (refused refusal)
named gpa none = tells none
named gpa (closed asid address) = tells (closed asid address)
named gpa (unfixed owner) = tells (unfixed owner)
named gpa (count places) = tells (count places)

abbrev pub naming : ℕ → Outcome → Response
naming gpa o = response (named gpa o.told) o.after

-- 01's call on what the walk yields, or the walk's refusal
unfoldable pub by_virtual : State → ℕ → Form → Walked Mapping → Response
by_virtual s caller form (reaches m) = naming m.gpa (step s (call_on caller form m))
by_virtual s caller form (stops refusal) = telling (outcome (refused refusal) s)

unfoldable pub respond : State → Request → Response
respond s (CALL call) = telling (step s call)
respond s (PAGE_READ caller gpa hpa) = response (hands (page_read s caller gpa hpa)) s
respond s (PAGE_WRITE caller gpa hpa words) = telling (page_write s caller gpa hpa words)
respond s (PAGE_CHECK caller gpa hpa) = telling (page_check s caller gpa hpa)
respond s (WALK at) = response (mapped (translated s at true)) s
respond s (BY_VA at form) = by_virtual s at.caller form (translated s at (form_fits form))
