-- 02, Q-3, "two frames can't be freed": that no page is stuck. What is claimed of a fixed page in any state that a list of requests from an
-- empty table reaches.
use Rattle.std.specs.Prelude.{◌≡◌, true, false, List, [], ◌∷◌, ◌≢◌, ℕ, ◌+◌, ◌-◌, ◌<◌, length, Ok}
use Rattle.entries.specs.Entry.{SHARED, is_address, frame_of, is_guest, zero_entry}
use Rattle.entries.specs.declared.entry.Entry.{Entry}
use Rattle.entries.specs.declared.leaf.LeafWord.TheVariants.{Absent, Present}
use Rattle.rules.specs.Answers.{Told, refused, done, unfixed}
use Rattle.rules.specs.Calls.{PUNMERGE, PUNFIX, step}
use Rattle.rules.specs.Leaves.{leaf_frame, consulted, present_words}
use Rattle.rules.specs.Refusals.{STILL_SHARED}
use Rattle.rules.specs.State.{State, empty_table, entry_at}
use Rattle.requests.specs.Asked.{afterwards}
use Rattle.requests.specs.Requests.{Request}

-- PUNFIX is answered, or refused with 17 and nothing else
pub data AnsweredOrShared : Told → Type 0 where
  answered : (owner : ℕ) → AnsweredOrShared (unfixed owner)
  still_shared : AnsweredOrShared (refused STILL_SHARED)

-- the address of a SHARED frame
abbrev pub IsShared : State → ℕ → Type 0
IsShared s hpa = (is_address hpa ≡ true) × ((e : Entry) × ((entry_at s (frame_of hpa) ≡ Ok e) × (e.kind ≡ SHARED)))

-- none of these is that address
abbrev pub NoneOf : List ℕ → ℕ → Type 0
NoneOf [] hpa = Unit {0}
NoneOf (other ∷ rest) hpa = (other ≢ hpa) × NoneOf rest hpa

-- addresses of SHARED frames, no two the same
abbrev pub SharedFrames : State → List ℕ → Type 0
SharedFrames s [] = Unit {0}
SharedFrames s (hpa ∷ rest) = IsShared s hpa × NoneOf rest hpa × SharedFrames s rest

-- the page at hpa is released: some guest is unmerged from it into each of these frames, in their order, and then PUNFIX is answered
pub data Releases (hpa : ℕ) : State → List ℕ → State → Type 0 where
  unfixes : {s : State} (owner : ℕ) → (step s (PUNFIX 0 hpa)).told ≡ unfixed owner → Releases hpa s [] (step s (PUNFIX 0 hpa)).after
  unmerges :
      {s after : State} {frame : ℕ} {rest : List ℕ} (guest : ℕ) → (step s (PUNMERGE 0 hpa frame guest)).told ≡ done
      → Releases hpa (step s (PUNMERGE 0 hpa frame guest)).after rest after → Releases hpa s (frame ∷ rest) after

-- after it the page is not fixed, and its leaf is SHARED
pub record Released (s : State) (hpa leaf : ℕ) : Type 0 where
  pub page : Entry
  pub here : entry_at s (frame_of hpa) ≡ Ok page
  pub unfixed : page.fixed ≡ false
  pub leaf_shared : entry_at s leaf ≡ Ok zero_entry

pub record Unstuck (s : State) (hpa : ℕ) (page : Entry) : Type 0 where
  -- the present words of its leaf are those of guests, each with an address: as many guests are in the page
  pub guests :
      (index : ℕ) → index < 512 → consulted s page index ≢ Absent
      → (is_guest index ≡ true) × ((gpa : ℕ) × (consulted s page index ≡ Present gpa))
  -- any of them can be unmerged into any SHARED frame; the page stays fixed, and one guest fewer is in it
  pub unmerged :
      (frame guest : ℕ) → IsShared s frame → guest < 512 → consulted s page guest ≢ Absent
      → let o = step s (PUNMERGE 0 hpa frame guest) in
      (o.told ≡ done) × (entry_at o.after (frame_of hpa) ≡ Ok page)
      × (present_words s (leaf_frame page) ≡ present_words o.after (leaf_frame page) + 1)
  pub answers : AnsweredOrShared (step s (PUNFIX 0 hpa)).told
  -- with k guests in it: k - 1 PUNMERGEs into as many SHARED frames and one PUNFIX, or one PUNFIX where k is 0
  pub released :
      (frames : List ℕ) → SharedFrames s frames → length frames ≡ present_words s (leaf_frame page) - 1
      → (after : State) × (Releases hpa s frames after × Released after hpa (leaf_frame page))

abbrev pub NoPageStuck : Type 0
NoPageStuck =
    (size : ℕ) (memory : List ℕ) (requests : List Request)
    → let s = afterwards (empty_table size memory) requests in
    (hpa : ℕ) (page : Entry) → is_address hpa ≡ true → entry_at s (frame_of hpa) ≡ Ok page → page.fixed ≡ true → Unstuck s hpa page
