-- From an empty table no request is refused with 5 or 12: each of them has a fault of the state as its cause, and a sound state has none.
-- Assumes nothing.
use mathlib.Core.Path.{◌≡◌, refl}
use mathlib.Core.Bool.{false≢true}
use mathlib.Core.List.{List, [], ◌∷◌, ◌++◌}
use mathlib.Core.Logic.{◌≢◌}
use Prim.Native.Nat.{ℕ}
use Rattle.rules.specs.Answers.{refused}
use Rattle.rules.specs.Refusals.{BAD_ENTRY, BROKEN_LEAF}
use Rattle.rules.specs.State.{State}
use Rattle.rules.proofs.History.{empty_sound}
use Rattle.rules.proofs.Never.{sound_unbroken}
use Rattle.rules.proofs.Sound.{Sound}
use Rattle.requests.specs.Asked.{Asked, asked, requested, afterwards, NeverBroken}
use Rattle.requests.specs.Requests.{Request, Reply, tells, respond}
use Rattle.requests.proofs.Asked.{afterwards_sound}
use Rattle.requests.proofs.Refused.{request_why}

-- no refusal with 5 or 12
abbrev UnbrokenReply : Reply → Type 0
UnbrokenReply reply = ((reason : ℕ) → reply ≢ tells (refused (BAD_ENTRY reason))) × (reply ≢ tells (refused BROKEN_LEAF))

reply_unbroken : (s : State) → Sound s → (request : Request) → UnbrokenReply (respond s request).reply
reply_unbroken s sound request = (
  λ reason h. (sound_unbroken sound (request_why s request _ h)).0 reason refl,
  λ h. (sound_unbroken sound (request_why s request _ h)).1 refl,
)

-- a request of a list got what those before it left
each_unbroken :
    (s : State) (requests : List Request) (past rest : List Asked) (a : Asked) → Sound s
    → requested s requests ≡ past ++ (a ∷ rest) → UnbrokenReply a.reply
unfolding requested afterwards
each_unbroken s [] [] rest a sound e = absurd (false≢true (cc))
each_unbroken s [] (first ∷ past) rest a sound e = absurd (false≢true (cc))
each_unbroken s (request ∷ requests) [] rest a sound e =
    let this : asked request s (respond s request) ≡ a = cc in rw (← this) (reply_unbroken s sound request)
each_unbroken s (request ∷ requests) (first ∷ past) rest a sound e =
    each_unbroken (respond s request).after requests past rest a (afterwards_sound s (request ∷ []) sound) (cc)

pub never_broken : NeverBroken
never_broken length memory requests past rest a = each_unbroken _ requests past rest a (empty_sound length memory)
