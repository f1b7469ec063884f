-- Where there is room for all that is appended to an empty buffer, it is what stands at its start.
-- Assumes nothing.
use mathlib.Core.Path.{◌≡◌, ap}
use mathlib.Core.List.{List}
use Prim.Native.Nat.{ℕ, ◌≤◌}
use native.Mathlib.Omega.{arith}
use lib.ListN.{length, take}
use Rattle.rules.specs.State.{State}
use Rattle.format.specs.Text.{printed, room}
use Rattle.format.proofs.Room.{room_enough}
use Rattle.numbers.specs.Buffer.{buffer, appended}
use Rattle.numbers.proofs.BufferLaws.{appended_fits}

pub all_appended :
    (before now bytes : List ℕ) (count : ℕ) → length bytes ≤ length before → buffer now count ≡ appended (buffer before 0) bytes
    → take count now ≡ bytes
all_appended before now bytes count room is =
    let fits = appended_fits (buffer before 0) bytes (omega arith) in
    rw (ap (λ b. b.bytes) is, ap (λ b. b.filled) is, fits.1) fits.0

-- so of what a text prints, where there is room enough for that text
pub all_printed :
    (s : State) (text before now : List ℕ) (count : ℕ) → room text ≤ length before
    → buffer now count ≡ appended (buffer before 0) (printed s text)
    → take count now ≡ printed s text
all_printed s text before now count room is =
    let most = room_enough s text in
    all_appended before now (printed s text) count (omega arith) is
