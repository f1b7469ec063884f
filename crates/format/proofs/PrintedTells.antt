-- What is printed for lines tells the answers of their calls: a reply is one line, so the first line feed ends the first reply, which tells
-- its call's answer, and the rest tells the others. By induction on what the lines say.
-- Assumes nothing.
use mathlib.Core.Path.{◌≡◌, refl}
use mathlib.Core.Bool.{false≢true}
use mathlib.Core.List.{[], ◌∷◌}
use Rattle.format.specs.Line.{says, wrong}
use Rattle.format.specs.Reply.{wrong_reply}
use Rattle.format.specs.Tells.{PrintedTells}
use Rattle.format.specs.Text.{calls_of, replies}
use Rattle.format.proofs.ReplyLine.{same_replies}
use Rattle.format.proofs.Tells.{reply_tells}

pub printed_tells : PrintedTells
unfolding calls_of replies wrong_reply
printed_tells [] [] [] c d a b e = refl
printed_tells [] [] (n ∷ two) c d a b e = absurd (false≢true (cc))
printed_tells [] (m ∷ one) two c d a b e = absurd (false≢true (cc))
printed_tells (wrong ∷ rest) one two c d a b e = printed_tells rest one two c d a b (cc)
printed_tells (says call ∷ rest) [] two c d a b e = absurd (false≢true (cc))
printed_tells (says call ∷ rest) (m ∷ one) [] c d a b e = absurd (false≢true (cc))
printed_tells (says call ∷ rest) (m ∷ one) (n ∷ two) c d a b e =
    let same : n.call ≡ m.call = cc in
    let parts = same_replies m.call m.told n.told (replies rest one) (replies rest two) (rw same at e) in
    let first = reply_tells m.call m.told n.told a.0 (rw same at b.0) parts.0 in
    let then = printed_tells rest one two (cc) (cc) a.1 b.1 parts.1 in
    cc
