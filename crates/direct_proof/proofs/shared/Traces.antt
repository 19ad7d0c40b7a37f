-- Traces one behind the other: what they do, whether they are allowed, and what they answer.
use Rattle.std.proofs.Common.{◌≡◌, List, [], ◌∷◌, ◌++◌, refl, sym, ap, ◌∙◌, append_assoc}
use Rattle.usbip_urb.specs.declared.packet.UrbPacket.{UrbPacket}
use Rattle.model_device.specs.Meaning.{Meaning}
use Rattle.direct_device.specs.Direct.{Direct}
use Rattle.direct_device.specs.Acting.{Deed, act, answers}
use Rattle.direct_device.specs.Legal.{acts, AreAllowed, all_answers}

pub acts-append : {S : Type 0} (m : Meaning S) (xs ys : List Deed) (d : Direct S) → acts m d (xs ++ ys) ≡ acts m (acts m d xs) ys
acts-append m [] ys d = refl
acts-append m (x ∷ xs) ys d = acts-append m xs ys (act m d x)

pub allowed-append : {S : Type 0} (m : Meaning S) (xs ys : List Deed) (d : Direct S) → AreAllowed m d xs → AreAllowed m (acts m d xs) ys → AreAllowed m d (xs ++ ys)
allowed-append m [] ys d h k = k
allowed-append m (x ∷ xs) ys d h k = (h.0, allowed-append m xs ys (act m d x) h.1 k)

pub answers-append : {S : Type 0} (m : Meaning S) (xs ys : List Deed) (d : Direct S) → all_answers m d (xs ++ ys) ≡ all_answers m d xs ++ all_answers m (acts m d xs) ys
answers-append m [] ys d = refl
answers-append m (x ∷ xs) ys d = ap (λ (l : List UrbPacket). answers m d x ++ l) (answers-append m xs ys (act m d x)) ∙ sym (append_assoc (answers m d x) (all_answers m (act m d x) xs) (all_answers m (acts m (act m d x) xs) ys))
