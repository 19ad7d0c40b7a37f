-- What the answer of a reader tells, said otherwise.
use Rattle.std.proofs.Common.{◌≡◌, Bool, List, ℕ, Some, Result, Ok, Err, subst}
use Rattle.usb_base.specs.Number.{AreBytes}
use Rattle.usb_base.specs.declared.reason.Reason.{Reason}
use Rattle.packet_stream.specs.Format.{Format, Found, Whole, Short, Wrong, StandsAtFront, reading, IsSound}
use Rattle.packet_stream.specs.Reads.{told, IfTold, Answers}
use Rattle.packet_stream.specs.declared.read.Read.{Read}
use Rattle.packet_stream.specs.declared.read.Read.TheVariants as read
use Rattle.packet_stream.specs.declared.read.ReadError.{ReadError}
use Rattle.packet_stream.specs.declared.read.ReadError.TheVariants as error
use Rattle.packet_stream.proofs.Formats.{stands}

some_is : {X : Type 0} (x y : X) → Some x ≡ Some y → y ≡ x
some_is x y e = cc

-- a reader that always tells takes no memory
pub told_answers : {P : Type 0} (takes : P → Bool) (r : Result (Read P) ReadError) (found : Found P Reason) → told r ≡ Some found → Answers takes r found
told_answers takes (Ok (read.Whole p n)) found e = some_is (Whole p n) found e
told_answers takes (Ok read.Short) found e = some_is Short found e
told_answers takes (Err (error.Refused place reason)) found e = some_is (Wrong place reason) found e
told_answers takes (Err (error.Memory memory)) found e = absurd cc

-- what holds of what was found holds of what is told
pub answers_if : {P : Type 0} (takes : P → Bool) (r : Result (Read P) ReadError) (found : Found P Reason) (Holds : Found P Reason → Type 0) → Answers takes r found → Holds found → IfTold r Holds
answers_if takes (Ok (read.Whole p n)) found Holds a h = subst Holds a h
answers_if takes (Ok read.Short) found Holds a h = subst Holds a h
answers_if takes (Err (error.Refused place reason)) found Holds a h = subst Holds a h
answers_if takes (Err (error.Memory memory)) found Holds a h = tt

-- what is told stands there
pub answers_stands : {P : Type 0} (takes : P → Bool) (f : Format P Reason) → IsSound f → (b : List ℕ) → AreBytes b → (r : Result (Read P) ReadError) → Answers takes r (reading f b) → IfTold r (StandsAtFront f b)
answers_stands takes f sound b bytes r a = answers_if takes r (reading f b) (StandsAtFront f b) a (stands f sound b bytes)
