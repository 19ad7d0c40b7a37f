-- An answer that tells what was found tells what stands there.
use Rattle.std.proofs.Common.{ℕ, Bool, List, Result, Ok, Err, subst}
use Rattle.usb_base.specs.Number.{AreBytes}
use Rattle.usb_base.specs.declared.reason.Reason.{Reason}
use Rattle.packet_stream.specs.Format.{Format, IsSound, StandsAtFront, reading}
use Rattle.packet_stream.specs.Reads.{Answers, IfTold}
use Rattle.packet_stream.specs.declared.read.Read.{Read}
use Rattle.packet_stream.specs.declared.read.Read.TheVariants as read
use Rattle.packet_stream.specs.declared.read.ReadError.{ReadError}
use Rattle.packet_stream.specs.declared.read.ReadError.TheVariants as error
use Rattle.packet_stream.proofs.Formats.{stands}

pub told_stands : {P : Type 0} (f : Format P Reason) → IsSound f → (takes : P → Bool) (b : List ℕ) → AreBytes b → (result : Result (Read P) ReadError) → Answers takes result (reading f b) → IfTold result (StandsAtFront f b)
told_stands f sound takes b are (Ok (read.Whole p n)) e = subst (StandsAtFront f b) e (stands f sound b are)
told_stands f sound takes b are (Ok read.Short) e = subst (StandsAtFront f b) e (stands f sound b are)
told_stands f sound takes b are (Err (error.Refused place reason)) e = subst (StandsAtFront f b) e (stands f sound b are)
told_stands f sound takes b are (Err (error.Memory memory)) e = tt
