-- The answer of a filled request is spelled by its fields in front, and what the packets keep.
use Rattle.std.proofs.Common.{◌≡◌, ℕ, List, [], ◌++◌, length, filter, refl, sym, ap, ◌∙◌, append_assoc}
use Rattle.std.specs.Prelude.{pos}
use Rattle.std.proofs.lemmas.List.{append-nil}
use Rattle.std.specs.Int.{w32, cast_signed, cast_unsigned}
use Rattle.usb_base.specs.declared.status.UsbStatus.{UsbStatus}
use Rattle.usb_base.specs.declared.status.UsbStatus.TheVariants as status
use Rattle.usb_base.specs.Status.{errno_of}
use Rattle.usb_base.specs.declared.transfer.Outcome.{Outcome}
use Rattle.usbip_urb.specs.declared.packet.IsoDesc.{IsoDesc}
use Rattle.usbip_urb.specs.Spelling.{spelling, descs_bytes}
use Rattle.stream_buffers.specs.Iso.{IsoOutcome}
use Rattle.usbip_urb.specs.Errors.{is_failed, errors_of}
use Rattle.unlink_race.specs.declared.live.Live.{Live}
use Rattle.gate_history.specs.write.Answers.{with_given, echoed}
use Rattle.gate_history.specs.host.Fillings.{Transferred, Isochronous}
use Rattle.gate_parts.specs.state.Rows.{row_request}
use Rattle.gate_parts.specs.host.FillAnswer.{front_bytes}

-- an error number as it stands in four bytes
pub errno_back : (s : UsbStatus) → cast_signed w32 (cast_unsigned w32 (errno_of s)) ≡ errno_of s
errno_back status.Success = refl
errno_back status.Cancelled = refl
errno_back status.Inval = refl
errno_back status.IoError = refl
errno_back status.Stall = refl
errno_back status.Timeout = refl
errno_back status.Babble = refl
errno_back (status.Other byte) = refl

-- what is put behind the first part is put behind the parts before it
pub then-more : (before first more mid new : List ℕ) → mid ≡ before ++ first → new ≡ mid ++ more → new ≡ before ++ (first ++ more)
then-more before first more mid new put behind = behind ∙ ap (λ (bs : List ℕ). bs ++ more) put ∙ append_assoc before first more

-- a row without isochronous packets
pub transferred : (l : Live) (o : Outcome) → l.descs ≡ [] →
    spelling (with_given (row_request l) (Transferred o)) ≡ front_bytes (row_request l) (errno_of o.status) o.done 0 ++ o.body
transferred l o none =
    ap (λ (ds : List IsoDesc). front_bytes (row_request l) (errno_of o.status) o.done (length (filter (λ (d : IsoDesc). is_failed d.status) (echoed (errno_of o.status) ds))) ++ o.body ++ descs_bytes (echoed (errno_of o.status) ds)) none
    ∙ append-nil (front_bytes (row_request l) (errno_of o.status) o.done 0 ++ o.body)

pub isochronous : (l : Live) (o : IsoOutcome) (done wrong : ℕ) → done ≡ length o.body → wrong ≡ errors_of o.descs →
    spelling (with_given (row_request l) (Isochronous o)) ≡ front_bytes (row_request l) (pos 0) done wrong ++ o.body ++ descs_bytes o.descs
isochronous l o done wrong long counted =
    ap (λ (n : ℕ). front_bytes (row_request l) (pos 0) (length o.body) n ++ o.body ++ descs_bytes o.descs) (sym counted)
    ∙ ap (λ (n : ℕ). front_bytes (row_request l) (pos 0) n wrong ++ o.body ++ descs_bytes o.descs) (sym long)
