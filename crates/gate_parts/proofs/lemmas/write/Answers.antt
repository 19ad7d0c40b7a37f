-- The answers of a row are those of its submit.
use Rattle.std.proofs.Common.{◌≡◌, ℕ, ◌&&◌, Bool, if◌then◌else◌, List, [], ◌∷◌, ◌++◌, Option, Some, None, refl, sym, ap, ◌∙◌}
use Rattle.std.specs.List.{flat_map}
use Rattle.std.proofs.lemmas.List.{append-nil}
use Rattle.usbip_urb.specs.Spelling.{spelling}
use Rattle.std.specs.Prelude.{pos}
use Rattle.usb_base.specs.declared.status.UsbStatus.{UsbStatus}
use Rattle.usb_base.specs.declared.status.UsbStatus.TheVariants as status
use Rattle.usb_base.specs.declared.transfer.Outcome.{Outcome}
use Rattle.usbip_urb.specs.declared.packet.UrbPacket.{UrbPacket}
use Rattle.unlink_race.specs.declared.live.Live.{Live}
use Rattle.unlink_race.specs.declared.live.LiveKind.{LiveKind}
use Rattle.unlink_race.specs.declared.live.LiveKind.TheVariants as live_kind
use Rattle.unlink_race.specs.declared.ending.Ending.{Ending}
use Rattle.unlink_race.specs.declared.ending.Ending.TheVariants.{Completed, Unlinked, CompletedThenLate}
use Rattle.unlink_race.specs.Endings.{ending_of}
use Rattle.usb_base.specs.declared.errno.TheConstants.{ECONNRESET}
use Rattle.gate_history.specs.declared.request.Request.{Request}
use Rattle.gate_history.specs.client.Verdict.{is_wire}
use Rattle.gate_history.specs.step.Marks.{Submission}
use Rattle.gate_history.specs.write.Answers.{ret_unlink, with_outcome}
use Rattle.gate_history.specs.client.Ends.{is_cancelled, answers_by}
use Rattle.gate_parts.specs.state.Rows.{is_wire_row, IsRowOf, row_request}

-- of a request an answer has these alone
abbrev answered-of : Request → Request
answered-of r = record r { transfer = record { ep = 0; setup = None; wanted = r.transfer.wanted; body = [] } }

row-answered : (s : Submission) (l : Live) → IsRowOf s l → row_request l ≡ answered-of s.request
row-answered s l row = λ i. record {
  seqnum = row.seqnum i;
  is_in = row.is_in i;
  flags = row.flags i;
  packets = row.packets i;
  descs = row.descs i;
  transfer = record { ep = 0; setup = None; wanted = row.wanted i; body = [] };
}

pub row-outcome : (s : Submission) (l : Live) (o : Outcome) → IsRowOf s l → with_outcome (row_request l) o ≡ with_outcome s.request o
row-outcome s l o row = ap (λ (r : Request). with_outcome r o) (row-answered s l row)

-- ---- by how it ends

abbrev pub by_ending : UrbPacket → Ending → List UrbPacket
by_ending x Completed = x ∷ []
by_ending x (Unlinked by) = ret_unlink by ECONNRESET ∷ []
by_ending x (CompletedThenLate by) = x ∷ ret_unlink by (pos 0) ∷ []

abbrev chosen : UrbPacket → Bool → Bool → Option ℕ → List UrbPacket
chosen x wire cancelled None = x ∷ []
chosen x wire cancelled (Some by) = if wire && cancelled then ret_unlink by ECONNRESET ∷ [] else x ∷ ret_unlink by (pos 0) ∷ []

by-kind : (x : UrbPacket) (u : Option ℕ) (k : LiveKind) (st : UsbStatus) → by_ending x (ending_of u k st) ≡ chosen x (is_wire_row k) (is_cancelled st) u
by-kind x None k st = refl
by-kind x (Some by) (live_kind.Wire ep kind) status.Success = refl
by-kind x (Some by) (live_kind.Wire ep kind) status.Cancelled = refl
by-kind x (Some by) (live_kind.Wire ep kind) status.Inval = refl
by-kind x (Some by) (live_kind.Wire ep kind) status.IoError = refl
by-kind x (Some by) (live_kind.Wire ep kind) status.Stall = refl
by-kind x (Some by) (live_kind.Wire ep kind) status.Timeout = refl
by-kind x (Some by) (live_kind.Wire ep kind) status.Babble = refl
by-kind x (Some by) (live_kind.Wire ep kind) (status.Other byte) = refl
by-kind x (Some by) (live_kind.Routed route) st = refl
by-kind x (Some by) (live_kind.Stream ep interface) st = refl

defined : (s : Submission) (o : Outcome) (u : Option ℕ) → chosen (with_outcome s.request o) (is_wire s.verdict) (is_cancelled o.status) u ≡ answers_by s o u
defined s o None = refl
defined s o (Some by) = refl

pub row-answers : (s : Submission) (l : Live) (o : Outcome) (e : Ending) → IsRowOf s l → e ≡ ending_of l.unlinker l.kind o.status →
    by_ending (with_outcome (row_request l) o) e ≡ answers_by s o l.unlinker
row-answers s l o e row is =
    ap (by_ending (with_outcome (row_request l) o)) is
    ∙ by-kind (with_outcome (row_request l) o) l.unlinker l.kind o.status
    ∙ (λ i. chosen (row-outcome s l o row i) (row.wire i) (is_cancelled o.status) l.unlinker)
    ∙ defined s o l.unlinker

-- ---- their bytes

pub bytes-one : (s : Submission) (l : Live) (o : Outcome) (x : UrbPacket) (e : Ending) → IsRowOf s l → e ≡ ending_of l.unlinker l.kind o.status → by_ending (with_outcome (row_request l) o) e ≡ x ∷ [] →
    spelling x ≡ flat_map spelling (answers_by s o l.unlinker)
bytes-one s l o x e row is one = sym (append-nil (spelling x)) ∙ ap (flat_map spelling) (sym one ∙ row-answers s l o e row is)

pub bytes-two : (s : Submission) (l : Live) (o : Outcome) (x y : UrbPacket) (e : Ending) → IsRowOf s l → e ≡ ending_of l.unlinker l.kind o.status → by_ending (with_outcome (row_request l) o) e ≡ x ∷ y ∷ [] →
    spelling x ++ spelling y ≡ flat_map spelling (answers_by s o l.unlinker)
bytes-two s l o x y e row is two =
    ap (λ (b : List ℕ). spelling x ++ b) (sym (append-nil (spelling y))) ∙ ap (flat_map spelling) (sym two ∙ row-answers s l o e row is)
