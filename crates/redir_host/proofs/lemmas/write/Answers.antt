-- The answers of a host can be written.
use Rattle.std.proofs.Common.{◌≡◌, ℕ, ◌≤◌, Bool, true, false, cond, length, refl, sym, ap, ◌∙◌, inl, inr, arith, lit<}
use Rattle.std.proofs.lemmas.Bool.{cases_Bool}
use Rattle.usb_base.specs.Endpoint.{is_in_endpoint}
use Rattle.usb_base.specs.declared.status.UsbStatus.{UsbStatus}
use Rattle.usb_base.specs.declared.transfer.Outcome.{Outcome}
use Rattle.redir_wire.specs.declared.packet.Caps.{Caps}
use Rattle.redir_wire.specs.declared.packet.Way.TheVariants.{ToGuest}
use Rattle.redir_wire.specs.declared.packet.TheConstants.Caps.{WIDE_BULK_LENGTH}
use Rattle.redir_wire.specs.declared.state.RedirState.{RedirState}
use Rattle.redir_wire.specs.Capability.{has}
use Rattle.redir_wire.specs.State.{wide_ids}
use Rattle.redir_wire.specs.Header.{IdFits}
use Rattle.redir_data.specs.Ranges.{BulkLengthFits}
use Rattle.redir_data.specs.Spelling.{data_count}
use Rattle.model_device.specs.Transfer.{IsOutcome}
use Rattle.redir_host.specs.declared.state.request.Form.{Form}
use Rattle.redir_host.specs.declared.state.request.Form.TheVariants as form
use Rattle.redir_host.specs.declared.state.request.Request.{Request}
use Rattle.chapter9.specs.Standard.{ended}
use Rattle.redir_host.specs.write.Answers.{answer_by}
use Rattle.redir_host.specs.step.Makes.{AnswerFits, LengthFits}
use Rattle.redir_host.specs.state.Sound.{CanTell, DoneFits, WantedFits, IsGuestRequest}

more_bytes : (wide : Bool) → cond wide 2 0 ≤ 2
more_bytes true = omega arith
more_bytes false = omega arith

pub can_answer : (caps : Caps) (configuration id : ℕ) (f : Form) (ep : ℕ) (o : Outcome) → IdFits (wide_ids caps) id → AnswerFits caps f ep o → CanTell caps id (answer_by configuration f ep o)
can_answer caps configuration id (form.Control s) ep o fits a = record { id_fits = fits; length_fits = tt; data_there = a.data_there; in_limit = (let few = a.few_bytes in omega arith) }
can_answer caps configuration id (form.Bulk stream) ep o fits a = record { id_fits = fits; length_fits = a.length_fits; data_there = a.data_there; in_limit = (let few = a.few_bytes in let more = more_bytes (has caps WIDE_BULK_LENGTH) in omega arith) }
can_answer caps configuration id form.Interrupt ep o fits a = record { id_fits = fits; length_fits = tt; data_there = a.data_there; in_limit = (let few = a.few_bytes in omega arith) }
can_answer caps configuration id (form.SetConfiguration asked) ep o fits a = record { agreed = refl; id_fits = fits; writable = tt }
can_answer caps configuration id form.GetConfiguration ep o fits a = record { agreed = refl; id_fits = fits; writable = tt }
can_answer caps configuration id (form.SetAlt interface alt) ep o fits a = record { agreed = refl; id_fits = fits; writable = tt }
can_answer caps configuration id (form.GetAlt interface) ep o fits a = record { agreed = refl; id_fits = fits; writable = tt }

-- ---- what ended without data

none_counted : (b : Bool) → ◌≡◌ {A = ℕ} 0 (cond b 0 0)
none_counted true = refl
none_counted false = refl

no_length : (b : Bool) → BulkLengthFits b 0
no_length true = tt
no_length false = lit< tt

ended_done : (f : Form) → DoneFits f 0
ended_done (form.Control s) = lit< tt
ended_done (form.Bulk stream) = tt
ended_done form.Interrupt = lit< tt
ended_done (form.SetConfiguration asked) = tt
ended_done form.GetConfiguration = tt
ended_done (form.SetAlt interface alt) = tt
ended_done (form.GetAlt interface) = tt

ended_length : (caps : Caps) (f : Form) → LengthFits caps f 0
ended_length caps (form.Control s) = tt
ended_length caps (form.Bulk stream) = no_length (has caps WIDE_BULK_LENGTH)
ended_length caps form.Interrupt = tt
ended_length caps (form.SetConfiguration asked) = tt
ended_length caps form.GetConfiguration = tt
ended_length caps (form.SetAlt interface alt) = tt
ended_length caps (form.GetAlt interface) = tt

pub ended_fits : (caps : Caps) (f : Form) (ep : ℕ) (status : UsbStatus) → AnswerFits caps f ep (ended status)
ended_fits caps f ep status = record { done = ended_done f; length_fits = ended_length caps f; data_there = none_counted (is_in_endpoint ep); few_bytes = omega arith }

-- ---- what the device did

outcome_done : (caps : Caps) (f : Form) (wanted done : ℕ) → WantedFits caps f wanted → done ≤ wanted → DoneFits f done
outcome_done caps (form.Control s) wanted done w less = omega arith
outcome_done caps (form.Bulk stream) wanted done w less = tt
outcome_done caps form.Interrupt wanted done w less = omega arith
outcome_done caps (form.SetConfiguration asked) wanted done w less = tt
outcome_done caps form.GetConfiguration wanted done w less = tt
outcome_done caps (form.SetAlt interface alt) wanted done w less = tt
outcome_done caps (form.GetAlt interface) wanted done w less = tt

less_length : (b : Bool) (wanted done : ℕ) → BulkLengthFits b wanted → done ≤ wanted → BulkLengthFits b done
less_length true wanted done w less = tt
less_length false wanted done w less = omega arith

outcome_length : (caps : Caps) (f : Form) (wanted done : ℕ) → WantedFits caps f wanted → done ≤ wanted → LengthFits caps f done
outcome_length caps (form.Control s) wanted done w less = tt
outcome_length caps (form.Bulk stream) wanted done w less = less_length (has caps WIDE_BULK_LENGTH) wanted done w.1 less
outcome_length caps form.Interrupt wanted done w less = tt
outcome_length caps (form.SetConfiguration asked) wanted done w less = tt
outcome_length caps form.GetConfiguration wanted done w less = tt
outcome_length caps (form.SetAlt interface alt) wanted done w less = tt
outcome_length caps (form.GetAlt interface) wanted done w less = tt

pub few_wanted : (caps : Caps) (f : Form) (wanted : ℕ) → WantedFits caps f wanted → wanted ≤ 16777216
few_wanted caps (form.Control s) wanted w = omega arith
few_wanted caps (form.Bulk stream) wanted w = w.0
few_wanted caps form.Interrupt wanted w = omega arith
few_wanted caps (form.SetConfiguration asked) wanted w = omega arith
few_wanted caps form.GetConfiguration wanted w = omega arith
few_wanted caps (form.SetAlt interface alt) wanted w = omega arith
few_wanted caps (form.GetAlt interface) wanted w = omega arith

-- as many bytes as are told, where they go to the guest
moved : (q : Request) (o : Outcome) → IsOutcome q.transfer o → (length o.body ≡ data_count ToGuest q.transfer.ep o.done) × (length o.body ≤ o.done)
moved q o is = elim (cases_Bool (is_in_endpoint q.transfer.ep)) [
  | inl into ↦ let e = is.from_device into in (sym e ∙ sym (ap (λ (b : Bool). cond b o.done 0) into), omega arith)
  | inr out ↦ let e : length o.body ≡ 0 = ap length (is.to_device out) in (e ∙ sym (ap (λ (b : Bool). cond b o.done 0) out), omega arith)
]

pub outcome_fits : (guest : RedirState) (q : Request) (o : Outcome) → IsGuestRequest guest q → IsOutcome q.transfer o → AnswerFits guest.caps q.form q.transfer.ep o
outcome_fits guest q o is came = record {
  done = outcome_done guest.caps q.form q.transfer.wanted o.done is.wanted_fits came.done;
  length_fits = outcome_length guest.caps q.form q.transfer.wanted o.done is.wanted_fits came.done;
  data_there = (moved q o came).0;
  few_bytes = (let less = (moved q o came).1 in let few = few_wanted guest.caps q.form q.transfer.wanted is.wanted_fits in let done = came.done in omega arith);
}
