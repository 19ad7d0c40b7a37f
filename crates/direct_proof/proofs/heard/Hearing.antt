-- A transfer by a packet of its own is read by the host as it was asked.
use Rattle.std.proofs.Common.{◌≡◌, ℕ, ◌%◌, ◌==◌, ◌<◌, ◌≤◌, not, Bool, true, false, cond, nat_lt, nat_le, Option, Some, None, refl, sym, ap, ◌∙◌, arith, unwrap_or}
use Rattle.std.proofs.lemmas.Bool.{and_from}
use Rattle.usb_base.specs.Endpoint.{is_control}
use Rattle.usb_base.specs.declared.setup.Setup.{Setup}
use Rattle.usb_base.specs.declared.transfer.Transfer.{Transfer}
use Rattle.redir_data.specs.declared.packet.RedirData.{RedirData}
use Rattle.redir_data.specs.declared.packet.RedirData.TheVariants as moving
use Rattle.redir_data.specs.declared.packet.RedirPacket.TheVariants.{Carrying}
use Rattle.model_device.specs.Transfer.{IsTransfer}
use Rattle.redir_host.specs.declared.state.request.Asking.TheVariants.{Nothing, Asks}
use Rattle.redir_host.specs.declared.state.request.Form.TheVariants as form
use Rattle.usb_base.specs.declared.limits.TheConstants.{MAX_TRANSFER}
use Rattle.redir_host.specs.guest.Asking.{asking_of, asked_if, is_other}
use Rattle.gate_history.specs.declared.verdict.Pipe.{Pipe}
use Rattle.gate_history.specs.declared.verdict.Pipe.TheVariants.{Control, Bulk, InterruptOut}
use Rattle.gate_history.specs.write.Packets.{wire_packet, no_setup}
use Rattle.direct_proof.specs.Requests.{pipe_form}
use Rattle.direct_proof.specs.Loads.{FitsPipe}
use Rattle.direct_proof.proofs.performs.Performs.{itself}

other-endpoint : (t : Transfer) → IsTransfer t → is_control t.ep ≡ false → is_other t.ep ≡ true
other-endpoint t is other = and_from (nat_lt (t.ep % 128) 16) (not (is_control t.ep)) (low (t.ep % 128) is.address) (ap not other)
  where
    low : (n : ℕ) → n < 16 → nat_lt n 16 ≡ true
    low n h = grind (arith, h)

few : (n : ℕ) → n ≤ MAX_TRANSFER → nat_le n MAX_TRANSFER ≡ true
few n h = grind (arith, h)

-- the packet asks just the transfer
pub heard-as : (pipe : Pipe) (t : Transfer) → IsTransfer t → FitsPipe pipe t t.setup → (d : RedirData) → wire_packet pipe t ≡ Carrying d → asking_of d ≡ Asks (pipe_form pipe t) t
heard-as Control t is fits d packet = go t.setup refl fits
  where
    which : (x : RedirData) → wire_packet Control t ≡ Carrying x → asking_of x ≡ asking_of d
    which x e = ap asking_of (same (sym e ∙ packet))
      where
        same : Carrying x ≡ Carrying d → x ≡ d
        same z = cc

    go : (setup : Option Setup) → t.setup ≡ setup → FitsPipe Control t setup → asking_of d ≡ Asks (pipe_form Control t) t
    go None e fit = absurd fit
    go (Some s) e fit =
        sym (which (moving.Control t.ep s.request s.kind 0 s.value s.index t.wanted t.body) (ap (λ (o : Option Setup). wire_packet Control (record t { setup = o })) e))
        ∙ ap (λ (b : Bool). asked_if b (form.Control (told t.wanted)) (asked t.wanted)) (ap (λ (n : ℕ). n == cond (nat_lt s.kind 128) 0 128) fit.0 ∙ itself (cond (nat_lt s.kind 128) 0 128))
        ∙ (λ i. Asks (form.Control (told (sym fit.2 i))) (asked (sym fit.2 i)))
        ∙ (λ i. Asks (form.Control (unwrap_or (sym e i) no_setup)) (record t { setup = sym e i; wanted = fit.2 i }))
      where
        told : ℕ → Setup
        told n = record { kind = s.kind; request = s.request; value = s.value; index = s.index; length = n }

        asked : ℕ → Transfer
        asked n = record { ep = t.ep; setup = Some (told n); wanted = n; body = t.body }
heard-as Bulk t is fits d packet =
    ap asking_of (same (sym packet))
    ∙ ap (λ (b : Bool). asked_if b (form.Bulk 0) (record { ep = t.ep; setup = None; wanted = t.wanted; body = t.body })) (and_from (is_other t.ep) (nat_le t.wanted MAX_TRANSFER) (other-endpoint t is fits.1) (few t.wanted fits.2))
    ∙ (λ i. Asks (form.Bulk 0) (record t { setup = sym fits.0 i }))
  where
    same : Carrying d ≡ Carrying (moving.Bulk t.ep 0 t.wanted 0 t.body) → d ≡ moving.Bulk t.ep 0 t.wanted 0 t.body
    same z = cc
heard-as InterruptOut t is fits d packet =
    ap asking_of (same (sym packet))
    ∙ (λ i. cond (fits.2 i) Nothing (asked_if (other-endpoint t is fits.1 i) form.Interrupt (record { ep = t.ep; setup = None; wanted = t.wanted; body = t.body })))
    ∙ (λ i. Asks form.Interrupt (record t { setup = sym fits.0 i }))
  where
    same : Carrying d ≡ Carrying (moving.Interrupt t.ep 0 t.wanted t.body) → d ≡ moving.Interrupt t.ep 0 t.wanted t.body
    same z = cc

-- the packets of data
pub is-data : (pipe : Pipe) (t : Transfer) → (d : RedirData) × (wire_packet pipe t ≡ Carrying d)
is-data Control t = (_, refl)
is-data Bulk t = (_, refl)
is-data InterruptOut t = (_, refl)
