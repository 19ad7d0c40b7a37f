-- No submit goes to the device as isochronous packets: no device has such an endpoint.
use Rattle.std.specs.Bool.{beq}
use Rattle.std.proofs.Common.{◌≡◌, ℕ, ◌<◌, ◌&&◌, nat_lt, nat_le, not, Bool, true, false, cond, Option, Some, None, refl, sym, ap, ◌∙◌, subst, arith, ◌-◌, ◌==◌}
use Rattle.std.specs.Prelude.{get_or}
use Rattle.std.proofs.lemmas.Bool.{ltb-true, not-false}
use Rattle.usb_base.specs.declared.setup.Setup.{Setup}
use Rattle.usb_base.specs.declared.endpoint.EpKind.{EpKind}
use Rattle.usb_base.specs.declared.endpoint.EpKind.TheVariants as kind
use Rattle.usb_base.specs.declared.endpoint.EpRow.{EpRow}
use Rattle.usb_base.specs.declared.endpoint.EpTable.{EpTable}
use Rattle.usb_base.specs.Endpoint.{is_in_endpoint, no_endpoint, row_of, is_iso}
use Rattle.usbip_urb.specs.declared.packet.Submit.{Submit as UrbSubmit}
use Rattle.usbip_urb.specs.Buffers.{laid}
use Rattle.usbip_urb.specs.Ranges.{IsSubmit}
use Rattle.usbip_urb.specs.declared.code.TheConstants.{MAX_LIVE}
use Rattle.control_route.specs.declared.route.Route.{Route}
use Rattle.control_route.specs.declared.route.Route.TheVariants as route
use Rattle.control_route.specs.Routes.{route_of}
use Rattle.model_device.specs.Gadget.{IsGadget}
use Rattle.model_device.specs.Meaning.{Meaning}
use Rattle.gate_history.specs.declared.verdict.TheConstants.{MAX_NARROW}
use Rattle.gate_history.specs.declared.verdict.Situation.{Situation}
use Rattle.usb_base.specs.declared.errno.TheConstants.{ENOENT, EBUSY, EINVAL, EMSGSIZE, ESHUTDOWN}
use Rattle.gate_history.specs.step.Meaning.{verdict_of, situation}
use Rattle.gate_history.specs.declared.request.Request.{Request}
use Rattle.usb_base.specs.Setup.{is_in_setup}
use Rattle.usb_base.specs.Lists.{is_empty}
use Rattle.gate_history.specs.client.Requests.{request_of}
use Rattle.gate_history.specs.state.State.{State}
use Rattle.gate_history.specs.declared.verdict.Pipe.TheVariants.{InterruptOut}
use Rattle.gate_history.specs.declared.verdict.Verdict.{Verdict}
use Rattle.gate_history.specs.declared.verdict.Verdict.TheVariants.{Now, Wire, IsoOut, Stream}
use Rattle.gate_history.specs.client.Verdict.{by_route, by_setup, by_kind, is_control, is_invalid, is_narrow, by_transfer, verdict}
use Rattle.gate_history.specs.client.Carried.{IsDirected}
use Rattle.gate_history.proofs.lemmas.client.Carried.{is_request}
use Rattle.direct_run.specs.Moves.{World}
use Rattle.direct_proof.specs.Related.{Related}
use Rattle.direct_proof.specs.Shared.{Shared}
use Rattle.direct_proof.proofs.submits.Addressed.{IsAddressed, addressed}
use Rattle.direct_proof.proofs.submits.Tables.{row-told}
use Rattle.direct_proof.proofs.submits.Verdicts.{table-known}

-- what is known where it would
abbrev ShowsIso : Situation → Request → Verdict → Type 0
ShowsIso here r (IsoOut row) = (here.changing ≡ false) × (r.is_in ≡ false) × (here.row.kind ≡ kind.Iso) × (r.transfer.setup ≡ None)
ShowsIso here r _ = Unit {0}

module _ (here : Situation) (r : Request) where
  unless : (b : Bool) (status : _) (v : Verdict) → (b ≡ false → ShowsIso here r v) → ShowsIso here r (cond b (Now status) v)
  unless true status v h = tt
  unless false status v h = h refl

  route-shows : (x : Route) → ShowsIso here r (by_route x)
  route-shows route.Local = tt
  route-shows _ = tt

  setup-shows : (s : Setup) → ShowsIso here r (by_setup r s)
  setup-shows s =
      unless (not (is_empty r.descs)) EINVAL _ (λ none.
      unless (not (s.length == 0) && not (beq (is_in_setup s) r.is_in)) EINVAL _ (λ one.
      unless (not (s.length == r.transfer.wanted)) EINVAL _ (λ same.
      route-shows (route_of s))))

  kind-shows : here.changing ≡ false → r.transfer.setup ≡ None → (k : EpKind) → here.row.kind ≡ k → ShowsIso here r (by_kind r here.row k)
  kind-shows still none kind.Control e = tt
  kind-shows still none kind.Iso e = go r.is_in refl
    where
      go : (b : Bool) → r.is_in ≡ b → ShowsIso here r (cond b (Stream here.row) (IsoOut here.row))
      go true h = tt
      go false h = (still, h, e, none)
  kind-shows still none kind.Bulk e = tt
  kind-shows still none kind.Interrupt e = elim r.is_in as (λ (b : Bool). ShowsIso here r (cond b (Stream here.row) (Wire InterruptOut))) [ true ↦ tt | false ↦ tt ]
  kind-shows still none kind.Invalid e = tt

  shows : ShowsIso here r (verdict here r)
  shows = unless here.lost ESHUTDOWN _ (λ there. unless (nat_le MAX_LIVE here.live) EBUSY _ (λ room. by r.transfer.setup refl))
    where
      by : (o : Option Setup) → r.transfer.setup ≡ o → ShowsIso here r (by_transfer here r o)
      by (Some s) has = setup-shows s
      by None has =
          unless here.changing ENOENT _ (λ still.
          unless (is_invalid here.row.kind) ENOENT _ (λ valid.
          unless (is_control here.row.kind) EINVAL _ (λ moves.
          unless (beq (is_iso here.row.kind) (is_empty r.descs)) EINVAL _ (λ iso.
          unless (not (laid r.descs r.transfer.wanted)) EINVAL _ (λ lies.
          unless (is_narrow here r here.row.kind && nat_lt MAX_NARROW r.transfer.wanted) EMSGSIZE _ (λ narrow.
          kind-shows still has here.row.kind refl))))))

pub no-iso : {S : Type 0} (m : Meaning S) → IsGadget m → (w : World S) (j : Shared) → Related m w j → w.gate.sides.imported ≡ true → w.gate.sides.lost ≡ false → (s : UrbSubmit) → IsSubmit s → (row : EpRow) → verdict_of w.gate (request_of s) ≡ IsoOut row → ⊥
no-iso {S = S} m laws w j rel inside there s is row e = laws.no_iso_out w.host.gadget ep low same
  where
    st : State
    st = w.gate

    r : Request
    r = request_of s

    ep : ℕ
    ep = r.transfer.ep

    at : IsAddressed r.transfer
    at = addressed s is

    known : ShowsIso (situation st r) r (IsoOut row)
    known = subst (ShowsIso (situation st r) r) e (shows (situation st r) r)

    out : is_in_endpoint ep ≡ false
    out = subst (λ (o : Option Setup). IsDirected r.is_in o ep) known.3 (is_request s is).directed ∙ known.1

    narrow : nat_lt ep 128 ≡ true
    narrow = not-false (nat_lt ep 128) out

    low : ep < 16
    low = let a = at.low in let b = ltb-true ep 128 narrow in omega (arith, a, b)

    same : (get_or (m.table w.host.gadget).rows ep no_endpoint).kind ≡ kind.Iso
    same =
        ap (λ (b : Bool). (get_or (m.table w.host.gadget).rows (cond b ep (ep - 112)) no_endpoint).kind) (sym narrow)
        ∙ ap (λ (x : EpRow). x.kind) (sym (row-told (m.table w.host.gadget) ep at.index))
        ∙ ap (λ (t : EpTable). (row_of t ep).kind) (sym (table-known m w j rel inside there known.0))
        ∙ known.2
