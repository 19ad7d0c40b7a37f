-- A submit that goes to the host by an id and ends no stream, or that is answered at once, keeps what is shared.
use Rattle.std.proofs.Common.{◌≡◌, ℕ, nat_le, Bool, true, false, cond, List, [], ◌∷◌, length, Option, Some, None, is_some, refl, sym, ap, ◌∙◌, subst, inl, inr, ◌⊎◌, ◌+◌, not, ℤ}
use Rattle.std.specs.List.{AllByRecursion as Each}
use Rattle.usb_base.specs.Endpoint.{is_control}
use Rattle.usb_base.specs.declared.setup.Setup.{Setup}
use Rattle.usb_base.specs.declared.side.Side.TheVariants.{Client}
use Rattle.usb_base.specs.declared.reason.Reason.TheVariants.{NotImported, DuplicateSeq}
use Rattle.usb_base.specs.declared.endpoint.EpRow.{EpRow}
use Rattle.usbip_urb.specs.declared.packet.Submit.{Submit as UrbSubmit}
use Rattle.usbip_urb.specs.declared.packet.UrbPacket.TheVariants as urb
use Rattle.usbip_urb.specs.declared.client.ClientPacket.TheVariants.{Urb}
use Rattle.usbip_urb.specs.ClientPackets.{IsClientPacket}
use Rattle.usbip_urb.specs.declared.code.TheConstants.{MAX_LIVE}
use Rattle.redir_data.specs.declared.packet.RedirPacket.{RedirPacket}
use Rattle.control_route.specs.declared.route.Route.{Route}
use Rattle.control_route.specs.declared.route.Route.TheVariants as route
use Rattle.model_device.specs.Meaning.{Meaning}
use Rattle.model_device.specs.Transfer.{IsTransfer}
use Rattle.model_device.specs.Gadget.{IsGadget}
use Rattle.gate_history.specs.declared.request.Request.{Request}
use Rattle.gate_history.specs.client.Requests.{request_of}
use Rattle.gate_history.specs.declared.item.Item.TheVariants.{Asked}
use Rattle.gate_history.specs.declared.verdict.Pipe.{Pipe}
use Rattle.gate_history.specs.declared.verdict.Verdict.{Verdict}
use Rattle.gate_history.specs.declared.verdict.Verdict.TheVariants.{Now, Wire, Routed, IsoOut, Stream}
use Rattle.gate_history.specs.client.Verdict.{by_transfer, by_endpoint}
use Rattle.usb_base.specs.declared.errno.TheConstants.{ENOENT, EBUSY, ESHUTDOWN}
use Rattle.gate_history.specs.state.Ups.{Up, is_ended}
use Rattle.gate_history.specs.state.State.{State, change_waits, next_ids, has_number}
use Rattle.gate_history.specs.step.Meaning.{verdict_of, mark_of, drawn_by, meaning, refused, accepts, situation}
use Rattle.direct_run.specs.Moves.{World, ByClient, move}
use Rattle.direct_device.specs.Direct.{normal_by}
use Rattle.direct_proof.specs.Runs.{IsRun}
use Rattle.direct_proof.specs.Shared.{view, Shared}
use Rattle.direct_proof.specs.Deeds.{as_deeds}
use Rattle.direct_proof.specs.Related.{Related}
use Rattle.direct_proof.specs.Loads.{IsLoad, FitsRoute}
use Rattle.direct_proof.proofs.races.Kinds.{IsRaceSubmit, EndsNone, Stays}
use Rattle.direct_proof.proofs.races.Gates.{run-sound, run-fresh, run-before}
use Rattle.direct_proof.proofs.submits.Simple.{IsSimple, simple-wire, simple-config, simple-alt, simple-set_config, simple-set_alt, simple-reset}
use Rattle.direct_proof.proofs.submits.Simple as simple
use Rattle.direct_proof.proofs.submits.Opening.{simple-means}
use Rattle.direct_proof.proofs.submits.Fresh.{IsSimpleSubmit}
use Rattle.direct_proof.proofs.submits.Accepting.{keep-simple}
use Rattle.direct_proof.proofs.shared.Keeps.{Keeps}
use Rattle.direct_proof.proofs.shared.New.{IsDrawn}
use Rattle.gate_history.specs.client.Verdict.{goes_by_id, verdict}
use Rattle.gate_history.specs.state.Ups.{stream_at}
use Rattle.gate_history.specs.step.Meaning.{by_stream}
use Rattle.direct_device.specs.Acting.{made_of, situation as direct_situation}
use Rattle.direct_proof.proofs.races.Kinds.{IsRaceVerdict}
use Rattle.direct_proof.proofs.submits.AtOnce.{keep-now, kept-now}
use Rattle.direct_proof.proofs.submits.Ranged.{submit-load}
use Rattle.direct_proof.proofs.submits.Addressed.{addressed, few-descs}
use Rattle.direct_proof.proofs.submits.Verdicts.{same-verdict}
use Rattle.direct_proof.proofs.clients.Parting.{keep-refused}
use Rattle.direct_proof.proofs.submits.NoIso.{no-iso}

-- ---- a submit

ends-none : (st : State) (x : Route) → EndsNone st x → simple.EndsNone st x
ends-none st x h = record { ups = ups st.streams h.ups; waiting = h.waiting }
  where
    one : (o : Option Up) → Stays x o → simple.Stays (is_ended (Some x)) o
    one None k = tt
    one (Some up) k = k

    ups : (os : List (Option Up)) → Each (Stays x) os → Each (simple.Stays (is_ended (Some x))) os
    ups [] k = tt
    ups (o ∷ os) k = (one o k.0, ups os k.1)

-- a transfer by its own packet behind a change is one of endpoint 0
wire-behind : (st : State) (r : Request) (pipe : Pipe) → verdict_of st r ≡ Wire pipe → IsTransfer r.transfer → (change_waits st ≡ false) ⊎ (is_control r.transfer.ep ≡ true)
wire-behind st r pipe is transfer = go (change_waits st) refl
  where
    never : (lost full : Bool) → cond lost (Now ESHUTDOWN) (cond full (Now EBUSY) (Now ENOENT)) ≡ Wire pipe → ⊥
    never true full h = cc
    never false true h = cc
    never false false h = cc

    by : (c : Bool) → change_waits st ≡ c → c ≡ true → (setup : Option Setup) → r.transfer.setup ≡ setup → is_control r.transfer.ep ≡ true
    by c e t (Some s) k = sym transfer.has_setup ∙ ap is_some k
    by c e t None k = absurd (never st.sides.lost (nat_le MAX_LIVE (length st.live))
        (ap (λ (v : Verdict). cond st.sides.lost (Now ESHUTDOWN) (cond (nat_le MAX_LIVE (length st.live)) (Now EBUSY) v)) (sym same) ∙ is))
      where
        same : by_transfer (situation st r) r r.transfer.setup ≡ Now ENOENT
        same = ap (by_transfer (situation st r) r) k ∙ ap (λ (b : Bool). cond b (Now ENOENT) (by_endpoint (situation st r) r)) (e ∙ t)

    go : (c : Bool) → change_waits st ≡ c → (change_waits st ≡ false) ⊎ (is_control r.transfer.ep ≡ true)
    go false e = inl e
    go true e = inr (by true e refl r.transfer.setup refl)

-- the id of its answer is one of the two that would be drawn next
pub simple-submit : (st : State) → IsRun st → (place : ℕ) (s : UrbSubmit) → IsClientPacket (Urb (urb.Submit s)) → st.sides.imported ≡ true → has_number st s.head.seqnum ≡ false → (v : Verdict) → verdict_of st (request_of s) ≡ v → goes_by_id v ≡ true → IsRaceVerdict st v →
    IsSimpleSubmit st s v
simple-submit st run place s read inside new v same by_id ends = go v same (submit-load st s v read same by_id) ends
  where
    r : Request
    r = request_of s

    drawn : (v : Verdict) → verdict_of st r ≡ v → (x : IsSimple st r v) → (mark_of st (Asked place (Urb (urb.Submit s)))).drawn ≡ next_ids st (length x.sent)
    drawn v e x = ap (drawn_by st) (simple-means st r v x (run-before st run) place s refl inside new e) ∙ ap (λ (l : List RedirPacket). next_ids st (length l)) x.packets

    made : (v : Verdict) → verdict_of st r ≡ v → (x : IsSimple st r v) → IsLoad (record { request = r; verdict = v }) → (change_waits st ≡ false) ⊎ (is_control (normal_by r v).ep ≡ true) → IsSimpleSubmit st s v
    made v e x load behind = record { new = new; verdict-is = e; simple = x; load = load; address = (addressed s read.0).index; behind = behind; fresh = x.fresh (subst (Each (IsDrawn st)) (drawn v e x) (run-fresh st run (Asked place (Urb (urb.Submit s))) (few-descs s read.0))) }

    routes : (x : Route) → verdict_of st r ≡ Routed x → IsLoad (record { request = r; verdict = Routed x }) → FitsRoute x r.transfer r.transfer.setup → EndsNone st x → IsSimpleSubmit st s (Routed x)
    routes (route.SetConfig c) e load f k = made (Routed (route.SetConfig c)) e (simple-set_config st r c (ends-none st (route.SetConfig c) k)) load (inr refl)
    routes route.GetConfig e load f k = made (Routed route.GetConfig) e (simple-config st r) load (inr refl)
    routes (route.SetAlt i a) e load f k = made (Routed (route.SetAlt i a)) e (simple-set_alt st r i a (ends-none st (route.SetAlt i a) k)) load (inr refl)
    routes (route.GetAlt i) e load f k = made (Routed (route.GetAlt i)) e (simple-alt st r i) load (inr refl)
    routes route.Reset e load f k = made (Routed route.Reset) e (simple-reset st r (ends-none st route.Reset k)) load (inr refl)
    routes route.Local e load f k = absurd (none r.transfer.setup f)
      where
        none : (o : Option Setup) → FitsRoute route.Local r.transfer o → ⊥
        none None z = z
        none (Some x) z = z.3 refl
    routes route.Plain e load f k = absurd (none r.transfer.setup f)
      where
        none : (o : Option Setup) → FitsRoute route.Plain r.transfer o → ⊥
        none None z = z
        none (Some x) z = z.2 refl
    routes route.Bad e load f k = absurd (none r.transfer.setup f)
      where
        none : (o : Option Setup) → FitsRoute route.Bad r.transfer o → ⊥
        none None z = z
        none (Some x) z = z.4 refl

    go : (u : Verdict) → verdict_of st r ≡ u → IsLoad (record { request = r; verdict = u }) → IsRaceVerdict st u → IsSimpleSubmit st s u
    go (Wire pipe) e load k = made (Wire pipe) e (simple-wire st r pipe load.transfer load.verdict) load (wire-behind st r pipe e load.transfer)
    go (Routed x) e load k = routes x e load load.verdict k
    go _ e load k = absurd load.verdict

-- ---- both ways

-- what goes by an id does so only while the device is there
there-by : (lost : Bool) (other v : Verdict) → cond lost (Now ESHUTDOWN) other ≡ v → goes_by_id v ≡ true → lost ≡ false
there-by true other v e h = absurd (let bad : false ≡ true = ap goes_by_id e ∙ h in cc)
there-by false other v e h = refl

there-iso : (lost : Bool) (other : Verdict) (row : EpRow) → cond lost (Now ESHUTDOWN) other ≡ IsoOut row → lost ≡ false
there-iso true other row e = absurd (cc)
there-iso false other row e = refl

-- of a client that has imported, with a number that is free
keep-taken : {S : Type 0} (m : Meaning S) → IsGadget m → (w : World S) (j : Shared) (place : ℕ) (s : UrbSubmit) → Related m w j → IsRun w.gate → IsClientPacket (Urb (urb.Submit s)) → w.gate.sides.imported ≡ true → has_number w.gate s.head.seqnum ≡ false → IsRaceVerdict w.gate (verdict_of w.gate (request_of s)) →
    Keeps m w j (move as_deeds m w (ByClient (Asked place (Urb (urb.Submit s)))))
keep-taken {S = S} m laws w j place s rel run read inside new fits = go (verdict_of st r) refl fits
  where
    st : State
    st = w.gate

    r : Request
    r = request_of s

    up : Option Up
    up = stream_at st.streams r.transfer.ep

    wired : (v : Verdict) → verdict_of st r ≡ v → goes_by_id v ≡ true → IsRaceVerdict st v → Keeps m w j (move as_deeds m w (ByClient (Asked place (Urb (urb.Submit s)))))
    wired v e by_id k = keep-simple m w j rel (run-sound st run) inside (there-by st.sides.lost _ v e by_id) place s v (simple-submit st run place s read inside new v e by_id k)

    -- the device attached directly answers it so, too
    same-now : (status : ℤ) → verdict_of st r ≡ Now status → (b : Bool) → st.sides.lost ≡ b → made_of m (view w j) r ≡ Now status
    same-now status e true off =
        (λ i. by_stream up (verdict (record (direct_situation m (view w j) r) { lost = (sym (rel.sides.seen inside) ∙ off) i }) r))
        ∙ kept-now up ESHUTDOWN
        ∙ (λ i. cond (sym off i) (Now ESHUTDOWN) (cond (nat_le MAX_LIVE (length st.live)) (Now EBUSY) (by_transfer (situation st r) r r.transfer.setup)))
        ∙ e
    same-now status e false there = same-verdict m w j rel inside there r (addressed s read.0).index ∙ ap (by_stream up) e ∙ kept-now up status

    go : (v : Verdict) → verdict_of st r ≡ v → IsRaceVerdict st v → Keeps m w j (move as_deeds m w (ByClient (Asked place (Urb (urb.Submit s)))))
    go (Now status) e k = keep-now m w j place s status rel (run-before st run) inside new e (same-now status e st.sides.lost refl)
    go (Wire pipe) e k = wired (Wire pipe) e refl k
    go (Routed x) e k = wired (Routed x) e refl k
    go (IsoOut row) e k = absurd (no-iso m laws w j rel inside (there-iso st.sides.lost _ row e) s read.0 row e)
    go (Stream row) e k = absurd k

pub keep-submit : {S : Type 0} (m : Meaning S) → IsGadget m → (w : World S) (j : Shared) (place : ℕ) (s : UrbSubmit) → Related m w j → IsRun w.gate → IsRaceSubmit w.gate s → Keeps m w j (move as_deeds m w (ByClient (Asked place (Urb (urb.Submit s)))))
keep-submit {S = S} m laws w j place s rel run is = go w.gate.sides.imported (has_number w.gate s.head.seqnum) refl refl
  where
    st : State
    st = w.gate

    means : (a b : Bool) → st.sides.imported ≡ a → has_number st s.head.seqnum ≡ b →
        meaning st (Asked place (Urb (urb.Submit s))) ≡ cond (not a) (refused Client place NotImported) (cond b (refused Client (place + 4) DuplicateSeq) (accepts st (request_of s) (verdict_of st (request_of s))))
    means a b h k = λ i. cond (not (h i)) (refused Client place NotImported) (cond (k i) (refused Client (place + 4) DuplicateSeq) (accepts st (request_of s) (verdict_of st (request_of s))))

    go : (a b : Bool) → st.sides.imported ≡ a → has_number st s.head.seqnum ≡ b → Keeps m w j (move as_deeds m w (ByClient (Asked place (Urb (urb.Submit s)))))
    go true true h k = keep-refused m w j rel run place (place + 4) (Urb (urb.Submit s)) DuplicateSeq (means true true h k)
    go true false h k = keep-taken m laws w j place s rel run is.read h k (is.new h k)
    go false b h k = keep-refused m w j rel run place place (Urb (urb.Submit s)) NotImported (means false b h k)
