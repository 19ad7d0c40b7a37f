-- A submit that waits for a stream is one of an IN endpoint's address.
use Rattle.std.proofs.Common.{◌≡◌, ℕ, ◌+◌, ◌-◌, ◌≤◌, ◌<◌, ◌==◌, ◌⊎◌, inl, inr, nat_lt, not, Bool, true, false, cond, length, Some, None, refl, sym, ap, ◌∙◌, subst, arith}
use Rattle.std.proofs.lemmas.List.{get_or_past}
use Rattle.usb_base.specs.Setup.{setup_at, is_in_setup}
use Rattle.usb_base.specs.Endpoint.{endpoint_index, no_endpoint, row_of}
use Rattle.usb_base.specs.declared.setup.Setup.{Setup}
use Rattle.usb_base.specs.declared.endpoint.EpKind.TheVariants as kind
use Rattle.usb_base.specs.declared.endpoint.EpRow.{EpRow}
use Rattle.usb_base.specs.declared.endpoint.EpTable.{EpTable}
use Rattle.usbip_urb.specs.declared.packet.Submit.{Submit as UrbSubmit}
use Rattle.usbip_urb.specs.declared.packet.UrbPacket.TheVariants as urb
use Rattle.usbip_urb.specs.declared.client.ClientPacket.TheVariants.{Urb}
use Rattle.usbip_urb.specs.Sizes.{is_out}
use Rattle.model_device.specs.Meaning.{Meaning}
use Rattle.gate_history.specs.declared.item.Item.TheVariants.{Asked}
use Rattle.gate_history.specs.client.Requests.{request_of, address}
use Rattle.gate_history.specs.state.State.{has_number}
use Rattle.gate_history.specs.step.Meaning.{verdict_of, situation}
use Rattle.gate_history.specs.declared.verdict.Verdict.TheVariants.{Stream}
use Rattle.direct_run.specs.Moves.{World, ByClient, move}
use Rattle.direct_proof.specs.Deeds.{as_deeds}
use Rattle.direct_proof.specs.Shared.{Shared}
use Rattle.direct_proof.specs.Related.{Related}
use Rattle.direct_proof.specs.Kinds.{IsIn}
use Rattle.direct_proof.proofs.shared.Keeps.{Keeps}
use Rattle.direct_proof.proofs.submits.Tables.{rows-long}
use Rattle.direct_proof.proofs.streams.submits.Streamed.{IsStreamed, streamed}
use Rattle.direct_proof.proofs.streams.submits.Still.{IsStill, is-still}
use Rattle.direct_proof.proofs.streams.submits.WaitsKept.{keep-waits}
use Rattle.direct_proof.proofs.streams.submits.Accepted.{IsGate}
use Rattle.redir_host.specs.device.Facts.{ep_info_of}
use Rattle.direct_run.specs.Packets.{both_caps}

-- its address is that of its endpoint's number, with the bit for IN
in-address : (s : UrbSubmit) → (request_of s).is_in ≡ true → (request_of s).transfer.setup ≡ None → (request_of s).transfer.ep ≡ s.head.ep + 128
in-address s reads plain = go (s.head.ep == 0) plain
  where
    none : (x : Setup) → Some x ≡ None → ⊥
    none x h = cc

    go : (b : Bool) → cond b (Some (setup_at s.setup)) None ≡ None → cond b (address (is_in_setup (setup_at s.setup)) 0) (address (not (is_out s.head.direction)) s.head.ep) ≡ s.head.ep + 128
    go true h = absurd (none (setup_at s.setup) h)
    go false h = ap (λ (b : Bool). address b s.head.ep) reads

-- an endpoint past the table has no stream
past-table : (t : EpTable) (ep : ℕ) (row : EpRow) → length t.rows ≡ 32 → row ≡ row_of t ep → (row.kind ≡ kind.Iso) ⊎ (row.kind ≡ kind.Interrupt) → endpoint_index ep < 32
past-table t ep row long same kinds = go (nat_lt (endpoint_index ep) 32) refl
  where
    invalid : 32 ≤ endpoint_index ep → row.kind ≡ kind.Invalid
    invalid h = ap (λ (r : EpRow). r.kind) (same ∙ get_or_past t.rows (endpoint_index ep) no_endpoint (subst (λ (n : ℕ). n ≤ endpoint_index ep) (sym long) h))

    differ : (row.kind ≡ kind.Iso) ⊎ (row.kind ≡ kind.Interrupt) → row.kind ≡ kind.Invalid → ⊥
    differ (inl h) k = let bad : kind.Iso ≡ kind.Invalid = sym h ∙ k in cc
    differ (inr h) k = let bad : kind.Interrupt ≡ kind.Invalid = sym h ∙ k in cc

    go : (b : Bool) → nat_lt (endpoint_index ep) 32 ≡ b → endpoint_index ep < 32
    go true h = low (endpoint_index ep) h
      where
        low : (n : ℕ) → nat_lt n 32 ≡ true → n < 32
        low n k = grind (arith, k)
    go false h = absurd (differ kinds (invalid (high (endpoint_index ep) h)))
      where
        high : (n : ℕ) → nat_lt n 32 ≡ false → 32 ≤ n
        high n k = grind (arith, k)

in-of : (ep n : ℕ) → ep ≡ n + 128 → endpoint_index ep < 32 → IsIn ep
in-of ep n same low = record { low = omega (arith, same); high = high (subst (λ (k : ℕ). k < 32) (ap (λ (b : Bool). cond b ep (ep - 112)) (big ep n same)) low) }
  where
    big : (k i : ℕ) → k ≡ i + 128 → nat_lt k 128 ≡ false
    big k i h = grind (arith, h)

    high : ep - 112 < 32 → ep < 144
    high h = omega (arith, h, same)

pub stream-in : {S : Type 0} (m : Meaning S) (w : World S) (j : Shared) (s : UrbSubmit) (row : EpRow) → Related m w j → w.gate.sides.imported ≡ true → verdict_of w.gate (request_of s) ≡ Stream row → IsIn (request_of s).transfer.ep
stream-in {S = S} m w j s row rel imported v =
    in-of (request_of s).transfer.ep s.head.ep (in-address s f.reads f.plain) (past-table w.gate.facts.table (request_of s).transfer.ep row (ap (λ (t : EpTable). length t.rows) (still.table ∙ still.session.table) ∙ rows-long (ep_info_of both_caps (m.table w.host.gadget)) 32) f.row-is f.kind_is)
  where
    f : IsStreamed (situation w.gate (request_of s)) (request_of s) row
    f = streamed (situation w.gate (request_of s)) (request_of s) row v

    still : IsStill m w j
    still = is-still m w j rel imported f.here f.calm

-- a submit that waits for a stream, with no premise on its bytes
pub keep-stream-submit : {S : Type 0} (m : Meaning S) (w : World S) (j : Shared) (place : ℕ) (s : UrbSubmit) (row : EpRow) → Related m w j → IsGate w.gate → w.gate.sides.imported ≡ true → w.gate.sides.client_over ≡ false → has_number w.gate s.head.seqnum ≡ false → verdict_of w.gate (request_of s) ≡ Stream row →
    Keeps m w j (move as_deeds m w (ByClient (Asked place (Urb (urb.Submit s)))))
keep-stream-submit m w j place s row rel gate imported present new v = keep-waits m w j place s row rel gate imported present new v (stream-in m w j s row rel imported v)
