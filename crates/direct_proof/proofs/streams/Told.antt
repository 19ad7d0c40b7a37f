-- What comes to the gateway: a reply, or a packet of a stream or its status, and never both.
use Rattle.std.proofs.Common.{sym, ◌∙◌, true≢false}
use Rattle.redir_wire.specs.declared.packet.RedirControl.TheVariants as plain
use Rattle.redir_data.specs.declared.packet.RedirData.TheVariants as moving
use Rattle.redir_data.specs.declared.packet.RedirPacket.{RedirPacket}
use Rattle.redir_data.specs.declared.packet.RedirPacket.TheVariants.{Plain, Carrying}
use Rattle.control_route.specs.declared.route.Route.{Route}
use Rattle.control_route.specs.declared.route.Route.TheVariants as route
use Rattle.redir_host.specs.write.Answers.{answer_by}
use Rattle.gate_history.specs.declared.request.Request.{Request}
use Rattle.gate_history.specs.declared.verdict.Pipe.TheVariants.{Control, Bulk, InterruptOut}
use Rattle.gate_history.specs.declared.verdict.Verdict.{Verdict}
use Rattle.gate_history.specs.declared.verdict.Verdict.TheVariants.{Now, Wire, Routed, IsoOut, Stream}
use Rattle.direct_proof.specs.Requests.{Coming, form_of, queued_transfer}
use Rattle.direct_proof.specs.Loads.{FitsVerdict, IsComing}
use Rattle.direct_proof.specs.Tagged.{Answered, on_wire}
use Rattle.direct_proof.proofs.races.Kinds.{IsReply}
use Rattle.direct_proof.proofs.streams.Kinds.{IsStreamPacket}

pub never-both : (p : RedirPacket) → IsReply p → IsStreamPacket p → ⊥
never-both (Plain (plain.IsoStatus status ep)) a b = a
never-both (Plain (plain.InterruptStatus status ep)) a b = a
never-both (Plain x) a b = b
never-both (Carrying (moving.Iso ep status told body)) a b = a
never-both (Carrying (moving.Interrupt ep status told body)) a b = true≢false (sym b ∙ a)
never-both (Carrying x) a b = b

-- what answers a request is no packet of a stream
pub is-reply : (c : Coming) → IsComing c → IsReply (on_wire (Answered c)).1
is-reply c is = go c.load.request c.load.verdict is.load.verdict
  where
    route-reply : (r : Request) (x : Route) → IsReply (answer_by c.configuration (form_of (record { request = r; verdict = Routed x })) (queued_transfer (record { request = r; verdict = Routed x })).ep c.outcome)
    route-reply r (route.SetConfig n) = tt
    route-reply r _ = tt

    go : (r : Request) (v : Verdict) → FitsVerdict v r.transfer → IsReply (answer_by c.configuration (form_of (record { request = r; verdict = v })) (queued_transfer (record { request = r; verdict = v })).ep c.outcome)
    go r (Wire Control) f = tt
    go r (Wire Bulk) f = tt
    go r (Wire InterruptOut) f = f.2
    go r (Routed x) f = route-reply r x
    go r (Now status) f = absurd f
    go r (IsoOut row) f = absurd f
    go r (Stream row) f = absurd f
