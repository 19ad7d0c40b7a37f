-- The wire to the gateway, with more than the gateway sees of an answer.
use Rattle.std.specs.Prelude.{ℕ, ◌==◌, ◌&&◌, if◌then◌else◌, List, [], ◌∷◌, ◌++◌}
use Rattle.usb_base.specs.declared.endpoint.EpKind.{EpKind}
use Rattle.usb_base.specs.declared.endpoint.EpTable.{EpTable}
use Rattle.usb_base.specs.declared.transfer.StreamPacket.{StreamPacket}
use Rattle.redir_wire.specs.declared.packet.Connect.{Connect}
use Rattle.redir_wire.specs.declared.packet.InterfaceInfo.{InterfaceInfo}
use Rattle.redir_wire.specs.declared.packet.RedirControl.{RedirControl}
use Rattle.redir_wire.specs.declared.packet.RedirControl.TheVariants as plain
use Rattle.redir_data.specs.declared.packet.RedirPacket.{RedirPacket}
use Rattle.redir_data.specs.declared.packet.RedirPacket.TheVariants.{Plain}
use Rattle.redir_data.specs.declared.stream_kind.StreamKind.{StreamKind}
use Rattle.redir_data.specs.declared.stream_kind.StreamKind.TheVariants.{Interrupt, Iso}
use Rattle.redir_data.specs.StreamKinds.{is_kind_of}
use Rattle.redir_host.specs.write.Answers.{answer_by}
use Rattle.redir_host.specs.device.Facts.{connect_of, ep_info_of}
use Rattle.redir_host.specs.device.Offering.{stream_packet}
use Rattle.redir_host.specs.write.Output.{host_hello}
use Rattle.gate_history.specs.state.Facts.{tell}
use Rattle.gate_history.specs.step.Meaning.{fact_of}
use Rattle.gate_history.specs.declared.facts.Facts.{Facts}
use Rattle.direct_run.specs.Packets.{both_caps}
use Rattle.direct_proof.specs.Requests.{Coming, form_of, queued_transfer}

pub data Tagged : Type 0 where
  Greeted : Tagged
  Plugged : Connect → Tagged
  ToldTable : EpTable → Tagged
  ToldFaces : InterfaceInfo → Tagged
  Answered : Coming → Tagged
  Packed : StreamKind → (ep : ℕ) → StreamPacket → Tagged
  Stated : StreamKind → (id ep status : ℕ) → Tagged
  Bye : Tagged

abbrev pub status_packet : StreamKind → ℕ → ℕ → RedirControl
status_packet Iso status ep = plain.IsoStatus status ep
status_packet Interrupt status ep = plain.InterruptStatus status ep

abbrev pub on_wire : Tagged → ℕ × RedirPacket
on_wire Greeted = (0, Plain host_hello)
on_wire (Plugged c) = (0, Plain (plain.Connect (connect_of both_caps c)))
on_wire (ToldTable t) = (0, Plain (plain.EpInfo (ep_info_of both_caps t)))
on_wire (ToldFaces i) = (0, Plain (plain.InterfaceInfo i))
on_wire (Answered c) = (c.id, answer_by c.configuration (form_of c.load) (queued_transfer c.load).ep c.outcome)
on_wire (Packed k ep p) = stream_packet k ep p
on_wire (Stated k id ep status) = (id, Plain (status_packet k status ep))
on_wire Bye = (0, Plain plain.Disconnect)

abbrev pub ran_in : Tagged → List Coming
ran_in (Answered c) = c ∷ []
ran_in _ = []

-- the packets of the stream of an endpoint of this type
abbrev pub packet_in : EpKind → ℕ → Tagged → List StreamPacket
packet_in kind e (Packed k ep p) = if (ep == e) && is_kind_of k kind then p ∷ [] else []
packet_in kind e _ = []

abbrev pub runs_in : List Tagged → List Coming
runs_in [] = []
runs_in (b ∷ bs) = ran_in b ++ runs_in bs

abbrev pub packets_in : EpKind → ℕ → List Tagged → List StreamPacket
packets_in kind e [] = []
packets_in kind e (b ∷ bs) = packet_in kind e b ++ packets_in kind e bs

-- the facts that the gateway will have once the wire is read
abbrev pub told : Facts → List Tagged → Facts
told f [] = f
told f (b ∷ bs) = told (tell f (fact_of (on_wire b).1)) bs
