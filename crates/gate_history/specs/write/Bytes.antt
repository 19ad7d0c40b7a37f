-- The bytes of what is sent.
use Rattle.std.specs.Prelude.{ℕ, List, ◌++◌}
use Rattle.std.specs.List.{flat_map}
use Rattle.redir_wire.specs.declared.packet.RedirControl.TheVariants as plain
use Rattle.redir_wire.specs.Capability.{no_caps, announced, hello_of}
use Rattle.redir_data.specs.declared.packet.RedirPacket.{RedirPacket}
use Rattle.redir_data.specs.declared.packet.RedirPacket.TheVariants.{Plain}
use Rattle.redir_data.specs.Sent.{sent_packet_bytes}
use Rattle.usbip_urb.specs.ClientPackets.{client_spelling}
use Rattle.gate_history.specs.declared.sent.TheConstants.{GATEWAY_NAME}
use Rattle.gate_history.specs.step.Marks.{Mark}
use Rattle.gate_history.specs.state.State.{State}
use Rattle.gate_history.specs.write.Output.{to_client, to_host}
use Rattle.gate_history.specs.write.All.{all_of}

-- ---- of an item, by the capabilities that are agreed

abbrev pub client_bytes_of : State → Mark → List ℕ
client_bytes_of st m = flat_map client_spelling (to_client st m)

abbrev pub host_bytes_of : State → Mark → List ℕ
host_bytes_of st m = flat_map (sent_packet_bytes st.sides.agreed) (to_host st m)

-- ---- of a past

-- the gateway's hello: its name, and the capabilities that it announces
abbrev pub gateway_hello : RedirPacket
gateway_hello = Plain (plain.Hello (hello_of GATEWAY_NAME announced))

abbrev pub out_client : ℕ → List Mark → List ℕ
out_client first ms = all_of client_bytes_of first ms

abbrev pub out_host : ℕ → List Mark → List ℕ
out_host first ms = sent_packet_bytes no_caps (0, gateway_hello) ++ all_of host_bytes_of first ms
