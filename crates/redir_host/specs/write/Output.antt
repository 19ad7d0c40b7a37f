-- What a host has sent and told after a list of acts.
use Rattle.std.specs.Prelude.{ℕ, List, ◌++◌, codes}
use Rattle.redir_wire.specs.declared.packet.RedirControl.{RedirControl}
use Rattle.redir_wire.specs.declared.packet.RedirControl.TheVariants as plain
use Rattle.redir_wire.specs.Capability.{announced, hello_of, no_caps}
use Rattle.redir_data.specs.declared.packet.RedirPacket.{RedirPacket}
use Rattle.redir_data.specs.declared.packet.RedirPacket.TheVariants.{Plain}
use Rattle.model_device.specs.Meaning.{Meaning}
use Rattle.redir_host.specs.declared.state.host.Host.{Host}
use Rattle.redir_host.specs.declared.write.note.HostNote.{HostNote}
use Rattle.redir_host.specs.step.Acts.{Act}
use Rattle.redir_host.specs.step.History.{brought, history}
use Rattle.redir_data.specs.Sent.{sent_packet_bytes}
use Rattle.redir_host.specs.step.Machine.{run, bytes_of, notes_of, all_given, given_by}

-- the host's hello: its name, and the capabilities that it announces
abbrev pub host_hello : RedirControl
host_hello = plain.Hello (hello_of (codes "usbgate host 1") announced)

-- it is the first packet, and spelled as one
abbrev pub first_packet : ℕ × RedirPacket
first_packet = (0, Plain host_hello)

abbrev pub hello_bytes : List ℕ
hello_bytes = sent_packet_bytes no_caps first_packet

-- the state after these acts of the host of a device that began in state s
abbrev pub host_of : {S : Type 0} → Meaning S → S → List Act → Host S
host_of m s acts = run m s (history acts)

-- all bytes to the guest
abbrev pub host_out : {S : Type 0} → Meaning S → S → List Act → List ℕ
host_out m s acts = hello_bytes ++ all_given bytes_of m s (history acts)

-- what one act more sends, and tells
abbrev pub act_bytes : {S : Type 0} → Meaning S → S → List Act → Act → List ℕ
act_bytes m s acts a = given_by bytes_of m (host_of m s acts) (brought acts a)

abbrev pub act_notes : {S : Type 0} → Meaning S → S → List Act → Act → List HostNote
act_notes m s acts a = given_by notes_of m (host_of m s acts) (brought acts a)
