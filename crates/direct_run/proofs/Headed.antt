-- What stands on a wire: a hello, and behind it packets that are spelled with the same capabilities. Each has the
-- header that it is read with.
use Rattle.std.proofs.Common.{◌≡◌, ℕ, ◌==◌, Bool, true, false, List, [], ◌∷◌, ◌++◌, map, Option, Some, None, refl, sym, ap, ◌∙◌, subst, lit<, arith}
use Rattle.std.specs.List.{flat_map}
use Rattle.std.proofs.lemmas.Bool.{not-true}
use Rattle.packet_stream.specs.Format.{IsSound, wrong_at}
use Rattle.redir_wire.specs.declared.packet.Caps.{Caps}
use Rattle.redir_wire.specs.declared.packet.Header.{Header}
use Rattle.redir_wire.specs.declared.state.RedirState.{RedirState}
use Rattle.redir_wire.specs.declared.packet.Way.{Way}
use Rattle.redir_wire.specs.declared.packet.Way.TheVariants.{ToGuest, ToHost}
use Rattle.redir_wire.specs.declared.packet.RedirControl.TheVariants as plain
use Rattle.redir_wire.specs.Table.{plain_row, goes}
use Rattle.redir_wire.specs.State.{is_wide, start, later, wide_ids}
use Rattle.redir_wire.specs.Header.{head_bytes}
use Rattle.redir_data.specs.Packets.{redir_packets}
use Rattle.redir_host.proofs.lemmas.write.Facts.{no_id}
use Rattle.usb_base.specs.declared.reason.Reason.{Reason}
use Rattle.redir_wire.specs.Capability.{no_caps}
use Rattle.redir_wire.specs.Spelling as wire
use Rattle.redir_wire.proofs.Says.{header_says}
use Rattle.redir_wire.proofs.Plain.{packet_written}
use Rattle.redir_data.specs.declared.packet.RedirPacket.{RedirPacket}
use Rattle.redir_data.specs.declared.packet.RedirPacket.TheVariants.{Plain, Carrying}
use Rattle.redir_data.specs.Streams.{advanced, after, stream_format}
use Rattle.redir_data.specs.sound.Joined.{redir_sound}
use Rattle.redir_host.specs.write.Output.{host_hello, hello_bytes}
use Rattle.gate_history.proofs.lemmas.Lists.{Each}
use Rattle.gate_history.specs.write.Bytes.{gateway_hello}
use Rattle.redir_data.specs.Sent.{sent_header, CanBeRead, sent_packet_bytes}
use Rattle.direct_run.specs.Packets.{both_caps, bare}
use Rattle.packet_stream.proofs.Spelled.{all_bytes, AllFit}

abbrev pub headed : Caps → ℕ × RedirPacket → Header × RedirPacket
headed caps p = (sent_header caps p, p.1)

pub sound : (way : Way) (s : RedirState) → IsSound (stream_format way s)
sound way s = redir_sound s way

-- some packet can always come next
some-fits : (way : Way) (first : Bool) (caps : Caps) → (x : Header × RedirPacket) × ((redir_packets (record { first = first; caps = caps }) way).Fits x)
some-fits way true caps = ((_, Plain host_hello), packet_written way caps 0 host_hello (refl, (lit< tt, tt)) (record { agreed = refl; id_fits = lit< tt; writable = omega arith }) (elim way as (λ (w : Way). goes w (plain_row (wire.kind_of host_hello)) ≡ true) [ ToGuest ↦ refl | ToHost ↦ refl ]))
some-fits ToGuest false caps = ((_, Plain plain.Disconnect), packet_written ToGuest caps 0 plain.Disconnect tt (record { agreed = refl; id_fits = no_id (wide_ids caps); writable = tt }) refl)
some-fits ToHost false caps = ((_, Plain plain.Cancel), packet_written ToHost caps 0 plain.Cancel tt (record { agreed = refl; id_fits = no_id (wide_ids caps); writable = tt }) refl)

-- so no bytes aren't wrong
pub empty : (way : Way) (s : RedirState) → wrong_at (stream_format way s).checks [] ≡ None
empty way s = go (wrong_at (stream_format way s).checks []) refl
  where
    x : (y : Header × RedirPacket) × ((redir_packets s way).Fits y)
    x = some-fits way s.first s.caps

    word : List ℕ
    word = (stream_format way s).spelling x.0

    go : (o : Option (ℕ × Reason)) → wrong_at (stream_format way s).checks [] ≡ o → o ≡ None
    go None e = refl
    go (Some w) e = sym ((sound way s).steady [] (word ++ []) w e) ∙ (sound way s).right x.0 [] x.1

pub bare-headed : (caps : Caps) (p : ℕ × RedirPacket) → bare (headed caps p) ≡ p
bare-headed caps (id, Plain p) = refl
bare-headed caps (id, Carrying d) = refl

pub bare-all : (caps : Caps) (ps : List (ℕ × RedirPacket)) → map bare (map (headed caps) ps) ≡ ps
bare-all caps [] = refl
bare-all caps (p ∷ ps) = λ i. bare-headed caps p i ∷ bare-all caps ps i

-- ---- none behind a hello is one

abbrev pub is_hello : RedirPacket → Bool
is_hello (Plain p) = wire.is_hello p
is_hello (Carrying d) = false

pub no-hello : (caps : Caps) (way : Way) (p : ℕ × RedirPacket) → CanBeRead way caps p → is_hello p.1 ≡ false
no-hello caps way (id, Plain p) fits = not-true (wire.number_of p == 0) (header_says fits.header).in_turn
no-hello caps way (id, Carrying d) fits = refl

-- so it changes nothing of how the next is read
pub unmoved : (s : RedirState) (p : RedirPacket) → is_hello p ≡ false → advanced s p ≡ s
unmoved s (Plain (plain.Hello x)) h = absurd (let no : true ≡ false = h in cc)
unmoved s p h = refl

-- ---- spelled

pub spelled : (caps : Caps) (way : Way) (p : ℕ × RedirPacket) → CanBeRead way caps p → (stream_format way (later caps)).spelling (headed caps p) ≡ sent_packet_bytes caps p
spelled caps way (id, Plain p) fits = ap (λ (b : Bool). head_bytes (is_wide (record { first = b; caps = caps })) (wire.header_of id caps p) ++ wire.fields caps p) (sym (no-hello caps way (id, Plain p) fits))
spelled caps way (id, Carrying d) fits = refl

pub same-bytes : (caps : Caps) (p : ℕ × RedirPacket) → sent_packet_bytes caps p ≡ sent_packet_bytes caps p
same-bytes caps (id, Plain p) = refl
same-bytes caps (id, Carrying d) = refl

pub later-fit : (caps : Caps) (way : Way) (ps : List (ℕ × RedirPacket)) → Each (CanBeRead way caps) ps → AllFit (stream_format way) after (later caps) (map (headed caps) ps)
later-fit caps way [] h = tt
later-fit caps way (p ∷ ps) h =
    (h.0, subst (λ (s : RedirState). AllFit (stream_format way) after s (map (headed caps) ps)) (sym (unmoved (later caps) p.1 (no-hello caps way p h.0))) (later-fit caps way ps h.1))

pub later-bytes : (caps : Caps) (way : Way) (ps : List (ℕ × RedirPacket)) → Each (CanBeRead way caps) ps → all_bytes (stream_format way) after (later caps) (map (headed caps) ps) ≡ flat_map (sent_packet_bytes caps) ps
later-bytes caps way [] h = refl
later-bytes caps way (p ∷ ps) h = λ i.
    spelled caps way p h.0 i
    ++ (ap (λ (s : RedirState). all_bytes (stream_format way) after s (map (headed caps) ps)) (unmoved (later caps) p.1 (no-hello caps way p h.0)) ∙ later-bytes caps way ps h.1) i

-- ---- the hellos, which agree on what both have

pub host-greets : (stream_format ToGuest start).Fits (headed no_caps (0, Plain host_hello))
host-greets = packet_written ToGuest no_caps 0 host_hello (refl, (lit< tt, tt)) (record { agreed = refl; id_fits = lit< tt; writable = omega arith }) refl

pub gate-greets : (stream_format ToHost start).Fits (headed no_caps (0, gateway_hello))
gate-greets = packet_written ToHost no_caps 0 (plain.Hello _) (refl, (lit< tt, tt)) (record { agreed = refl; id_fits = lit< tt; writable = omega arith }) refl

-- all packets of a wire, each with its header
abbrev pub on_wire : RedirPacket → List (ℕ × RedirPacket) → List (Header × RedirPacket)
on_wire hello ps = headed no_caps (0, hello) ∷ map (headed both_caps) ps

-- what the hello makes of its reader
abbrev pub Greets : Way → RedirPacket → Type 0
Greets way hello = (stream_format way start).Fits (headed no_caps (0, hello)) × (advanced start hello ≡ later both_caps)

pub wire-fits : (way : Way) (hello : RedirPacket) (ps : List (ℕ × RedirPacket)) → Greets way hello → Each (CanBeRead way both_caps) ps → AllFit (stream_format way) after start (on_wire hello ps)
wire-fits way hello ps g h = (g.0, subst (λ (s : RedirState). AllFit (stream_format way) after s (map (headed both_caps) ps)) (sym g.1) (later-fit both_caps way ps h))

pub host-hello : Greets ToGuest (Plain host_hello)
host-hello = (host-greets, refl)

pub gate-hello : Greets ToHost gateway_hello
gate-hello = (gate-greets, refl)

pub to-gate-bytes : (ps : List (ℕ × RedirPacket)) → Each (CanBeRead ToGuest both_caps) ps →
    all_bytes (stream_format ToGuest) after start (on_wire (Plain host_hello) ps) ≡ hello_bytes ++ flat_map (sent_packet_bytes both_caps) ps
to-gate-bytes ps h = ap (λ (b : List ℕ). hello_bytes ++ b) (later-bytes both_caps ToGuest ps h)

pub to-host-bytes : (ps : List (ℕ × RedirPacket)) → Each (CanBeRead ToHost both_caps) ps →
    all_bytes (stream_format ToHost) after start (on_wire gateway_hello ps) ≡ sent_packet_bytes no_caps (0, gateway_hello) ++ flat_map (sent_packet_bytes both_caps) ps
to-host-bytes ps h = ap (λ (b : List ℕ). sent_packet_bytes no_caps (0, gateway_hello) ++ b) (later-bytes both_caps ToHost ps h ∙ same ps)
  where
    same : (qs : List (ℕ × RedirPacket)) → flat_map (sent_packet_bytes both_caps) qs ≡ flat_map (sent_packet_bytes both_caps) qs
    same [] = refl
    same (q ∷ qs) = λ i. sym (same-bytes both_caps q) i ++ same qs i
