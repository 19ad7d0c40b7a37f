-- What has to be known of a side for its items to be taken, and both sides.
use Rattle.std.proofs.Common.{◌≡◌, ℕ, Bool, true, false, cond, List, ◌∷◌, refl, sym, ap, subst}
use Rattle.usb_base.specs.declared.reason.Reason.{Reason}
use Rattle.packet_stream.specs.Split.{Reader}
use Rattle.packet_stream.proofs.Laws.{IsSteady, reads_steady}
use Rattle.redir_wire.specs.declared.state.RedirState.{RedirState}
use Rattle.redir_wire.specs.declared.packet.Header.{Header}
use Rattle.redir_wire.specs.declared.packet.Way.TheVariants.{ToGuest}
use Rattle.redir_data.specs.declared.packet.RedirPacket.{RedirPacket}
use Rattle.usbip_urb.specs.declared.client.ClientPacket.{ClientPacket}
use Rattle.redir_data.specs.Streams.{after, stream_format}
use Rattle.redir_data.specs.sound.Joined.{stream_sound}
use Rattle.usbip_urb.specs.ClientPackets.{takes_memory as asked_takes_memory, client_packets}
use Rattle.redir_data.specs.Packets.{takes_memory as told_takes_memory}
use Rattle.usbip_urb.specs.Sound.ClientPackets.{client_packets_sound}
use Rattle.gate_history.specs.declared.item.Item.{Item}
use Rattle.gate_core.specs.declared.state.kept.Kept.{Kept}
use Rattle.gate_history.specs.declared.item.Item.TheVariants.{Asked, ClientWrong, HostWrong}
use Rattle.gate_history.specs.step.Marks.{Mark}
use Rattle.gate_history.specs.state.Sides.{client_over, host_over}
use Rattle.gate_history.specs.state.State.{state_of}
use Rattle.gate_history.specs.step.Meaning.{mark_of}
use Rattle.gate_history.specs.step.Past.{past}
use Rattle.gate_history.specs.step.Streams.{client_reader, host_reader}
use Rattle.gate_core.specs.inner.step.Steps.{told_item}
use Rattle.gate_core.proofs.lemmas.step.Halves.{Half, IsSide, client_half, host_half}
use Rattle.gate_history.proofs.lemmas.step.Apart.{asked-host, wrong-host, told-client, wrong-client}
use Rattle.gate_history.proofs.lemmas.step.Capabilities.{wrong-over}

-- a side with its laws
pub record Side (S P : Type 0) (first : ℕ) : Type 0 where
  pub half : Half S P
  pub takes : P → Bool
  pub flag : Kept → Bool
  pub packet : ℕ → P → Item
  pub wrong : ℕ → Reason → Item
  pub steady : IsSteady half.stream.reader
  pub laws : IsSide first half half.stream.reader takes flag packet wrong

abbrev pub side-of : {S P : Type 0} {first : ℕ} {half : Half S P} {reader : Reader S P Reason} {takes : P → Bool} {flag : Kept → Bool} {packet : ℕ → P → Item} {wrong : ℕ → Reason → Item} →
    IsSteady reader → IsSide first half reader takes flag packet wrong → Side S P first
side-of {S = S} {P = P} {first = first} {half = half} {takes = takes} {flag = flag} {packet = packet} {wrong = wrong} steady laws = record {
  half = half;
  takes = takes;
  flag = flag;
  packet = packet;
  wrong = wrong;
  steady = subst IsSteady (sym laws.reader) steady;
  laws = subst (λ (r : Reader S P Reason). IsSide first half r takes flag packet wrong) (sym laws.reader) laws;
}

refused-by : (ms : List Mark) (m : Mark) → client_over (m ∷ ms) ≡ true → (b : Bool) → client_over ms ≡ b → client_over (cond b ms (m ∷ ms)) ≡ true
refused-by ms m closes true e = e
refused-by ms m closes false e = closes

pub client-wrong-over : (first : ℕ) (xs : List Item) (n : ℕ) (why : Reason) → client_over (past first (ClientWrong n why ∷ xs)) ≡ true
client-wrong-over first xs n why = let ms = past first xs in refused-by ms (mark_of (state_of first ms) (ClientWrong n why)) refl (client_over ms) refl

pub client-steady : IsSteady client_reader
client-steady = reads_steady (λ s. client_packets) (λ s p. s) (λ s. client_packets_sound)

pub host-steady : IsSteady host_reader
host-steady = reads_steady (stream_format ToGuest) after (stream_sound ToGuest)

pub is-client : (first : ℕ) → IsSide first (client_half first) client_reader asked_takes_memory (λ t. t.sides.client_over) Asked ClientWrong
is-client first = record {
  reader = refl;
  takes_is = λ n p. refl;
  over_past = λ xs ys e. ap client_over e;
  other_past = λ xs ys e. ap host_over e;
  over_is = λ t xs h. (λ i. (h.state.sides i).client_over);
  came_packet = λ xs n p. refl;
  out_packet = λ xs n p. refl;
  out_wrong = λ xs n why. refl;
  over_wrong = client-wrong-over first;
  is_packet = λ n at p e. (at, e, refl);
  is_wrong = λ n at why e. (at, e, refl);
  others_packet = λ xs n p. refl;
  others_wrong = λ xs n why. refl;
  other_packet = asked-host first;
  other_wrong = wrong-host first;
}

pub is-host : (first : ℕ) → IsSide first (host_half first) host_reader told_takes_memory (λ t. t.sides.host_over) told_item HostWrong
is-host first = record {
  reader = refl;
  takes_is = λ n p. refl;
  over_past = λ xs ys e. ap host_over e;
  other_past = λ xs ys e. ap client_over e;
  over_is = λ t xs h. (λ i. (h.state.sides i).host_over);
  came_packet = λ xs n p. refl;
  out_packet = λ xs n p. refl;
  out_wrong = λ xs n why. refl;
  over_wrong = wrong-over first;
  is_packet = λ n at p e. (at, e, refl);
  is_wrong = λ n at why e. (at, e, refl);
  others_packet = λ xs n p. refl;
  others_wrong = λ xs n why. refl;
  other_packet = λ xs n p. told-client first xs n p.0 p.1;
  other_wrong = wrong-client first;
}

-- ---- a side, as its code reads and takes it

pub record TakenSide (S P : Type 0) : Type 0 where
  pub half : ℕ → Half S P
  pub reader : Reader S P Reason
  pub steady : IsSteady reader
  pub takes : P → Bool
  pub flag : Kept → Bool
  pub packet : ℕ → P → Item
  pub wrong : ℕ → Reason → Item
  pub laws : (first : ℕ) → IsSide first (half first) reader takes flag packet wrong

abbrev pub client_side : TakenSide (Unit {0}) ClientPacket
client_side = record {
  half = client_half;
  reader = client_reader;
  steady = client-steady;
  takes = asked_takes_memory;
  flag = λ t. t.sides.client_over;
  packet = Asked;
  wrong = ClientWrong;
  laws = is-client;
}

abbrev pub host_side : TakenSide RedirState (Header × RedirPacket)
host_side = record {
  half = host_half;
  reader = host_reader;
  steady = host-steady;
  takes = told_takes_memory;
  flag = λ t. t.sides.host_over;
  packet = told_item;
  wrong = HostWrong;
  laws = is-host;
}
