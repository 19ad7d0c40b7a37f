-- One act more: what each call makes of the core.
use Rattle.std.proofs.Common.{◌≡◌, ℕ, false, List, [], ◌∷◌, ◌++◌, None, refl, sym, ap, subst, ◌∙◌, arith}
use Rattle.std.proofs.lemmas.List.{append-nil}
use Rattle.usb_base.specs.declared.reason.Reason.{Reason}
use Rattle.packet_stream.specs.Format.{Short}
use Rattle.packet_stream.specs.Split.{Splitting}
use Rattle.packet_stream.specs.Streams.{StreamView as Stream, capped}
use Rattle.packet_stream.proofs.Laws.{reads_steady, split-is}
use Rattle.redir_wire.specs.declared.state.RedirState.{RedirState}
use Rattle.redir_wire.specs.declared.packet.Header.{Header}
use Rattle.redir_wire.specs.declared.packet.Way.TheVariants.{ToHost}
use Rattle.redir_wire.specs.State.{start}
use Rattle.redir_data.specs.declared.packet.RedirPacket.{RedirPacket}
use Rattle.redir_data.specs.Streams.{after, stream_format, stream_start}
use Rattle.redir_data.specs.sound.Joined.{stream_sound}
use Rattle.redir_data.proofs.Awaits.{four_quiet}
use Rattle.model_device.specs.Gadget.{IsGadget}
use Rattle.model_device.specs.Meaning.{Meaning}
use Rattle.redir_host.specs.declared.state.host.Host.{Host}
use Rattle.redir_host.specs.state.Kept.{HostKept}
use Rattle.redir_host.specs.step.Acts.{Act, Perform, Offer, Unplug, guest_bytes}
use Rattle.redir_host.specs.guest.Guest.{guest_reader, guest_split}
use Rattle.redir_host.specs.step.Machine.{all_given, bytes_of, first_host, move}
use Rattle.redir_host.specs.step.Makes.{Makes, Tells}
use Rattle.redir_host.specs.step.Moves.{Move}
use Rattle.redir_host.specs.device.Offering.{offer_move, unplug_move}
use Rattle.redir_host.specs.device.Performing.{perform_move}
use Rattle.redir_host.specs.step.History.{brought, history}
use Rattle.redir_host.specs.step.Items.{Item, Performs, Offers, Unplugs}
use Rattle.redir_host.specs.write.Readable.{AreRead}
use Rattle.redir_host.specs.state.Sound.{IsSound}
use Rattle.redir_host.specs.step.Stands.{told_state, IsRead, HostStands, DoesAct}
use Rattle.redir_host.proofs.lemmas.state.Sound.{Keeps, keeps-perform, keeps-offer, keeps-unplug}
use Rattle.redir_host.proofs.lemmas.write.Readable.{nothing-sent, perform-read, offer-read, unplug-read}
use Rattle.redir_host.proofs.lemmas.guest.Pieces.{given-all, host-all, read-given, sent_of}
use Rattle.redir_host.proofs.lemmas.write.Replies.{read-more}

-- ---- nothing has come

pub split-none : guest_split [] ≡ record { packets = []; wrong = None; position = stream_start; rest = [] }
split-none = split-is guest_reader (reads_steady (stream_format ToHost) after (stream_sound ToHost)) stream_start [] Short (four_quiet start ToHost [] [] (omega arith))

abbrev first-stream : Stream RedirState
first-stream = record { state = start; rest = []; place = 0; held = []; at = 0; over = false }

pub stands-first : {S : Type 0} (m : Meaning S) (s : S) (k : HostKept S) → k.failed ≡ false → k.stream ≡ first-stream → k.host ≡ first_host s → HostStands m s k []
stands-first {S = S} m s k works stream host = record {
  works = works;
  stream = subst (λ (x : Stream RedirState). IsRead x []) (sym stream) (record {
    fits = λ i. omega arith;
    read = record {
      packets = refl;
      right = ap (λ (x : Splitting RedirState (Header × RedirPacket) Reason). x.wrong) split-none;
      rest = sym (ap (λ (x : Splitting RedirState (Header × RedirPacket) Reason). x.rest) split-none);
      place = sym (ap (λ (x : Splitting RedirState (Header × RedirPacket) Reason). capped x.position.place) split-none);
      state = sym (ap (λ (x : Splitting RedirState (Header × RedirPacket) Reason). x.position.state) split-none);
    };
  });
  host = host;
  sound = subst (λ (h : Host S). IsSound h) (sym host) (record { requests = tt; streams = tt });
  told = nothing-sent k.host.guest;
  state = ap (λ (h : Host S). h.guest) host ∙ ap (λ (x : Splitting RedirState (Header × RedirPacket) Reason). told_state start x.packets) (sym split-none);
}

-- ---- what is done with the device

-- an act that is one item, and brings no bytes of the guest
stands-own : {S : Type 0} (m : Meaning S) (s : S) (old new : HostKept S) (acts : List Act) (a : Act) (x : Item) (o0 o1 : List ℕ) → brought acts a ≡ x ∷ [] → guest_bytes (a ∷ acts) ≡ guest_bytes acts → HostStands m s old acts → new ≡ record old { host = new.host } →
    Makes (move m old.host x) new.host o0 o1 → Keeps old.host (move m old.host x).host → AreRead old.host.guest (move m old.host x).sent → DoesAct m s new acts a o0 o1
stands-own {S = S} m s old new acts a x o0 o1 one bytes stands rest makes keeps own =
    let v : Move S = move m old.host x in
    let guest : new.host.guest ≡ old.host.guest = ap (λ (h : Host S). h.guest) makes.host ∙ keeps.guest in
    let all = all_given sent_of m s (history acts) in
    let told : AreRead old.host.guest (all ++ (v.sent ++ [])) =
    subst (λ (l : List (ℕ × RedirPacket)). AreRead old.host.guest (all ++ l)) (sym (append-nil v.sent)) (read-more old.host.guest all v.sent stands.told own) in
    record {
      stands = record {
        works = ap (λ (k : HostKept S). k.failed) rest ∙ stands.works;
        stream = subst (IsRead new.stream) (sym bytes) (subst (λ (y : Stream RedirState). IsRead y (guest_bytes acts)) (sym (ap (λ (k : HostKept S). k.stream) rest)) stands.stream);
        host = host-all m s old new.host acts a (x ∷ []) stands makes.host one;
        sound = subst (λ (h : Host S). IsSound h) (sym makes.host) keeps.sound;
        told = read-given m s old new.host acts a (x ∷ []) stands one (subst (λ (g : RedirState). AreRead g (all ++ (v.sent ++ []))) (sym guest) told);
        state = guest ∙ stands.state ∙ ap (λ (b : List ℕ). told_state start (guest_split b).packets) (sym bytes);
      };
      sent = given-all bytes_of m s old acts (x ∷ []) (brought acts a) o0 o1 stands (makes.sent ∙ ap (λ bs. o0 ++ bs) (sym (append-nil (bytes_of v)))) one;
    }

pub stands-performed : {S : Type 0} (m : Meaning S) → IsGadget m → (s : S) (old new : HostKept S) (acts : List Act) (ep : ℕ) (o0 o1 : List ℕ) → HostStands m s old acts → new ≡ record old { host = new.host } → Tells (perform_move m old.host ep) new.host o0 o1 → DoesAct m s new acts (Perform ep) o0 o1
stands-performed m lawful s old new acts ep o0 o1 stands rest tells =
    stands-own m s old new acts (Perform ep) (Performs ep) o0 o1 refl refl stands rest tells.makes (keeps-perform m old.host ep stands.sound) (perform-read m lawful old.host ep stands.sound tells.in_range)

pub stands-offered : {S : Type 0} (m : Meaning S) → IsGadget m → (s : S) (old new : HostKept S) (acts : List Act) (ep : ℕ) (o0 o1 : List ℕ) → HostStands m s old acts → new ≡ record old { host = new.host } → Makes (offer_move m old.host ep) new.host o0 o1 → DoesAct m s new acts (Offer ep) o0 o1
stands-offered m lawful s old new acts ep o0 o1 stands rest makes =
    stands-own m s old new acts (Offer ep) (Offers ep) o0 o1 refl refl stands rest makes (keeps-offer m old.host ep stands.sound) (offer-read m lawful old.host ep stands.sound)

pub stands-unplugged : {S : Type 0} (m : Meaning S) (s : S) (old new : HostKept S) (acts : List Act) (o0 o1 : List ℕ) → HostStands m s old acts → new ≡ record old { host = new.host } → Makes (unplug_move old.host) new.host o0 o1 → DoesAct m s new acts Unplug o0 o1
stands-unplugged m s old new acts o0 o1 stands rest makes =
    stands-own m s old new acts Unplug Unplugs o0 o1 refl refl stands rest makes (keeps-unplug old.host stands.sound) (unplug-read old.host)
