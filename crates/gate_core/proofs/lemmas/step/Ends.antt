-- The ends of both sides, and the gate to which nothing has happened.
use Rattle.std.proofs.Common.{◌≡◌, ℕ, true, false, List, [], ◌∷◌, None, is_some, inr, refl, sym, ap, subst, ◌∙◌, arith}
use Rattle.std.proofs.lemmas.Bool.{true≢false}
use Rattle.usb_base.specs.declared.reason.Reason.{Reason}
use Rattle.packet_stream.specs.Format.{Format, IsSound, Short, reading}
use Rattle.packet_stream.specs.Split.{Position, Splitting, reads}
use Rattle.packet_stream.specs.Streams.{StreamView, ended, capped}
use Rattle.redir_wire.specs.declared.packet.Way.TheVariants.{ToGuest}
use Rattle.redir_wire.specs.declared.state.RedirState.{RedirState}
use Rattle.redir_wire.specs.State.{start}
use Rattle.redir_data.specs.Streams.{after, stream_format, stream_start}
use Rattle.redir_data.specs.sound.Joined.{stream_sound}
use Rattle.redir_data.proofs.Awaits.{four_quiet}
use Rattle.usbip_urb.specs.Sound.ClientPackets.{client_packets_sound}
use Rattle.usbip_urb.specs.ClientPackets.{client_packets}
use Rattle.usbip_urb.proofs.ClientAwaits.{two_quiet}
use Rattle.gate_parts.specs.declared.write.outputs.Outputs.{Outputs}
use Rattle.gate_core.specs.declared.step.inner.Inner.{Inner}
use Rattle.gate_core.specs.declared.state.kept.Kept.{Kept}
use Rattle.gate_history.specs.declared.item.Item.TheVariants.{ClientLeft, HostLeft}
use Rattle.gate_history.specs.step.Events.{PastEvent, ClientEnd, HostEnd, client_bytes, host_bytes}
use Rattle.gate_history.specs.state.Sides.{client_over, host_over}
use Rattle.gate_history.specs.step.Streams.{client_reader, client_start, host_reader}
use Rattle.gate_history.specs.state.State.{state_of}
use Rattle.gate_history.specs.step.Past.{is_left_out, past}
use Rattle.gate_history.specs.step.History.{brought, arrivals}
use Rattle.gate_history.specs.step.Came.{asked, told}
use Rattle.gate_core.specs.step.Stands.{HasAll, GateStands, StopsInEvent}
use Rattle.gate_history.specs.step.Wants.{FirstWants}
use Rattle.gate_core.specs.inner.state.Holds.{IsFirst, DoesNothing}
use Rattle.gate_core.specs.inner.step.Steps.{kept_of, TakesOn}
use Rattle.gate_history.proofs.lemmas.state.Sound.{state-sound}
use Rattle.gate_history.proofs.lemmas.step.Apart.{left-host, left-client}
use Rattle.gate_history.proofs.lemmas.step.Capabilities.{left-over}
use Rattle.gate_core.proofs.lemmas.step.Translator.{sends-none, translates-past, sends-past, past-skipped, translates-item, sends-item}
use Rattle.gate_core.specs.inner.step.Takers.{TakesItem}
use Rattle.gate_core.proofs.lemmas.step.Event.{all-same, stops-before, stops-still, stands-for}
use Rattle.gate_history.proofs.lemmas.step.Empty.{split-empty}

-- ---- a stream of which nothing has come

abbrev first-kept : {S : Type 0} → S → StreamView S
first-kept s = record { state = s; rest = []; place = 0; held = []; at = 0; over = false }

all-first : {S P : Type 0} (format : S → Format P Reason) (next : S → P → S) → ((s : S) → IsSound (format s)) → (s : S) (kept : StreamView S) → reading (format s) [] ≡ Short → kept ≡ first-kept s →
    HasAll (reads format next) (record { state = s; place = 0 }) kept [] [] false
all-first {S = S} {P = P} format next sound s kept short is =
    let a : Position S = record { state = s; place = 0 } in
    let r = reads format next in
    let parts = split-empty format next sound a short in
    let first : HasAll r a (first-kept s) [] [] false = record {
      over_is = refl;
      none = λ _. refl;
      empty = λ _. refl;
      drained = λ _. record {
        packets = ap (λ (x : Splitting S P Reason). x.packets) parts;
        right = ap (λ (x : Splitting S P Reason). x.wrong) parts;
        rest = sym (ap (λ (x : Splitting S P Reason). x.rest) parts);
        place = sym (ap (λ (x : Splitting S P Reason). capped x.position.place) parts);
        state = sym (ap (λ (x : Splitting S P Reason). x.position.state) parts);
      };
      whole = λ _. refl;
      place = λ _. refl;
      fits = λ i. omega arith;
    } in
    subst (λ (k : StreamView S). HasAll r a k [] [] false) (sym is) first

pub client-first : (kept : StreamView (Unit {0})) → kept ≡ record { state = tt; rest = []; place = 0; held = []; at = 0; over = false } → HasAll client_reader client_start kept [] [] false
client-first kept is = all-first (λ s. client_packets) (λ s p. s) (λ s. client_packets_sound) tt kept (two_quiet [] [] (omega arith)) is

host-first : (kept : StreamView RedirState) → kept ≡ record { state = start; rest = []; place = 0; held = []; at = 0; over = false } → HasAll host_reader stream_start kept [] [] false
host-first kept is = all-first (stream_format ToGuest) after (stream_sound ToGuest) start kept (four_quiet start ToGuest [] [] (omega arith)) is

pub stands-first : (first : ℕ) (g : Inner) → g.want ≡ None → IsFirst g.translator first → g.client ≡ record { state = tt; rest = []; place = 0; held = []; at = 0; over = false } →
    g.host ≡ record { state = start; rest = []; place = 0; held = []; at = 0; over = false } → GateStands first (kept_of g) []
stands-first first g works translator client host = record {
  works = ap is_some works;
  translates = record { state = translator.holds; answered = translator.answered; unlinked = translator.unlinked; dropped = translator.dropped };
  client = client-first g.client client;
  host = host-first g.host host;
}

-- ---- a client's end

pub ends-client : (first : ℕ) (old : Inner) (t : Kept) (kept : StreamView (Unit {0})) (events : List PastEvent) (out_old out_new : Outputs) → GateStands first (kept_of old) events →
    TakesItem old.translator t ClientLeft out_old out_new → kept ≡ record { state = tt; rest = []; place = 0; held = []; at = 0; over = false } →
    TakesOn first (record old { client = kept; translator = t }) events ClientEnd out_old out_new
ends-client first old t kept events out_old out_new stands takes is =
    let xs = arrivals events in
    let does = takes (state_of first (past first xs)) ClientLeft refl stands.translates.state (state-sound first xs) refl in
    record {
      stands = record {
        works = stands.works;
        translates = translates-item first old.translator t xs ClientLeft out_old out_new stands.translates refl does;
        client = client-first kept is;
        host = all-same host_reader stream_start old.host old.host (host_bytes events) (told xs) (told xs) (host_over (past first xs)) (host_over (past first (ClientLeft ∷ xs))) refl refl (left-host first xs) stands.host;
      };
      sends = sends-item first old.translator t xs xs ClientLeft out_old out_old out_new
          (sends-none first out_old xs) refl does;
    }

-- ---- the host's end

-- it was over before
pub ends-again : (first : ℕ) (g : Inner) (events : List PastEvent) (out : Outputs) → GateStands first (kept_of g) events → g.host.over ≡ true → TakesOn first g events HostEnd out out
ends-again first g events out stands over =
    let xs = arrivals events in
    let ended : host_over (past first xs) ≡ true = sym stands.host.over_is ∙ over in
    let same : past first (HostLeft ∷ xs) ≡ past first xs = past-skipped first xs HostLeft ended in
    record {
      stands = record {
        works = stands.works;
        translates = translates-past first g.translator xs (HostLeft ∷ xs) same stands.translates;
        client = all-same client_reader client_start g.client g.client (client_bytes events) (asked xs) (asked xs) (client_over (past first xs)) (client_over (past first (HostLeft ∷ xs))) refl refl (ap client_over same) stands.client;
        host = all-same host_reader stream_start g.host g.host (host_bytes events) (told xs) (told xs) (host_over (past first xs)) (host_over (past first (HostLeft ∷ xs))) refl refl (ap host_over same) stands.host;
      };
      sends = sends-past first out out xs xs (HostLeft ∷ xs) same (sends-none first out xs);
    }

pub ends-host : (first : ℕ) (old : Inner) (t : Kept) (kept : StreamView RedirState) (events : List PastEvent) (out_old out_new : Outputs) → GateStands first (kept_of old) events →
    old.host.over ≡ false → TakesItem old.translator t HostLeft out_old out_new → kept ≡ ended old.host →
    TakesOn first (record old { host = kept; translator = t }) events HostEnd out_old out_new
ends-host first old t kept events out_old out_new stands runs takes is =
    let xs = arrivals events in
    let taken : is_left_out (state_of first (past first xs)) HostLeft ≡ false = sym stands.host.over_is ∙ runs in
    let does = takes (state_of first (past first xs)) HostLeft refl stands.translates.state (state-sound first xs) taken in
    let over = left-over first xs in
    record {
      stands = record {
        works = stands.works;
        translates = translates-item first old.translator t xs HostLeft out_old out_new stands.translates taken does;
        client = all-same client_reader client_start old.client old.client (client_bytes events) (asked xs) (asked xs) (client_over (past first xs)) (client_over (past first (HostLeft ∷ xs))) refl refl (left-client first xs) stands.client;
        host = record {
          over_is = ap (λ (k : StreamView RedirState). k.over) is ∙ sym over;
          none = λ _. ap (λ (k : StreamView RedirState). k.held) is;
          empty = λ _. ap (λ (k : StreamView RedirState). k.rest) is;
          drained = λ going. absurd (true≢false (sym over ∙ going));
          whole = λ going. absurd (true≢false (sym over ∙ going));
          place = λ going. absurd (true≢false (sym over ∙ going));
          fits = stands.host.fits;
        };
      };
      sends = sends-item first old.translator t xs xs HostLeft out_old out_old out_new
          (sends-none first out_old xs) taken does;
    }

-- ---- memory ran out for an end

pub stops-end : (first : ℕ) (old : Inner) (t : Kept) (events : List PastEvent) (e : PastEvent) (out_old out_new : Outputs) → GateStands first (kept_of old) events →
    DoesNothing old.translator t out_old out_new → FirstWants first (arrivals events) (brought events e) → StopsInEvent first (kept_of (record old { translator = t })) events e out_old.to_client out_new.to_client out_old.to_host out_new.to_host
stops-end first old t events e out_old out_new stands nothing wants =
    stops-still first old t events e out_old out_new nothing (stops-before first old events e out_old.to_client out_old.to_host (stands-for first old events stands) (inr wants))
