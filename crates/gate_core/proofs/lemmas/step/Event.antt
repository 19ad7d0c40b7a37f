-- One event more: what each way of taking it makes of the gate.
use Rattle.std.proofs.Common.{◌≡◌, ◌⊎◌, ℕ, Bool, List, [], ◌∷◌, ◌++◌, Result, Ok, Err, inl, inr, refl, sym, ap, subst, ◌∙◌}
use Rattle.std.specs.Prelude.{IsErr}
use Rattle.std.proofs.Math.Logic.{∥∥₁_map}
use Rattle.std.proofs.lemmas.Bool.{true≢false}
use Rattle.usb_base.specs.declared.memory.Memory.{Memory}
use Rattle.usb_base.specs.declared.reason.Reason.{Reason}
use Rattle.packet_stream.specs.Split.{Reader, Position, split}
use Rattle.packet_stream.specs.Streams.{StreamView, passed}
use Rattle.packet_stream.specs.Items.{added, onto}
use Rattle.packet_stream.proofs.Laws.{IsSteady}
use Rattle.packet_stream.proofs.Following.{follows-holds}
use Rattle.packet_stream.proofs.Pieces.{items}
use Rattle.gate_parts.specs.declared.write.outputs.Outputs.{Outputs}
use Rattle.gate_core.specs.declared.step.inner.Inner.{Inner}
use Rattle.gate_core.specs.declared.state.kept.Kept.{Kept}
use Rattle.gate_history.specs.step.Events.{PastEvent, ClientPiece, HostPiece, client_bytes, host_bytes}
use Rattle.gate_history.specs.declared.item.Item.{Item}
use Rattle.gate_history.specs.state.Sides.{client_over, host_over}
use Rattle.redir_wire.specs.declared.state.RedirState.{RedirState}
use Rattle.redir_data.specs.Streams.{stream_start}
use Rattle.gate_history.specs.step.Streams.{client_reader, client_start, host_reader}
use Rattle.gate_history.specs.step.History.{brought, arrivals, history}
use Rattle.gate_history.specs.step.Came.{asked, told}
use Rattle.gate_core.specs.step.Stands.{IsLeftBy, StreamStands, StandsFor, HasAll, GateStands, StopsInEvent, HasPast}
use Rattle.gate_history.specs.step.Wants.{IsHeld, FirstWants}
use Rattle.gate_core.specs.inner.state.Holds.{DoesNothing}
use Rattle.gate_core.specs.inner.step.Steps.{kept_of, TakesOrStops}
use Rattle.gate_core.proofs.lemmas.step.Halves.{Packets, Half, IsAt, Halted, TakesPiece, client_half, host_half}
use Rattle.gate_core.proofs.lemmas.step.Take.{follows-all, all-passed}
use Rattle.gate_core.proofs.lemmas.step.Translator.{gains-none}
use Rattle.gate_core.proofs.lemmas.step.Sides.{client-steady, host-steady}

-- ---- either side

-- a side of which nothing has changed
pub all-same : {S P : Type 0} (r : Reader S P Reason) (start : Position S) (old new : StreamView S) (bytes : List ℕ) (before after : List (ℕ × P)) (was is : Bool) → new ≡ old → after ≡ before → is ≡ was →
    HasAll r start old bytes before was → HasAll r start new bytes after is
all-same {S = S} {P = P} r start old new bytes before after was is kept given over all =
    subst (λ (k : StreamView S). HasAll r start k bytes after is) (sym kept)
    (subst (λ (l : List (ℕ × P)). HasAll r start old bytes l is) (sym given) (subst (HasAll r start old bytes before) (sym over) all))

pub stands-all : {S P : Type 0} (r : Reader S P Reason) → IsSteady r → (start : Position S) (kept : StreamView S) (bytes : List ℕ) (given : List (ℕ × P)) (over : Bool) → HasAll r start kept bytes given over →
    StreamStands r start kept bytes given over
stands-all r steady start kept bytes given over all = record {
  going = λ going.
      let runs = all.over_is ∙ going in
      let holds = follows-holds r start kept kept bytes given (follows-all r steady start kept bytes given over all going) runs (all.whole going) (all.place going) in
      subst (IsLeftBy r kept (split r start bytes) given) (sym runs) holds;
  ended = λ ends. all.over_is ∙ ends;
  none = λ ends. all.none (sym all.over_is ∙ ends);
}

pub err-event : (r : Result (Unit {0}) Memory) (old new : Inner) (e : PastEvent) (out_old out_new : Outputs) → IsErr r →
    ((first : ℕ) (events : List PastEvent) → GateStands first (kept_of old) events → StopsInEvent first (kept_of new) events e out_old.to_client out_new.to_client out_old.to_host out_new.to_host) → TakesOrStops r old new e out_old out_new
err-event (Ok v) old new e out_old out_new is stops = absurd (true≢false (sym is))
err-event (Err memory) old new e out_old out_new is stops = stops

-- before anything of an event has come
pub stops-before : (first : ℕ) (new : Inner) (events : List PastEvent) (e : PastEvent) (client host : List ℕ) → StandsFor first (kept_of new) events (arrivals events) →
    IsHeld first events e ⊎ FirstWants first (arrivals events) (brought events e) → StopsInEvent first (kept_of new) events e client client host host
stops-before first new events e client host for wanted = record {
  taken = [];
  later = brought events e;
  parts = refl;
  seen = events;
  seen-is = inr (refl, refl);
  wanted = elim wanted [
    | inl held ↦ inl (refl, held)
    | inr wants ↦ inr wants
  ];
  stands = for;
  client = gains-none client _;
  host = gains-none host _;
}

-- all of an event was taken, but not so that it can be told
pub stands-for : (first : ℕ) (g : Inner) (events : List PastEvent) → GateStands first (kept_of g) events → StandsFor first (kept_of g) events (arrivals events)
stands-for first g events stands = record {
  translates = stands.translates;
  client = stands-all client_reader client-steady client_start g.client (client_bytes events) (asked (arrivals events)) (client_over (history first events)) stands.client;
  host = stands-all host_reader host-steady stream_start g.host (host_bytes events) (told (arrivals events)) (host_over (history first events)) stands.host;
}

-- for want of memory the translator has changed nothing
pub stops-still : (first : ℕ) (old : Inner) (t : Kept) (events : List PastEvent) (e : PastEvent) (out_old out_new : Outputs) →
    DoesNothing old.translator t out_old out_new → StopsInEvent first (kept_of old) events e out_old.to_client out_old.to_client out_old.to_host out_old.to_host →
    StopsInEvent first (kept_of (record old { translator = t })) events e out_old.to_client out_new.to_client out_old.to_host out_new.to_host
stops-still first old t events e out_old out_new nothing stops =
    subst (λ (x : Kept). StopsInEvent first (kept_of (record old { translator = x })) events e out_old.to_client out_new.to_client out_old.to_host out_new.to_host) (sym nothing.same)
    (subst (λ (o : Outputs). StopsInEvent first (kept_of old) events e out_old.to_client o.to_client out_old.to_host o.to_host) (sym nothing.outputs) stops)

-- ---- a piece of either side

-- so a side sees the other
record Sees {S P T Q : Type 0} (own : Half S P) (other : Half T Q) : Type 0 where
  steady : IsSteady own.stream.reader
  other_steady : IsSteady other.stream.reader
  came : (xs ys : List Item) → own.others ys ≡ own.others xs → other.came ys ≡ other.came xs
  over : (xs : List Item) → own.other_over xs ≡ other.over xs

-- both streams stand for these items, wherever memory ran out
record Both {S P T Q : Type 0} (own : Half S P) (other : Half T Q) (mine : StreamView S) (theirs : StreamView T) (bytes their_bytes : List ℕ) (xs : List Item) : Type 0 where
  own_stands : StreamStands own.stream.reader own.stream.start mine bytes (own.came xs) (own.over xs)
  other_stands : StreamStands other.stream.reader other.stream.start theirs their_bytes (other.came xs) (other.over xs)

module _ {S P T Q : Type 0} (first : ℕ) (own : Half S P) (other : Half T Q) (sees : Sees own other) (old : StreamView S) (theirs : StreamView T) (events : List PastEvent) (bytes their_bytes : List ℕ)
    (all : HasAll own.stream.reader own.stream.start old bytes (own.came (arrivals events)) (own.over (arrivals events)))
    (their_all : HasAll other.stream.reader other.stream.start theirs their_bytes (other.came (arrivals events)) (other.over (arrivals events))) where
  -- of the other side nothing has changed
  theirs-same : (xs : List Item) → own.others xs ≡ own.others (arrivals events) → own.other_over xs ≡ own.other_over (arrivals events) → HasAll other.stream.reader other.stream.start theirs their_bytes (other.came xs) (other.over xs)
  theirs-same xs came over =
      all-same other.stream.reader other.stream.start theirs theirs their_bytes (other.came (arrivals events)) (other.came xs) (other.over (arrivals events)) (other.over xs)
      refl (sees.came (arrivals events) xs came) (sym (sees.over xs) ∙ over ∙ sees.over (arrivals events)) their_all

  theirs-stand : (xs : List Item) → own.others xs ≡ own.others (arrivals events) → own.other_over xs ≡ own.other_over (arrivals events) → StreamStands other.stream.reader other.stream.start theirs their_bytes (other.came xs) (other.over xs)
  theirs-stand xs came over = stands-all other.stream.reader sees.other_steady other.stream.start theirs their_bytes (other.came xs) (other.over xs) (theirs-same xs came over)

  unput-both : (new : StreamView S) → new ≡ passed old → Both own other new theirs bytes their_bytes (arrivals events)
  unput-both new is = record {
    own_stands = stands-all own.stream.reader sees.steady own.stream.start new bytes (own.came (arrivals events)) (own.over (arrivals events))
        (all-passed own.stream.reader sees.steady own.stream.start old new bytes (own.came (arrivals events)) (own.over (arrivals events)) all is);
    other_stands = theirs-stand (arrivals events) refl refl;
  }

  halted-both : (new : StreamView S) (t : Kept) (piece : List ℕ) (out_old out_new : Outputs) (h : Halted first own new t bytes piece (arrivals events) out_old out_new) → Both own other new theirs (bytes ++ piece) their_bytes (onto h.taken (arrivals events))
  halted-both new t piece out_old out_new h = record { own_stands = h.stands; other_stands = theirs-stand (onto h.taken (arrivals events)) h.others_are h.other_over }

-- the event was taken up to an item that memory ran out for
halted-event : {S P : Type 0} (first : ℕ) (own : Half S P) (new : StreamView S) (t : Kept) (g : Inner) (events : List PastEvent) (e : PastEvent) (bytes piece : List ℕ) (out_old out_new : Outputs) → brought events e ≡ added (items own.stream) bytes piece →
    (h : Halted first own new t bytes piece (arrivals events) out_old out_new) → StandsFor first (kept_of g) (e ∷ events) (onto h.taken (arrivals events)) → StopsInEvent first (kept_of g) events e out_old.to_client out_new.to_client out_old.to_host out_new.to_host
halted-event first own new t g events e bytes piece out_old out_new brings h stands = record {
  taken = h.taken;
  later = h.next ∷ h.behind;
  parts = brings ∙ h.parts;
  seen = e ∷ events;
  seen-is = inl refl;
  wanted = inr h.wants;
  stands = stands;
  client = h.sends.client;
  host = h.sends.host;
}

-- ---- a piece of the client

client-sees : (first : ℕ) → Sees (client_half first) (host_half first)
client-sees first = record { steady = client-steady; other_steady = host-steady; came = λ xs ys e. ap (λ (p : Packets). p.1) e; over = λ xs. refl }

pub took-asked : (r : Result (Unit {0}) Memory) (old : Inner) (kept : StreamView (Unit {0})) (t : Kept) (piece : List ℕ) (out_old out_new : Outputs) →
    TakesPiece r client_half old.client kept old.translator t piece out_old out_new →
    TakesOrStops r old (record old { client = kept; translator = t }) (ClientPiece piece) out_old out_new
took-asked (Ok v) old kept t piece out_old out_new takes = λ first events stands.
    let f = takes first (client_bytes events) (arrivals events) (record { all = stands.client; translates = stands.translates }) in
    let theirs = theirs-same first (client_half first) (host_half first) (client-sees first) old.client old.host events (client_bytes events) (host_bytes events) stands.client stands.host (arrivals (ClientPiece piece ∷ events)) f.others_are f.other_over in
    record { stands = record { works = stands.works; translates = f.translates; client = f.all; host = theirs }; sends = f.sends }
took-asked (Err memory) old kept t piece out_old out_new takes = λ first events stands.
    let e = ClientPiece piece in
    elim (takes first (client_bytes events) (arrivals events) (record { all = stands.client; translates = stands.translates })) [
      | inl unput ↦ let b = unput-both first (client_half first) (host_half first) (client-sees first) old.client old.host events (client_bytes events) (host_bytes events) stands.client stands.host kept unput.kept in
          stops-still first (record old { client = kept }) t events e out_old out_new unput.nothing
          (stops-before first (record old { client = kept }) events e out_old.to_client out_old.to_host (record { translates = stands.translates; client = b.own_stands; host = b.other_stands })
          (inl (unput.some.0, sym stands.client.over_is ∙ unput.some.1)))
      | inr halted ↦ let b = halted-both first (client_half first) (host_half first) (client-sees first) old.client old.host events (client_bytes events) (host_bytes events) stands.client stands.host kept t piece out_old out_new halted in
          halted-event first (client_half first) kept t (record old { client = kept; translator = t }) events e (client_bytes events) piece out_old out_new refl halted (record { translates = halted.translates; client = b.own_stands; host = b.other_stands })
    ]

-- it stands somewhere
pub asked-past : (old : Inner) → HasPast (kept_of old) → ∥ ((first : ℕ) × ((bytes : List ℕ) × ((before : List Item) × IsAt first (client_half first) old.client old.translator bytes before))) ∥₁
asked-past old has = ∥∥₁_map has (λ w. (w.0, (client_bytes w.1.0, (arrivals w.1.0, record { all = w.1.1.client; translates = w.1.1.translates }))))

-- ---- a piece of the host

host-sees : (first : ℕ) → Sees (host_half first) (client_half first)
host-sees first = record { steady = host-steady; other_steady = client-steady; came = λ xs ys e. ap (λ (p : Packets). p.0) e; over = λ xs. refl }

pub took-told : (r : Result (Unit {0}) Memory) (old : Inner) (kept : StreamView RedirState) (t : Kept) (piece : List ℕ) (out_old out_new : Outputs) →
    TakesPiece r host_half old.host kept old.translator t piece out_old out_new →
    TakesOrStops r old (record old { host = kept; translator = t }) (HostPiece piece) out_old out_new
took-told (Ok v) old kept t piece out_old out_new takes = λ first events stands.
    let f = takes first (host_bytes events) (arrivals events) (record { all = stands.host; translates = stands.translates }) in
    let theirs = theirs-same first (host_half first) (client_half first) (host-sees first) old.host old.client events (host_bytes events) (client_bytes events) stands.host stands.client (arrivals (HostPiece piece ∷ events)) f.others_are f.other_over in
    record { stands = record { works = stands.works; translates = f.translates; client = theirs; host = f.all }; sends = f.sends }
took-told (Err memory) old kept t piece out_old out_new takes = λ first events stands.
    let e = HostPiece piece in
    elim (takes first (host_bytes events) (arrivals events) (record { all = stands.host; translates = stands.translates })) [
      | inl unput ↦ let b = unput-both first (host_half first) (client_half first) (host-sees first) old.host old.client events (host_bytes events) (client_bytes events) stands.host stands.client kept unput.kept in
          stops-still first (record old { host = kept }) t events e out_old out_new unput.nothing
          (stops-before first (record old { host = kept }) events e out_old.to_client out_old.to_host (record { translates = stands.translates; client = b.other_stands; host = b.own_stands })
          (inl (unput.some.0, sym stands.host.over_is ∙ unput.some.1)))
      | inr halted ↦ let b = halted-both first (host_half first) (client_half first) (host-sees first) old.host old.client events (host_bytes events) (client_bytes events) stands.host stands.client kept t piece out_old out_new halted in
          halted-event first (host_half first) kept t (record old { host = kept; translator = t }) events e (host_bytes events) piece out_old out_new refl halted (record { translates = halted.translates; client = b.other_stands; host = b.own_stands })
    ]

-- it stands somewhere
pub told-past : (old : Inner) → HasPast (kept_of old) → ∥ ((first : ℕ) × ((bytes : List ℕ) × ((before : List Item) × IsAt first (host_half first) old.host old.translator bytes before))) ∥₁
told-past old has = ∥∥₁_map has (λ w. (w.0, (host_bytes w.1.0, (arrivals w.1.0, record { all = w.1.1.host; translates = w.1.1.translates }))))
