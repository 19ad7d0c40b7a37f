-- What came straight into a side's stream: a piece like any other, or nothing.
use Rattle.std.proofs.Common.{◌≡◌, ◌<◌, ℕ, zero, suc, List, [], ◌∷◌, ◌++◌, take, Option, Some, None, IfSome, IsNone, IfOk, OnErr, Result, Ok, Err, refl, sym, ap, subst, ◌∙◌, arith}
use Rattle.std.proofs.Math.Logic.{∥∥₁_map}
use Rattle.std.proofs.lemmas.Bool.{true≢false}
use Rattle.usb_base.specs.declared.memory.Memory.{Memory}
use Rattle.usb_base.specs.declared.side.Side.{Side}
use Rattle.usb_base.specs.Number.{AreBytes}
use Rattle.usb_base.proofs.Numbers.{AreBytes-take}
use Rattle.packet_stream.specs.Streams.{StreamView}
use Rattle.packet_stream.specs.Takers.{TakenStream, TakesCome, TakesPiece as TakesBytes}
use Rattle.redir_wire.specs.declared.state.RedirState.{RedirState}
use Rattle.redir_wire.specs.declared.packet.Header.{Header}
use Rattle.redir_data.specs.declared.packet.RedirPacket.{RedirPacket}
use Rattle.usbip_urb.specs.declared.client.ClientPacket.{ClientPacket}
use Rattle.gate_history.specs.declared.note.Note.{Note}
use Rattle.gate_history.specs.step.Events.{PastEvent, ClientPiece, HostPiece}
use Rattle.gate_history.specs.Headline.{notes}
use Rattle.gate_parts.specs.declared.write.outputs.Outputs.{Outputs}
use Rattle.gate_core.specs.declared.state.kept.Kept.{Kept}
use Rattle.gate_core.specs.declared.step.inner.Inner.{Inner}
use Rattle.gate_core.specs.declared.step.taker.ItemTaker.{ItemTaker}
use Rattle.gate_core.specs.inner.step.Steps.{kept_of, told, left_by, TakesOn, TakesOrStops, TakesFrom}
use Rattle.gate_core.specs.inner.step.Takers.{Borrows}
use Rattle.gate_core.specs.state.Kept.{GateKept}
use Rattle.gate_core.specs.step.Stands.{GateStands, HasPast, IsReady, TakesEvent, StopsInEvent, piece_of}
use Rattle.gate_core.specs.step.Incoming.{TakesIncoming, TakesOrFails}
use Rattle.gate_core.proofs.lemmas.step.Halves.{TakesPiece}
use Rattle.gate_core.proofs.lemmas.step.Sides.{TakenSide, client_side, host_side}
use Rattle.gate_core.proofs.lemmas.step.Pieces.{taken_side, takes-piece, borrows-piece}
use Rattle.gate_core.proofs.lemmas.step.Event.{took-asked, took-told}

-- ---- what is borrowed, which is the same at the end

borrows-by : {S P : Type 0} (s : TakenSide S P) (r : Result (Unit {0}) Memory) (old new : TakenStream S ItemTaker) (piece : List ℕ) (count : ℕ) → (0 < count → TakesBytes (taken_side s) r old piece new) → (count ≡ 0 → new ≡ old) →
    Borrows old.taker new.taker
borrows-by {S = S} s r old new piece zero some nothing = subst (λ (x : TakenStream S ItemTaker). Borrows old.taker x.taker) (sym (nothing refl)) (record { translator = refl; out = refl })
borrows-by s r old new piece (suc n) some nothing = borrows-piece s r old new piece (some (omega arith))

pub borrows-come : {S P I : Type 0} (s : TakenSide S P) (gives : I → ℕ → List ℕ → I → Type 0) (limit : ℕ) (o : Option (Result (Unit {0}) Memory)) (old new : TakenStream S ItemTaker) (from left : I) →
    IfSome o (λ r. TakesCome (taken_side s) gives limit r old from new left) → (IsNone o → (new.stream ≡ old.stream) × (new.taker ≡ old.taker) × (left ≡ from)) → Borrows old.taker new.taker
borrows-come s gives limit None old new from left some none = subst (Borrows old.taker) (sym (none refl).1) (record { translator = refl; out = refl })
borrows-come s gives limit (Some r) old new from left come none = borrows-by s r old new (take come.count come.came.room) come.count come.some (λ nothing. (come.nothing nothing).1)

-- ---- a side's event

-- how the gate has a side: its stream, and what the gate is with another and another translator
pub record Way (S P : Type 0) : Type 0 where
  pub side : TakenSide S P
  pub event : List ℕ → PastEvent
  pub stream : Inner → StreamView S
  pub changed : Inner → StreamView S → Kept → Inner
  pub same : (old : Inner) → changed old (stream old) old.translator ≡ old
  pub took : (r : Result (Unit {0}) Memory) (old : Inner) (kept : StreamView S) (t : Kept) (piece : List ℕ) (out_old out_new : Outputs) → TakesPiece r side.half (stream old) kept old.translator t piece out_old out_new →
      TakesOrStops r old (changed old kept t) (event piece) out_old out_new

abbrev pub client_way : Way (Unit {0}) ClientPacket
client_way = record { side = client_side; event = ClientPiece; stream = λ g. g.client; changed = λ g kept t. record g { client = kept; translator = t }; same = λ old. refl; took = took-asked }

abbrev pub host_way : Way RedirState (Header × RedirPacket)
host_way = record { side = host_side; event = HostPiece; stream = λ g. g.host; changed = λ g kept t. record g { host = kept; translator = t }; same = λ old. refl; took = took-told }

-- the translator and the outputs are what the taker leaves behind them
pub takes-way : {S P : Type 0} (w : Way S P) (old : Inner) (a b : ItemTaker) (kept : StreamView S) (r : Result (Unit {0}) Memory) (t : Kept) (piece : List ℕ) (out : Outputs) → AreBytes piece →
    a.translator.now ≡ old.translator → t ≡ b.translator.now → out ≡ b.out.now → TakesBytes (taken_side w.side) r (record { stream = w.stream old; taker = a }) piece (record { stream = kept; taker = b }) →
    TakesOrStops r old (w.changed old kept t) (w.event piece) a.out.now out
takes-way w old a b kept r t piece out bytes was is sends takes =
    w.took r old kept t piece a.out.now out
    (subst (λ (k : Kept). TakesPiece r w.side.half (w.stream old) kept k t piece a.out.now out) was
    (takes-piece w.side r (record { stream = w.stream old; taker = a }) (record { stream = kept; taker = b }) t piece out bytes is sends takes))

pub takes-come : {S P I : Type 0} (w : Way S P) (old : Inner) (a b : ItemTaker) (kept : StreamView S) (gives : I → ℕ → List ℕ → I → Type 0) (limit : ℕ) (r : Result (Unit {0}) Memory) (t : Kept) (out : Outputs) (from left : I) →
    a.translator.now ≡ old.translator → t ≡ b.translator.now → out ≡ b.out.now →
    TakesCome (taken_side w.side) gives limit r (record { stream = w.stream old; taker = a }) from (record { stream = kept; taker = b }) left →
    TakesFrom w.event gives limit r old from a.out.now (w.changed old kept t) left out
takes-come {S = S} w old a b kept gives limit r t out from left was is sends come = record {
  count = come.count;
  came = come.came;
  some = λ more. takes-way w old a b kept r t (take come.count come.came.room) out (AreBytes-take come.count come.came.room come.came.bytes) was is sends (come.some more);
  nothing = λ none.
      let n = come.nothing none in
      let translator = is ∙ ap (λ (x : TakenStream S ItemTaker). x.taker.translator.now) n.1 in
      (n.0, (λ i. w.changed old (n.1 i).stream (translator i)) ∙ ap (w.changed old (w.stream old)) was ∙ w.same old, sends ∙ ap (λ (x : TakenStream S ItemTaker). x.taker.out.now) n.1);
}

-- ---- the gate's

abbrev pub lists : List ℕ → List ℕ → Outputs
lists client host = record { to_client = client; to_host = host; notes = [] }

-- an event that was taken, with its notes
pub event-told : (first : ℕ) (new : Inner) (events : List PastEvent) (e : PastEvent) (client host : List ℕ) (out : Outputs) → TakesOn first new events e (lists client host) out →
    TakesEvent first (kept_of new) events e client out.to_client host out.to_host out.notes
event-told first new events e client host out t = record {
  stands = t.stands;
  sends = record {
    client = t.sends.client;
    host = t.sends.host;
    notes-are = t.sends.told.after-is ∙ ap (λ (l : List Note). notes first events ++ l) (sym t.sends.told.new-is);
  };
}

-- that memory ran out is kept
pub event-stopped : (first : ℕ) (new : Inner) (memory : Memory) (events : List PastEvent) (e : PastEvent) (client_old client_new host_old host_new : List ℕ) → StopsInEvent first (kept_of new) events e client_old client_new host_old host_new →
    StopsInEvent first (kept_of (record new { want = Some memory })) events e client_old client_new host_old host_new
event-stopped first new memory events e client_old client_new host_old host_new s = record {
  taken = s.taken;
  later = s.later;
  parts = s.parts;
  seen = s.seen;
  seen-is = s.seen-is;
  wanted = s.wanted;
  stands = record { translates = s.stands.translates; client = s.stands.client; host = s.stands.host };
  client = s.client;
  host = s.host;
}

-- what an event tells that was taken so, and the gate behind it
pub event-tells : (taken : Result (Unit {0}) Memory) (old new : Inner) (e : PastEvent) (client host : List ℕ) (out : Outputs) → TakesOrStops taken old new e (lists client host) out →
    TakesOrFails (told taken out.notes) (kept_of old) (kept_of (left_by taken new)) e client out.to_client host out.to_host
event-tells (Ok v) old new e client host out takes = λ first events stands. event-told first new events e client host out (takes first events stands)
event-tells (Err memory) old new e client host out stops = (
  refl,
  λ first events stands. event-stopped first new memory events e client out.to_client host out.to_host (stops first events stands),
)

-- it stands for one event more, or has failed
pub event-ready : (taken : Result (Unit {0}) Memory) (old new : Inner) (e : PastEvent) (out_old out_new : Outputs) → HasPast (kept_of old) → TakesOrStops taken old new e out_old out_new → IsReady (kept_of (left_by taken new))
event-ready (Ok v) old new e out_old out_new past takes = λ works. ∥∥₁_map past (λ w. (w.0, (e ∷ w.1.0, (takes w.0 w.1.0 w.1.1).stands)))
event-ready (Err memory) old new e out_old out_new past stops = λ works. absurd (true≢false works)

pub incoming-tells : {I : Type 0} (gives : I → ℕ → List ℕ → I → Type 0) (side : Side) (limit : ℕ) (taken : Result (Unit {0}) Memory) (old new : Inner) (from left : I) (client host : List ℕ) (out : Outputs) →
    TakesFrom (piece_of side) gives limit taken old from (lists client host) new left out →
    TakesIncoming gives side limit (told taken out.notes) (kept_of old) from client host (kept_of (left_by taken new)) left out.to_client out.to_host
incoming-tells gives side limit taken old new from left client host out t = record {
  count = t.count;
  came = t.came;
  some = λ more. event-tells taken old new (piece_of side (take t.count t.came.room)) client host out (t.some more);
  nothing = λ none.
      let n = t.nothing none in
      ((λ i. told (n.0 i) (n.2 i).notes), (λ i. kept_of (left_by (n.0 i) (n.1 i))), ap (λ (o : Outputs). o.to_client) n.2, ap (λ (o : Outputs). o.to_host) n.2);
}

ready-by : (taken : Result (Unit {0}) Memory) (old new : Inner) (e : PastEvent) (out_old out_new : Outputs) (count : ℕ) → HasPast (kept_of old) → (0 < count → TakesOrStops taken old new e out_old out_new) →
    (count ≡ 0 → (taken ≡ Ok tt) × (new ≡ old) × (out_new ≡ out_old)) → IsReady (kept_of (left_by taken new))
ready-by taken old new e out_old out_new zero past some nothing =
    λ works. subst (λ (g : Inner). HasPast (kept_of g)) (sym (λ i. left_by ((nothing refl).0 i) ((nothing refl).1 i))) past
ready-by taken old new e out_old out_new (suc n) past some nothing = event-ready taken old new e out_old out_new past (some (omega arith))

pub incoming-ready : {I : Type 0} (gives : I → ℕ → List ℕ → I → Type 0) (event : List ℕ → PastEvent) (limit : ℕ) (taken : Result (Unit {0}) Memory) (old new : Inner) (from left : I) (out_old out_new : Outputs) → HasPast (kept_of old) →
    TakesFrom event gives limit taken old from out_old new left out_new → IsReady (kept_of (left_by taken new))
incoming-ready gives event limit taken old new from left out_old out_new past t =
    ready-by taken old new (event (take t.count t.came.room)) out_old out_new t.count past t.some t.nothing

-- ---- the two answers that tell it

pub ok-tells : (r : Result (List Note) Memory) (old new : GateKept) (e : PastEvent) (client_old client_new host_old host_new : List ℕ) → TakesOrFails r old new e client_old client_new host_old host_new →
    IfOk r (λ notes. (first : ℕ) (events : List PastEvent) → GateStands first old events → TakesEvent first new events e client_old client_new host_old host_new notes)
ok-tells (Ok notes) old new e client_old client_new host_old host_new takes = takes
ok-tells (Err memory) old new e client_old client_new host_old host_new stops = tt

pub err-tells : (r : Result (List Note) Memory) (old new : GateKept) (e : PastEvent) (client_old client_new host_old host_new : List ℕ) → TakesOrFails r old new e client_old client_new host_old host_new →
    OnErr r ((first : ℕ) (events : List PastEvent) → GateStands first old events → StopsInEvent first new events e client_old client_new host_old host_new)
err-tells (Ok notes) old new e client_old client_new host_old host_new takes = tt
err-tells (Err memory) old new e client_old client_new host_old host_new stops = stops.1
