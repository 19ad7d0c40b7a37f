-- Several moves one after another: all items of an event, and all packets that a piece has brought to either side.
use Rattle.std.proofs.Common.{◌≡◌, ℕ, Bool, true, false, cond, List, [], ◌∷◌, ◌++◌, map, refl, sym, ap, ◌∙◌, append-nil, append_assoc, fold}
use Rattle.std.specs.List.{flat_map}
use Rattle.std.proofs.lemmas.Grind.{flat_map-append}
use Rattle.redir_wire.specs.declared.packet.Header.{Header}
use Rattle.redir_data.specs.declared.packet.RedirPacket.{RedirPacket}
use Rattle.redir_data.specs.Sent.{sent_header}
use Rattle.packet_stream.specs.Items.{onto}
use Rattle.model_device.specs.Meaning.{Meaning}
use Rattle.redir_host.proofs.lemmas.guest.Pieces.{asked}
use Rattle.redir_host.specs.step.Items.{Item as HostItem}
use Rattle.redir_host.specs.step.Machine.{move as host_move, notes_of as host_notes_of, given_by as host_given, step as host_step}
use Rattle.gate_history.specs.declared.item.Item.{Item}
use Rattle.gate_history.specs.declared.item.Item.TheVariants.{Told}
use Rattle.gate_history.specs.write.Output.{to_client, to_host}
use Rattle.gate_history.specs.write.Notes.{notes_of}
use Rattle.gate_history.specs.step.Meaning.{mark_of}
use Rattle.gate_history.specs.step.Past.{is_left_out}
use Rattle.gate_history.specs.step.Machine.{with_mark, step, given, steps, given_by}
use Rattle.direct_run.specs.declared.item.Item.{Item as RunItem}
use Rattle.direct_run.specs.declared.submitted.Submitted.{Submitted}
use Rattle.direct_run.specs.Moves.{World, Made, Telling, Move, ByClient, HostReads, GateReads, as_items, as_submits, first_world, quiet, then_made, gate_made, gate_move, host_reads, move, run}
use Rattle.direct_run.specs.Noted.{item_of_host, named}
use Rattle.direct_run.specs.Packets.{Found, bare, bares}
use Rattle.direct_run.proofs.Comes.{told_item, Heads}
use Rattle.direct_run.proofs.Tellings.{nothing, any-agree, runs-alike}

-- ---- moves, the first that comes first

abbrev pub made_by : {S T : Type 0} → Telling T → Meaning S → World S → List Move → Made S T
made_by t m w [] = quiet w
made_by t m w (x ∷ xs) = then_made (move t m w x) (made_by t m (move t m w x).world xs)

then-quiet : {S T : Type 0} (x : Made S T) → x ≡ then_made x (quiet x.world)
then-quiet x = λ i. record { world = x.world; outs = sym (append-nil x.outs) i; told = sym (append-nil x.told) i }

then-assoc : {S T : Type 0} (x y z : Made S T) → then_made (then_made x y) z ≡ then_made x (then_made y z)
then-assoc x y z = λ i. record { world = z.world; outs = append_assoc x.outs y.outs z.outs i; told = append_assoc x.told y.told z.told i }

run-onto : {S T : Type 0} (t : Telling T) (m : Meaning S) (s : S) (xs before : List Move) → run t m s (onto xs before) ≡ then_made (run t m s before) (made_by t m (run t m s before).world xs)
run-onto t m s [] before = then-quiet (run t m s before)
run-onto t m s (x ∷ xs) before =
    let was = run t m s before in
    run-onto t m s xs (x ∷ before) ∙ then-assoc was (move t m was.world x) (made_by t m (move t m was.world x).world xs)

-- the world is that of the items, whatever is told
pub told-onto : {S T : Type 0} (t : Telling T) (m : Meaning S) (s : S) (xs before : List Move) → run t m s (onto xs before) ≡ then_made (run t m s before) (made_by t m (run as_items m s before).world xs)
told-onto {S = S} t m s xs before =
    run-onto t m s xs before
    ∙ ap (λ (w : World S). then_made (run t m s before) (made_by t m w xs)) (runs-alike nothing nothing t as_items (any-agree t as_items) m (first_world s) before).world

-- ---- the gateway's

abbrev pub gate_one : {S T : Type 0} → Telling T → World S → Item → Made S T
gate_one t w x = record {
  world = record w { gate = step w.gate x; to_host = w.to_host ++ given to_host w.gate x; submits = w.submits ++ flat_map named (given notes_of w.gate x) };
  outs = given to_client w.gate x;
  told = given t.by_gate w.gate x;
}

abbrev pub gate_all : {S T : Type 0} → Telling T → World S → List Item → Made S T
gate_all t w xs = record {
  world = record w { gate = steps w.gate xs; to_host = w.to_host ++ given_by to_host w.gate xs; submits = w.submits ++ flat_map named (given_by notes_of w.gate xs) };
  outs = given_by to_client w.gate xs;
  told = given_by t.by_gate w.gate xs;
}

abbrev one_by : {S T : Type 0} → Telling T → World S → Item → Bool → Made S T
one_by t w x b = record {
  world = record w { gate = cond b w.gate (with_mark w.gate (mark_of w.gate x)); to_host = w.to_host ++ cond b [] (to_host w.gate (mark_of w.gate x)); submits = w.submits ++ flat_map named (cond b [] (notes_of w.gate (mark_of w.gate x))) };
  outs = cond b [] (to_client w.gate (mark_of w.gate x));
  told = cond b [] (t.by_gate w.gate (mark_of w.gate x));
}

one-is : {S T : Type 0} (t : Telling T) (w : World S) (x : Item) → gate_move t w x ≡ gate_one t w x
one-is t w x =
    elim (is_left_out w.gate x) as (λ (b : Bool). cond b (quiet w) (gate_made t w (mark_of w.gate x)) ≡ one_by t w x b) [
      | true ↦ (λ i. record { world = record w { to_host = sym (append-nil w.to_host) i; submits = sym (append-nil w.submits) i }; outs = []; told = [] })
      | false ↦ refl
    ]

none-more : {S T : Type 0} (t : Telling T) (w : World S) → quiet w ≡ gate_all t w []
none-more t w = λ i. record { world = record w { to_host = sym (append-nil w.to_host) i; submits = sym (append-nil w.submits) i }; outs = []; told = [] }

one-more : {S T : Type 0} (t : Telling T) (w : World S) (x : Item) (xs : List Item) → then_made (gate_one t w x) (gate_all t (gate_one t w x).world xs) ≡ gate_all t w (x ∷ xs)
one-more t w x xs = λ i. record {
  world = record w {
    gate = steps w.gate (x ∷ xs);
    to_host = append_assoc w.to_host (given to_host w.gate x) (given_by to_host (step w.gate x) xs) i;
    submits = (append_assoc w.submits (flat_map named (given notes_of w.gate x)) (flat_map named (given_by notes_of (step w.gate x) xs))
        ∙ ap (λ (l : List Submitted). w.submits ++ l) (sym (flat_map-append named (given notes_of w.gate x) (given_by notes_of (step w.gate x) xs)))) i;
  };
  outs = given_by to_client w.gate (x ∷ xs);
  told = given_by t.by_gate w.gate (x ∷ xs);
}

pub client-moves : {S T : Type 0} (t : Telling T) (m : Meaning S) (w : World S) (xs : List Item) → made_by t m w (map ByClient xs) ≡ gate_all t w xs
client-moves t m w [] = none-more t w
client-moves {S = S} {T = T} t m w (x ∷ xs) =
    ap (λ (y : Made S T). then_made y (made_by t m y.world (map ByClient xs))) (one-is t w x)
    ∙ ap (then_made (gate_one t w x)) (client-moves t m (gate_one t w x).world xs)
    ∙ one-more t w x xs

pub told-moves : {S T : Type 0} (t : Telling T) (m : Meaning S) (w : World S) (is : List Found) (later : List (ℕ × RedirPacket)) → Heads w.gate is →
    made_by t m (record w { to_gate = bares is ++ later }) (map (λ (i : Found). GateReads i.0) is) ≡ gate_all t (record w { to_gate = later }) (map told_item is)
told-moves t m w [] later h = none-more t (record w { to_gate = later })
told-moves {S = S} {T = T} t m w (i ∷ is) later h =
    let v : World S = record w { to_gate = bares is ++ later } in
    let read : gate_move t v (Told i.0 (sent_header w.gate.sides.agreed (bare i.1)) i.1.1) ≡ gate_one t v (told_item i) = ap (λ (x : Header). gate_move t v (Told i.0 x i.1.1)) (sym h.0) ∙ one-is t v (told_item i) in
    ap (λ (y : Made S T). then_made y (made_by t m y.world (map (λ (j : Found). GateReads j.0) is))) read
    ∙ ap (then_made (gate_one t v (told_item i))) (told-moves t m (gate_one t v (told_item i)).world is later h.1)
    ∙ one-more t (record w { to_gate = later }) (told_item i) (map told_item is)

-- ---- the host's

abbrev pub host_all : {S : Type 0} → Meaning S → World S → List HostItem → Made S RunItem
host_all m w xs = record {
  world = record w { host = fold (host_step m) w.host xs; to_gate = w.to_gate ++ host_given (λ v. v.sent) m w.host xs };
  outs = [];
  told = flat_map (item_of_host w.submits) (host_given host_notes_of m w.host xs);
}

pub asked-moves : {S : Type 0} (m : Meaning S) (w : World S) (is : List Found) (later : List (ℕ × RedirPacket)) →
    made_by as_items m (record w { to_host = bares is ++ later }) (map (λ (i : Found). HostReads) is) ≡ host_all m (record w { to_host = later }) (map asked is)
asked-moves m w [] later = λ i. record { world = record w { to_host = later; to_gate = sym (append-nil w.to_gate) i }; outs = []; told = [] }
asked-moves {S = S} m w (i ∷ is) later =
    let v = host_move m w.host (asked i) in
    let w1 : World S = record w { host = v.host; to_gate = w.to_gate ++ v.sent } in
    let more = host_given (λ v. v.sent) m v.host (map asked is) in
    let notes = host_given host_notes_of m v.host (map asked is) in
    ap (then_made (record { world = record w1 { to_host = bares is ++ later }; outs = []; told = flat_map (item_of_host w.submits) v.notes })) (asked-moves m w1 is later)
    ∙ (λ j. record {
      world = record w { host = fold (host_step m) v.host (map asked is); to_host = later; to_gate = append_assoc w.to_gate v.sent more j };
      outs = [];
      told = sym (flat_map-append (item_of_host w.submits) v.notes notes) j;
    })

-- what the host reads is accepted by nobody
pub asked-submits : {S : Type 0} (m : Meaning S) (w : World S) (is : List Found) → (made_by as_submits m w (map (λ (i : Found). HostReads) is)).told ≡ []
asked-submits m w [] = refl
asked-submits {S = S} m w (i ∷ is) = λ j. none w.to_host j ++ asked-submits m (move as_submits m w HostReads).world is j
  where
    none : (ps : List (ℕ × RedirPacket)) → (host_reads as_submits m w ps).told ≡ []
    none [] = refl
    none (p ∷ ps) = refl
