-- How a course goes on where a list of moves follows it: an event's items, and the packets that a piece has brought to
-- either side, are one move each.
use Rattle.std.proofs.Common.{◌≡◌, ℕ, ◌||◌, false, List, [], ◌∷◌, ◌++◌, map, take, refl, sym, ap, ◌∙◌, subst, append-nil, append_assoc, fold}
use Rattle.std.specs.List.{flat_map, list_any}
use Rattle.std.proofs.lemmas.List.Folds.{list_any-append}
use Rattle.std.proofs.lemmas.List.{append_cancel_left, map-append}
use Rattle.redir_data.specs.declared.packet.RedirPacket.{RedirPacket}
use Rattle.packet_stream.specs.Items.{onto}
use Rattle.model_device.specs.Meaning.{Meaning}
use Rattle.redir_host.specs.declared.state.host.Host.{Host}
use Rattle.redir_host.specs.step.Acts.{Act, Piece}
use Rattle.redir_host.proofs.lemmas.guest.Pieces.{asked}
use Rattle.redir_host.specs.step.History.{brought as act_brought, history as host_history}
use Rattle.redir_host.specs.step.Machine.{is_refusal, notes_of as host_notes_of, given_by as host_given, all_given as host_all_given, step as host_step}
use Rattle.redir_host.specs.write.Output.{first_packet, host_of}
use Rattle.gate_history.proofs.lemmas.Lists.{Each}
use Rattle.redir_host.proofs.lemmas.step.Acts.{act-host, act-gives}
use Rattle.gate_history.specs.step.Events.{PastEvent, ClientPiece, HostPiece}
use Rattle.gate_history.specs.step.Marks.{Submission}
use Rattle.gate_history.specs.step.History.{brought, arrivals}
use Rattle.gate_history.specs.declared.item.Item.{Item as GateItem}
use Rattle.gate_history.specs.write.Notes.{notes_of}
use Rattle.gate_history.specs.write.Output.{to_client}
use Rattle.gate_history.specs.step.Machine.{given_by}
use Rattle.gate_history.specs.state.State.{State}
use Rattle.gate_history.proofs.lemmas.step.Runs.{state-run}
use Rattle.direct_run.specs.declared.item.Item.{Item}
use Rattle.direct_run.specs.Clients.{IsMove, present, present_outs}
use Rattle.direct_run.specs.Follows.{FollowsCourse, AreMoves}
use Rattle.direct_run.specs.Moves.{World, Made, Telling, Move, ByClient, HostReads, GateReads, as_items, as_submits, then_made, run}
use Rattle.direct_run.specs.Noted.{item_of, item_of_host}
use Rattle.direct_run.specs.Packets.{Found, bare, bares, read_by_host, read_by_gate, sent_by_host}
use Rattle.direct_run.specs.Trace.{submits_of, given_of, act_items}
use Rattle.direct_run.specs.World.{Course, first_id, happened, acted, wire_to_host, wire_to_gate}
use Rattle.direct_run.proofs.Brought.{IsPieceItem, each-onto, Stays, piece-stays, present-onto}
use Rattle.direct_run.proofs.Comes.{Heads, heads}
use Rattle.direct_run.proofs.Flowing.{GetsToGate, GetsToHost}
use Rattle.direct_run.proofs.Flows.{Flows}
use Rattle.direct_run.proofs.Following.{follows-event, host_gives, follows-act}
use Rattle.direct_run.proofs.Heard.{IsRight, accepts-all}
use Rattle.direct_run.proofs.Several.{made_by, told-onto, gate_all, client-moves, told-moves, asked-moves, asked-submits}

-- a host that has refused nothing refuses nothing of an act more whose items have no wrong place
pub unrefused-more : {S : Type 0} (m : Meaning S) (s : S) (acts : List Act) (a : Act) → Each IsRight (act_brought acts a) → list_any is_refusal (host_all_given host_notes_of m s (host_history acts)) ≡ false →
    list_any is_refusal (host_all_given host_notes_of m s (host_history (a ∷ acts))) ≡ false
unrefused-more m s acts a right before =
    ap (list_any is_refusal) (act-gives host_notes_of m s acts a)
    ∙ list_any-append is_refusal (host_all_given host_notes_of m s (host_history acts)) (host_given host_notes_of m (host_of m s acts) (act_brought acts a))
    ∙ (λ i. before i || accepts-all m (host_of m s acts) (act_brought acts a) right i)

asked-right : (is : List Found) → Each IsRight (map asked is)
asked-right [] = tt
asked-right (i ∷ is) = (tt, asked-right is)

bares-back : (xs ys : List Found) (later : List (ℕ × RedirPacket)) → bares xs ++ (bares ys ++ later) ≡ bares (xs ++ ys) ++ later
bares-back xs ys later = sym (append_assoc (bares xs) (bares ys) later) ∙ ap (λ (l : List (ℕ × RedirPacket)). l ++ later) (sym (map-append (λ (i : Found). bare i.1) xs ys))

told-legal : (is : List Found) → Each IsMove (map (λ (i : Found). GateReads i.0) is)
told-legal [] = tt
told-legal (i ∷ is) = (tt, told-legal is)

told-stays : (is : List Found) → Each Stays (map (λ (i : Found). GateReads i.0) is)
told-stays [] = tt
told-stays (i ∷ is) = ((λ before more. refl), told-stays is)

asked-legal : (is : List Found) → Each IsMove (map (λ (i : Found). HostReads) is)
asked-legal [] = tt
asked-legal (i ∷ is) = (tt, asked-legal is)

asked-stays : (is : List Found) → Each Stays (map (λ (i : Found). HostReads) is)
asked-stays [] = tt
asked-stays (i ∷ is) = ((λ before more. refl), asked-stays is)

-- ---- events

-- moves behind others follow an event more where they make what its items make
follows-moves : {S : Type 0} (m : Meaning S) (s : S) (c : Course) (items : List Item) (e : PastEvent) (later : List (ℕ × RedirPacket)) (ms : List Move) (h : AreMoves m s c items) →
    made_by as_items m (run as_items m s h.moves).world ms ≡ gate_all as_items (record (run as_items m s h.moves).world { to_gate = later }) (brought c.events e) →
    made_by as_submits m (run as_items m s h.moves).world ms ≡ gate_all as_submits (record (run as_items m s h.moves).world { to_gate = later }) (brought c.events e) →
    first_packet ∷ sent_by_host m s c ≡ bares (read_by_gate (happened c e)) ++ later →
    FollowsCourse m s (happened c e) (items ++ flat_map item_of (given_of notes_of c.events e)) (run as_items m s (onto ms h.moves)) (run as_submits m s (onto ms h.moves)).told
follows-moves {S = S} m s c items e later ms h told submitted rest =
    let r = run as_items m s h.moves in
    let o = run as_submits m s h.moves in
    let new = items ++ flat_map item_of (given_of notes_of c.events e) in
    let made : run as_items m s (onto ms h.moves) ≡ then_made r (gate_all as_items (record r.world { to_gate = later }) (brought c.events e)) = told-onto as_items m s ms h.moves ∙ ap (then_made r) told in
    let more : (run as_submits m s (onto ms h.moves)).told ≡ o.told ++ given_by as_submits.by_gate r.world.gate (brought c.events e) = ap (λ (y : Made S Submission). y.told) (told-onto as_submits m s ms h.moves ∙ ap (then_made o) submitted) in
    subst (FollowsCourse m s (happened c e) new (run as_items m s (onto ms h.moves))) (sym more)
    (subst (λ (y : Made S Item). FollowsCourse m s (happened c e) new y (o.told ++ given_by as_submits.by_gate r.world.gate (brought c.events e))) (sym made) (follows-event m s c items r o.told e later h.follows rest))

pub moved-event : {S : Type 0} (m : Meaning S) (s : S) (c : Course) (items : List Item) (e : PastEvent) → read_by_gate (happened c e) ≡ read_by_gate c → Each IsMove (map ByClient (brought c.events e)) → (h : AreMoves m s c items) →
    present (e ∷ c.events) ≡ present_outs m s (onto (map ByClient (brought c.events e)) h.moves) → AreMoves m s (happened c e) (items ++ flat_map item_of (given_of notes_of c.events e))
moved-event {S = S} m s c items e same legal h is-present =
    let w : World S = (run as_items m s h.moves).world in
    let xs = brought c.events e in
    record {
      moves = onto (map ByClient xs) h.moves;
      follows = follows-moves m s c items e w.to_gate (map ByClient xs) h (client-moves as_items m w xs) (client-moves as_submits m w xs)
          (h.follows.to_gate ∙ ap (λ (l : List Found). bares l ++ w.to_gate) (sym same));
      legal = each-onto (map ByClient xs) h.moves legal h.legal;
      present-is = is-present;
      unrefused = h.unrefused;
    }

pub piece-present : {S : Type 0} (m : Meaning S) (s : S) (c : Course) (items : List Item) (b : List ℕ) → Each IsPieceItem (brought c.events (ClientPiece b)) → (h : AreMoves m s c items) →
    present (ClientPiece b ∷ c.events) ≡ present_outs m s (onto (map ByClient (brought c.events (ClientPiece b))) h.moves)
piece-present {S = S} m s c items b fits h =
    let w : World S = (run as_items m s h.moves).world in
    let xs = brought c.events (ClientPiece b) in
    (λ i. h.present-is i ++ given_by to_client (sym h.follows.gate i) xs)
    ∙ ap (λ (y : Made S Item). present_outs m s h.moves ++ y.outs) (sym (client-moves as_items m w xs))
    ∙ sym (present-onto m s (map ByClient xs) h.moves (piece-stays xs fits))

pub moved-told : {S : Type 0} (m : Meaning S) (s : S) (c : Course) (items : List Item) (n : ℕ) → GetsToGate m s c n → Flows m s c → AreMoves m s c items →
    AreMoves m s (happened c (HostPiece (take n (wire_to_gate m s c)))) (items ++ flat_map item_of (given_of notes_of c.events (HostPiece (take n (wire_to_gate m s c)))))
moved-told {S = S} m s c items n g f h = record {
  moves = onto ms h.moves;
  follows = follows-moves m s c items e g.later ms h (all as_items) (all as_submits) (g.all-are ∙ bares-back (read_by_gate c) g.fresh g.later ∙ ap (λ (l : List Found). bares l ++ g.later) (sym g.packets-are));
  legal = each-onto ms h.moves (told-legal g.fresh) h.legal;
  present-is = (λ i. h.present-is i ++ given_by to_client (sym h.follows.gate i) (brought c.events e))
      ∙ ap (λ (y : Made S Item). present_outs m s h.moves ++ y.outs) (sym (all as_items))
      ∙ sym (present-onto m s ms h.moves (told-stays g.fresh));
  unrefused = h.unrefused;
}
  where
    w : World S
    w = (run as_items m s h.moves).world

    e : PastEvent
    e = HostPiece (take n (wire_to_gate m s c))

    ms : List Move
    ms = map (λ (i : Found). GateReads i.0) g.fresh

    wire : w.to_gate ≡ bares g.fresh ++ g.later
    wire = append_cancel_left (bares (read_by_gate c)) w.to_gate (bares g.fresh ++ g.later) (sym h.follows.to_gate ∙ g.all-are)

    headed : Heads w.gate g.fresh
    headed = subst (λ (st : State). Heads st g.fresh) (sym (h.follows.gate ∙ state-run first_id (arrivals c.events))) (heads first_id (read_by_gate c) g.fresh (arrivals c.events) g.come f.meets)

    all : {T : Type 0} (t : Telling T) → made_by t m w ms ≡ gate_all t (record w { to_gate = g.later }) (brought c.events e)
    all t =
        ap (λ (l : List (ℕ × RedirPacket)). made_by t m (record w { to_gate = l }) ms) wire
        ∙ told-moves t m w g.fresh g.later headed
        ∙ ap (λ (xs : List GateItem). gate_all t (record w { to_gate = g.later }) xs) (sym g.brought-is)

-- ---- acts

pub moved-asked : {S : Type 0} (m : Meaning S) (s : S) (c : Course) (items : List Item) (n : ℕ) → GetsToHost c n → AreMoves m s c items →
    AreMoves m s (acted c (Piece (take n (wire_to_host c)))) (items ++ act_items m s c.acts (submits_of c.events) (Piece (take n (wire_to_host c))))
moved-asked {S = S} m s c items n g h =
    let r = run as_items m s h.moves in
    let o = run as_submits m s h.moves in
    let w : World S = r.world in
    let a = Piece (take n (wire_to_host c)) in
    let ms = map (λ (i : Found). HostReads) g.fresh in
    let xs = map asked g.fresh in
    let wire : w.to_host ≡ bares g.fresh ++ g.later = append_cancel_left (bares (read_by_host c)) w.to_host (bares g.fresh ++ g.later) (sym h.follows.to_host ∙ g.all-are) in
    let new : Host S = fold (host_step m) w.host xs in
    let more = items ++ act_items m s c.acts (submits_of c.events) a in
    let told = flat_map (item_of_host w.submits) (host_given host_notes_of m w.host xs) in
    let sent = host_given (λ v. v.sent) m w.host xs in
    let all : made_by as_items m w ms ≡ host_gives w new sent g.later told = ap (λ (l : List (ℕ × RedirPacket)). made_by as_items m (record w { to_host = l }) ms) wire ∙ asked-moves m w g.fresh g.later in
    let made : run as_items m s (onto ms h.moves) ≡ then_made r (host_gives w new sent g.later told) = told-onto as_items m s ms h.moves ∙ ap (then_made r) all in
    let none : (run as_submits m s (onto ms h.moves)).told ≡ o.told ++ [] = ap (λ (y : Made S Submission). y.told) (told-onto as_submits m s ms h.moves) ∙ ap (λ (l : List Submission). o.told ++ l) (asked-submits m w g.fresh) in
    record {
      moves = onto ms h.moves;
      follows = subst (FollowsCourse m s (acted c a) more (run as_items m s (onto ms h.moves))) (sym none) (subst (λ (y : Made S Item). FollowsCourse m s (acted c a) more y (o.told ++ [])) (sym made)
          (follows-act m s c items (act_items m s c.acts (submits_of c.events) a) r o.told a new sent g.later told h.follows
          ((λ i. fold (host_step m) (h.follows.host i) (sym g.brought-is i)) ∙ sym (act-host m s c.acts a))
          (λ i. host_given (λ v. v.sent) m (h.follows.host i) (sym g.brought-is i))
          (g.all-are ∙ bares-back (read_by_host c) g.fresh g.later ∙ ap (λ (l : List Found). bares l ++ g.later) (sym g.packets-are))
          (λ i. flat_map (item_of_host (h.follows.submits i)) (host_given host_notes_of m (h.follows.host i) (sym g.brought-is i)))));
      legal = each-onto ms h.moves (asked-legal g.fresh) h.legal;
      present-is = h.present-is ∙ sym (append-nil (present_outs m s h.moves))
          ∙ ap (λ (y : Made S Item). present_outs m s h.moves ++ y.outs) (sym all)
          ∙ sym (present-onto m s ms h.moves (asked-stays g.fresh));
      unrefused = unrefused-more m s c.acts a (subst (Each IsRight) (sym g.brought-is) (asked-right g.fresh)) h.unrefused;
    }
