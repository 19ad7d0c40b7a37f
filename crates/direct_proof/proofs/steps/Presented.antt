-- What the present client is sent by moves that bytes can make.
use Rattle.std.proofs.Common.{◌≡◌, ℕ, Bool, true, false, cond, List, [], ◌∷◌, ◌++◌, map, refl, sym, ap, ◌∙◌, subst, append-nil}
use Rattle.std.specs.List.{flat_map, AllByRecursion as Each}
use Rattle.usbip_urb.specs.declared.client.ClientPacket.{ClientPacket}
use Rattle.usbip_urb.specs.declared.packet.UrbPacket.{UrbPacket}
use Rattle.redir_data.specs.declared.packet.RedirPacket.{RedirPacket}
use Rattle.redir_data.specs.Sent.{sent_header}
use Rattle.model_device.specs.Gadget.{IsGadget}
use Rattle.model_device.specs.Meaning.{Meaning}
use Rattle.redir_host.specs.device.Offering.{told_offered}
use Rattle.redir_host.specs.guest.Packets.{packet_move}
use Rattle.redir_host.specs.device.Performing.{told_performed}
use Rattle.gate_history.specs.declared.item.Item.{Item as GateItem}
use Rattle.gate_history.specs.declared.item.Item.TheVariants.{Asked, ClientWrong, ClientLeft, Told, HostWrong, HostLeft}
use Rattle.gate_history.specs.step.Meaning.{mark_of}
use Rattle.gate_history.specs.step.Past.{is_left_out}
use Rattle.gate_history.specs.state.Sound.{IsSound}
use Rattle.gate_history.specs.state.State.{State}
use Rattle.direct_run.specs.Clients.{IsMove, present_outs, then_sent}
use Rattle.direct_run.specs.Moves.{World, Move, ByClient, HostReads, GateReads, Performs, Offers, Unplugs, first_world, gate_made, gate_move, gate_reads, host_reads, move, quiet, runs_from, as_items}
use Rattle.direct_run.specs.Noted.{item_of_host, offered_item, performed_item}
use Rattle.direct_run.proofs.Tellings.{move-alike, runs-alike}
use Rattle.direct_device.specs.Acting.{Deed}
use Rattle.direct_device.specs.Direct.{Direct, first_direct}
use Rattle.direct_device.specs.Legal.{acts, all_answers, item_of}
use Rattle.direct_proof.specs.Deeds.{as_deeds}
use Rattle.direct_proof.specs.Runs.{AreDirectly, IsRun, urb_in}
use Rattle.direct_proof.specs.Simulates.{RepliesFirst, since_import}
use Rattle.direct_proof.proofs.built.Built.{keep-any}
use Rattle.direct_proof.proofs.built.Schedules.{directly, first-view}
use Rattle.direct_proof.proofs.deeds.Same.{items-agree, unchanged}
use Rattle.direct_proof.proofs.meeting.First.{first_shared, first-related}
use Rattle.direct_proof.proofs.races.Gates.{run-sound, runs-run}
use Rattle.direct_proof.proofs.steps.Begun.{Begun, begun-mark}
use Rattle.direct_proof.proofs.steps.Replying.{IsNoEnd, item-says}
use Rattle.direct_proof.proofs.steps.Since.{IsPlain, host-plain, since-append, since-plain}

still : (since : List UrbPacket) (st : State) (packets : List ClientPacket) → Begun since st packets → Begun since st (packets ++ [])
still since st packets b = subst (Begun since st) (sym (append-nil packets)) b

module _ {S : Type 0} (m : Meaning S) (d : Direct S) (since : List UrbPacket) (w : World S) (packets : List ClientPacket) (sound : IsSound w.gate) (b : Begun since w.gate packets) where
  -- what is done at the host answers nothing
  by-host : (ds : List Deed) → Each IsPlain ds → [] ≡ all_answers m d ds → Begun (since_import m d since ds) w.gate (packets ++ [])
  by-host ds plain k = subst (λ (l : List UrbPacket). Begun l w.gate (packets ++ [])) (sym (since-plain m d since ds plain ∙ ap (λ (l : List UrbPacket). since ++ l) (sym k) ∙ append-nil since)) (still since w.gate packets b)

  begun-item : (x : GateItem) → IsNoEnd x → flat_map urb_in (gate_move as_deeds w x).outs ≡ all_answers m d (gate_move as_deeds w x).told → Begun (since_import m d since (gate_move as_deeds w x).told) (gate_move as_deeds w x).world.gate (packets ++ (gate_move as_deeds w x).outs)
  begun-item x end k = go (is_left_out w.gate x) refl k
    where
      go : (o : Bool) → is_left_out w.gate x ≡ o → flat_map urb_in (cond o (quiet w) (gate_made as_deeds w (mark_of w.gate x))).outs ≡ all_answers m d (cond o (quiet w) (gate_made as_deeds w (mark_of w.gate x))).told →
          Begun (since_import m d since (cond o (quiet w) (gate_made as_deeds w (mark_of w.gate x))).told) (cond o (quiet w) (gate_made as_deeds w (mark_of w.gate x))).world.gate (packets ++ (cond o (quiet w) (gate_made as_deeds w (mark_of w.gate x))).outs)
      go true h z = still since w.gate packets b
      go false h z = begun-mark m d since w.gate sound (mark_of w.gate x) packets (item-says w.gate x h end) z b

begun-move : {S : Type 0} (m : Meaning S) (d : Direct S) (since : List UrbPacket) (w : World S) (packets : List ClientPacket) → IsSound w.gate → Begun since w.gate packets → (x : Move) → flat_map urb_in (move as_deeds m w x).outs ≡ all_answers m d (move as_deeds m w x).told →
    Begun (since_import m d since (move as_deeds m w x).told) (move as_deeds m w x).world.gate (then_sent x packets (move as_deeds m w x).outs)
begun-move m d since w packets sound b (ByClient (Asked place packet)) k = begun-item m d since w packets sound b (Asked place packet) tt k
begun-move m d since w packets sound b (ByClient (ClientWrong place reason)) k = begun-item m d since w packets sound b (ClientWrong place reason) tt k
begun-move m d since w packets sound b (ByClient ClientLeft) k = record { ops = []; urbs = []; are = refl; none = λ i o. refl; given = refl; inside = λ i. absurd (cc) }
begun-move m d since w packets sound b (ByClient (Told place header packet)) k = begun-item m d since w packets sound b (Told place header packet) tt k
begun-move m d since w packets sound b (ByClient (HostWrong place reason)) k = begun-item m d since w packets sound b (HostWrong place reason) tt k
begun-move m d since w packets sound b (ByClient HostLeft) k = begun-item m d since w packets sound b HostLeft tt k
begun-move {S = S} m d since w packets sound b HostReads k = go w.to_host k
  where
    go : (ps : List (ℕ × RedirPacket)) → flat_map urb_in (host_reads as_deeds m w ps).outs ≡ all_answers m d (host_reads as_deeds m w ps).told → Begun (since_import m d since (host_reads as_deeds m w ps).told) (host_reads as_deeds m w ps).world.gate (packets ++ (host_reads as_deeds m w ps).outs)
    go [] z = still since w.gate packets b
    go (p ∷ ps) z = by-host m d since w packets sound b (host_reads as_deeds m w (p ∷ ps)).told (host-plain (flat_map (item_of_host w.submits) (packet_move m w.host p.0 p.1).notes)) z
begun-move {S = S} m d since w packets sound b (GateReads place) k = go w.to_gate k
  where
    go : (ps : List (ℕ × RedirPacket)) → flat_map urb_in (gate_reads as_deeds w place ps).outs ≡ all_answers m d (gate_reads as_deeds w place ps).told → Begun (since_import m d since (gate_reads as_deeds w place ps).told) (gate_reads as_deeds w place ps).world.gate (packets ++ (gate_reads as_deeds w place ps).outs)
    go [] z = still since w.gate packets b
    go (p ∷ ps) z = begun-item m d since (record w { to_gate = ps }) packets sound b (Told place (sent_header w.gate.sides.agreed p) p.1) tt z
begun-move m d since w packets sound b (Performs ep) k = by-host m d since w packets sound b (move as_deeds m w (Performs ep)).told (host-plain (performed_item w.submits ep (told_performed m w.host ep))) k
begun-move m d since w packets sound b (Offers ep) k = by-host m d since w packets sound b (move as_deeds m w (Offers ep)).told (host-plain (offered_item ep (told_offered m w.host ep))) k
begun-move m d since w packets sound b Unplugs k = still since w.gate packets b

begun-runs : {S : Type 0} (m : Meaning S) → IsGadget m → (s : S) (xs : List Move) → Each IsMove xs →
    Begun (since_import m (first_direct s) [] (runs_from as_deeds m (first_world s) xs).told) (runs_from as_deeds m (first_world s) xs).world.gate (present_outs m s xs)
begun-runs m laws s [] are = record { ops = []; urbs = []; are = refl; none = λ i o. refl; given = refl; inside = λ i. absurd (cc) }
begun-runs {S = S} m laws s (x ∷ xs) are =
    subst (λ (l : List UrbPacket). Begun l (move as_deeds m w x).world.gate (present_outs m s (x ∷ xs))) (sym (since-append m (first_direct s) [] ds (move as_deeds m w x).told))
    (subst (λ (l : List ClientPacket). Begun (since_import m (acts m (first_direct s) ds) (since_import m (first_direct s) [] ds) (move as_deeds m w x).told) (move as_deeds m w x).world.gate (then_sent x (present_outs m s xs) l)) outs
    (begun-move m (acts m (first_direct s) ds) (since_import m (first_direct s) [] ds) w (present_outs m s xs) (run-sound w.gate run) (begun-runs m laws s xs are.1) x k))
  where
    w : World S
    w = (runs_from as_deeds m (first_world s) xs).world

    ds : List Deed
    ds = (runs_from as_deeds m (first_world s) xs).told

    run : IsRun w.gate
    run = runs-run m (first_world s) ([], refl) xs

    end : AreDirectly m (first_world s) first_shared xs
    end = directly m laws (first_world s) first_shared (first-related m s) ([], refl) xs are.1

    k : flat_map urb_in (move as_deeds m w x).outs ≡ all_answers m (acts m (first_direct s) ds) (move as_deeds m w x).told
    k = (keep-any m laws w end.later run end.related x are.0).outs ∙ ap (λ (d : Direct S). all_answers m d (move as_deeds m w x).told) (sym end.same ∙ ap (λ (d : Direct S). acts m d ds) (first-view s))

    outs : (move as_deeds m w x).outs ≡ (move as_items m (runs_from as_items m (first_world s) xs).world x).outs
    outs = (move-alike (map item_of) unchanged as_deeds as_items items-agree m w x).outs ∙ ap (λ (v : World S). (move as_items m v x).outs) (runs-alike (map item_of) unchanged as_deeds as_items items-agree m (first_world s) xs).world

pub replies-first : {S : Type 0} (m : Meaning S) → IsGadget m → (s : S) (xs : List Move) → Each IsMove xs → RepliesFirst m s (runs_from as_deeds m (first_world s) xs).told (present_outs m s xs)
replies-first m laws s xs are = let b = begun-runs m laws s xs are in record { replies = b.ops; answers = b.urbs; packets-are = b.are; answers-are = b.given }
