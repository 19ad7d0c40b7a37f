-- Bytes to packets: each list of steps has a list of moves that follows it.
use Rattle.std.proofs.Common.{ℕ, List, [], ◌∷◌, ◌++◌, refl, sym, ap, ◌∙◌, append-nil}
use Rattle.model_device.specs.Meaning.{Meaning}
use Rattle.redir_host.specs.declared.state.host.Host.{Host}
use Rattle.redir_host.specs.step.Acts.{Perform as PerformAct, Offer as OfferAct, Unplug as UnplugAct}
use Rattle.redir_host.specs.device.Offering.{offer_move, told_offered, unplug_move}
use Rattle.redir_host.specs.write.Output.{host_of}
use Rattle.redir_host.specs.device.Performing.{perform_move, told_performed}
use Rattle.gate_history.specs.step.Events.{ClientPiece, ClientEnd as ClientEnds}
use Rattle.gate_history.specs.step.History.{brought}
use Rattle.direct_run.specs.declared.item.Item.{Item}
use Rattle.direct_run.specs.Clients.{present_outs}
use Rattle.direct_run.specs.Follows.{AreMoves}
use Rattle.direct_run.specs.Known.{IsKnown}
use Rattle.direct_run.specs.Moves.{World, Performs, Offers, Unplugs, as_items, as_submits, run}
use Rattle.direct_run.specs.Noted.{performed_item, offered_item}
use Rattle.direct_run.specs.Steps.{PastStep, Client, ClientEnd, ToHost as StepToHost, ToGate as StepToGate, Perform, Offer, Unplug}
use Rattle.direct_run.specs.Trace.{submits_of, told_by, trace}
use Rattle.direct_run.specs.World.{Course, acted, after_step, course}
use Rattle.direct_run.proofs.Brought.{piece-fits, piece-moves}
use Rattle.direct_run.proofs.Flows.{Flows}
use Rattle.direct_run.proofs.Flown.{next-to-host, next-to-gate, known-before, flows-steps}
use Rattle.direct_run.proofs.Following.{follows-first, follows-act}
use Rattle.direct_run.proofs.Moved.{unrefused-more, moved-event, piece-present, moved-told, moved-asked}

-- ---- what is done with the device

moved-perform : {S : Type 0} (m : Meaning S) (s : S) (c : Course) (items : List Item) (ep : ℕ) → AreMoves m s c items →
    AreMoves m s (acted c (PerformAct ep)) (items ++ performed_item (submits_of c.events) ep (told_performed m (host_of m s c.acts) ep))
moved-perform {S = S} m s c items ep h =
    let w : World S = (run as_items m s h.moves).world in
    let v = perform_move m w.host ep in
    record {
      moves = Performs ep ∷ h.moves;
      follows = follows-act m s c items (performed_item (submits_of c.events) ep (told_performed m (host_of m s c.acts) ep)) (run as_items m s h.moves) (run as_submits m s h.moves).told (PerformAct ep) v.host v.sent w.to_host (performed_item w.submits ep (told_performed m w.host ep)) h.follows
          (ap (λ (k : Host S). (perform_move m k ep).host) h.follows.host)
          (sym (append-nil v.sent) ∙ ap (λ (k : Host S). (perform_move m k ep).sent ++ []) h.follows.host)
          h.follows.to_host
          (λ i. performed_item (h.follows.submits i) ep (told_performed m (h.follows.host i) ep));
      legal = (tt, h.legal);
      present-is = h.present-is ∙ sym (append-nil (present_outs m s h.moves));
      unrefused = unrefused-more m s c.acts (PerformAct ep) (tt, tt) h.unrefused;
    }

moved-offer : {S : Type 0} (m : Meaning S) (s : S) (c : Course) (items : List Item) (ep : ℕ) → AreMoves m s c items → AreMoves m s (acted c (OfferAct ep)) (items ++ offered_item ep (told_offered m (host_of m s c.acts) ep))
moved-offer {S = S} m s c items ep h =
    let w : World S = (run as_items m s h.moves).world in
    let v = offer_move m w.host ep in
    record {
      moves = Offers ep ∷ h.moves;
      follows = follows-act m s c items (offered_item ep (told_offered m (host_of m s c.acts) ep)) (run as_items m s h.moves) (run as_submits m s h.moves).told (OfferAct ep) v.host v.sent w.to_host (offered_item ep (told_offered m w.host ep)) h.follows
          (ap (λ (k : Host S). (offer_move m k ep).host) h.follows.host)
          (sym (append-nil v.sent) ∙ ap (λ (k : Host S). (offer_move m k ep).sent ++ []) h.follows.host)
          h.follows.to_host
          (λ i. offered_item ep (told_offered m (h.follows.host i) ep));
      legal = (tt, h.legal);
      present-is = h.present-is ∙ sym (append-nil (present_outs m s h.moves));
      unrefused = unrefused-more m s c.acts (OfferAct ep) (tt, tt) h.unrefused;
    }

moved-unplug : {S : Type 0} (m : Meaning S) (s : S) (c : Course) (items : List Item) → AreMoves m s c items → AreMoves m s (acted c UnplugAct) (items ++ [])
moved-unplug {S = S} m s c items h =
    let w : World S = (run as_items m s h.moves).world in
    let v = unplug_move w.host in
    record {
      moves = Unplugs ∷ h.moves;
      follows = follows-act m s c items [] (run as_items m s h.moves) (run as_submits m s h.moves).told UnplugAct v.host v.sent w.to_host [] h.follows
          (ap (λ (k : Host S). (unplug_move k).host) h.follows.host)
          (sym (append-nil v.sent) ∙ ap (λ (k : Host S). (unplug_move k).sent ++ []) h.follows.host)
          h.follows.to_host refl;
      legal = (tt, h.legal);
      present-is = h.present-is ∙ sym (append-nil (present_outs m s h.moves));
      unrefused = unrefused-more m s c.acts UnplugAct (tt, tt) h.unrefused;
    }

-- ---- all steps

moved-more : {S : Type 0} (m : Meaning S) (s : S) (c : Course) (items : List Item) (x : PastStep) → IsKnown m s c → IsKnown m s (after_step m s c x) → Flows m s c → AreMoves m s c items →
    AreMoves m s (after_step m s c x) (items ++ (told_by m s c x).items)
moved-more m s c items (Client b) was k f h =
    let fits = piece-fits c.events b k.bytes in
    moved-event m s c items (ClientPiece b) refl (piece-moves (brought c.events (ClientPiece b)) fits) h (piece-present m s c items b fits h)
moved-more m s c items ClientEnd was k f h = moved-event m s c items ClientEnds refl (tt, tt) h refl
moved-more m s c items (StepToHost n) was k f h = moved-asked m s c items n (next-to-host m s c n f was k.heard) h
moved-more m s c items (StepToGate n) was k f h = moved-told m s c items n (next-to-gate m s c n f was k.bytes) f h
moved-more m s c items (Perform ep) was k f h = moved-perform m s c items ep h
moved-more m s c items (Offer ep) was k f h = moved-offer m s c items ep h
moved-more m s c items Unplug was k f h = moved-unplug m s c items h

pub steps-move : {S : Type 0} (m : Meaning S) (s : S) (steps : List PastStep) → IsKnown m s (course m s steps) → AreMoves m s (course m s steps) (trace m s steps)
steps-move m s [] k = record { moves = []; legal = tt; follows = follows-first m s; present-is = refl; unrefused = refl }
steps-move m s (x ∷ steps) k =
    let was = known-before m s (course m s steps) x k in
    moved-more m s (course m s steps) (trace m s steps) x was k (flows-steps m s steps was) (steps-move m s steps was)
