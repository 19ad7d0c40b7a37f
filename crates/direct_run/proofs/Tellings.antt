-- A run told in two ways makes the same world and sends the same to clients, and what is told agrees where the tellings
-- do.
use Rattle.std.proofs.Common.{◌≡◌, ℕ, Bool, true, false, cond, List, [], ◌∷◌, ◌++◌, refl, sym, ◌∙◌, subst}
use Rattle.std.specs.List.{flat_map}
use Rattle.redir_data.specs.declared.packet.RedirPacket.{RedirPacket}
use Rattle.redir_data.specs.Sent.{sent_header}
use Rattle.model_device.specs.Meaning.{Meaning}
use Rattle.redir_host.specs.declared.write.note.HostNote.{HostNote}
use Rattle.redir_host.specs.declared.write.note.Offered.{Offered}
use Rattle.redir_host.specs.declared.write.note.Performed.{Performed}
use Rattle.redir_host.specs.device.Offering.{told_offered}
use Rattle.redir_host.specs.device.Performing.{told_performed}
use Rattle.redir_host.specs.guest.Packets.{packet_move}
use Rattle.gate_history.specs.declared.item.Item.{Item}
use Rattle.gate_history.specs.declared.item.Item.TheVariants.{Told}
use Rattle.gate_history.specs.state.State.{State}
use Rattle.gate_history.specs.step.Marks.{Mark}
use Rattle.gate_history.specs.step.Meaning.{mark_of}
use Rattle.gate_history.specs.step.Past.{is_left_out}
use Rattle.direct_run.specs.declared.submitted.Submitted.{Submitted}
use Rattle.direct_run.specs.Moves.{World, Made, Telling, Move, ByClient, HostReads, GateReads, Performs, Offers, Unplugs, quiet, then_made, gate_made, gate_move, gate_reads, host_reads, move, runs_from}
use Rattle.direct_run.specs.Noted.{item_of_host, performed_item, offered_item}

-- what these two make of what is told is the same
pub record Agree {T U V : Type 0} (f : List T → List V) (g : List U → List V) (t : Telling T) (u : Telling U) : Type 0 where
  pub none : f [] ≡ g []
  pub left : (xs ys : List T) → f (xs ++ ys) ≡ f xs ++ f ys
  pub right : (xs ys : List U) → g (xs ++ ys) ≡ g xs ++ g ys
  pub marks : (st : State) (k : Mark) → f (t.by_gate st k) ≡ g (u.by_gate st k)
  pub cancels : (submits : List Submitted) (ns : List HostNote) → f (t.by_host (flat_map (item_of_host submits) ns)) ≡ g (u.by_host (flat_map (item_of_host submits) ns))
  pub performs : (submits : List Submitted) (ep : ℕ) (p : Performed) → f (t.by_host (performed_item submits ep p)) ≡ g (u.by_host (performed_item submits ep p))
  pub offers : (ep : ℕ) (o : Offered) → f (t.by_host (offered_item ep o)) ≡ g (u.by_host (offered_item ep o))

pub record Alike {S T U V : Type 0} (f : List T → List V) (g : List U → List V) (x : Made S T) (y : Made S U) : Type 0 where
  pub world : x.world ≡ y.world
  pub outs : x.outs ≡ y.outs
  pub told : f x.told ≡ g y.told

module _ {S T U V : Type 0} (f : List T → List V) (g : List U → List V) (t : Telling T) (u : Telling U) (a : Agree f g t u) where
  quiet-alike : (w : World S) → Alike f g (quiet w) (quiet w)
  quiet-alike w = record { world = refl; outs = refl; told = a.none }

  mark-alike : (w : World S) (k : Mark) → Alike f g (gate_made t w k) (gate_made u w k)
  mark-alike w k = record { world = refl; outs = refl; told = a.marks w.gate k }

  gate-alike : (w : World S) (x : Item) → Alike f g (gate_move t w x) (gate_move u w x)
  gate-alike w x =
      elim (is_left_out w.gate x) as (λ (b : Bool). Alike f g (cond b (quiet w) (gate_made t w (mark_of w.gate x))) (cond b (quiet w) (gate_made u w (mark_of w.gate x))))
      [ true ↦ quiet-alike w | false ↦ mark-alike w (mark_of w.gate x) ]

  then-alike : (x y : Made S T) (v z : Made S U) → Alike f g x v → Alike f g y z → Alike f g (then_made x y) (then_made v z)
  then-alike x y v z h k = record {
    world = k.world;
    outs = λ i. h.outs i ++ k.outs i;
    told = a.left x.told y.told ∙ (λ i. h.told i ++ k.told i) ∙ sym (a.right v.told z.told);
  }

  module _ (m : Meaning S) where
    pub move-alike : (w : World S) (x : Move) → Alike f g (move t m w x) (move u m w x)
    move-alike w (ByClient x) = gate-alike w x
    move-alike w HostReads = go w.to_host
      where
        go : (ps : List (ℕ × RedirPacket)) → Alike f g (host_reads t m w ps) (host_reads u m w ps)
        go [] = quiet-alike w
        go (p ∷ ps) = record { world = refl; outs = refl; told = a.cancels w.submits (packet_move m w.host p.0 p.1).notes }
    move-alike w (GateReads place) = go w.to_gate
      where
        go : (ps : List (ℕ × RedirPacket)) → Alike f g (gate_reads t w place ps) (gate_reads u w place ps)
        go [] = quiet-alike w
        go (p ∷ ps) = gate-alike (record w { to_gate = ps }) (Told place (sent_header w.gate.sides.agreed p) p.1)
    move-alike w (Performs ep) = record { world = refl; outs = refl; told = a.performs w.submits ep (told_performed m w.host ep) }
    move-alike w (Offers ep) = record { world = refl; outs = refl; told = a.offers ep (told_offered m w.host ep) }
    move-alike w Unplugs = record { world = refl; outs = refl; told = a.cancels [] [] }

    pub runs-alike : (w : World S) (xs : List Move) → Alike f g (runs_from t m w xs) (runs_from u m w xs)
    runs-alike w [] = quiet-alike w
    runs-alike w (x ∷ xs) =
        let r = runs-alike w xs in
        then-alike (runs_from t m w xs) (move t m (runs_from t m w xs).world x) (runs_from u m w xs) (move u m (runs_from u m w xs).world x) r
        (subst (λ (v : World S). Alike f g (move t m (runs_from t m w xs).world x) (move u m v x)) r.world (move-alike (runs_from t m w xs).world x))

-- whatever the tellings are, where nothing is made of what is told
abbrev pub nothing : {T : Type 0} → List T → List ℕ
nothing xs = []

pub any-agree : {T U : Type 0} (t : Telling T) (u : Telling U) → Agree nothing nothing t u
any-agree t u = record { none = refl; left = λ xs ys. refl; right = λ xs ys. refl; marks = λ st k. refl; cancels = λ submits ns. refl; performs = λ submits ep p. refl; offers = λ ep o. refl }
