-- The device may send a packet of a stream: it goes on the way where the stream is up, and else is lost.
use Rattle.std.proofs.Common.{◌≡◌, ℕ, ◌||◌, Bool, true, false, cond, List, [], ◌∷◌, ◌++◌, map, Option, Some, None, is_some, refl, sym, ap, ◌∙◌, subst, arith}
use Rattle.std.specs.Prelude.{IfSome}
use Rattle.std.specs.List.{find}
use Rattle.std.proofs.lemmas.Bool.{both_ways, or_left}
use Rattle.std.proofs.lemmas.List.{map-append}
use Rattle.usb_base.specs.declared.endpoint.EpTable.{EpTable}
use Rattle.usb_base.specs.declared.transfer.StreamPacket.{StreamPacket}
use Rattle.redir_wire.specs.EpTable.{table_of}
use Rattle.redir_data.specs.declared.packet.RedirPacket.{RedirPacket}
use Rattle.model_device.specs.Meaning.{Meaning}
use Rattle.model_device.specs.Gadget.{IsGadget, IsNamed, SameFacts}
use Rattle.redir_host.specs.declared.state.running.Running.{Running}
use Rattle.redir_host.specs.device.Facts.{ep_info_of}
use Rattle.redir_host.specs.device.Offering.{stream_packet}
use Rattle.redir_host.specs.guest.Packets.{runs_at}
use Rattle.redir_host.proofs.lemmas.state.Each.{each_found}
use Rattle.gate_history.proofs.lemmas.Lists.{Each-append}
use Rattle.gate_history.specs.state.Ups.{stream_of}
use Rattle.gate_history.specs.declared.facts.Facts.{Facts}
use Rattle.direct_device.specs.Acting.{Offer, offered_by}
use Rattle.direct_run.specs.Moves.{World, Offers, move, quiet}
use Rattle.direct_proof.specs.Deeds.{as_deeds}
use Rattle.direct_proof.specs.Tagged.{Packed, on_wire, told}
use Rattle.direct_proof.specs.Shared.{Shared, view}
use Rattle.direct_proof.specs.Requests.{ran_of}
use Rattle.direct_run.specs.Packets.{both_caps}
use Rattle.direct_proof.specs.Related.{Related}
use Rattle.direct_proof.specs.Session.{Session, down_in, runs}
use Rattle.direct_proof.specs.Ids.{Ids}
use Rattle.direct_proof.specs.Kinds.{IsIn, OfKind, TaggedOfKind}
use Rattle.direct_proof.specs.Meets.{is_announced}
use Rattle.direct_proof.specs.Cancels.{any_change}
use Rattle.direct_proof.specs.Running.{StartsFit, Quits}
use Rattle.direct_proof.proofs.shared.Keeps.{Keeps, keeps-quiet}
use Rattle.direct_proof.proofs.streams.Keeping.{Does, keeps-made}
use Rattle.direct_proof.proofs.shared.Backs.{clean-append}
use Rattle.direct_proof.proofs.streams.wires.Folds.{quits-runs}
use Rattle.direct_proof.proofs.streams.wires.Growing.{found-any, runs-last, told-last, no-fact, way-offered}
use Rattle.direct_proof.proofs.shared.Sending.{meets-sent, farewell-sent}
use Rattle.direct_proof.proofs.shared.Streaming.{controls-sent, fenced-sent}
use Rattle.direct_proof.proofs.streams.wires.Pending.{asked-pending}
use Rattle.direct_proof.proofs.streams.hears.Offered.{offered_world, offer-moved, offer-stands, offer-closed, offer-empty}

-- ---- what is kept

abbrev pub with_packet : Shared → Running → ℕ → StreamPacket → Shared
with_packet j s ep p = record j { back = j.back ++ Packed s.kind ep p ∷ [] }

module _ {S : Type 0} (m : Meaning S) (laws : IsGadget m) (w : World S) (j : Shared) (rel : Related m w j) (ep : ℕ) (s : Running) (sent : S × StreamPacket)
    (plugged : w.host.unplugged ≡ false) (found : find (runs_at ep) w.host.running ≡ Some s) (ready : m.offer w.host.gadget ep ≡ Some sent) where
  abbrev new : World S
  new = offered_world w s ep sent

  abbrev later : Shared
  later = with_packet j s ep sent.1

  here : w.gate.sides.lost ≡ false
  here = go w.gate.sides.lost refl
    where
      go : (x : Bool) → w.gate.sides.lost ≡ x → x ≡ false
      go true h = absurd (both_ways w.host.unplugged plugged (rel.lost h).1)
      go false h = refl

  not-first : w.host.guest.first ≡ false
  not-first = go w.host.guest.first refl
    where
      none : find (runs_at ep) [] ≡ Some s → ⊥
      none e = cc

      go : (x : Bool) → w.host.guest.first ≡ x → x ≡ false
      go true h = absurd (none (ap (find (runs_at ep)) (sym (rel.before h).running) ∙ found))
      go false h = refl

  known : is_announced w j ≡ true
  known = rel.meets.announced not-first plugged

  session : Session m w j
  session = rel.session here known

  facts : SameFacts m w.host.gadget sent.0
  facts = subst (λ (o : Option (S × StreamPacket)). IfSome o (λ x. SameFacts m w.host.gadget x.0)) ready (laws.offer_keeps w.host.gadget ep)

  at : s.ep ≡ ep
  at = let e = (each_found (λ (x : Running). IsIn x.ep) (runs_at ep) w.host.running s rel.runs_at_in found).1 in grind (arith, e)

  is-in : IsIn ep
  is-in = subst IsIn at (each_found (λ (x : Running). IsIn x.ep) (runs_at ep) w.host.running s rel.runs_at_in found).0

  kind : OfKind (stream_of w.gate.streams ep) s.kind
  kind = subst (λ (e : ℕ). OfKind (stream_of w.gate.streams e) s.kind) at (each_found (λ (x : Running). OfKind (stream_of w.gate.streams x.ep) x.kind) (runs_at ep) w.host.running s session.kinds found).0

  came : TaggedOfKind w.gate.streams (Packed s.kind ep sent.1)
  came = (is-in.low, is-in.high, subst (λ (o : Option (S × StreamPacket)). IfSome o (λ x. IsNamed x.1.status)) ready (laws.offer_named w.host.gadget ep), kind)

  runs-now : runs w.host ep ≡ true
  runs-now = found-any (runs_at ep) w.host.running s found

  same-told : told w.gate.facts (j.back ++ Packed s.kind ep sent.1 ∷ []) ≡ told w.gate.facts j.back
  same-told = told-last w.gate.facts j.back (Packed s.kind ep sent.1) (no-fact s.kind ep sent.1)

  pending : down_in w.gate.streams ep ≡ true → (any_change (j.held ++ j.coming) || j.fenced) ≡ true
  pending down = asked-pending w.gate.fence j.fenced j.half w.to_host j.back j.held j.coming rel.line.coming (rel.fenced here) (quits-runs w.gate.fence ep w.to_host (subst (λ (r : Bool). Quits w.gate.fence ep r w.to_host) runs-now (session.quits ep down)))

  new-session : Session m new later
  new-session = record {
    table = ap (λ (f : Facts). f.table) same-told ∙ session.table ∙ ap (λ (t : EpTable). table_of (ep_info_of both_caps t)) (sym facts.table);
    faces = ap (λ (f : Facts). f.interfaces) same-told ∙ session.faces ∙ ap Some (sym facts.interfaces);
    clean = clean-append w.gate.fence (down_in w.gate.streams) (any_change (j.held ++ j.coming) || j.fenced) (any_change (j.held ++ j.coming) || j.fenced) j.back (Packed s.kind ep sent.1 ∷ [])
        (λ e. or_left (any_change (j.held ++ j.coming) || j.fenced) (false || false) e) session.clean
        ((λ down. or_left (any_change (j.held ++ j.coming) || j.fenced) (false || false) (pending down)), tt);
    quits = session.quits;
    trails = session.trails;
    starts = subst (λ (t : EpTable). StartsFit t (any_change j.held || j.half) w.to_host) (sym facts.table) session.starts;
    kinds = session.kinds;
    start_kinds = session.start_kinds;
  }

  related : Related m new later
  related = record {
    line = rel.line;
    answers = ap (λ (l : List (ℕ × RedirPacket)). l ++ stream_packet s.kind ep sent.1 ∷ []) rel.answers ∙ sym (map-append on_wire j.back (Packed s.kind ep sent.1 ∷ []));
    tagged = Each-append (TaggedOfKind w.gate.streams) j.back (Packed s.kind ep sent.1 ∷ []) rel.tagged (came, tt);
    ids = subst (Ids j.debts w.submits (j.held ++ j.coming)) (sym (runs-last j.back (Packed s.kind ep sent.1) refl)) rel.ids;
    real = rel.real;
    runs_at_in = rel.runs_at_in;
    before = λ h. absurd (both_ways w.host.guest.first not-first h);
    asked = rel.asked;
    meets = meets-sent w j (Packed s.kind ep sent.1 ∷ []) refl refl rel.meets;
    debts = rel.debts;
    controls = λ h. controls-sent w.gate.stream_ids w.to_host j.back (Packed s.kind ep sent.1 ∷ []) refl (tt, tt) (rel.controls h);
    fenced = λ h. fenced-sent w.gate.fence j.fenced w.to_host j.back (Packed s.kind ep sent.1 ∷ []) refl (rel.fenced h);
    alone = rel.alone;
    session = λ h k. new-session;
    ups = rel.ups;
    down = rel.down;
    lost = λ h. absurd (both_ways w.gate.sides.lost here h);
    sides = rel.sides;
    farewell = farewell-sent new.host j.back (Packed s.kind ep sent.1 ∷ []) plugged (rel.farewell.bye plugged) refl;
  }

  not-gone : j.gone ≡ false
  not-gone = go j.gone refl
    where
      go : (x : Bool) → j.gone ≡ x → x ≡ false
      go true h = absurd (both_ways w.gate.sides.lost here (rel.sides.gone h))
      go false h = refl

  offered-does : Does m (view w j) (Offer ep ∷ []) (view new later) []
  offered-does = record {
    same = ap (offered_by (view w j) ep) ready
        ∙ (λ i. record (view w j) {
          gadget = sent.0;
          ran = cond w.gate.sides.imported (map ran_of (sym (runs-last j.back (Packed s.kind ep sent.1) refl) i)) [];
          way = λ e. way-offered w.gate.streams j.back s.kind ep sent.1 kind e i;
        });
    legal = ((not-gone, ap is_some ready), tt);
    outs-are = refl;
  }

  pub keep-sent : Keeps m w j (move as_deeds m w (Offers ep))
  keep-sent = keeps-made m w j later (move as_deeds m w (Offers ep)) new [] (Offer ep ∷ []) (offer-moved m w ep s sent plugged found ready) related offered-does

-- an offer keeps what is shared
pub keep-offers : {S : Type 0} (m : Meaning S) → IsGadget m → (w : World S) (j : Shared) (ep : ℕ) → Related m w j → Keeps m w j (move as_deeds m w (Offers ep))
keep-offers {S = S} m laws w j ep rel = by w.host.unplugged refl
  where
    stands : move as_deeds m w (Offers ep) ≡ quiet w → Keeps m w j (move as_deeds m w (Offers ep))
    stands is = keeps-quiet m w j j (move as_deeds m w (Offers ep)) w is rel refl

    given : (s : Running) → w.host.unplugged ≡ false → find (runs_at ep) w.host.running ≡ Some s → (o : Option (S × StreamPacket)) → m.offer w.host.gadget ep ≡ o → Keeps m w j (move as_deeds m w (Offers ep))
    given s p f None r = stands (offer-empty m w ep s p f r)
    given s p f (Some sent) r = keep-sent m laws w j rel ep s sent p f r

    running : w.host.unplugged ≡ false → (o : Option Running) → find (runs_at ep) w.host.running ≡ o → Keeps m w j (move as_deeds m w (Offers ep))
    running p None f = stands (offer-closed m w ep p f)
    running p (Some s) f = given s p f (m.offer w.host.gadget ep) refl

    by : (x : Bool) → w.host.unplugged ≡ x → Keeps m w j (move as_deeds m w (Offers ep))
    by true gone = stands (offer-stands m w ep gone)
    by false p = running p (find (runs_at ep) w.host.running) refl
