-- A cancel that the host reads: it takes its request off the queue, or comes too late.
use Rattle.std.proofs.Common.{◌≡◌, ℕ, ◌==◌, ◌||◌, ◌&&◌, Bool, true, false, cond, List, [], ◌∷◌, ◌++◌, map, Some, None, refl, sym, ap, ◌∙◌, subst, arith, append-nil, inl, inr, ◌⊎◌}
use Rattle.std.specs.Prelude.{Option, IsSomeAnd}
use Rattle.std.specs.List.{find, AllByRecursion as Each}
use Rattle.std.proofs.lemmas.Bool.{both_ways}
use Rattle.std.proofs.Math.Bool.{or-false}
use Rattle.usb_base.specs.declared.transfer.Outcome.{Outcome}
use Rattle.usb_base.specs.declared.status.UsbStatus.TheVariants.{Cancelled}
use Rattle.redir_wire.specs.declared.packet.RedirControl.TheVariants as plain
use Rattle.redir_data.specs.declared.packet.RedirPacket.{RedirPacket}
use Rattle.redir_data.specs.declared.packet.RedirPacket.TheVariants.{Plain}
use Rattle.model_device.specs.Meaning.{Meaning}
use Rattle.redir_host.specs.declared.state.request.Request.{Request as HostRequest}
use Rattle.redir_host.specs.state.Queues.{is_cancelled_by as is_taken_by, after_cancel, leaves_mark}
use Rattle.chapter9.specs.Standard.{ended}
use Rattle.redir_host.specs.declared.write.note.HostNote.TheVariants as host_note
use Rattle.redir_host.specs.guest.Packets.{cancel_move, packet_move_by}
use Rattle.redir_host.specs.step.Moves.{quiet as host_quiet}
use Rattle.redir_host.proofs.lemmas.state.Each.{each_front}
use Rattle.gate_history.specs.state.Ups.{stream_of}
use Rattle.gate_history.specs.client.Verdict.{is_wire}
use Rattle.direct_run.specs.Noted.{number_in}
use Rattle.direct_run.specs.Moves.{World, HostReads, Made, move, host_reads, host_takes}
use Rattle.direct_device.specs.Direct.{Direct, number, without_first, Waiting}
use Rattle.direct_device.specs.Acting.{Deed, Cancel, is_cancelled_by, cancelled_by, joins_ran}
use Rattle.direct_proof.specs.Deeds.{as_deeds}
use Rattle.direct_proof.specs.Requests.{Entry, Coming, at_queue, at_device}
use Rattle.direct_proof.specs.Shared.{Shared, lines, half_line, view}
use Rattle.direct_proof.specs.Tagged.{Answered, on_wire}
use Rattle.direct_proof.specs.Related.{Related}
use Rattle.direct_proof.specs.Loads.{IsLoad}
use Rattle.direct_proof.specs.Cancels.{IsAsked, CancelsFit, any_change}
use Rattle.direct_proof.proofs.lists.Counts.{itself}
use Rattle.direct_proof.proofs.shared.Owed.{each-parts}
use Rattle.direct_proof.proofs.shared.WireBack.{way-answer, ran-answer}
use Rattle.direct_proof.proofs.shared.Ran.{Held, held-parts, coming_of, after-ran}
use Rattle.direct_proof.proofs.shared.Sending.{sent_shared}
use Rattle.direct_proof.proofs.heard.Listening.{read_world}
use Rattle.direct_proof.proofs.heard.Ignoring.{after-silent, keep-ignored}
use Rattle.direct_proof.proofs.performs.Performing.{queue-held}
use Rattle.direct_proof.proofs.shared.Keeps.{Keeps, keeps-deed, not-lost, not-gone}
use Rattle.direct_proof.proofs.heard.Taken.{wire-resets, wire-seen, Taken, taken, find-mapped, alone-numbered}

-- ---- the move

pub keep-cancel : {S : Type 0} (m : Meaning S) (w : World S) (j : Shared) (id : ℕ) (ps : List (ℕ × RedirPacket)) → Related m w j → w.to_host ≡ (id, Plain plain.Cancel) ∷ ps → w.host.guest.first ≡ false → Keeps m w j (move as_deeds m w HostReads)
keep-cancel {S = S} m w j id ps rel wire first = go w.host.unplugged refl
  where
    p : ℕ × RedirPacket
    p = (id, Plain plain.Cancel)

    ignored : (w.host.unplugged ≡ false → packet_move_by m w.host p.0 p.1 ≡ host_quiet w.host) → Keeps m w j (move as_deeds m w HostReads)
    ignored = keep-ignored m w j p ps rel wire tt first refl refl (refl, refl, λ ep b. refl) (λ fence. refl)

    takes : w.host.unplugged ≡ false → Taken id j.held → Keeps m w j (move as_deeds m w HostReads)
    takes there t = keeps-deed m w j later (move as_deeds m w HostReads) (Cancel (number e.load)) (record {
      deeds = ap (λ (x : Made S Deed). x.told) moved ∙ ap (λ (n : ℕ). Cancel n ∷ []) named;
      outs = ap (λ (x : Made S Deed). x.outs) moved;
      same = ap (cancelled_by d (number e.load)) found.0
          ∙ (λ i. record d {
            queue = (found.1 ∙ ap (map at_device) held.outside) i;
            ran = (ap (λ (o : Outcome). joins_ran d (record { load = e.load; outcome = o } ∷ [])) (sym (wire-seen e.load.request e.load.verdict 0 (ended Cancelled) t.wire)) ∙ ran-answer w.gate.sides.imported j.back c) i;
            way = λ ep. sym (way-answer (stream_of w.gate.streams ep) ep j.back c) i;
          })
          ∙ ap (λ (x : Made S Deed). view x.world later) (sym moved);
      allowed = (not-gone m w j rel (not-lost m w j rel there), subst (λ (o : Option Waiting). IsSomeAnd o (λ q. q.asked ≡ true)) (sym found.0) (asked t.same_id));
    })
        (subst (λ (x : Made S Deed). Related m x.world later) (sym moved)
        (subst (λ (l : List (ℕ × RedirPacket)). Related m (taken_world l) later) (ap (λ (l : List (ℕ × RedirPacket)). l ++ on_wire (Answered c) ∷ []) (append-nil w.to_gate))
        (after-ran m (read_world w ps w.host.queue w.host.resets_next) j t.front e t.back w.host.gadget 0 (ended Cancelled) read there held (wire-resets e.load.verdict t.wire).1 (record { configuration = refl; interfaces = refl; table = refl })
        (record { load = load; outcome = record { done = omega arith; from_device = λ h. refl; to_device = λ h. refl }; status = refl }))))
      where
        e : Entry
        e = t.entry

        d : Direct S
        d = view w j

        c : Coming
        c = coming_of e 0 (ended Cancelled)

        held : Held j t.front e t.back
        held = held-parts j t.front e t.back t.is

        later : Shared
        later = sent_shared j (t.front ++ t.back) (Answered c ∷ [])

        taken_world : List (ℕ × RedirPacket) → World S
        taken_world l = record w { to_host = ps; to_gate = l; host = record w.host { queue = map at_queue (t.front ++ t.back) } }

        load : IsLoad e.load
        load = (each-parts (λ (x : Entry). IsLoad x.load) t.front e (t.back ++ j.coming) (subst (Each (λ (x : Entry). IsLoad x.load)) held.inside rel.line.loads)).0

        named : number_in id w.submits ≡ number e.load
        named =
            let same : e.id ≡ id = same-id t.same_id in
            ap (λ (i : ℕ). number_in i w.submits) (sym same) ∙ (each-parts (λ (x : Entry). number_in x.id w.submits ≡ number x.load) t.front e (t.back ++ j.coming) (subst (Each (λ (x : Entry). number_in x.id w.submits ≡ number x.load)) held.inside rel.ids.named)).0
          where
            same-id : (e.id == id) ≡ true → e.id ≡ id
            same-id h = grind (arith, h)

        asked : (e.id == id) ≡ true → e.asked ≡ true
        asked = (each-parts (IsAsked id) t.front e t.back (subst (Each (IsAsked id)) t.is ((subst (λ (l : List (ℕ × RedirPacket)). CancelsFit j.held l j.coming) wire rel.line.cancels).0 refl))).0

        others : Each (λ (x : Entry). (number x.load == number e.load) ≡ false) (t.front ++ (t.back ++ j.coming))
        others = alone-numbered m w j t.front e t.back rel held

        not-it : (xs : List Entry) → Each (λ (x : Entry). (number x.load == number e.load) ≡ false) xs → Each (λ (x : Entry). is_cancelled_by (number e.load) (at_device x) ≡ false) xs
        not-it [] h = tt
        not-it (x ∷ xs) h = (ap (λ (b : Bool). b && is_wire x.load.verdict) h.0, not-it xs h.1)

        is-it : is_cancelled_by (number e.load) (at_device e) ≡ true
        is-it = λ i. (itself (number e.load) i) && (t.wire i)

        found : (find (is_cancelled_by (number e.load)) d.queue ≡ Some (at_device e)) × (without_first (is_cancelled_by (number e.load)) d.queue ≡ map at_device (t.front ++ (t.back ++ j.coming)))
        found =
            let r = find-mapped at_device (is_cancelled_by (number e.load)) t.front e (t.back ++ j.coming) (not-it t.front (each_front (λ (x : Entry). (number x.load == number e.load) ≡ false) t.front (t.back ++ j.coming) others)) is-it in
            (ap (λ (l : List Entry). find (is_cancelled_by (number e.load)) (map at_device l)) held.inside ∙ r.0, ap (λ (l : List Entry). without_first (is_cancelled_by (number e.load)) (map at_device l)) held.inside ∙ r.1)

        read : Related m (read_world w ps w.host.queue w.host.resets_next) j
        read = after-silent m w j p ps j.half w.host.resets_next rel wire first refl (refl, refl, λ ep b. refl) (ap (λ (l : List (ℕ × RedirPacket)). half_line j.half ++ lines l) (sym wire) ∙ rel.line.coming) (or-false (any_change j.held || j.half)) rel.line.half

        moved : move as_deeds m w HostReads ≡ record { world = taken_world (w.to_gate ++ on_wire (Answered c) ∷ []); outs = []; told = Cancel (number_in id w.submits) ∷ [] }
        moved = ap (host_reads as_deeds m w) wire ∙ ap (host_takes as_deeds (record w { to_host = ps }))
            (ap (λ (b : Bool). cond b (host_quiet w.host) (cancel_move w.host id (find (is_taken_by id) w.host.queue))) there
            ∙ ap (cancel_move w.host id) (ap (find (is_taken_by id)) (queue-held m w j rel there) ∙ t.found)
            ∙ (λ i. record {
              host = record w.host { queue = (ap (after_cancel id) (queue-held m w j rel there) ∙ t.rest) i; resets_next = (ap (λ (l : List HostRequest). leaves_mark id l) (queue-held m w j rel there) ∙ t.mark) i || w.host.resets_next };
              sent = on_wire (Answered c) ∷ [];
              notes = host_note.Cancelled id ∷ [];
            }))

    go : (b : Bool) → w.host.unplugged ≡ b → Keeps m w j (move as_deeds m w HostReads)
    go true off = ignored (λ h. absurd (both_ways w.host.unplugged h off))
    go false there = by (taken id j.held (each_front (λ (e : Entry). IsLoad e.load) j.held j.coming rel.line.loads))
      where
        by : (find (is_taken_by id) (map at_queue j.held) ≡ None) ⊎ Taken id j.held → Keeps m w j (move as_deeds m w HostReads)
        by (inl none) = ignored (λ h. ap (cancel_move w.host id) (ap (find (is_taken_by id)) (queue-held m w j rel there) ∙ none))
        by (inr t) = takes there t
