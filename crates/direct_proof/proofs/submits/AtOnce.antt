-- A submit that is answered where it is accepted: nothing is asked of the host for it.
use Rattle.std.proofs.Common.{◌≡◌, ℕ, suc, not, Bool, true, false, cond, List, [], ◌∷◌, ◌++◌, map, filter, Option, Some, None, is_none, refl, sym, ap, ◌∙◌, subst, append-nil, ◌+◌}
use Rattle.std.specs.Prelude.{ℤ}
use Rattle.std.specs.List.{flat_map}
use Rattle.std.proofs.lemmas.Grind.{flat_map-append}
use Rattle.usb_base.specs.declared.side.Side.TheVariants.{Client}
use Rattle.usb_base.specs.declared.reason.Reason.TheVariants.{NotImported, DuplicateSeq}
use Rattle.usbip_urb.specs.declared.packet.Submit.{Submit as UrbSubmit}
use Rattle.usbip_urb.specs.declared.packet.UrbPacket.TheVariants as urb
use Rattle.usbip_urb.specs.declared.client.ClientPacket.TheVariants.{Urb}
use Rattle.redir_data.specs.declared.packet.RedirPacket.{RedirPacket}
use Rattle.model_device.specs.Meaning.{Meaning}
use Rattle.gate_history.specs.declared.request.Request.{Request}
use Rattle.gate_history.specs.client.Requests.{request_of}
use Rattle.gate_history.specs.declared.item.Item.TheVariants.{Asked}
use Rattle.gate_history.specs.declared.verdict.Verdict.{Verdict}
use Rattle.gate_history.specs.declared.verdict.Verdict.TheVariants.{Now}
use Rattle.gate_history.specs.step.Marks.{Submission, Effect, Opens}
use Rattle.gate_history.specs.client.Submits.{Pending}
use Rattle.gate_history.specs.client.Ends.{ends, at_once, ByStatus, answers_at}
use Rattle.gate_history.specs.state.Ups.{Up, stream_at, stream_of}
use Rattle.gate_history.specs.state.State.{State, has_number, is_number as is_numbered}
use Rattle.gate_history.specs.step.Machine.{live_after}
use Rattle.gate_history.specs.step.Meaning.{meaning, mark_as, mark_of, refused, submission, accepted_as, accepts, drawn_for, by_stream, verdict_of}
use Rattle.gate_history.specs.write.Output.{fresh, present}
use Rattle.gate_history.specs.write.Answers.{without_packets}
use Rattle.gate_history.specs.write.Notes.{is_by_answer}
use Rattle.gate_history.specs.declared.note.Note.TheVariants as note
use Rattle.usb_base.specs.declared.errno.TheConstants.{ESHUTDOWN}
use Rattle.gate_history.proofs.lemmas.Lists.{filter-all, filter-none, list_any-map}
use Rattle.gate_history.proofs.lemmas.step.NoCancel.{asks-none, none-cancelled, stays-uncancelled}
use Rattle.direct_run.specs.Moves.{World, ByClient, Made, move, quiet, gate_made}
use Rattle.direct_run.specs.Noted.{named}
use Rattle.direct_device.specs.Direct.{Live, Direct, is_number}
use Rattle.direct_device.specs.Acting.{Deed, Submit, Answer, act, answers, made_of, submitted, submit_answers}
use Rattle.direct_proof.specs.Deeds.{as_deeds}
use Rattle.direct_proof.specs.Related.{Related}
use Rattle.direct_proof.specs.Requests.{live_of}
use Rattle.direct_proof.specs.Shared.{Shared, view}
use Rattle.direct_proof.specs.Tagged.{runs_in}
use Rattle.direct_proof.proofs.performs.Performs.{itself}
use Rattle.direct_proof.proofs.shared.Counted.{replied_world, counted-related, ids-named}
use Rattle.direct_proof.proofs.shared.Debts.{filter-append}
use Rattle.direct_proof.proofs.shared.Found.{way-again}
use Rattle.direct_proof.proofs.shared.Keeps.{Keeps, keeps-quiet, keeps-deed}
use Rattle.direct_proof.proofs.submits.Submitting.{AreBefore}

pub kept-now : (up : Option Up) (status : ℤ) → by_stream up (Now status) ≡ Now status
kept-now None status = refl
kept-now (Some up) status = refl

-- ---- what the gateway makes of it

module _ (st : State) (r : Request) (status : ℤ) (before : AreBefore st.items st.live) where
  abbrev pub answered_as : Submission
  answered_as = record { place = st.items; request = r; verdict = Now status; id = 0 }

  abbrev what : Effect
  what = Opens answered_as

  pub now-means : (place : ℕ) (s : UrbSubmit) → request_of s ≡ r → st.sides.imported ≡ true → has_number st s.head.seqnum ≡ false → verdict_of st r ≡ Now status → meaning st (Asked place (Urb (urb.Submit s))) ≡ what
  now-means place s same imported new is =
      (λ i. cond (not (imported i)) (refused Client place NotImported) (cond (new i) (refused Client (place + 4) DuplicateSeq) (accepts st (same i) (verdict_of st (same i)))))
      ∙ ap (accepts st r) is
      ∙ ap (λ (kept : Verdict). accepted_as st (submission st r kept (drawn_for st r kept)) kept) (kept-now (stream_at st.streams r.transfer.ep) status)

  -- it ends at once, and no other does
  ends-now : ends what answered_as ≡ Some (ByStatus status)
  ends-now = ap (λ (b : Bool). cond b (at_once (Now status)) None) (itself st.items)

  live-of : (ps : List Pending) → AreBefore st.items ps → filter (λ p. is_none (ends what p.submit)) ps ≡ ps
  live-of [] h = refl
  live-of (p ∷ ps) h = (λ i. cond (is_none (cond (h.0 i) (at_once p.submit.verdict) None)) (p ∷ filter (λ p. is_none (ends what p.submit)) ps) (filter (λ p. is_none (ends what p.submit)) ps)) ∙ ap (λ (l : List Pending). p ∷ l) (live-of ps h.1)

  outs-of : (ps : List Pending) → AreBefore st.items ps → flat_map (λ p. answers_at p.submit p.unlinker (ends what p.submit)) ps ≡ []
  outs-of [] h = refl
  outs-of (p ∷ ps) h = (λ i. answers_at p.submit p.unlinker (cond (h.0 i) (at_once p.submit.verdict) None) ++ outs-of ps h.1 i)

  done-of : (ps : List Pending) → AreBefore st.items ps → filter (λ p. is_by_answer (ends what p.submit)) ps ≡ []
  done-of [] h = refl
  done-of (p ∷ ps) h = (λ i. cond (is_by_answer (cond (h.0 i) (at_once p.submit.verdict) None)) (p ∷ filter (λ p. is_by_answer (ends what p.submit)) ps) (filter (λ p. is_by_answer (ends what p.submit)) ps)) ∙ done-of ps h.1

  now-live : live_after st what ≡ st.live
  now-live =
      asks-none what (λ s. refl) (filter (λ p. is_none (ends what p.submit)) (present st what))
      ∙ filter-append (λ p. is_none (ends what p.submit)) st.live (fresh answered_as ∷ [])
      ∙ (λ i. live-of st.live before i ++ cond (is_none (ends-now i)) (fresh answered_as ∷ []) [])
      ∙ append-nil st.live

  now-answered : flat_map (λ p. answers_at p.submit p.unlinker (ends what p.submit)) (present st what) ≡ without_packets r status ∷ []
  now-answered =
      flat_map-append (λ p. answers_at p.submit p.unlinker (ends what p.submit)) st.live (fresh answered_as ∷ [])
      ∙ (λ i. outs-of st.live before i ++ (answers_at answered_as None (ends-now i) ++ []))

  none-done : filter (λ p. is_by_answer (ends what p.submit)) (present st what) ≡ []
  none-done = filter-append (λ p. is_by_answer (ends what p.submit)) st.live (fresh answered_as ∷ []) ∙ (λ i. done-of st.live before i ++ cond (is_by_answer (ends-now i)) (fresh answered_as ∷ []) [])

  pub now-made : {S : Type 0} (w : World S) → w.gate ≡ st → gate_made as_deeds w (mark_as w.gate what None)
      ≡ record { world = record (replied_world w) { submits = w.submits ++ record { seqnum = r.seqnum; id = 0 } ∷ [] }; outs = Urb (without_packets r status) ∷ []; told = Submit r ∷ [] }
  now-made {S = S} w same = subst (λ (g : State). gate_made as_deeds (record w { gate = g }) (mark_as g what None) ≡ record { world = record (replied_world (record w { gate = g })) { submits = w.submits ++ record { seqnum = r.seqnum; id = 0 } ∷ [] }; outs = Urb (without_packets r status) ∷ []; told = Submit r ∷ [] }) (sym same) here
    where
      here : gate_made as_deeds (record w { gate = st }) (mark_as st what None) ≡ record { world = record (replied_world (record w { gate = st })) { submits = w.submits ++ record { seqnum = r.seqnum; id = 0 } ∷ [] }; outs = Urb (without_packets r status) ∷ []; told = Submit r ∷ [] }
      here = λ i. record {
        world = record w {
          gate = record st { items = suc st.items; live = now-live i; abandoned = filter-all st.abandoned i };
          to_host = (ap (λ (l : List (ℕ × RedirPacket)). w.to_host ++ ((l ++ []) ++ [])) (none-cancelled what stays-uncancelled st.live) ∙ append-nil w.to_host) i;
          submits = (ap (λ (ps : List Pending). w.submits ++ flat_map named (((((note.Submitted r.seqnum 0 ∷ []) ++ map (λ (p : Pending). note.Answered p.submit.request.seqnum) ps) ++ []) ++ []) ++ [])) none-done) i;
        };
        outs = map Urb (now-answered i);
        told = (ap (λ (ps : List Pending). (((Submit r ∷ []) ++ map (λ (p : Pending). Answer p.submit.request.seqnum) ps) ++ []) ++ []) none-done) i;
      }

-- ---- and the device

-- it keeps what is shared
pub keep-now : {S : Type 0} (m : Meaning S) (w : World S) (j : Shared) (place : ℕ) (s : UrbSubmit) (status : ℤ) → Related m w j → AreBefore w.gate.items w.gate.live → w.gate.sides.imported ≡ true → has_number w.gate s.head.seqnum ≡ false →
    verdict_of w.gate (request_of s) ≡ Now status → made_of m (view w j) (request_of s) ≡ Now status → Keeps m w j (move as_deeds m w (ByClient (Asked place (Urb (urb.Submit s)))))
keep-now {S = S} m w j place s status rel before inside new is made-is = go st.sides.client_over refl
  where
    st : State
    st = w.gate

    r : Request
    r = request_of s

    d : Direct S
    d = view w j

    made : Made S Deed
    made = move as_deeds m w (ByClient (Asked place (Urb (urb.Submit s))))

    new_world : World S
    new_world = record (replied_world w) { submits = w.submits ++ record { seqnum = r.seqnum; id = 0 } ∷ [] }

    device : act m d (Submit r) ≡ d
    device = ap (λ (v : Verdict). submitted d (record { request = r; verdict = v })) made-is
        ∙ (λ i. record d {
          live = (ap (λ (l : List Live). l ++ []) (filter-all d.live) ∙ append-nil d.live) i;
          queue = append-nil d.queue i;
          way = λ ep. way-again (stream_of st.streams ep) ep j.back i;
        })

    says : answers m d (Submit r) ≡ without_packets r status ∷ []
    says = ap (λ (v : Verdict). submit_answers d (record { request = r; verdict = v })) made-is
        ∙ ap (λ (l : List Live). map (λ (y : Live). without_packets y.load.request ESHUTDOWN) l ++ without_packets r status ∷ []) (filter-none d.live)

    go : (b : Bool) → st.sides.client_over ≡ b → Keeps m w j made
    go true over = keeps-quiet m w j j made w (ap (λ (b : Bool). cond b (quiet w) (gate_made as_deeds w (mark_of st (Asked place (Urb (urb.Submit s)))))) over) rel refl
    go false on = keeps-deed m w j j made (Submit r) (record {
      deeds = ap (λ (x : Made S Deed). x.told) moved;
      outs = ap (λ (x : Made S Deed). x.outs) moved ∙ ap (map Urb) (sym says);
      same = device ∙ ap (λ (x : Made S Deed). view x.world j) (sym moved);
      allowed = (inside, list_any-map (λ (l : Live). is_number r.seqnum l.load) live_of st.live ∙ sym (list_any-map (is_numbered r.seqnum) (λ (p : Pending). p.submit) st.live) ∙ new);
    })
        (subst (λ (x : Made S Deed). Related m x.world j) (sym moved) (counted-related m w j (w.submits ++ record { seqnum = r.seqnum; id = 0 } ∷ []) st.sides.client_over rel (ids-named j.debts w.submits (j.held ++ j.coming) (runs_in j.back) r.seqnum rel.real rel.ids) rel.sides.refused))
      where
        moved : made ≡ record { world = new_world; outs = Urb (without_packets r status) ∷ []; told = Submit r ∷ [] }
        moved = (λ i. cond (on i) (quiet w) (gate_made as_deeds w (mark_as st (now-means st r status before place s refl inside new is i) None))) ∙ now-made st r status before w refl
