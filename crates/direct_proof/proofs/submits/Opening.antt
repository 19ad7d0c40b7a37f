-- The gateway accepts a submit that goes to the host and ends no stream, and so does the device attached directly.
use Rattle.std.proofs.Common.{◌≡◌, ℕ, ◌+◌, ◌==◌, not, Bool, true, false, cond, List, [], ◌∷◌, ◌++◌, length, map, filter, zip, Some, None, is_none, refl, ap, ◌∙◌, append-nil}
use Rattle.std.specs.List.{flat_map}
use Rattle.usb_base.specs.declared.side.Side.TheVariants.{Client}
use Rattle.usb_base.specs.declared.reason.Reason.TheVariants.{NotImported, DuplicateSeq}
use Rattle.usbip_urb.specs.declared.packet.Submit.{Submit as UrbSubmit}
use Rattle.usbip_urb.specs.declared.packet.UrbPacket.TheVariants as urb
use Rattle.usbip_urb.specs.declared.client.ClientPacket.TheVariants.{Urb}
use Rattle.redir_data.specs.declared.packet.RedirPacket.{RedirPacket}
use Rattle.model_device.specs.Meaning.{Meaning}
use Rattle.gate_history.specs.declared.request.Request.{Request}
use Rattle.gate_history.specs.client.Requests.{request_of}
use Rattle.gate_history.specs.declared.item.Item.TheVariants.{Asked}
use Rattle.gate_history.specs.declared.verdict.Verdict.{Verdict}
use Rattle.gate_history.specs.step.Marks.{Submission, Effect, Opens}
use Rattle.gate_history.specs.client.Submits.{Pending}
use Rattle.gate_history.specs.client.Ends.{ends, at_once, ByStatus, is_touched, answers_at}
use Rattle.gate_history.specs.state.Ids.{last_of}
use Rattle.usb_base.specs.declared.errno.TheConstants.{ESHUTDOWN}
use Rattle.gate_history.specs.state.StreamIds.{asking}
use Rattle.gate_history.specs.state.Ups.{stream_at, stream_of, opened_streams}
use Rattle.gate_history.specs.state.State.{State, has_number, next_ids}
use Rattle.gate_history.specs.write.Packets.{packets_of}
use Rattle.gate_history.specs.step.Meaning.{meaning, mark_as, refused, submission, accepted_as, accepts, drawn_for, verdict_of}
use Rattle.gate_history.specs.step.Machine.{live_after}
use Rattle.gate_history.specs.write.Output.{fresh, present, to_client, to_host}
use Rattle.gate_history.specs.write.Answers.{without_packets}
use Rattle.gate_history.specs.write.Notes.{notes_of, is_by_answer}
use Rattle.gate_history.specs.declared.note.Note.TheVariants as note
use Rattle.gate_history.proofs.lemmas.Lists.{Each, Each-append, Each-weaker, filter-same, filter-all, filter-none, flat_map-same, flat_map-none}
use Rattle.gate_history.proofs.lemmas.step.NoCancel.{asks-none, none-cancelled, stays-uncancelled}
use Rattle.direct_run.specs.Noted.{named}
use Rattle.direct_device.specs.Direct.{Load, Live, Direct, way_if}
use Rattle.direct_device.specs.Acting.{Submit, Answer, act, answers, made_of, submitted, submit_answers}
use Rattle.direct_proof.specs.Deeds.{deeds_of}
use Rattle.direct_proof.proofs.performs.Performs.{itself}
use Rattle.direct_proof.proofs.submits.Submitting.{AreBefore}
use Rattle.direct_proof.proofs.submits.Simple.{IsSimple}

-- ---- what the gateway makes of it

module _ (st : State) (r : Request) (v : Verdict) (x : IsSimple st r v) (before : AreBefore st.items st.live) where
  abbrev pub opened_as : Submission
  opened_as = record { place = st.items; request = r; verdict = v; id = x.id }

  abbrev what : Effect
  what = Opens opened_as

  pub simple-means : (place : ℕ) (s : UrbSubmit) → request_of s ≡ r → st.sides.imported ≡ true → has_number st s.head.seqnum ≡ false → verdict_of st r ≡ v → meaning st (Asked place (Urb (urb.Submit s))) ≡ what
  simple-means place s same imported new is =
      (λ i. cond (not (imported i)) (refused Client place NotImported) (cond (new i) (refused Client (place + 4) DuplicateSeq) (accepts st (same i) (verdict_of st (same i)))))
      ∙ ap (accepts st r) is
      ∙ ap (λ (kept : Verdict). accepted_as st (submission st r kept (drawn_for st r kept)) kept) (x.kept (stream_at st.streams r.transfer.ep))
      ∙ x.opens (submission st r v (drawn_for st r v))
      ∙ (λ i. Opens (record { place = st.items; request = r; verdict = v; id = (ap (λ (b : Bool). cond b (last_of 0 (next_ids st (length (packets_of st.streams v r)))) 0) x.goes ∙ ap (λ (l : List RedirPacket). last_of 0 (next_ids st (length l))) x.packets ∙ x.last) i }))

  stays : (p : Pending) → (st.items == p.submit.place) ≡ false → is_touched v p.submit.verdict ≡ false → ends what p.submit ≡ None
  stays p e un = ap (λ (b : Bool). cond b (at_once p.submit.verdict) (cond (is_touched v p.submit.verdict) (Some (ByStatus ESHUTDOWN)) None)) e ∙ ap (λ (b : Bool). cond b (Some (ByStatus ESHUTDOWN)) None) un

  new-stays : ends what opened_as ≡ None
  new-stays = ap (λ (b : Bool). cond b (at_once v) (cond (is_touched v v) (Some (ByStatus ESHUTDOWN)) None)) (itself st.items) ∙ x.lives

  all-stay : Each (λ (p : Pending). ends what p.submit ≡ None) (present st what)
  all-stay = Each-append (λ (p : Pending). ends what p.submit ≡ None) st.live (fresh opened_as ∷ []) (olds st.live before x.untouched) (new-stays, tt)
    where
      olds : (ps : List Pending) → AreBefore st.items ps → Each (λ (p : Pending). is_touched v p.submit.verdict ≡ false) ps → Each (λ (p : Pending). ends what p.submit ≡ None) ps
      olds [] h k = tt
      olds (p ∷ ps) h k = (stays p h.0 k.0, olds ps h.1 k.1)

  pub simple-live : live_after st what ≡ st.live ++ fresh opened_as ∷ []
  simple-live =
      asks-none what (λ s. refl) (filter (λ p. is_none (ends what p.submit)) (present st what))
      ∙ filter-same (λ p. is_none (ends what p.submit)) (λ p. true) (present st what) (weak (present st what) all-stay)
      ∙ filter-all (present st what)
    where
      weak : (ps : List Pending) → Each (λ (p : Pending). ends what p.submit ≡ None) ps → Each (λ (p : Pending). is_none (ends what p.submit) ≡ true) ps
      weak [] h = tt
      weak (p ∷ ps) h = (ap is_none h.0, weak ps h.1)

  pub simple-outs : to_client st (mark_as st what None) ≡ []
  simple-outs = ap (map Urb) (flat_map-same (λ p. answers_at p.submit p.unlinker (ends what p.submit)) (λ p. []) (present st what) (weak (present st what) all-stay) ∙ flat_map-none (present st what))
    where
      weak : (ps : List Pending) → Each (λ (p : Pending). ends what p.submit ≡ None) ps → Each (λ (p : Pending). answers_at p.submit p.unlinker (ends what p.submit) ≡ []) ps
      weak [] h = tt
      weak (p ∷ ps) h = (ap (answers_at p.submit p.unlinker) h.0, weak ps h.1)

  none-by-answer : filter (λ p. is_by_answer (ends what p.submit)) (present st what) ≡ []
  none-by-answer = filter-same (λ p. is_by_answer (ends what p.submit)) (λ p. false) (present st what) (weak (present st what) all-stay) ∙ filter-none (present st what)
    where
      weak : (ps : List Pending) → Each (λ (p : Pending). ends what p.submit ≡ None) ps → Each (λ (p : Pending). is_by_answer (ends what p.submit) ≡ false) ps
      weak [] h = tt
      weak (p ∷ ps) h = (ap is_by_answer h.0, weak ps h.1)

  pub simple-done : deeds_of st (mark_as st what None) ≡ Submit r ∷ []
  simple-done = ap (λ (ps : List Pending). (((Submit r ∷ []) ++ map (λ (p : Pending). Answer p.submit.request.seqnum) ps) ++ []) ++ []) none-by-answer

  pub simple-named : flat_map named (notes_of st (mark_as st what None)) ≡ record { seqnum = r.seqnum; id = x.id } ∷ []
  simple-named = ap (λ (ps : List Pending). flat_map named (((((note.Submitted r.seqnum x.id ∷ []) ++ map (λ (p : Pending). note.Answered p.submit.request.seqnum) ps) ++ []) ++ []) ++ [])) none-by-answer

  pub simple-asks : asking st.streams (mark_as st what None) ≡ x.qs
  simple-asks = (λ i. zip (next_ids st (length (x.packets i))) (x.packets i)) ∙ x.zipped

  pub simple-sent : to_host st (mark_as st what None) ≡ x.qs
  simple-sent = (λ i. (none-cancelled what stays-uncancelled st.live i ++ simple-asks i) ++ []) ∙ append-nil x.qs

-- ---- and the device

pub device-simple : {S : Type 0} (m : Meaning S) (st : State) (d : Direct S) (r : Request) (v : Verdict) (x : IsSimple st r v) → d.streams ≡ st.streams → Each (λ (y : Live). is_touched v y.load.verdict ≡ false) d.live → made_of m d r ≡ v → ((ep : ℕ) → way_if (stream_of st.streams ep) (d.way ep) ≡ d.way ep) →
    (act m d (Submit r) ≡ record d { live = d.live ++ record { load = record { request = r; verdict = v }; unlinker = None } ∷ []; queue = d.queue ++ record { load = record { request = r; verdict = v }; asked = false } ∷ []; streams = st.streams })
    × (answers m d (Submit r) ≡ [])
device-simple {S = S} m st d r v x same untouched made ways = (
  ap (λ (u : Verdict). submitted d (record { request = r; verdict = u })) made
      ∙ (λ i. record d {
        live = (filter-same (λ (y : Live). not (is_touched v y.load.verdict)) (λ y. true) d.live (Each-weaker (λ (y : Live). is_touched v y.load.verdict ≡ false) (λ (y : Live). not (is_touched v y.load.verdict) ≡ true) (λ y h. ap not h) d.live untouched) ∙ filter-all d.live) i ++ x.joins l i;
        queue = d.queue ++ cond (x.goes i) (record { load = l; asked = false } ∷ []) [];
        streams = streams i;
        way = λ ep. (ap (λ ups. way_if (stream_of ups ep) (d.way ep)) streams ∙ ways ep) i;
      }),
  ap (λ (u : Verdict). submit_answers d (record { request = r; verdict = u })) made
      ∙ (λ i. map (λ (y : Live). without_packets y.load.request ESHUTDOWN) ((filter-same (λ (y : Live). is_touched v y.load.verdict) (λ y. false) d.live untouched ∙ filter-none d.live) i) ++ x.answered l i),
)
  where
    l : Load
    l = record { request = r; verdict = v }

    streams : opened_streams v r.transfer.ep d.streams ≡ st.streams
    streams = ap (opened_streams v r.transfer.ep) same ∙ x.streams
