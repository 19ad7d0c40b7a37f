-- The gateway reads a packet of a stream: it is held, or lost, and what is held fills those that wait.
use Rattle.std.proofs.Common.{◌≡◌, ℕ, suc, ◌≤◌, ◌==◌, ◌&&◌, not, nat_lt, Bool, true, false, cond, List, [], ◌∷◌, ◌++◌, map, filter, Option, Some, None, is_none, refl, sym, ap, ◌∙◌, arith, append-nil}
use Rattle.std.specs.Option.{option_map}
use Rattle.std.specs.List.{flat_map}
use Rattle.usb_base.specs.Endpoint.{is_in_endpoint}
use Rattle.usb_base.specs.declared.status.UsbStatus.{UsbStatus}
use Rattle.usb_base.specs.declared.transfer.StreamPacket.{StreamPacket}
use Rattle.stream_buffers.specs.Held.{is_full}
use Rattle.usbip_urb.specs.declared.client.ClientPacket.TheVariants.{Urb}
use Rattle.usbip_urb.specs.declared.packet.UrbPacket.{UrbPacket}
use Rattle.redir_data.specs.declared.packet.RedirPacket.{RedirPacket}
use Rattle.gate_history.specs.declared.request.Request.{Request}
use Rattle.gate_history.specs.declared.item.Item.TheVariants.{Told}
use Rattle.gate_history.specs.host.Fillings.{Fill, Filling, fill, none_filled, given_to}
use Rattle.gate_history.specs.step.Marks.{Submission, Effect, Arrives, Mark}
use Rattle.gate_history.specs.client.Submits.{Pending}
use Rattle.gate_history.specs.client.Ends.{End, ByPackets, is_waiting, waits_at, packets_end, answers_at}
use Rattle.gate_history.specs.state.State.{State}
use Rattle.gate_history.specs.step.Meaning.{meaning, mark_as, fact_of, waiting, arrives}
use Rattle.gate_history.specs.step.Machine.{live_after}
use Rattle.gate_history.specs.write.Notes.{is_by_answer, notes_of}
use Rattle.gate_history.specs.declared.note.Note.{Note}
use Rattle.gate_history.specs.declared.note.Note.TheVariants as note
use Rattle.gate_history.specs.declared.verdict.Verdict.{Verdict}
use Rattle.gate_history.specs.declared.verdict.Verdict.TheVariants.{Now}
use Rattle.gate_history.specs.client.Verdict.{goes_by_id}
use Rattle.gate_history.specs.state.Ups.{Up, stream_of, hold}
use Rattle.gate_history.proofs.lemmas.Lists.{filter-all, filter-map, map-map}
use Rattle.gate_history.proofs.lemmas.step.NoCancel.{asks-none, none-cancelled, stays-uncancelled}
use Rattle.direct_run.specs.declared.submitted.Submitted.{Submitted}
use Rattle.direct_run.specs.Noted.{named}
use Rattle.direct_device.specs.Acting.{Deed, Answer, Arrive}
use Rattle.direct_run.specs.Moves.{World, gate_made}
use Rattle.direct_proof.specs.Deeds.{as_deeds}
use Rattle.redir_data.specs.Sent.{sent_header}
use Rattle.redir_data.specs.declared.stream_kind.StreamKind.{StreamKind}
use Rattle.redir_data.specs.declared.stream_kind.StreamKind.TheVariants.{Iso, Interrupt}
use Rattle.redir_data.specs.StreamKinds.{is_kind_of}
use Rattle.direct_proof.specs.Requests.{Debt, load_of, debts_of}
use Rattle.direct_proof.specs.Tagged.{Packed, on_wire}
use Rattle.model_device.specs.Gadget.{IsNamed}
use Rattle.direct_proof.proofs.streams.fills.Fills.{ends_by, asking_at}

-- ---- what it means

in-byte : (n : ℕ) → 128 ≤ n → is_in_endpoint n ≡ true
in-byte n h = ap not (high n h)
  where
    high : (k : ℕ) → 128 ≤ k → nat_lt k 128 ≡ false
    high k g = grind (arith, g)

in-front : {A : Type 0} (b : Bool) (x y : A) → b ≡ true → cond b x y ≡ x
in-front b x y h = ap (λ (c : Bool). cond c x y) h

abbrev pub arrival : State → ℕ → StreamKind → ℕ → StreamPacket → Mark
arrival st place k ep p = mark_as st (meaning st (Told place (sent_header st.sides.agreed (on_wire (Packed k ep p))) (on_wire (Packed k ep p)).1)) (fact_of (on_wire (Packed k ep p)).1)

pub arrival-means : (st : State) (place : ℕ) (k : StreamKind) (ep : ℕ) (p : StreamPacket) → 128 ≤ ep → IsNamed p.status → arrival st place k ep p ≡ mark_as st (arrives st ep k p (stream_of st.streams ep)) None
arrival-means st place Iso ep p h n =
    ap (λ (e : Effect). mark_as st e None) (in-front (is_in_endpoint ep) _ _ (in-byte ep h))
    ∙ ap (λ (x : UsbStatus). mark_as st (arrives st ep Iso (record { status = x; body = p.body }) (stream_of st.streams ep)) None) n
arrival-means st place Interrupt ep p h n =
    ap (λ (e : Effect). mark_as st e None) (in-front (is_in_endpoint ep) _ _ (in-byte ep h))
    ∙ ap (λ (x : UsbStatus). mark_as st (arrives st ep Interrupt (record { status = x; body = p.body }) (stream_of st.streams ep)) None) n

-- what it fills
abbrev pub filling_of : State → ℕ → StreamPacket → Up → Bool → Fill
filling_of st ep p up true = none_filled up.held
filling_of st ep p up false = fill up.row.max_packet (asking_at ep st.live) (up.held ++ p ∷ [])

waiting-are : (st : State) (ep : ℕ) → waiting st ep ≡ asking_at ep st.live
waiting-are st ep =
    ap (map (λ (s : Submission). s.request)) (filter-map (waits_at ep) (λ (p : Pending). p.submit) st.live)
    ∙ map-map (λ (s : Submission). s.request) (λ (p : Pending). p.submit) (filter (λ (p : Pending). waits_at ep p.submit) st.live)

pub arrives-as : (st : State) (k : StreamKind) (ep : ℕ) (p : StreamPacket) (up : Up) → is_kind_of k up.row.kind ≡ true → arrives st ep k p (Some up) ≡ Arrives ep (filling_of st ep p up (is_full up.held))
arrives-as st k ep p up kind =
    ap (λ (b : Bool). Arrives ep (cond (b && not (is_full up.held)) (fill up.row.max_packet (waiting st ep) (up.held ++ p ∷ [])) (none_filled up.held))) kind
    ∙ by (is_full up.held)
  where
    by : (b : Bool) → Arrives ep (cond (not b) (fill up.row.max_packet (waiting st ep) (up.held ++ p ∷ [])) (none_filled up.held)) ≡ Arrives ep (filling_of st ep p up b)
    by true = refl
    by false = ap (λ (rs : List Request). Arrives ep (fill up.row.max_packet rs (up.held ++ p ∷ []))) (waiting-are st ep)

-- ---- what the gateway makes of it

abbrev pub stay_by : ℕ → List Filling → List Pending → List Pending
stay_by ep fs ps = filter (λ p. is_none (ends_by ep fs p)) ps

abbrev pub told_by_fills : ℕ → List Filling → List Pending → List ℕ
told_by_fills ep fs ps = map (λ (p : Pending). p.submit.request.seqnum) (filter (λ p. is_by_answer (ends_by ep fs p)) ps)

abbrev pub sent_by_fills : ℕ → List Filling → List Pending → List UrbPacket
sent_by_fills ep fs ps = flat_map (λ (p : Pending). answers_at p.submit p.unlinker (ends_by ep fs p)) ps

pub none-named : (ns : List ℕ) → flat_map named (map note.Answered ns) ≡ []
none-named [] = refl
none-named (n ∷ ns) = none-named ns

abbrev pub arrived_world : {S : Type 0} → World S → ℕ → Fill → World S
arrived_world w ep f = record w { gate = record w.gate { items = suc w.gate.items; live = stay_by ep f.fillings w.gate.live; streams = hold ep f.left w.gate.streams } }

abbrev noted : State → ℕ → Fill → List Note
noted st ep f = map (λ (p : Pending). note.Answered p.submit.request.seqnum) (filter (λ p. is_by_answer (ends_by ep f.fillings p)) (st.live ++ []))

pub arrives-made : {S : Type 0} (w : World S) (ep : ℕ) (f : Fill) →
    gate_made as_deeds w (mark_as w.gate (Arrives ep f) None) ≡ record { world = arrived_world w ep f; outs = map Urb (sent_by_fills ep f.fillings w.gate.live); told = Arrive ep ∷ map Answer (told_by_fills ep f.fillings w.gate.live) }
arrives-made w ep f = λ i. record {
  world = record w {
    gate = record w.gate { items = suc w.gate.items; live = lives i; abandoned = filter-all w.gate.abandoned i; streams = hold ep f.left w.gate.streams };
    to_host = (ap (λ (l : List (ℕ × RedirPacket)). w.to_host ++ ((l ++ []) ++ [])) (none-cancelled e stays-uncancelled w.gate.live) ∙ append-nil w.to_host) i;
    submits = (names ∙ append-nil w.submits) i;
  };
  outs = ap (λ (ps : List Pending). map Urb (sent_by_fills ep f.fillings ps)) (append-nil w.gate.live) i;
  told = deeds i;
}
  where
    e : Effect
    e = Arrives ep f

    lives : live_after w.gate (Arrives ep f) ≡ stay_by ep f.fillings w.gate.live
    lives = asks-none (Arrives ep f) (λ s. refl) (stay_by ep f.fillings (w.gate.live ++ [])) ∙ ap (stay_by ep f.fillings) (append-nil w.gate.live)

    told : List Pending → List Pending
    told ps = filter (λ p. is_by_answer (ends_by ep f.fillings p)) ps

    names : w.submits ++ flat_map named (notes_of w.gate (mark_as w.gate (Arrives ep f) None)) ≡ w.submits ++ []
    names =
        ap (λ (l : List Note). w.submits ++ flat_map named (note.Arrived ep ∷ l)) (append-nil ((noted w.gate ep f ++ []) ++ []) ∙ append-nil (noted w.gate ep f ++ []) ∙ append-nil (noted w.gate ep f) ∙ sym (map-map note.Answered (λ (p : Pending). p.submit.request.seqnum) (filter (λ p. is_by_answer (ends_by ep f.fillings p)) (w.gate.live ++ []))))
        ∙ ap (λ (l : List Submitted). w.submits ++ l) (none-named (told_by_fills ep f.fillings (w.gate.live ++ [])))

    deeds : (Arrive ep ∷ map (λ (p : Pending). Answer p.submit.request.seqnum) (filter (λ p. is_by_answer (ends_by ep f.fillings p)) (w.gate.live ++ [])) ++ []) ++ [] ≡ Arrive ep ∷ map Answer (told_by_fills ep f.fillings w.gate.live)
    deeds =
        append-nil _ ∙ append-nil _
        ∙ ap (λ (ps : List Pending). Arrive ep ∷ map (λ (p : Pending). Answer p.submit.request.seqnum) (filter (λ p. is_by_answer (ends_by ep f.fillings p)) ps)) (append-nil w.gate.live)
        ∙ ap (λ (l : List Deed). Arrive ep ∷ l) (sym (map-map Answer (λ (p : Pending). p.submit.request.seqnum) (filter (λ p. is_by_answer (ends_by ep f.fillings p)) w.gate.live)))

abbrev debt_in : Submission → Debt
debt_in s = record { id = s.id; load = load_of s }

abbrev by_id : Submission → Bool
by_id s = goes_by_id s.verdict

abbrev all_submits : List Pending → List Submission
all_submits ps = map (λ (q : Pending). q.submit) ps

waits-no-id : (v : Verdict) → goes_by_id v ≡ true → (b : Bool) → (is_waiting v && b) ≡ true → ⊥
waits-no-id (Now status) g b w = absurd (cc)
waits-no-id _ g b w = absurd (cc)

-- what waits for a stream is no debt
pub debts-stay : (ep : ℕ) (fs : List Filling) (ps : List Pending) → debts_of (map (λ (p : Pending). p.submit) (stay_by ep fs ps)) ≡ debts_of (map (λ (p : Pending). p.submit) ps)
debts-stay ep fs [] = refl
debts-stay ep fs (p ∷ ps) = go (ends_by ep fs p) refl (goes_by_id p.submit.verdict) refl (debts-stay ep fs ps)
  where
    go : (o : Option End) → ends_by ep fs p ≡ o → (b : Bool) → goes_by_id p.submit.verdict ≡ b → debts_of (all_submits (stay_by ep fs ps)) ≡ debts_of (all_submits ps) →
        debts_of (map (λ (q : Pending). q.submit) (cond (is_none o) (p ∷ stay_by ep fs ps) (stay_by ep fs ps))) ≡ debts_of (p.submit ∷ all_submits ps)
    go None e b k ih = elim (goes_by_id p.submit.verdict) as (λ c. map debt_in (cond c (p.submit ∷ filter by_id (all_submits (stay_by ep fs ps))) (filter by_id (all_submits (stay_by ep fs ps)))) ≡ map debt_in (cond c (p.submit ∷ filter by_id (all_submits ps)) (filter by_id (all_submits ps))))
        [ true ↦ ap (λ (l : List Debt). debt_in p.submit ∷ l) ih | false ↦ ih ]
    go (Some end) e true k ih = absurd (stream p.submit k (waits_at ep p.submit) refl e)
      where
        stream : (s : Submission) → goes_by_id s.verdict ≡ true → (c : Bool) → waits_at ep s ≡ c → packets_end ep fs s ≡ Some end → ⊥
        stream s g true w z = waits-no-id s.verdict g (s.request.transfer.ep == ep) w
        stream s g false w z = none (sym (ap (λ (x : Bool). cond x (option_map ByPackets (given_to fs s.request.seqnum)) None) w) ∙ z)
          where
            none : None ≡ Some end → ⊥
            none y = cc
    go (Some end) e false k ih = ih ∙ ap (λ (c : Bool). map debt_in (cond c (p.submit ∷ filter by_id (all_submits ps)) (filter by_id (all_submits ps)))) (sym k)
