-- Where memory runs out as a gate takes an event, and what it had sent by then.
use Rattle.std.proofs.Common.{◌≡◌, ◌⊎◌, ℕ, suc, not, Bool, true, false, cond, List, [], ◌∷◌, ◌++◌, length, Option, Some, refl, sym, ap, ◌∙◌, subst, inl, inr, arith, append-nil, append_assoc}
use Rattle.std.specs.List.{cons_option, flat_map}
use Rattle.std.specs.Prelude.{IsSomeAnd}
use Rattle.std.proofs.lemmas.Grind.{flat_map-append}
use Rattle.usb_base.specs.Writes.{Begins}
use Rattle.usb_base.specs.declared.refusal.Refusal.{Refusal}
use Rattle.usb_base.specs.Lists.{is_empty}
use Rattle.packet_stream.specs.Items.{onto}
use Rattle.gate_history.specs.step.Events.{PastEvent}
use Rattle.gate_history.specs.declared.item.Item.{Item}
use Rattle.gate_history.specs.step.Marks.{Mark}
use Rattle.gate_history.specs.step.Meaning.{mark_of}
use Rattle.gate_history.specs.step.Past.{is_left_out, put, past}
use Rattle.gate_history.specs.step.History.{arrivals}
use Rattle.gate_history.specs.step.Wants.{IsHeld, FirstWants}
use Rattle.gate_history.specs.state.State.{State, state_of}
use Rattle.gate_history.specs.write.All.{all_of}
use Rattle.gate_history.specs.write.Bytes.{client_bytes_of, host_bytes_of, out_client, out_host}
use Rattle.gate_history.specs.Headline.{client_output, host_output, notes as told_notes}
use Rattle.gate_history.specs.declared.note.Note.{Note}
use Rattle.packet_stream.proofs.Pieces.{onto-append}
use Rattle.gate_core.specs.state.Kept.{GateKept}
use Rattle.gate_core.specs.step.Stands.{StopsInEvent, TakesEvent}
use Rattle.bridge_serve.specs.declared.served.after_loss.AfterLoss.{AfterLoss}
use Rattle.bridge_run.specs.declared.events.sent.Sent.{Sent}
use Rattle.bridge_run.specs.events.Events.{PastLinkEvent}
use Rattle.gate_history.specs.write.Refusals.{refusal_in}
use Rattle.bridge_serve.specs.served.Gate.{gate_event, gate_events, gate_notes, gate_sends}
use Rattle.bridge_serve.specs.served.GateStops.{GateStops, gate_runs_out}
use Rattle.bridge_run.specs.events.Prescribed.{gained}
use Rattle.bridge_run.specs.served.Sends.{SendsPart}
use Rattle.bridge_serve.proofs.lemmas.served.Acts.{gained-is}
use Rattle.bridge_serve.proofs.lemmas.served.Gate.{gained-of}

-- ---- more items send more

put-more : (gives : State → Mark → List ℕ) (first : ℕ) (ms : List Mark) (x : Item) → (more : List ℕ) × (all_of gives first (put first ms x) ≡ all_of gives first ms ++ more)
put-more gives first ms x = go (is_left_out (state_of first ms) x)
  where
    go : (b : Bool) → (more : List ℕ) × (all_of gives first (cond b ms (mark_of (state_of first ms) x ∷ ms)) ≡ all_of gives first ms ++ more)
    go true = ([], sym (append-nil (all_of gives first ms)))
    go false = (gives (state_of first ms) (mark_of (state_of first ms) x), refl)

onto-more : (gives : State → Mark → List ℕ) (first : ℕ) (xs before : List Item) → (more : List ℕ) × (all_of gives first (past first (onto xs before)) ≡ all_of gives first (past first before) ++ more)
onto-more gives first [] before = ([], sym (append-nil (all_of gives first (past first before))))
onto-more gives first (x ∷ xs) before =
    let one = put-more gives first (past first before) x in
    let rest = onto-more gives first xs (x ∷ before) in
    (one.0 ++ rest.0, rest.1 ∙ ap (λ (l : List ℕ). l ++ rest.0) one.1 ∙ append_assoc (all_of gives first (past first before)) one.0 rest.0)

client-more : (first : ℕ) (taken later before : List Item) → (more : List ℕ) × (out_client first (past first (onto (taken ++ later) before)) ≡ out_client first (past first (onto taken before)) ++ more)
client-more first taken later before =
    let rest = onto-more client_bytes_of first later (onto taken before) in
    (rest.0, ap (λ (xs : List Item). out_client first (past first xs)) (onto-append taken later before) ∙ rest.1)

behind-hello : (hello all mid more : List ℕ) → all ≡ mid ++ more → hello ++ all ≡ (hello ++ mid) ++ more
behind-hello hello all mid more is = ap (λ (l : List ℕ). hello ++ l) is ∙ sym (append_assoc hello mid more)

host-more : (first : ℕ) (taken later before : List Item) → (more : List ℕ) × (out_host first (past first (onto (taken ++ later) before)) ≡ out_host first (past first (onto taken before)) ++ more)
host-more first taken later before =
    let rest = onto-more host_bytes_of first later (onto taken before) in
    (rest.0, ap (λ (xs : List Item). out_host first (past first xs)) (onto-append taken later before) ∙ behind-hello _ _ _ rest.0 rest.1)

-- ---- an event

-- a front of what the event sends
front-of : (all : List PastLinkEvent → List ℕ) (events : List PastLinkEvent) (e : PastLinkEvent) (mid behind sent more : List ℕ) → mid ≡ all events ++ sent → behind ≡ mid ++ more → all (e ∷ events) ≡ behind → Begins sent (gained all events e)
front-of all events e mid behind sent more is longer same =
    record { more = more; is = gained-is (all events) (sent ++ more) (all (e ∷ events)) (same ∙ longer ∙ ap (λ (l : List ℕ). l ++ more) is ∙ append_assoc (all events) sent more) }

no-longer : (e : PastEvent) (events : List PastEvent) → e ∷ events ≡ events → ⊥
no-longer e events is = differ (length events) (ap length is)
  where
    differ : (n : ℕ) → suc n ≡ n → ⊥
    differ n is = omega arith

-- where its items stopped
wanted-at : (first : ℕ) (events : List PastEvent) (e : PastEvent) (seen : List PastEvent) (taken later : List Item) → (seen ≡ e ∷ events) ⊎ ((seen ≡ events) × (taken ≡ [])) → ((seen ≡ events) × IsHeld first events e) ⊎ FirstWants first (onto taken (arrivals events)) later
    → ((taken ≡ []) × IsHeld first events e) ⊎ FirstWants first (onto taken (arrivals events)) later
wanted-at first events e seen taken later (inl all) (inl held) = absurd (no-longer e events (sym all ∙ held.0))
wanted-at first events e seen taken later (inr none) (inl held) = inl (none.1, held.1)
wanted-at first events e seen taken later s (inr wants) = inr wants

stops-at : (first : ℕ) (events : List PastLinkEvent) (e : PastLinkEvent) (ge : PastEvent) (client host : List ℕ) → gate_event e ≡ Some ge → GateStops first (gate_events events) ge client host → gate_runs_out first events e client host
stops-at first events e ge client host is x = subst (λ (o : Option PastEvent). IsSomeAnd o (λ it. GateStops first (gate_events events) it client host)) (sym is) x

pub gate-stops : (setting : AfterLoss) (first : ℕ) (events : List PastLinkEvent) (e : PastLinkEvent) (ge : PastEvent) (kept : GateKept) (old new : Sent) → gate_event e ≡ Some ge
    → StopsInEvent first kept (gate_events events) ge old.to_client new.to_client old.to_host new.to_host → SendsPart (gate_runs_out first) (gate_sends setting first) events e old new
gate-stops setting first events e ge kept old new is x =
    let before = arrivals (gate_events events) in
    let came : gate_events (e ∷ events) ≡ ge ∷ gate_events events = ap (λ (o : Option PastEvent). cons_option o (gate_events events)) is in
    let all : arrivals (gate_events (e ∷ events)) ≡ onto (x.taken ++ x.later) before = ap arrivals came ∙ ap (λ (xs : List Item). onto xs before) x.parts in
    let client = client-more first x.taken x.later before in
    let host = host-more first x.taken x.later before in
    record {
      client = x.client.more;
      host = x.host.more;
      to_client = x.client.new-is;
      to_host = x.host.new-is;
      part = record {
        to_client = front-of (gate_sends setting first).to_client events e (out_client first (past first (onto x.taken before))) _ x.client.more client.0 x.client.after-is client.1 (ap (λ (xs : List Item). out_client first (past first xs)) all);
        to_host = front-of (gate_sends setting first).to_host events e (out_host first (past first (onto x.taken before))) _ x.host.more host.0 x.host.after-is host.1 (ap (λ (xs : List Item). out_host first (past first xs)) all);
        ran_out = inl (stops-at first events e ge x.client.more x.host.more is (record {
          taken = x.taken;
          later = x.later;
          parts = x.parts;
          wanted = wanted-at first (gate_events events) ge x.seen x.taken x.later x.seen-is x.wanted;
          client-is = x.client.after-is;
          host-is = x.host.after-is;
        }));
      };
    }

-- all was sent, and its refusals couldn't be told
pub gate-untold : (setting : AfterLoss) (first : ℕ) (past : List PastLinkEvent) (e : PastLinkEvent) (ge : PastEvent) (kept : GateKept) (old new : Sent) (notes : List Note) → gate_event e ≡ Some ge
    → TakesEvent first kept (gate_events past) ge old.to_client new.to_client old.to_host new.to_host notes → not (is_empty (flat_map refusal_in notes)) ≡ true → SendsPart (gate_runs_out first) (gate_sends setting first) past e old new
gate-untold setting first past e ge kept old new notes is t some =
    let p = gate_sends setting first in
    let came : gate_events (e ∷ past) ≡ ge ∷ gate_events past = ap (λ (o : Option PastEvent). cons_option o (gate_events past)) is in
    let told : gate_notes first (e ∷ past) ≡ gate_notes first past ++ notes = ap (told_notes first) came ∙ t.sends.notes-are in
    let refused : p.refusals (e ∷ past) ≡ p.refusals past ++ flat_map refusal_in notes = ap (flat_map refusal_in) told ∙ flat_map-append refusal_in (gate_notes first past) notes in
    record {
      client = gained p.to_client past e;
      host = gained p.to_host past e;
      to_client = gained-of p.to_client past e old.to_client new.to_client (client_output first (ge ∷ gate_events past)) (ap (client_output first) came) t.sends.client;
      to_host = gained-of p.to_host past e old.to_host new.to_host (host_output first (ge ∷ gate_events past)) (ap (host_output first) came) t.sends.host;
      part = record {
        to_client = record { more = []; is = sym (append-nil (gained p.to_client past e)) };
        to_host = record { more = []; is = sym (append-nil (gained p.to_host past e)) };
        ran_out = inr (record { client-is = refl; host-is = refl; refuses = ap (λ (rs : List Refusal). not (is_empty rs)) (gained-is (p.refusals past) (flat_map refusal_in notes) (p.refusals (e ∷ past)) refused) ∙ some });
      };
    }
