-- What an event of a gate sends, by what its gate has gained.
use Rattle.std.proofs.Common.{◌≡◌, ℕ, ◌||◌, Bool, false, List, ◌∷◌, ◌++◌, Option, Some, Result, Ok, Err, sym, ap, subst, refl, ◌∙◌}
use Rattle.std.specs.Result.{IfOk, OnOk, OnErr}
use Rattle.std.specs.List.{cons_option, flat_map, list_any}
use Rattle.std.proofs.lemmas.Grind.{flat_map-append}
use Rattle.usb_base.specs.declared.memory.Memory.{Memory}
use Rattle.usb_base.specs.declared.refusal.Refusal.{Refusal}
use Rattle.usb_base.specs.declared.side.Side.{Side}
use Rattle.usb_base.specs.declared.side.Side.TheVariants.{Client, Host}
use Rattle.gate_history.specs.declared.note.Note.{Note}
use Rattle.gate_history.specs.step.Events.{PastEvent}
use Rattle.gate_history.specs.Headline.{client_output, host_output, notes as told_notes, Gains}
use Rattle.gate_core.specs.state.Kept.{GateKept}
use Rattle.gate_core.specs.step.Stands.{GateStands, TakesEvent, StopsInEvent, piece_of}
use Rattle.gate_core.specs.step.Incoming.{TakesOrFails}
use Rattle.bridge_serve.specs.declared.served.after_loss.AfterLoss.{AfterLoss}
use Rattle.bridge_serve.specs.declared.served.after_loss.AfterLoss.TheVariants.{Keep, Close}
use Rattle.bridge_run.specs.declared.events.sent.Sent.{Sent}
use Rattle.bridge_run.specs.events.Events.{PastLinkEvent, SidePiece}
use Rattle.gate_history.specs.write.Refusals.{refusal_in}
use Rattle.bridge_serve.specs.served.Gate.{gate_event, gate_events, gate_notes, gate_sends, is_loss, lets_go}
use Rattle.bridge_run.specs.events.Prescribed.{gained}
use Rattle.bridge_serve.specs.inner.Gated.{GateTakes}
use Rattle.bridge_run.specs.served.Taking.{TakesAll, IsTaken}
use Rattle.bridge_run.specs.served.Sends.{SendsAll, SendsPart}
use Rattle.bridge_serve.specs.served.GateStops.{gate_runs_out}
use Rattle.bridge_serve.proofs.lemmas.served.Acts.{gained-is}

-- of an output that has gained as much
pub gained-of : (all : List PastLinkEvent → List ℕ) (past : List PastLinkEvent) (e : PastLinkEvent) (old new after : List ℕ) → all (e ∷ past) ≡ after → Gains old new (all past) after → new ≡ old ++ gained all past e
gained-of all past e old new after is g = g.new-is ∙ ap (λ (l : List ℕ). old ++ l) (sym (gained-is (all past) g.more (all (e ∷ past)) (is ∙ g.after-is)))

let-go : (setting was : AfterLoss) (first : ℕ) (past : List PastLinkEvent) (e : PastLinkEvent) (notes : List Note) (gone : Bool) → gained (gate_notes first) past e ≡ notes → (was ≡ Keep → gone ≡ false) → (was ≡ Close → gone ≡ list_any is_loss notes)
    → was ≡ setting → gone ≡ lets_go setting first (e ∷ past)
let-go Keep was first past e notes gone told keep close same = keep same
let-go Close was first past e notes gone told keep close same = close same ∙ ap (list_any is_loss) (sym told)

pub gate-sends : (setting was : AfterLoss) (first : ℕ) (past : List PastLinkEvent) (e : PastLinkEvent) (ge : PastEvent) (kept : GateKept) (old : Sent) (client host : List ℕ) (refusals : List Refusal) (gone : Bool) (notes : List Note)
    → gate_event e ≡ Some ge → TakesEvent first kept (gate_events past) ge old.to_client client old.to_host host notes → refusals ≡ old.refusals ++ flat_map refusal_in notes → (was ≡ Keep → gone ≡ false) → (was ≡ Close → gone ≡ list_any is_loss notes) → was ≡ setting
    → SendsAll (gate_sends setting first) past e old (record { to_client = client; to_host = host; refusals = refusals; lets_go = old.lets_go || gone })
gate-sends setting was first past e ge kept old client host refusals gone notes is t pushed keep close same =
    let p = gate_sends setting first in
    let came : gate_events (e ∷ past) ≡ ge ∷ gate_events past = ap (λ (o : Option PastEvent). cons_option o (gate_events past)) is in
    let told : gate_notes first (e ∷ past) ≡ gate_notes first past ++ notes = ap (told_notes first) came ∙ t.sends.notes-are in
    let told_is : gained (gate_notes first) past e ≡ notes = gained-is (gate_notes first past) notes (gate_notes first (e ∷ past)) told in
    let refused : p.refusals (e ∷ past) ≡ p.refusals past ++ flat_map refusal_in notes = ap (flat_map refusal_in) told ∙ flat_map-append refusal_in (gate_notes first past) notes in
    let refused_is : gained p.refusals past e ≡ flat_map refusal_in notes = gained-is (p.refusals past) (flat_map refusal_in notes) (p.refusals (e ∷ past)) refused in
    record {
      client = gained-of p.to_client past e old.to_client client (client_output first (ge ∷ gate_events past)) (ap (client_output first) came) t.sends.client;
      host = gained-of p.to_host past e old.to_host host (host_output first (ge ∷ gate_events past)) (ap (host_output first) came) t.sends.host;
      refusals = pushed ∙ ap (λ (l : List Refusal). old.refusals ++ l) (sym refused_is);
      lets_go = ap (λ (b : Bool). old.lets_go || b) (let-go setting was first past e notes gone told_is keep close same);
      grows = refused ∙ ap (λ (l : List Refusal). p.refusals past ++ l) (sym refused_is);
    }

-- and the gate stands for it
pub gate-takes : (setting : AfterLoss) (first : ℕ) (past : List PastLinkEvent) (e : PastLinkEvent) (ge : PastEvent) (kept : GateKept) (old : Sent) (client host : List ℕ) (refusals : List Refusal) (gone : Bool) (notes : List Note)
    → gate_event e ≡ Some ge → TakesEvent first kept (gate_events past) ge old.to_client client old.to_host host notes → refusals ≡ old.refusals ++ flat_map refusal_in notes → (setting ≡ Keep → gone ≡ false) → (setting ≡ Close → gone ≡ list_any is_loss notes)
    → TakesAll (λ events. GateStands first kept (gate_events events)) (gate_sends setting first) past e old (record { to_client = client; to_host = host; refusals = refusals; lets_go = old.lets_go || gone })
gate-takes setting first past e ge kept old client host refusals gone notes is t pushed keep close = record {
  stands_for = subst (GateStands first kept) (sym (ap (λ (o : Option PastEvent). cons_option o (gate_events past)) is)) t.stands;
  sends = gate-sends setting setting first past e ge kept old client host refusals gone notes is t pushed keep close refl;
}

-- whether all of an event was taken or not
pub taken-by : {E : Type 0} (kept now : GateKept) (e : PastEvent) (client client' host host' : List ℕ) (taken : Result (List Note) E)
    → IfOk taken (λ notes. (first : ℕ) (past : List PastEvent) → GateStands first kept past → TakesEvent first now past e client client' host host' notes)
    → OnErr taken ((first : ℕ) (past : List PastEvent) → GateStands first kept past → StopsInEvent first now past e client client' host host')
    → (first : ℕ) (past : List PastEvent) → GateStands first kept past → GateTakes taken first now past e client client' host host'
taken-by kept now e client client' host host' (Ok notes) takes stops first past at = takes first past at
taken-by kept now e client client' host host' (Err x) takes stops first past at = stops first past at

-- ---- a piece that is taken as it comes

pub piece-told : (side : Side) (piece : List ℕ) → gate_event (SidePiece side piece) ≡ Some (piece_of side piece)
piece-told Client piece = refl
piece-told Host piece = refl

pub come-by : (kept now : GateKept) (e : PastEvent) (client client' host host' : List ℕ) (taken : Result (List Note) Memory) → TakesOrFails taken kept now e client client' host host'
    → (first : ℕ) (past : List PastEvent) → GateStands first kept past → GateTakes taken first now past e client client' host host'
come-by kept now e client client' host host' (Ok notes) t first past at = t first past at
come-by kept now e client client' host host' (Err x) t first past at = t.1 first past at

pub is-taken : (r : Result (Unit {0}) Memory) (was : AfterLoss) (first : AfterLoss × ℕ) (gate : GateKept) (past : List PastLinkEvent) (e : PastLinkEvent) (old new : Sent) → was ≡ first.0
    → OnOk r (TakesAll (λ events. GateStands first.1 gate (gate_events events)) (gate_sends was first.1) past e old new)
    → OnErr r (SendsPart (gate_runs_out first.1) (gate_sends was first.1) past e old new)
    → IsTaken r (λ events. (was ≡ first.0) × GateStands first.1 gate (gate_events events)) (gate_runs_out first.1) (gate_sends first.0 first.1) past e old new
is-taken (Ok v) was first gate past e old new same takes stops = record {
  stands_for = (same, takes.stands_for);
  sends = subst (λ (setting : AfterLoss). SendsAll (gate_sends setting first.1) past e old new) same takes.sends;
}
is-taken (Err x) was first gate past e old new same takes stops = subst (λ (setting : AfterLoss). SendsPart (gate_runs_out first.1) (gate_sends setting first.1) past e old new) same stops
