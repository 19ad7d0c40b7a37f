-- The gateway reads a packet that is neither an answer nor a fact: what is shared is kept, whatever it makes of
-- streams, of those that wait for them, and of the fence.
use Rattle.std.proofs.Common.{◌≡◌, ℕ, ◌||◌, Bool, true, false, List, [], ◌∷◌, ◌++◌, map, Option, None, is_some, refl, sym, ap, ◌∙◌, subst, arith, true≢false}
use Rattle.std.specs.List.{list_any, AllByRecursion as Each}
use Rattle.std.proofs.lemmas.Bool.{both_ways}
use Rattle.redir_data.specs.declared.stream_kind.StreamKind.{StreamKind}
use Rattle.model_device.specs.Meaning.{Meaning}
use Rattle.usb_base.specs.declared.transfer.StreamPacket.{StreamPacket}
use Rattle.gate_history.specs.state.Facts.{tell}
use Rattle.gate_history.specs.step.Marks.{Fact}
use Rattle.gate_history.specs.step.Meaning.{fact_of}
use Rattle.gate_history.specs.client.Submits.{Pending}
use Rattle.gate_history.specs.state.State.{submits}
use Rattle.gate_history.specs.state.Ups.{Up, no_streams}
use Rattle.gate_history.specs.declared.facts.Facts.{Facts}
use Rattle.gate_history.proofs.lemmas.state.StreamIds.{times-append}
use Rattle.direct_run.specs.Moves.{World}
use Rattle.direct_proof.specs.Requests.{Coming, Debt, debts_of}
use Rattle.direct_proof.specs.Tagged.{Tagged, Packed, Stated, on_wire, ran_in, runs_in, told}
use Rattle.direct_proof.specs.Shared.{Shared}
use Rattle.direct_proof.specs.Related.{Related}
use Rattle.direct_proof.specs.StreamIds.{Fenced, statuses_on, status_id}
use Rattle.direct_proof.specs.Ids.{Ids}
use Rattle.direct_proof.specs.Kinds.{UpsFit}
use Rattle.direct_proof.specs.Meets.{is_greeting, is_plug, is_bye}
use Rattle.direct_proof.specs.Cancels.{any_change}
use Rattle.direct_proof.specs.Session.{down_in, runs}
use Rattle.direct_proof.specs.Stale.{ends, asks, Clean}
use Rattle.direct_proof.specs.Running.{Trails}
use Rattle.direct_proof.proofs.shared.Backs.{early-greets, farewell-read}
use Rattle.direct_proof.proofs.streams.wires.Growing.{no-fact, no-fact-told}
use Rattle.direct_proof.proofs.streams.wires.Folds.{clean-fence, quits-fence, trails-fence}
use Rattle.direct_proof.proofs.streams.wires.UpRows.{SameRows, same-down, tagged-rows, kinds-rows, starts-rows}

abbrev pub read_world : {S : Type 0} → World S → List Tagged → ℕ → List Pending → List (Option Up) → Option ℕ → World S
read_world w bs items live ups fence = record w { to_gate = map on_wire bs; gate = record w.gate { items = items; live = live; streams = ups; fence = fence } }

-- a stream's packet or status: no answer, no fact, and none of the device's coming and going
pub record OfStream (b : Tagged) : Type 0 where
  pub no_run : ran_in b ≡ []
  pub no_fact : fact_of (on_wire b).1 ≡ None
  pub no_greeting : is_greeting b ≡ false
  pub no_plug : is_plug b ≡ false
  pub no_bye : is_bye b ≡ false

pub packet-of : (k : StreamKind) (ep : ℕ) (p : StreamPacket) → OfStream (Packed k ep p)
packet-of k ep p = record { no_run = refl; no_fact = no-fact k ep p; no_greeting = refl; no_plug = refl; no_bye = refl }

pub status-of : (k : StreamKind) (id ep status : ℕ) → OfStream (Stated k id ep status)
status-of k id ep status = record { no_run = refl; no_fact = no-fact-told k id ep status; no_greeting = refl; no_plug = refl; no_bye = refl }

-- what the packet is, and how the gateway is after it
pub record MayRead {S : Type 0} (w : World S) (fenced : Bool) (b : Tagged) (bs : List Tagged) (live : List Pending) (ups : List (Option Up)) (fence : Option ℕ) : Type 0 where
  pub packet : OfStream b
  pub open packet use *
  pub rows : SameRows w.gate.streams ups
  pub fits : UpsFit ups
  pub down : w.gate.sides.imported ≡ false → ups ≡ no_streams
  pub owes : debts_of (map (λ (p : Pending). p.submit) live) ≡ debts_of (submits w.gate)
  pub no_fence : w.gate.fence ≡ None → fence ≡ None
  pub fenced-is : Fenced fence fenced w.to_host bs
  pub asks_same : Each (λ p. asks w.gate.fence p ≡ asks fence p) w.to_host
  pub ends_same : Each (λ c. ends w.gate.fence c ≡ ends fence c) bs

module _ {S : Type 0} (m : Meaning S) (w : World S) (j : Shared) (b : Tagged) (bs : List Tagged) (rel : Related m w (record j { back = b ∷ bs })) where
  pub read-here : w.gate.sides.lost ≡ false
  read-here = go w.gate.sides.lost refl
    where
      none : b ∷ bs ≡ [] → ⊥
      none e = cc

      go : (x : Bool) → w.gate.sides.lost ≡ x → x ≡ false
      go true h = absurd (none (rel.lost h).0)
      go false h = refl

  pub read-related : (items : ℕ) (live : List Pending) (ups : List (Option Up)) (fence : Option ℕ) → MayRead w j.fenced b bs live ups fence → Related m (read_world w bs items live ups fence) (record j { back = bs })
  read-related items live ups fence may = record {
    line = rel.line;
    answers = refl;
    tagged = tagged-rows w.gate.streams ups may.rows bs rel.tagged.1;
    ids = subst (Ids j.debts w.submits (j.held ++ j.coming)) (ap (λ (l : List Coming). l ++ runs_in bs) may.no_run) rel.ids;
    real = rel.real;
    runs_at_in = rel.runs_at_in;
    before = λ h. absurd (true≢false (sym (early-greets b bs (rel.before h).back) ∙ may.no_greeting));
    asked = rel.asked;
    meets = record {
      host = rel.meets.host;
      gate = λ h. rel.meets.gate (λ i. may.no_greeting i || h i);
      announced = λ h k. sym known ∙ rel.meets.announced h k;
      behind = λ h. let k = rel.meets.behind h in (sym (ap (λ (x : Bool). x || list_any is_greeting bs) may.no_greeting) ∙ k.0, sym (ap (λ (x : Bool). x || list_any is_plug bs) may.no_plug) ∙ k.1, k.2);
      once = rel.meets.once.1;
      plugged = λ h. rel.meets.plugged (ap (λ (x : Bool). x || list_any is_plug bs) may.no_plug ∙ h);
      no_session = rel.meets.no_session;
    };
    debts = λ h. ap (λ (l : List Debt). l ++ debts_of w.gate.abandoned) may.owes ∙ rel.debts h;
    controls = λ h. let c = rel.controls h in record {
      once = λ id. let o = c.once id in let a = times-append id (status_id b) (statuses_on bs) in omega (arith, o, a);
      stream_ids_kept = c.stream_ids_kept;
      statuses_kept = c.statuses_kept.1;
    };
    fenced = λ h. may.fenced-is;
    alone = λ h. ((rel.alone h).0, may.no_fence (rel.alone h).1);
    session = λ h k. let s = rel.session h (known ∙ k) in record {
      table = sym (ap (λ (f : Facts). f.table) same-told) ∙ s.table;
      faces = sym (ap (λ (f : Facts). f.interfaces) same-told) ∙ s.faces;
      clean = subst (λ (d : ℕ → Bool). Clean fence d (any_change (j.held ++ j.coming) || j.fenced) bs) (sym (same-down w.gate.streams ups may.rows))
          (clean-fence w.gate.fence fence (down_in w.gate.streams) (any_change (j.held ++ j.coming) || j.fenced) bs may.ends_same s.clean.1);
      quits = λ e down. quits-fence w.gate.fence fence e (runs w.host e) w.to_host may.asks_same (s.quits e (ap (λ (d : ℕ → Bool). d e) (sym (same-down w.gate.streams ups may.rows)) ∙ down));
      trails = subst (λ (d : ℕ → Bool). Trails fence d w.to_host) (sym (same-down w.gate.streams ups may.rows)) (trails-fence w.gate.fence fence (down_in w.gate.streams) w.to_host may.asks_same s.trails);
      starts = s.starts;
      kinds = kinds-rows w.gate.streams ups may.rows w.host.running s.kinds;
      start_kinds = starts-rows w.gate.streams ups may.rows w.to_host s.start_kinds;
    };
    ups = may.fits;
    down = may.down;
    lost = λ h. absurd (both_ways w.gate.sides.lost read-here h);
    sides = rel.sides;
    farewell = farewell-read w.host b bs rel.farewell;
  }
    where
      same-told : told w.gate.facts (b ∷ bs) ≡ told w.gate.facts bs
      same-told = ap (λ (o : Option Fact). told (tell w.gate.facts o) bs) may.no_fact

      known : (is_some w.gate.facts.connect || list_any is_plug (b ∷ bs)) ≡ (is_some w.gate.facts.connect || list_any is_plug bs)
      known = ap (λ (x : Bool). is_some w.gate.facts.connect || (x || list_any is_plug bs)) may.no_plug
