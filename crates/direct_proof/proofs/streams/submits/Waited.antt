-- What is kept where a submit waits for a stream, by what changes with that.
use Rattle.std.proofs.Common.{◌≡◌, ℕ, ◌||◌, Bool, true, false, cond, List, [], ◌∷◌, ◌++◌, map, filter, Option, refl, sym, ap, ◌∙◌, subst}
use Rattle.std.specs.List.{AllByRecursion as Each}
use Rattle.std.proofs.lemmas.Bool.{both_ways}
use Rattle.usb_base.specs.declared.endpoint.EpRow.{EpRow}
use Rattle.usb_base.specs.declared.transfer.StreamPacket.{StreamPacket}
use Rattle.redir_data.specs.declared.packet.RedirPacket.{RedirPacket}
use Rattle.model_device.specs.Meaning.{Meaning}
use Rattle.gate_history.specs.declared.request.Request.{Request}
use Rattle.gate_history.specs.state.StreamIds.{StreamIds}
use Rattle.gate_history.specs.step.Marks.{Submission}
use Rattle.gate_history.specs.client.Submits.{Pending}
use Rattle.gate_history.specs.write.Output.{fresh}
use Rattle.gate_history.specs.state.State.{State}
use Rattle.gate_history.specs.state.Ups.{Up, hold}
use Rattle.gate_history.specs.client.Verdict.{goes_by_id}
use Rattle.direct_run.specs.Moves.{World}
use Rattle.direct_proof.specs.Requests.{Debt, debts_of, load_of}
use Rattle.direct_proof.specs.Shared.{Shared, lines, half_line, at_hosts}
use Rattle.direct_proof.specs.Tagged.{runs_in}
use Rattle.direct_proof.specs.Related.{Related}
use Rattle.direct_proof.specs.Session.{Session}
use Rattle.direct_proof.specs.StreamIds.{Controls, Fenced}
use Rattle.direct_proof.specs.Kinds.{IsIn, TaggedOfKind, StreamIsIn, UpsFit}
use Rattle.direct_proof.specs.Cancels.{CancelsFit, IsAsking, any_change}
use Rattle.direct_proof.specs.Running.{stream_endpoint, Trails}
use Rattle.direct_proof.specs.Stale.{Clean}
use Rattle.direct_proof.proofs.streams.wires.UpRows.{SameRows, same-down, tagged-rows, kinds-rows, starts-rows, fits-hold, hold-rows}
use Rattle.direct_proof.proofs.streams.reads.Arriving.{debts-stay}
use Rattle.direct_proof.proofs.streams.submits.Waits.{waiter, with_waiter, fill_for, waits_world}
use Rattle.direct_proof.proofs.shared.Counted.{ids-named}

abbrev pub streams_world : {S : Type 0} → World S → List (ℕ × RedirPacket) → List (Option Up) → World S
streams_world w ps ups = record w { gate = record w.gate { streams = ups }; to_host = ps }

-- what is known of the wire to the host, the ids of starts and stops and the streams after the submit
pub record AfterWait {S : Type 0} (m : Meaning S) (w : World S) (j : Shared) (ps : List (ℕ × RedirPacket)) (stream_ids : StreamIds) (ups : List (Option Up)) : Type 0 where
  pub tagged : Each (TaggedOfKind ups) j.back
  pub streams_in : Each (λ (p : ℕ × RedirPacket). StreamIsIn (stream_endpoint p.1)) ps
  pub line : half_line j.half ++ lines ps ≡ at_hosts j.coming
  pub controls : Controls stream_ids ps j.back
  pub fenced-is : Fenced w.gate.fence j.fenced ps j.back
  pub asked : w.host.guest.first ≡ false → Each (λ (p : ℕ × RedirPacket). IsAsking p.1) ps
  pub cancels : CancelsFit j.held ps j.coming
  pub session : Session m (streams_world w ps ups) j
  pub fits : UpsFit ups

-- with other packets held
pub after-held : {S : Type 0} (m : Meaning S) (w : World S) (j : Shared) (ps : List (ℕ × RedirPacket)) (stream_ids : StreamIds) (ups : List (Option Up)) (ep : ℕ) (packets : List StreamPacket) → IsIn ep → AfterWait m w j ps stream_ids ups → AfterWait m w j ps stream_ids (hold ep packets ups)
after-held m w j ps stream_ids ups ep packets h a = record {
  tagged = tagged-rows ups (hold ep packets ups) rows j.back a.tagged;
  streams_in = a.streams_in;
  line = a.line;
  controls = a.controls;
  fenced-is = a.fenced-is;
  asked = a.asked;
  cancels = a.cancels;
  session = record {
    table = a.session.table;
    faces = a.session.faces;
    clean = subst (λ (d : ℕ → Bool). Clean w.gate.fence d (any_change (j.held ++ j.coming) || j.fenced) j.back) (sym (same-down ups (hold ep packets ups) rows)) a.session.clean;
    quits = λ e down. a.session.quits e (ap (λ (d : ℕ → Bool). d e) (sym (same-down ups (hold ep packets ups) rows)) ∙ down);
    trails = subst (λ (d : ℕ → Bool). Trails w.gate.fence d ps) (sym (same-down ups (hold ep packets ups) rows)) a.session.trails;
    starts = a.session.starts;
    kinds = kinds-rows ups (hold ep packets ups) rows w.host.running a.session.kinds;
    start_kinds = starts-rows ups (hold ep packets ups) rows ps a.session.start_kinds;
  };
  fits = fits-hold ep packets ups h a.fits;
}
  where
    rows : SameRows ups (hold ep packets ups)
    rows = hold-rows ep packets ups h a.fits.count_is

-- ---- ids and debts

abbrev debt_in : Submission → Debt
debt_in s = record { id = s.id; load = load_of s }

abbrev by_id : Submission → Bool
by_id s = goes_by_id s.verdict

debts-waiter : (st : State) (r : Request) (row : EpRow) (ps : List Pending) → debts_of (map (λ (p : Pending). p.submit) (ps ++ fresh (waiter st r row) ∷ [])) ≡ debts_of (map (λ (p : Pending). p.submit) ps)
debts-waiter st r row [] = refl
debts-waiter st r row (p ∷ ps) =
    let rest = debts-waiter st r row ps in
    elim (goes_by_id p.submit.verdict) as (λ b. map debt_in (cond b (p.submit ∷ filter by_id (map (λ (q : Pending). q.submit) (ps ++ fresh (waiter st r row) ∷ []))) (filter by_id (map (λ (q : Pending). q.submit) (ps ++ fresh (waiter st r row) ∷ [])))) ≡ map debt_in (cond b (p.submit ∷ filter by_id (map (λ (q : Pending). q.submit) ps)) (filter by_id (map (λ (q : Pending). q.submit) ps))))
    [ true ↦ ap (λ (l : List Debt). debt_in p.submit ∷ l) rest | false ↦ rest ]

-- ---- all together

pub waits-related : {S : Type 0} (m : Meaning S) (w : World S) (j : Shared) (r : Request) (row : EpRow) → Related m w j → w.gate.sides.imported ≡ true → w.gate.sides.lost ≡ false → AfterWait m w j (waits_world w r row).to_host (waits_world w r row).gate.stream_ids (waits_world w r row).gate.streams → Related m (waits_world w r row) j
waits-related {S = S} m w j r row rel imported there a = record {
  line = record {
    held = rel.line.held;
    half = rel.line.half;
    coming = a.line;
    loads = rel.line.loads;
    streams_in = a.streams_in;
    cancels = a.cancels;
    behind = rel.line.behind;
  };
  answers = rel.answers;
  tagged = a.tagged;
  ids = ids-named j.debts w.submits (j.held ++ j.coming) (runs_in j.back) r.seqnum rel.real rel.ids;
  real = rel.real;
  runs_at_in = rel.runs_at_in;
  before = λ h. absurd (both_ways w.host.guest.first (rel.meets.behind (rel.meets.no_session imported there)).2 h);
  asked = a.asked;
  meets = rel.meets;
  debts = λ h. ap (λ (l : List Debt). l ++ debts_of w.gate.abandoned) (debts-stay r.transfer.ep (fill_for w.gate r row).fillings (with_waiter w.gate r row) ∙ debts-waiter w.gate r row w.gate.live) ∙ rel.debts h;
  controls = λ h. a.controls;
  fenced = λ h. a.fenced-is;
  alone = rel.alone;
  session = λ h k. a.session;
  ups = a.fits;
  down = λ h. absurd (both_ways w.gate.sides.imported h imported);
  lost = λ h. absurd (both_ways w.gate.sides.lost there h);
  sides = rel.sides;
  farewell = rel.farewell;
}
