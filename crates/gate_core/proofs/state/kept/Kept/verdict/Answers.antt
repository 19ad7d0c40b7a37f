use Rattle.std.proofs.Common.{length, sym, ap, subst, ◌∙◌, arith}
use Rattle.std.proofs.lemmas.List.{length-map}
use Rattle.unlink_race.specs.Searches.{changes}
use Rattle.std.specs.List.{list_any}
use Rattle.usb_base.specs.Endpoint.{row_of}
use Rattle.gate_history.specs.declared.facts.Facts.{Facts}
use Rattle.gate_history.specs.client.Verdict.{verdict}
use Rattle.gate_history.specs.state.Flight.{wide_bulk}
use Rattle.gate_history.specs.write.Packets.{HasRoute}
use Rattle.gate_parts.specs.state.Rows.{row}
use Rattle.gate_core.proofs.lemmas.state.Ids.{change-rows}
use Rattle.gate_parts.proofs.lemmas.client.Directions.{not-stream}
use Rattle.gate_history.proofs.lemmas.client.Openings.{verdict-sends}
use Rattle.gate_core.proofs.state.kept.Kept.verdict.Goals as goal

pub returns-clause-value : goal.returns-clause-value
returns-clause-value c st h =
    let t = c.args.self.now in
    let live = c.len.ensures.len ∙ ap length h.live ∙ length-map st.live row in
    let changing = c.change_waits-changing.ensures ∙ ap (list_any changes) h.live ∙ change-rows st.live in
    let wide = c.contains-wide.ensures ∙ ap wide_bulk (λ j. (h.sides j).agreed) in
    let r = c.args.request.now in
    let row = c.row.ensures ∙ ap (λ (f : Facts). row_of f.table r.transfer.ep) h.facts in
    c.decide.ensures.value ∙ (λ i. verdict (record { lost = (h.sides i).lost; live = live i; changing = changing i; row = row i; wide = wide i }) r)

pub returns-clause-answered : goal.returns-clause-answered
returns-clause-answered c =
    let t = c.args.self.now in
    let r = c.args.request.now in
    let w = c.requires.whole in
    record {
      answered = λ by. record { packets = record { few = w.few_packets; counted = w.descs }; few_bytes = w.few_bytes; read = c.decide.ensures.reads w by; by_id = not-stream c.decide.result r.transfer.ep by };
      room = λ by. omega (arith, c.decide.ensures.room by, c.len.ensures.len);
      waits = λ waits. (record { packets = record { few = w.few_packets; counted = w.descs }; few_bytes = w.few_bytes; lies = c.decide.ensures.lies waits }, omega (arith, c.decide.ensures.waits waits, c.len.ensures.len));
      sends = subst HasRoute (sym c.decide.ensures.value) (verdict-sends (record { lost = t.sides.lost; live = c.len.result; changing = c.change_waits-changing.result; row = c.row.result; wide = c.contains-wide.result }) r);
    }
