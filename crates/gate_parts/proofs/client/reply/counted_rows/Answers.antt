use Rattle.std.proofs.Common.{◌∙◌, List, ◌++◌, length, take, drop, ◌-◌, ◌+◌, ap, arith}
use Rattle.std.proofs.lemmas.List.{length_push}
use Rattle.usbip_op.specs.declared.packet.IfaceRow.{IfaceRow}
use Rattle.gate_history.specs.client.Replies.{rows}
use Rattle.gate_parts.proofs.lemmas.client.Interfaces.{rows_step, rows_end}
use Rattle.gate_parts.proofs.client.reply.counted_rows.Goals as goal

pub loop-k-preserved : goal.loop-k-preserved
loop-k-preserved c =
    let info = c.args.info.now in
    let step = rows_step c.loop-k.k c.min-count.result c.loop-k.rows _ info.class info.subclass info.protocol c.loop-k-test.true (omega arith) (omega arith) (omega arith) c.loop-k.invariant.rows in
    record {
      rows = ap (λ (l : List IfaceRow). l ++ take (c.min-count.result - (c.loop-k.k + 1)) (rows (drop (c.loop-k.k + 1) info.class) (drop (c.loop-k.k + 1) info.subclass) (drop (c.loop-k.k + 1) info.protocol))) c.in_ok-push.ensures.ok ∙ step;
      few = omega (arith, ap length c.in_ok-push.ensures.ok, length_push {X = IfaceRow});
      class = c.loop-k.invariant.class;
      subclass = c.loop-k.invariant.subclass;
      protocol = c.loop-k.invariant.protocol;
    }

pub returns-clause-rows : goal.returns-clause-rows
returns-clause-rows c =
    rows_end c.loop-k.k c.args.info.now.count c.min-count.result c.loop-k.rows c.args.info.now.class c.args.info.now.subclass c.args.info.now.protocol c.min-count.ensures c.loop-k-test.false c.loop-k.invariant.class c.loop-k.invariant.subclass c.loop-k.invariant.protocol c.loop-k.invariant.rows
