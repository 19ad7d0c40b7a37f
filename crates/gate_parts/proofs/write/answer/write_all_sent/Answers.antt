use Rattle.std.proofs.Common.{◌∙◌, false, sym, ap, subst, length, arith}
use Rattle.std.proofs.lemmas.List.{length-map}
use Rattle.usbip_urb.specs.Buffers.{total}
use Rattle.usbip_urb.specs.Ranges.{IsWritable}
use Rattle.gate_history.proofs.lemmas.write.Laid.{laid-fits}
use Rattle.gate_parts.proofs.write.answer.write_all_sent.Goals as goal

pub overflow_cast-actual : goal.overflow_cast-actual
overflow_cast-actual c =
    let few = laid-fits c.args.asked.now.descs.now c.args.asked.now.wanted c.requires.lies in
    let is = c.total-actual.ensures ∙ ap total c.in_ok-descs.ensures.ok in
    omega (arith, few, is, c.requires.few_bytes)

pub write_ret_submit-requires : goal.write_ret_submit-requires
write_ret_submit-requires c =
    let few = laid-fits c.args.asked.now.descs.now c.args.asked.now.wanted c.requires.lies in
    let is = c.total-actual.ensures ∙ ap total c.in_ok-descs.ensures.ok in
    subst IsWritable (sym c.ret_submit-answer.ensures) (
      false,
      record {
        few_bytes = omega (arith, few, is, c.requires.few_bytes);
        few_packets = c.requires.packets.few;
        body = ap (λ l. length l) c.new.ensures;
        descs = ap (λ l. length l) c.in_ok-descs.ensures.ok ∙ length-map c.args.asked.now.descs.now _ ∙ c.requires.packets.counted;
      },
    )
