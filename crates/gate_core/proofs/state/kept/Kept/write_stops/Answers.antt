use Rattle.std.proofs.Common.{◌≡◌, ◌+◌, ◌∙◌, ◌++◌, List, Option, get_or, take, length, sym, ap, subst, append_assoc, arith}
use Rattle.std.proofs.lemmas.List.{append-nil}
use Rattle.gate_parts.specs.declared.state.stream_ids.SentIds.{SentIds}
use Rattle.gate_history.specs.state.Ups.{Up, is_ended}
use Rattle.gate_history.specs.write.Packets.{stop_of, stops}
use Rattle.gate_core.specs.inner.state.SentIds.{sent_ids_of, after_stops, bytes_of}
use Rattle.gate_core.proofs.lemmas.write.InTurn.{bytes-more, stops-more, next-stops, on-err}
use Rattle.gate_history.proofs.lemmas.Lists.{some-joined}
use Rattle.gate_core.proofs.state.kept.Kept.write_stops.Goals as goal

pub loop-stream-init : goal.loop-stream-init
loop-stream-init c = record { sent_ids = c.sent_ids-sent_ids.ensures; sent = sym (append-nil c.args.to_host.now) }

pub loop-stream-preserved : goal.loop-stream-preserved
loop-stream-preserved c =
    let t = c.args.self.now in
    let test = is_ended c.args.by in
    let before = stops test (take c.loop-stream.stream-index t.streams) in
    let item = c.stream-item.result in
    let k = c.loop-stream.stream-index in
    let one = stop_of test item in
    let here : item ≡ get_or t.streams k item = subst (λ (ups : List (Option Up)). item ≡ get_or ups k item) c.as_slice-stream-items.ensures.value c.stream-item.is in
    let next : stops test (take (k + 1) t.streams) ≡ before ++ one =
    next-stops test t.streams k item (omega (arith, ap length c.as_slice-stream-items.ensures.value)) here ∙ ap (λ (o : Option Up). before ++ stop_of test o) (sym here) in
    record {
      sent_ids = c.in_ok-write_stop_of.ensures.sent_ids ∙ ap (λ (k : SentIds). after_stops t k one) c.loop-stream.invariant.sent_ids
          ∙ sym (stops-more t (sent_ids_of t) before one) ∙ ap (after_stops t (sent_ids_of t)) (sym next);
      sent = c.in_ok-write_stop_of.ensures.sent ∙ (λ i. c.loop-stream.invariant.sent i ++ bytes_of t (c.loop-stream.invariant.sent_ids i).last one)
          ∙ append_assoc c.args.to_host.now (bytes_of t t.last before) (bytes_of t (after_stops t (sent_ids_of t) before).last one)
          ∙ ap (λ bs. c.args.to_host.now ++ bs) (sym (bytes-more t t.last before one) ∙ ap (bytes_of t t.last) (sym next));
    }

pub returns-in_err-write_stop_of-clause-wants : goal.returns-in_err-write_stop_of-clause-wants
returns-in_err-write_stop_of-clause-wants c =
    let t = c.args.self.now in
    let item = c.stream-item.result in
    let here : item ≡ get_or t.streams c.loop-stream.stream-index item = subst (λ (ups : List (Option Up)). item ≡ get_or ups c.loop-stream.stream-index item) c.as_slice-stream-items.ensures.value c.stream-item.is in
    on-err c.from_residual.result _ (some-joined (stop_of (is_ended c.args.by)) t.streams c.loop-stream.stream-index item (omega (arith, ap length c.as_slice-stream-items.ensures.value)) here c.in_err-write_stop_of.ensures.wants)
