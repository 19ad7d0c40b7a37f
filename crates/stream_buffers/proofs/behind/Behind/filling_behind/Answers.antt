use Rattle.std.proofs.Common.{◌≡◌, ◌≤◌, ◌+◌, true, false, length, sym, ap, ◌∙◌, length-drop, arith}
use Rattle.stream_buffers.specs.declared.up.TheConstants.{MAX_HELD}
use Rattle.stream_buffers.specs.Interrupt.{fills}
use Rattle.stream_buffers.specs.Least.{least_below}
use Rattle.stream_buffers.proofs.Found.{least_found, none_more}
use Rattle.stream_buffers.proofs.Left.{next_of, all_of}
use Rattle.stream_buffers.proofs.Fillings.{bytes_more, looked, go_on, seen_more}
use Rattle.stream_buffers.proofs.behind.Behind.filling_behind.Goals as goal

pub returns-then-fills-clause-last : goal.returns-then-fills-clause-last
returns-then-fills-clause-last c =
    let a = c.args in
    let items = a.self.now in
    let seen = c.loop-packet.seen in
    let at = next_of items seen.count c.in-Some.packet.now _ (sym c.loop-packet.invariant.left ∙ c.in-Some.ensures.steps) in
    let look = looked a.max_packet a.wanted items seen.count seen.bytes (c.from.result + length c.as_slice.result.now) c.in-Some.packet.now true at.there at.is c.loop-packet.invariant.is_seen.bytes (cc) (sym c.fills.ensures ∙ c.if-fills.true) in
    sym (least_found (fills a.max_packet a.wanted items) seen.count (length items) c.loop-packet.invariant.none look.fills_is look.within)

pub returns-then-fills-clause-bytes : goal.returns-then-fills-clause-bytes
returns-then-fills-clause-bytes c =
    let seen = c.loop-packet.seen in
    let at = next_of c.args.self.now seen.count c.in-Some.packet.now _ (sym c.loop-packet.invariant.left ∙ c.in-Some.ensures.steps) in
    let came : c.from.result + length c.as_slice.result.now ≡ seen.bytes + length c.in-Some.packet.now.body = cc in
    came ∙ sym (bytes_more c.args.self.now seen.count seen.bytes c.in-Some.packet.now at.there at.is c.loop-packet.invariant.is_seen.bytes)

pub overflow_add-seen : goal.overflow_add-seen
overflow_add-seen c =
    let items = c.args.self.now in
    let at = next_of items c.loop-packet.seen.count c.in-Some.packet.now _ (sym c.loop-packet.invariant.left ∙ c.in-Some.ensures.steps) in
    let few : length items ≤ MAX_HELD = omega (arith, c.iter_from-packet-items.ensures.bound, ap length c.iter_from-packet-items.ensures.rest, length-drop c.args.seen.count items, c.requires.seen.there) in
    omega (arith, at.there, few)

pub loop-packet-preserved : goal.loop-packet-preserved
loop-packet-preserved c =
    let a = c.args in
    let items = a.self.now in
    let seen = c.loop-packet.seen in
    let at = next_of items seen.count c.in-Some.packet.now _ (sym c.loop-packet.invariant.left ∙ c.in-Some.ensures.steps) in
    let look = looked a.max_packet a.wanted items seen.count seen.bytes (c.from.result + length c.as_slice.result.now) c.in-Some.packet.now false at.there at.is c.loop-packet.invariant.is_seen.bytes (cc) (sym c.fills.ensures ∙ c.if-fills.false) in
    record {
      is_seen = seen_more a.max_packet items seen _ c.in-Some.packet.now c.loop-packet.invariant.is_seen look.within look.read look.came (go_on a.max_packet a.wanted _ c.in-Some.packet.now look.test_is);
      left = at.rest;
      none = none_more (fills a.max_packet a.wanted items) seen.count c.loop-packet.invariant.none look.fills_is;
    }

pub returns-clause-last : goal.returns-clause-last
returns-clause-last c =
    sym c.loop-packet.invariant.none ∙ ap (least_below (fills c.args.max_packet c.args.wanted c.args.self.now)) (all_of c.args.self.now c.loop-packet.seen.count (ap length (sym c.loop-packet.invariant.left) ∙ c.in-None.ensures.steps.0) c.loop-packet.invariant.is_seen.there)
