use Rattle.std.proofs.Common.{◌++◌, ◌∙◌, ℕ, List, sym, ap}
use Rattle.std.specs.Prelude.{pos}
use Rattle.usbip_urb.specs.Spelling.{descs_bytes}
use Rattle.stream_buffers.specs.Iso.{pieces, all_filled, iso_outcome}
use Rattle.gate_parts.specs.host.FillAnswer.{front_bytes}
use Rattle.gate_parts.specs.state.Rows.{row_request}
use Rattle.gate_parts.proofs.lemmas.host.FillAnswer.{then-more, isochronous}
use Rattle.gate_parts.proofs.host.filling.push_pieces.Goals as goal

pub returns : goal.returns
returns c =
    let l = c.args.live.now in
    let f = c.args.filling in
    let ps = c.args.behind.now in
    let front = front_bytes (row_request l) (pos 0) f.done f.errors in
    then-more c.args.out.now (front ++ pieces l.descs ps) (descs_bytes (all_filled l.descs ps)) c.append_pieces.new.out c.append_filled.new.out
    (then-more c.args.out.now front (pieces l.descs ps) c.push_front.new.out c.append_pieces.new.out c.in_ok-push_front.ensures c.in_ok-append_pieces.ensures.sent)
    c.in_ok-append_filled.ensures.sent
    ∙ ap (λ (x : List ℕ). c.args.out.now ++ x) (sym (isochronous l (iso_outcome l.descs ps) f.done f.errors c.requires.fills.done c.requires.fills.errors))
