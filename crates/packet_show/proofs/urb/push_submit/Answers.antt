use Rattle.std.proofs.Common.{◌++◌, List, ℕ, map, ap, ◌∙◌}
use Rattle.packet_show.specs.Line.{decimal, hex_word, spaced, spaced_words}
use Rattle.usbip_urb.specs.declared.packet.IsoDesc.{IsoDesc}
use Rattle.packet_show.specs.Urb.{desc_word}
use Rattle.packet_show.proofs.Words.{then_word, then_words}
use Rattle.packet_show.proofs.urb.push_submit.Goals as goal

pub returns : goal.returns
returns c =
    let old = c.args.out.now in
    let place = decimal c.args.place in
    let setup = then_word old place _ _ _ _ c.in_ok-push_head.ensures c.in_ok-push_bytes.ensures in
    let body = then_word old place _ _ _ _ setup (c.in_ok-push_bytes-2.ensures ∙ ap (λ (bytes : List ℕ). c.push_bytes.new.out ++ spaced (hex_word bytes)) c.as_slice.ensures) in
    then_words old place _ _ _ _ body (c.in_ok-push_descs.ensures ∙ ap (λ (descs : List IsoDesc). c.push_bytes-2.new.out ++ spaced_words (map desc_word descs)) c.as_slice-2.ensures)
