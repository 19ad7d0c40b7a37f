use Rattle.std.proofs.Common.{◌++◌, sym}
use Rattle.usbip_op.specs.declared.packet.OpPacket.TheVariants.{ReqDevlist}
use Rattle.packet_show.specs.Client.{client_words}
use Rattle.packet_show.specs.Line.{decimal, spaced_words}
use Rattle.packet_show.proofs.Words.{line_spaced}
use Rattle.packet_show.proofs.client.show_devlist.Goals as goal

pub returns : goal.returns
returns c =
    let words = client_words (ReqDevlist c.args.status) in
    let text = decimal c.args.place ++ spaced_words words in
    rw (line_spaced c.args.place words) (c.end_line.ensures c.args.out.now text (sym c.len-from.ensures) c.push_devlist-begun.ensures)
