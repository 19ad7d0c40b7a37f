use Rattle.std.proofs.Common.{◌++◌, sym}
use Rattle.packet_show.specs.Line.{decimal, spaced_words}
use Rattle.packet_show.specs.Urb.{unlink_words}
use Rattle.packet_show.proofs.Words.{line_spaced}
use Rattle.packet_show.proofs.urb.show_unlink.Goals as goal

pub returns : goal.returns
returns c =
    let words = unlink_words c.args.unlink.now in
    let text = decimal c.args.place ++ spaced_words words in
    rw (line_spaced c.args.place words) (c.end_line.ensures c.args.out.now text (sym c.len-from.ensures) c.push_unlink-begun.ensures)
