use Rattle.std.proofs.Common.{◌++◌, sym}
use Rattle.packet_show.specs.Line.{decimal, spaced_words}
use Rattle.packet_show.specs.Urb.{submit_words}
use Rattle.packet_show.proofs.Words.{line_spaced}
use Rattle.packet_show.proofs.urb.show_submit.Goals as goal

pub returns : goal.returns
returns c =
    let words = submit_words c.args.submit.now in
    let text = decimal c.args.place ++ spaced_words words in
    rw (line_spaced c.args.place words) (c.end_line.ensures c.args.out.now text (sym c.len-from.ensures) c.push_submit-begun.ensures)
