use Rattle.packet_show.proofs.Words.{spacing}
use Rattle.packet_show.proofs.client.push_devlist.Goals as goal

pub returns : goal.returns
returns c =
    let begun = c.in_ok-push_begin.ensures in
    let status = c.in_ok-push_number.ensures in
    rw (status, begun) (simp spacing)
