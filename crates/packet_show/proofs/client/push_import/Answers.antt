use Rattle.packet_show.proofs.Words.{spacing}
use Rattle.packet_show.proofs.client.push_import.Goals as goal

pub returns : goal.returns
returns c =
    let begun = c.in_ok-push_begin.ensures in
    let status = c.in_ok-push_number.ensures in
    let busid = c.in_ok-push_bytes.ensures in
    rw (busid, status, begun) (simp spacing)
