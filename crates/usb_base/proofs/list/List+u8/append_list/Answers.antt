use Rattle.std.proofs.Common.{◌≡◌, ◌+◌, ◌-◌, ◌++◌, ℕ, List, take, drop, ap, ◌∙◌, arith, length-drop, length-take}
use Rattle.std.proofs.lemmas.List.{with_items_is}
use borrow.Rule.Slice.PartMut.{put_mid, same_len_mid}
use Rattle.usb_base.proofs.Blocks.{put-before}
use Rattle.usb_base.proofs.list.List+u8.append_list.Goals as goal

pub returns-clause-ok : goal.returns-clause-ok
returns-clause-ok c =
    let own = c.tail.inside in
    let len = c.len-len.result in
    let place = own.front - len in
    let k = place + len - place in
    let head = c.copy_from_slice.new.self in
    let block = put_mid place k c.as_mut_slice.result.now head in
    let back : place + k ≡ own.front = omega (arith, c.if-tail-len.false) in
    ap (λ (b : List ℕ). drop place (take own.end b)) (with_items_is own.items block (omega (arith, same_len_mid place k c.as_mut_slice.result.now head (omega (arith, c.copy_from_slice.auto, length-drop place c.as_mut_slice.result.now, length-take k (drop place c.as_mut_slice.result.now), back, c.tail.invariant, c.as_mut_slice.ensures.len)), c.as_mut_slice.ensures.len)))
    ∙ ap (λ (b : List ℕ). drop place (take own.end (put_mid place k b head))) c.as_mut_slice.ensures.value
    ∙ put-before own.items.items head place k own.end (omega (arith, c.copy_from_slice.auto)) (omega (arith, back, c.tail.invariant)) c.tail.invariant.1
    ∙ ap (λ (b : List ℕ). b ++ drop (place + k) (take own.end own.items.items)) (c.copy_from_slice.ensures.after ∙ c.as_slice-2.ensures)
    ∙ ap (λ (n : ℕ). c.args.self.now ++ drop n (take own.end own.items.items)) back
    ∙ ap (λ (b : List ℕ). c.args.self.now ++ b) c.tail.view_is
