use Rattle.std.proofs.Common.{◌≡◌, ◌+◌, ◌/◌, ◌<◌, ◌++◌, ◌∷◌, [], length, length-append, arith, ◌∙◌}
use Rattle.std.specs.Slice.Iter.{chunks_exact_rest}
use Rattle.usbip_urb.specs.Fields.{descs_at}
use Rattle.usbip_urb.specs.Sound.Descriptors.{descs_further}
use Rattle.usbip_urb.proofs.payload.read_descs.Goals as goal

pub loop-desc-preserved : goal.loop-desc-preserved
loop-desc-preserved c =
    let b = c.args.bytes.now in
    let n = length b / 16 in
    let l = c.loop-desc in
    let x = c.in-Some.desc.now in
    let before = chunks_exact_rest l.desc-iterator in
    let rest = chunks_exact_rest c.next.new.self in
    let h = c.in-Some.ensures.steps in
    let next : length (l.yielded ++ c.in-Some.desc ∷ []) ≡ length l.yielded + 1 = length-append l.yielded (c.in-Some.desc ∷ []) in
    let long : length x ≡ 16 = h.1.1 ∙ l.invariant.size in
    let both : length before ≡ length x + length rest = rw (h.1.0) (length-append x rest) in
    let less : length l.yielded < n = omega (arith, l.invariant.rest, both, long) in
    record {
      left = rw (c.in_ok-push.ensures.ok, c.desc_at.ensures) (descs_further n (length l.yielded) (length (l.yielded ++ c.in-Some.desc ∷ [])) x rest before l.descs (descs_at n b) less next long h.1.0 l.invariant.left);
      rest = omega (arith, l.invariant.rest, both, long, next);
      size = h.0 ∙ l.invariant.size;
    }
