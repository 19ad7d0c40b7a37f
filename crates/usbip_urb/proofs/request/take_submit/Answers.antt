use Rattle.std.proofs.Common.{◌≡◌, ℕ, ◌+◌, ◌-◌, ◌≤◌, List, true, length, None, ap, subst, sym, ◌∙◌, arith}
use Rattle.std.specs.Prelude.{slice_range}
use Rattle.std.specs.Int.{w32}
use Rattle.usb_base.specs.Number.{be_at, part}
use Rattle.packet_stream.specs.Format.{reading_by}
use Rattle.packet_stream.specs.Reads.{Answers}
use Rattle.usbip_urb.specs.Heap.{takes_memory}
use Rattle.usbip_urb.specs.Sizes.{is_out, whole_size, descs_place, descs_size}
use Rattle.usbip_urb.specs.Requests.{requests}
use Rattle.usbip_urb.specs.Sound.Requests.{request_by, request_size_by}
use Rattle.usbip_urb.proofs.Wanting.{wanting, body_wanting, descs_wanting}
use Rattle.usbip_urb.proofs.request.take_submit.Goals as goal

pub returns-in_err-descs-clause-exact : goal.returns-in_err-descs-clause-exact
returns-in_err-descs-clause-exact g c =
    let b = c.as_slice-front.result.now in
    let same = c.as_slice-front.ensures in
    let submit = ap (be_at w32 0) same ∙ c.requires.submit in
    let out = is_out (be_at w32 12 b) in
    let p = c.descs_place-place.result in
    let n = c.descs_size.result in
    let place : p ≡ descs_place out b = c.descs_place-place.ensures.place ∙ ap (λ (k : ℕ). descs_place (is_out k) b) c.be_u32_at.ensures in
    let size : (p + n) - p ≡ descs_size b = omega (arith, c.descs_size.ensures.size) in
    let there : whole_size out b ≤ length b = omega (arith, c.if-front-size.false, place, c.descs_size.ensures.size) in
    let descs : slice_range b p (p + n) ≡ part (descs_place out b) (descs_size b) b = λ i. part (place i) (size i) b in
    let some : takes_memory (request_by (be_at w32 0 b) b) ≡ true =
    ap (λ (k : ℕ). takes_memory (request_by k b)) submit ∙ descs_wanting out b (slice_range b p (p + n)) there descs c.in_err-descs.ensures.err in
    let enough : request_size_by (be_at w32 0 b) b ≤ length b = subst (λ (k : ℕ). request_size_by k b ≤ length b) (sym submit) there in
    subst (λ (x : List ℕ). Answers takes_memory c.from_residual.result (reading_by requests x None)) same
    (wanting takes_memory c.from_residual.result requests b c.from_residual.ensures.1 enough some)

pub returns-in_err-submit-clause-exact : goal.returns-in_err-submit-clause-exact
returns-in_err-submit-clause-exact g c =
    let b = c.as_slice-front.result.now in
    let same = c.as_slice-front.ensures in
    let submit = ap (be_at w32 0) same ∙ c.requires.submit in
    let out = is_out (be_at w32 12 b) in
    let place : c.descs_place-place.result ≡ descs_place out b = c.descs_place-place.ensures.place ∙ ap (λ (k : ℕ). descs_place (is_out k) b) c.be_u32_at.ensures in
    let there : whole_size out b ≤ length b = omega (arith, c.if-front-size.false, place, c.descs_size.ensures.size) in
    let some : takes_memory (request_by (be_at w32 0 b) b) ≡ true =
    ap (λ (k : ℕ). takes_memory (request_by k b)) submit ∙ body_wanting out b there (omega (arith, place, c.in_err-submit.ensures.wants)) in
    let enough : request_size_by (be_at w32 0 b) b ≤ length b = subst (λ (k : ℕ). request_size_by k b ≤ length b) (sym submit) there in
    subst (λ (x : List ℕ). Answers takes_memory c.from_residual-in_err-submit.result (reading_by requests x None)) same
    (wanting takes_memory c.from_residual-in_err-submit.result requests b c.from_residual-in_err-submit.ensures.1 enough some)
