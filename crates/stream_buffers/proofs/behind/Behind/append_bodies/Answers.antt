use Rattle.std.proofs.Common.{◌≡◌, ◌<◌, ◌++◌, ◌∙◌, ◌+◌, ◌-◌, ℕ, List, length, take, ap, length-take, arith}
use Rattle.stream_buffers.proofs.Left.{begins_on, one_put, all_put, some_of_all}
use Rattle.stream_buffers.proofs.Joining.{fit_next, none_fits, on-err}
use Rattle.stream_buffers.proofs.behind.Behind.append_bodies.Goals as goal

pub loop-packet-preserved : goal.loop-packet-preserved
loop-packet-preserved c =
    let room = c.loop-packet.room in
    let body = c.in-Some.packet.now.body in
    let fits : c.fitting-fitting.result.now ≡ take room body = c.fitting-fitting.ensures ∙ ap (take room) c.as_slice.ensures in
    let more = room - length c.fitting-fitting.result.now in
    let left : more + length (take room body) ≡ room = omega (arith, ap length fits, length-take room body) in
    let next = fit_next room more _ _ _ _ c.in-Some.packet.now c.in-Some.ensures.steps.0 c.in-Some.ensures.steps.1 left in
    let put = c.in_ok-append.ensures.ok ∙ ap (λ (l : List ℕ). c.loop-packet.out ++ l) fits in
    record { begins = begins_on _ _ _ _ c.loop-packet.invariant.begins put; sent = one_put _ _ _ _ _ _ c.loop-packet.invariant.sent next put }

pub returns-in_err-append-clause-wants : goal.returns-in_err-append-clause-wants
returns-in_err-append-clause-wants c =
    let room = c.loop-packet.room in
    let body = c.in-Some.packet.now.body in
    let fits : c.fitting-fitting.result.now ≡ take room body = c.fitting-fitting.ensures ∙ ap (take room) c.as_slice.ensures in
    let left : (room - length c.fitting-fitting.result.now) + length (take room body) ≡ room = omega (arith, ap length fits, length-take room body) in
    let next = fit_next room _ _ _ _ _ c.in-Some.packet.now c.in-Some.ensures.steps.0 c.in-Some.ensures.steps.1 left in
    let some : 0 < length (take room body) = omega (arith, c.in_err-append.ensures.wants, ap length fits) in
    on-err c.from_residual.result _ (some_of_all _ _ _ _ _ _ c.loop-packet.invariant.begins c.loop-packet.invariant.sent next some)

pub returns-clause-sent : goal.returns-clause-sent
returns-clause-sent c =
    all_put _ _ _ c.loop-packet.invariant.sent (none_fits c.loop-packet.room _ _ (λ some. (c.in-None.ensures.steps some).0))
