use Rattle.std.proofs.Common.{rules, ◌≡◌, ◌<◌, ◌∷◌, ◌++◌, ◌∙◌, ℕ, List, length, ap, arith}
use Rattle.std.specs.List.{flat_map}
use Rattle.stream_buffers.specs.Iso.{piece}
use Rattle.stream_buffers.proofs.Left.{left, none_left, begins_on, one_put, all_put, some_of_all}
use Rattle.stream_buffers.proofs.Joining.{on-err}
use Rattle.stream_buffers.proofs.behind.Behind.append_pieces.Goals as goal

pub loop-desc-preserved : goal.loop-desc-preserved
loop-desc-preserved c =
    let next : left c.loop-desc.desc-iterator ≡ (c.in-Some.desc.now, c.in-Some.packet.now) ∷ left c.next.new.self = search rules in
    let put = c.in_ok-append.ensures.ok ∙ ap (λ (l : List ℕ). c.loop-desc.out ++ l) c.piece.ensures.value in
    record { begins = begins_on _ _ _ _ c.loop-desc.invariant.begins put; sent = one_put _ _ _ _ _ _ c.loop-desc.invariant.sent (ap (flat_map (λ x. piece x.0 x.1)) next) put }

pub returns-in_err-append-clause-wants : goal.returns-in_err-append-clause-wants
returns-in_err-append-clause-wants c =
    let next : left c.loop-desc.desc-iterator ≡ (c.in-Some.desc.now, c.in-Some.packet.now) ∷ left c.next.new.self = search rules in
    let some : 0 < length (piece c.in-Some.desc.now c.in-Some.packet.now) = omega (arith, c.in_err-append.ensures.wants, ap length c.piece.ensures.value) in
    on-err c.from_residual.result _ (some_of_all _ _ _ _ _ _ c.loop-desc.invariant.begins c.loop-desc.invariant.sent (ap (flat_map (λ x. piece x.0 x.1)) next) some)

pub returns-clause-sent : goal.returns-clause-sent
returns-clause-sent c =
    all_put _ _ _ c.loop-desc.invariant.sent (ap (flat_map (λ x. piece x.0 x.1)) (none_left c.loop-desc.desc-iterator c.next.new.self c.in-None.ensures.steps))
