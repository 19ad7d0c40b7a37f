use Rattle.std.proofs.Common.{◌<◌, ◌∙◌, [], ap, filter, length, length-set, refl, arith}
use Rattle.std.proofs.lemmas.List.{get_or_default}
use Rattle.redir_host.proofs.lemmas.state.Flushed.{is_there}
use Rattle.redir_host.proofs.lemmas.state.Places.{upto_all, upto_next}
use Rattle.redir_host.proofs.state.waiting.retain_keys.Goals as goal

pub loop-queue-preserved : goal.loop-queue-preserved
loop-queue-preserved c =
    let queues = c.loop-queue.queue-items in
    let place = c.loop-queue.queue-index in
    let left = filter (is_there c.args.requests.now) in
    let within : place < length queues = omega (arith, c.loop-queue-test.true) in (
      length-set queues place _ ∙ c.loop-queue.invariant.0,
      upto_next left place c.args.queues.now queues _ within (c.retain.ensures ∙ ap left (get_or_default queues place c.queue-item.result [] within)) c.loop-queue.invariant.1,
    )

pub returns-clause-each : goal.returns-clause-each
returns-clause-each c = upto_all (filter (is_there c.args.requests.now)) c.loop-queue.queue-index c.args.queues.now c.loop-queue.queue-items (omega (arith, c.loop-queue-test.false)) refl c.loop-queue.invariant.1
