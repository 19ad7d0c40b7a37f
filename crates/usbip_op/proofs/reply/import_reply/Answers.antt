use Rattle.std.proofs.Common.{ap, ◌∙◌, Some}
use Rattle.usbip_op.specs.Devices.{device_at}
use Rattle.usbip_op.proofs.Replies.{import_whole}
use Rattle.usbip_op.proofs.reply.import_reply.Goals as goal

pub returns-then-status-eq0 : goal.returns-then-status-eq0
returns-then-status-eq0 c =
    let device = c.device_at.ensures ∙ ap device_at c.split_at.ensures.back in
    ap (λ x. Some x) (import_whole c.args.bytes.now c.be_u32_at-status.result c.device_at.result c.requires.version c.requires.code c.be_u32_at-status.ensures c.if-status-eq0.true c.if-bytes.false device)
