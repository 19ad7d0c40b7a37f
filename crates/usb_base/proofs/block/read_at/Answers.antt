use Rattle.std.proofs.Common.{◌≡◌, ◌+◌, ◌-◌, length, drop, arith}
use Rattle.usb_base.proofs.Blocks.{put-behind, put-bytes}
use Rattle.usb_base.proofs.block.read_at.Goals as goal

pub returns : goal.returns
returns g c =
    let room = c.read_into.new.room in
    let within = c.read_into.ensures.within in
    let long : length room ≡ c.args.limit = omega (arith, c.read_into.auto.room, c.requires.within) in (
      record { room = room; long = long; bytes = put-bytes c.args.block.now room (drop (c.args.place + c.args.limit - c.args.place) (drop c.args.place c.args.block.now)) c.args.place (omega (arith, c.requires.within)) (λ i. omega (arith, c.type_inv.block i)); within = omega (arith, within); given = c.read_into.ensures.gives },
      put-behind c.args.block.now room _ c.args.place c.read_into.result (omega (arith, c.requires.within)) (omega (arith, within, long)),
    )
