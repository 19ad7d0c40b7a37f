use Rattle.std.proofs.Common.{◌≡◌, ◌≤◌, ◌/◌, ap, map, take, length, drop, ◌∙◌, arith, length-drop}
use Rattle.std.specs.Simd.{first_chunks}
use Rattle.usb_base.specs.Number.{byte_at}
use Rattle.usbip_op.specs.declared.packet.DeviceRow.{DeviceRow}
use Rattle.usbip_op.specs.Devices.{interface_at}
use Rattle.usbip_op.proofs.Devices.{chunks_rows}
use Rattle.usbip_op.proofs.reply.listed_row.Goals as goal

pub returns : goal.returns
returns c =
    let b = c.args.bytes.now in
    let n = byte_at 311 b in
    let rest = drop 312 b in
    let k = length rest / 4 in
    let count : c.device_at-device.result.interfaces ≡ n = ap (λ (d : DeviceRow). d.interfaces) c.device_at-device.ensures in
    let there : n ≤ k = omega (arith, c.requires, length-drop 312 b) in
    let chunks = c.as_chunks.ensures.front ∙ ap (λ xs. first_chunks 4 (length xs / 4) xs) c.split_at.ensures.back in
    let rows = c.in_ok-interfaces.ensures ∙ ap (λ m. map interface_at (take m c.as_chunks.result.0.now)) count ∙ ap (λ xs. map interface_at (take n xs)) chunks ∙ chunks_rows n k rest there in
    λ t. record { device = c.device_at-device.ensures t; interfaces = rows t }
