-- The words of a URB request, fields in wire order behind the command.
use Rattle.std.specs.Prelude.{ℕ, List, [], ◌∷◌, ◌++◌, drop, map, codes}
use Rattle.std.specs.Fmt.{signed_decimal}
use Rattle.usbip_urb.specs.declared.packet.IsoDesc.{IsoDesc}
use Rattle.usbip_urb.specs.declared.packet.Submit.{Submit}
use Rattle.usbip_urb.specs.declared.packet.Unlink.{Unlink}
use Rattle.usbip_urb.specs.declared.packet.UrbPacket.{UrbPacket}
use Rattle.usbip_urb.specs.declared.packet.UrbPacket.TheVariants as urb
use Rattle.usbip_urb.specs.Spelling as wire
use Rattle.packet_show.specs.Line.{decimal, numbers, hex_word, line}

-- `offset:length:actual:status`
abbrev pub desc_word : IsoDesc → List ℕ
desc_word d = decimal d.offset ++ codes ":" ++ decimal d.length ++ codes ":" ++ decimal d.actual ++ codes ":" ++ signed_decimal d.status

-- its numbers behind the command, and what stands behind them
abbrev pub submit_words : Submit → List (List ℕ)
submit_words s = codes "SUBMIT" ∷ numbers (drop 1 (wire.submit_words s)) ++ hex_word s.setup ∷ hex_word s.body ∷ map desc_word s.descs

abbrev pub unlink_words : Unlink → List (List ℕ)
unlink_words u = codes "UNLINK" ∷ numbers (drop 1 (wire.unlink_words u)) ++ hex_word u.pad ∷ []

-- an answer isn't shown
abbrev pub urb_words : UrbPacket → List (List ℕ)
urb_words (urb.Submit s) = submit_words s
urb_words (urb.Unlink u) = unlink_words u
urb_words _ = []

abbrev pub urb_line : ℕ → UrbPacket → List ℕ
urb_line place p = line place (urb_words p)
