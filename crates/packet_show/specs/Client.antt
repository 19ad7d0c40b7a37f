-- The words of a list or import request, fields in wire order behind the version and the code.
use Rattle.std.specs.Prelude.{ℕ, List, [], ◌∷◌, codes}
use Rattle.usbip_op.specs.declared.packet.OpPacket.{OpPacket}
use Rattle.usbip_op.specs.declared.packet.OpPacket.TheVariants.{ReqDevlist, ReqImport}
use Rattle.packet_show.specs.Line.{decimal, hex_word, line}

-- a reply isn't shown
abbrev pub client_words : OpPacket → List (List ℕ)
client_words (ReqDevlist status) = codes "REQ_DEVLIST" ∷ decimal status ∷ []
client_words (ReqImport status busid) = codes "REQ_IMPORT" ∷ decimal status ∷ hex_word busid ∷ []
client_words _ = []

abbrev pub client_line : ℕ → OpPacket → List ℕ
client_line place p = line place (client_words p)
