-- The fields in front of what packets fill, in the answer of a filled request.
use Rattle.std.specs.Prelude.{ℕ, List, [], ◌∷◌, ◌++◌, replicate, ℤ}
use Rattle.std.specs.Int.{w32, cast_unsigned}
use Rattle.usbip_urb.specs.declared.code.TheConstants.{USBIP_RET_SUBMIT}
use Rattle.usbip_urb.specs.Spelling.{words}
use Rattle.gate_history.specs.declared.request.Request.{Request}
use Rattle.gate_history.specs.write.Answers.{told_status}

-- the fields of an answer in front of its body, with so many bytes moved and so many errors
abbrev pub front_bytes : Request → ℤ → ℕ → ℕ → List ℕ
front_bytes r status actual errors =
    words (USBIP_RET_SUBMIT ∷ r.seqnum ∷ 0 ∷ 0 ∷ 0 ∷ cast_unsigned w32 (told_status r status actual) ∷ actual ∷ 0 ∷ r.packets ∷ errors ∷ []) ++ replicate 8 0
