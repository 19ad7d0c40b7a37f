-- The packets whose fields stand at their places of bytes ("usbip_protocol", USBIP_CMD_SUBMIT to USBIP_RET_UNLINK).
use Rattle.std.specs.Prelude.{ℕ, zero, suc, Bool, List, [], ◌∷◌, drop}
use Rattle.std.specs.Int.{w32, cast_signed}
use Rattle.usb_base.specs.Number.{be_at, part}
use Rattle.usbip_urb.specs.declared.packet.Head.{Head}
use Rattle.usbip_urb.specs.declared.packet.IsoDesc.{IsoDesc}
use Rattle.usbip_urb.specs.declared.packet.Submit.{Submit}
use Rattle.usbip_urb.specs.declared.packet.RetSubmit.{RetSubmit}
use Rattle.usbip_urb.specs.declared.packet.Unlink.{Unlink}
use Rattle.usbip_urb.specs.declared.packet.RetUnlink.{RetUnlink}
use Rattle.usbip_urb.specs.declared.code.TheConstants.{DESC_SIZE, HEAD_SIZE}
use Rattle.usbip_urb.specs.Sizes.{is_out, body_size, count_of, descs_place, descs_size}

abbrev pub head_at : List ℕ → Head
head_at b = record { seqnum = be_at w32 4 b; devid = be_at w32 8 b; direction = be_at w32 12 b; ep = be_at w32 16 b }

abbrev pub desc_at : List ℕ → IsoDesc
desc_at b = record { offset = be_at w32 0 b; length = be_at w32 4 b; actual = be_at w32 8 b; status = cast_signed w32 (be_at w32 12 b) }

-- the n descriptors that stand one behind another
abbrev pub descs_at : ℕ → List ℕ → List IsoDesc
descs_at zero b = []
descs_at (suc n) b = desc_at b ∷ descs_at n (drop DESC_SIZE b)

abbrev pub body_at : Bool → List ℕ → List ℕ
body_at has_body b = part HEAD_SIZE (body_size has_body (be_at w32 24 b)) b

abbrev pub descs_behind : Bool → List ℕ → List IsoDesc
descs_behind has_body b = descs_at (count_of (be_at w32 32 b)) (part (descs_place has_body b) (descs_size b) b)

-- the fields, with this body and these descriptors
abbrev pub submit_with : List ℕ → List ℕ → List IsoDesc → Submit
submit_with b body descs = record {
  head = head_at b;
  flags = be_at w32 20 b;
  length = be_at w32 24 b;
  start_frame = be_at w32 28 b;
  packets = be_at w32 32 b;
  interval = be_at w32 36 b;
  setup = part 40 8 b;
  body = body;
  descs = descs;
}

abbrev pub submit_at : List ℕ → Submit
submit_at b = submit_with b (body_at (is_out (be_at w32 12 b)) b) (descs_behind (is_out (be_at w32 12 b)) b)

abbrev pub ret_submit_at : Bool → List ℕ → RetSubmit
ret_submit_at is_in b = record {
  head = head_at b;
  status = cast_signed w32 (be_at w32 20 b);
  actual = be_at w32 24 b;
  start_frame = be_at w32 28 b;
  packets = be_at w32 32 b;
  errors = be_at w32 36 b;
  tail = part 40 8 b;
  body = body_at is_in b;
  descs = descs_behind is_in b;
}

abbrev pub unlink_at : List ℕ → Unlink
unlink_at b = record { head = head_at b; target = be_at w32 20 b; pad = part 24 24 b }

abbrev pub ret_unlink_at : List ℕ → RetUnlink
ret_unlink_at b = record { head = head_at b; status = cast_signed w32 (be_at w32 20 b); pad = part 24 24 b }
