-- What stands behind the first 40 bytes of a submit or its answer: eight bytes, a body or none, and descriptors.
use Rattle.std.proofs.Common.{◌≡◌, ℕ, ◌+◌, ◌*◌, ◌≤◌, Bool, List, ◌++◌, length, take, refl, sym, ap, ◌∙◌, append_assoc, arith, All}
use Rattle.std.specs.Int.{w32}
use Rattle.std.proofs.lemmas.List.{length-append}
use Rattle.usb_base.specs.Number.{be_at, part, AreBytes}
use Rattle.usb_base.proofs.Numbers.{AreBytes-part, length-part, then, part_found}
use Rattle.usbip_urb.specs.declared.packet.IsoDesc.{IsoDesc}
use Rattle.usbip_urb.specs.Spelling.{descs_bytes}
use Rattle.usbip_urb.specs.Sizes.{body_size, count_of, descs_place, whole_size}
use Rattle.usbip_urb.specs.Fields.{descs_at, body_at, descs_behind}
use Rattle.usbip_urb.specs.Ranges.{DescFits}
use Rattle.usbip_urb.specs.Sound.Descriptors.{descs_found, descs_counted, descs_long, descs_again}

-- ---- what is read is spelled so

pub record IsFoundPayload (has_body : Bool) (b front : List ℕ) : Type 0 where
  pub spelled : front ++ part 40 8 b ++ body_at has_body b ++ descs_bytes (descs_behind has_body b) ≡ take (whole_size has_body b) b
  pub eight : length (part 40 8 b) ≡ 8
  pub body : length (body_at has_body b) ≡ body_size has_body (be_at w32 24 b)
  pub descs : length (descs_behind has_body b) ≡ count_of (be_at w32 32 b)
  pub fits : All DescFits (descs_behind has_body b)

pub payload_found : (has_body : Bool) (b front : List ℕ) → AreBytes b → whole_size has_body b ≤ length b → front ≡ take 40 b → IsFoundPayload has_body b front
payload_found has_body b front are there e =
    let n = body_size has_body (be_at w32 24 b) in
    let count = count_of (be_at w32 32 b) in
    let place = descs_place has_body b in
    let last = part place (count * 16) b in
    let long : length last ≡ count * 16 = length-part place (count * 16) b there in
    let descs = descs_found count last (AreBytes-part place (count * 16) b are) long in
    record {
      spelled = then (48 + n) (count * 16) b _ _ (then 48 n b _ _ (then 40 8 b _ _ e refl) refl) descs.0;
      eight = length-part 40 8 b (omega (arith, there));
      body = length-part 48 n b (omega (arith, there));
      descs = descs_counted count last;
      fits = descs.1;
    }

-- ---- what is spelled so is read

pub record IsReadPayload (has_body : Bool) (x front eight body : List ℕ) (descs : List IsoDesc) : Type 0 where
  pub is_eight : part 40 8 x ≡ eight
  pub is_body : body_at has_body x ≡ body
  pub is_descs : descs_behind has_body x ≡ descs
  pub size : whole_size has_body x ≡ length (front ++ eight ++ body ++ descs_bytes descs)

pub payload_again : (has_body : Bool) (x front eight body : List ℕ) (descs : List IsoDesc) (more : List ℕ) → x ≡ front ++ eight ++ body ++ descs_bytes descs ++ more →
    length front ≡ 40 → length eight ≡ 8 → length body ≡ body_size has_body (be_at w32 24 x) → length descs ≡ count_of (be_at w32 32 x) → All DescFits descs →
    IsReadPayload has_body x front eight body descs
payload_again has_body x front eight body descs more e front_long eight_long body_long counted fits =
    let n = body_size has_body (be_at w32 24 x) in
    let count = count_of (be_at w32 32 x) in
    let last = descs_bytes descs in
    let last_long : length last ≡ count * 16 = omega (arith, descs_long descs, counted) in
    let head_long : length (front ++ eight) ≡ 48 = omega (arith, length-append front eight, front_long, eight_long) in
    let bodied_long : length (front ++ eight ++ body) ≡ 48 + n = omega (arith, length-append (front ++ eight) body, head_long, body_long) in
    let eighth : x ≡ front ++ eight ++ (body ++ last ++ more) = e ∙ simp append_assoc refl in
    let bodied : x ≡ front ++ eight ++ body ++ (last ++ more) = e ∙ append_assoc (front ++ eight ++ body) last more in
    record {
      is_eight = ap (part 40 8) eighth ∙ part_found 40 8 front eight (body ++ last ++ more) front_long eight_long;
      is_body = ap (part 48 n) bodied ∙ part_found 48 n (front ++ eight) body (last ++ more) head_long body_long;
      is_descs = ap (λ (y : List ℕ). descs_at count (part (48 + n) (count * 16) y)) e
          ∙ ap (descs_at count) (part_found (48 + n) (count * 16) (front ++ eight ++ body) last more bodied_long last_long)
          ∙ ap (λ (k : ℕ). descs_at k last) (sym counted)
          ∙ descs_again descs fits;
      size = omega (arith, length-append (front ++ eight ++ body) last, bodied_long, last_long);
    }
