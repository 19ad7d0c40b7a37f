-- What an isochronous request is given, over its buffer.
use Rattle.std.proofs.Common.{◌≡◌, ℕ, ◌+◌, ◌≤◌, ◌&&◌, nat_le, suc, Bool, true, false, List, [], ◌∷◌, length, map, Some, None, refl, ap, ◌∙◌, sym, arith}
use Rattle.std.specs.Prelude.{IfSome, IsTrue, if◌then◌else◌, nat_lt, drop}
use Rattle.std.proofs.lemmas.Bool.{leb-true, ltb-false, and_parts}
use Rattle.std.proofs.lemmas.List.{length-append, length-take}
use Rattle.std.proofs.lemmas.List.Sums.{sum_by-cons}
use Rattle.usb_base.specs.declared.transfer.StreamPacket.{StreamPacket}
use Rattle.usbip_urb.specs.declared.packet.IsoDesc.{IsoDesc}
use Rattle.usbip_urb.specs.declared.code.TheConstants.{MAX_PACKET_LENGTH}
use Rattle.usbip_urb.specs.Buffers.{laid, laid_from, total}
use Rattle.stream_buffers.specs.Iso.{piece, pieces, all_filled, IsoOutcome, iso_outcome, iso_cut}
use Rattle.stream_buffers.specs.Cuts.{Cut}
use Rattle.stream_buffers.specs.Laws.{FitsBuffer}

-- the parts of one step
laid_here : (place : ℕ) (d : IsoDesc) (ds : List IsoDesc) (size : ℕ) → laid_from place (d ∷ ds) size ≡ true → (place ≤ d.offset) × (laid_from (d.offset + d.length) ds size ≡ true)
laid_here place d ds size is =
    let outer = and_parts (nat_le d.length MAX_PACKET_LENGTH && nat_le place d.offset) (laid_from (d.offset + d.length) ds size) is in
    let inner = and_parts (nat_le d.length MAX_PACKET_LENGTH) (nat_le place d.offset) outer.0 in
    (leb-true place d.offset inner.1, outer.1)

in_size_from : (place : ℕ) (ds : List IsoDesc) (ps : List StreamPacket) (size : ℕ) → laid_from place ds size ≡ true → place + length (pieces ds ps) ≤ size
in_size_from place [] ps size is = omega (arith, leb-true place size is)
in_size_from place (d ∷ ds) [] size is =
    let here = laid_here place d ds size is in
    omega (arith, here.0, in_size_from (d.offset + d.length) ds [] size here.1)
in_size_from place (d ∷ ds) (p ∷ ps) size is =
    let here = laid_here place d ds size is in
    omega (arith, here.0, in_size_from (d.offset + d.length) ds ps size here.1, length-append (piece d p) (pieces ds ps), length-take d.length p.body)

pub pieces_fit : (size : ℕ) (ds : List IsoDesc) (ps : List StreamPacket) → IsTrue (laid ds size) → length (pieces ds ps) ≤ size
pieces_fit size ds ps lies = omega (arith, in_size_from 0 ds ps size lies)

told_is : (ds : List IsoDesc) (ps : List StreamPacket) → total (all_filled ds ps) ≡ length (pieces ds ps)
told_is [] ps = refl
told_is (d ∷ ds) [] = refl
told_is (d ∷ ds) (p ∷ ps) = sum_by-cons (λ (n : ℕ). n) (length (piece d p)) (map (λ (x : IsoDesc). x.actual) (all_filled ds ps)) ∙ ap (λ (n : ℕ). length (piece d p) + n) (told_is ds ps) ∙ sym (length-append (piece d p) (pieces ds ps))

as_many_as : (ds : List IsoDesc) (ps : List StreamPacket) → length ds ≤ length ps → length (all_filled ds ps) ≡ length ds
as_many_as [] ps enough = refl
as_many_as (d ∷ ds) [] enough = absurd (omega arith)
as_many_as (d ∷ ds) (p ∷ ps) enough = ap suc (as_many_as ds ps (omega arith))

by_length : (size : ℕ) (ds : List IsoDesc) (ps : List StreamPacket) (fewer : Bool) → nat_lt (length ps) (length ds) ≡ fewer → laid ds size ≡ true →
    IfSome (if fewer then None else Some (record { gives = iso_outcome ds ps; leaves = drop (length ds) ps })) (λ (cut : Cut IsoOutcome). FitsBuffer size ds cut.gives)
by_length size ds ps true is lies = tt
by_length size ds ps false is lies = record {
  in_size = pieces_fit size ds ps lies;
  as_many = as_many_as ds ps (ltb-false (length ps) (length ds) is);
  told = told_is ds ps;
}

pub iso_fits : (size : ℕ) (ds : List IsoDesc) (ps : List StreamPacket) → IsTrue (laid ds size) → IfSome (iso_cut ds ps) (λ cut. FitsBuffer size ds cut.gives)
iso_fits size ds ps lies = by_length size ds ps (nat_lt (length ps) (length ds)) refl lies
