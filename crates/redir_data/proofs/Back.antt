-- What was read is what is written.
use Rattle.std.proofs.Common.{◌≡◌, ℕ, ◌≤◌, Bool, true, false, List, ◌++◌, take, refl, sym, ap, subst, ◌∙◌}
use Rattle.std.specs.Prelude.{not, ◌==◌}
use Rattle.std.proofs.lemmas.Bool.{and_parts, leb-true, not-true}
use Rattle.usb_base.specs.Number.{AreBytes}
use Rattle.packet_stream.specs.Format.{Whole, reading}
use Rattle.packet_stream.proofs.Formats.{read_whole}
use Rattle.redir_wire.specs.declared.state.RedirState.{RedirState}
use Rattle.redir_wire.specs.declared.packet.Way.{Way}
use Rattle.redir_wire.specs.declared.packet.Header.{Header}
use Rattle.redir_wire.specs.declared.packet.RedirControl.{RedirControl}
use Rattle.redir_wire.specs.declared.kind.DataKind.{DataKind}
use Rattle.redir_wire.specs.declared.kind.DataKind.TheVariants.{Control}
use Rattle.redir_wire.specs.declared.kind.Kind.TheVariants.{Plain as PlainKind}
use Rattle.redir_wire.specs.Table.{data_row, has_wanted, is_left_out}
use Rattle.redir_wire.specs.State.{is_wide, later}
use Rattle.redir_wire.specs.Header.{head_bytes, row_says, IdFits}
use Rattle.redir_wire.specs.Spelling as wire
use Rattle.redir_wire.specs.Written as wire_written
use Rattle.redir_wire.proofs.Lengths as wire_lengths
use Rattle.redir_wire.proofs.Numbers.{says}
use Rattle.redir_wire.proofs.Says.{is_in_turn, header_says}
use Rattle.redir_data.specs.declared.packet.RedirData.{RedirData}
use Rattle.redir_data.specs.declared.packet.RedirPacket.TheVariants.{Plain, Carrying}
use Rattle.redir_data.specs.Spelling.{form_of, fields, size_of, header_of}
use Rattle.redir_data.specs.Packets.{redir_packets}
use Rattle.redir_data.specs.Written.{CanWrite, packet_bytes}
use Rattle.redir_data.specs.sound.Fields.{length_fields}
use Rattle.redir_data.specs.sound.Joined.{redir_sound}

-- ---- who comes first

first_is : (first : Bool) (n : ℕ) → is_in_turn first n ≡ true → first ≡ (n == 0)
first_is true n e = sym e
first_is false n e = sym (not-true (n == 0) e)

no_hello : (k : DataKind) → ((data_row k).number == 0) ≡ false
no_hello Control = refl
no_hello k = refl

-- ---- data

pub data_back : (s : RedirState) (way : Way) (bytes : List ℕ) (h : Header) (d : RedirData) (n : ℕ) → AreBytes bytes → reading (redir_packets s way) bytes ≡ Whole (h, Carrying d) n →
    CanWrite h.id way s.caps d × (take n bytes ≡ packet_bytes h.id s.caps d)
data_back s way bytes h d n are e =
    let whole = read_whole (redir_packets s way) (redir_sound s way) bytes n (h, Carrying d) are e in
    let is = whole.fits in
    let size : h.length ≡ size_of s.caps d = is.length_is ∙ length_fields s.caps d in
    let greeted : s.first ≡ false = first_is s.first h.kind (header_says is.header).in_turn ∙ ap (λ (x : ℕ). x == 0) is.kind ∙ no_hello (form_of d).kind in
    let same : s ≡ later s.caps = λ i. record { first = greeted i; caps = s.caps } in
    let head : h ≡ header_of h.id s.caps d = λ i. record { kind = is.kind i; length = size i; id = h.id } in
    let limit = leb-true h.length 16777280 (header_says is.header).in_limit in (
      record {
        id_fits = subst (λ (x : RedirState). IdFits (is_wide x) h.id) same is.header.id_fits;
        length_fits = is.fits.length_fits;
        data_there = is.fits.data_there;
        in_limit = subst (λ (m : ℕ). m ≤ 16777280) size limit;
      },
      whole.spelled ∙ (λ i. head_bytes (is_wide (same i)) (head i) ++ fields s.caps d),
    )

-- ---- no data

pub control_back : (s : RedirState) (way : Way) (bytes : List ℕ) (h : Header) (p : RedirControl) (n : ℕ) → AreBytes bytes → reading (redir_packets s way) bytes ≡ Whole (h, Plain p) n →
    wire_written.CanWrite h.id s.caps p × (take n bytes ≡ wire_written.packet_bytes h.id s.caps p)
control_back s way bytes h p n are e =
    let whole = read_whole (redir_packets s way) (redir_sound s way) bytes n (h, Plain p) are e in
    let is = whole.fits in
    let size : h.length ≡ wire.length_of s.caps p = is.length_is ∙ wire_lengths.length_fields s.caps p is.fits.ranges in
    let turn : s.first ≡ wire.is_hello p = first_is s.first h.kind (header_says is.header).in_turn ∙ ap (λ (x : ℕ). x == 0) is.kind in
    let same : s ≡ wire_written.state_before s.caps p = λ i. record { first = turn i; caps = s.caps } in
    let head : h ≡ wire.header_of h.id s.caps p = λ i. record { kind = is.kind i; length = size i; id = h.id } in
    let says_so : row_says (has_wanted s.caps) h.kind ≡ true = (and_parts (not (is_left_out h.kind)) (row_says (has_wanted s.caps) h.kind) (header_says is.header).agreed).1 in
    let agreed = sym (says (has_wanted s.caps) (PlainKind (wire.kind_of p))) ∙ ap (row_says (has_wanted s.caps)) (sym is.kind) ∙ says_so in (
      record { agreed = agreed; id_fits = subst (λ (x : RedirState). IdFits (is_wide x) h.id) same is.header.id_fits; writable = is.fits.writable },
      whole.spelled ∙ (λ i. head_bytes (is_wide (same i)) (head i) ++ wire.fields s.caps p),
    )
