-- The packets that move data are sound.
use Rattle.std.proofs.Common.{◌≡◌, ℕ, ◌+◌, ◌-◌, ◌*◌, ◌≤◌, Bool, true, false, cond, List, ◌++◌, length, take, Option, Some, None, refl, sym, ap, subst, ◌∙◌, arith}
use Rattle.std.specs.Prelude.{not, ◌==◌}
use Rattle.std.proofs.lemmas.Bool.{not-true}
use Rattle.std.proofs.lemmas.List.{get_or_append_left}
use Rattle.usb_base.specs.Number.{byte_at, part, AreBytes}
use Rattle.usb_base.proofs.Numbers.{then, length-part, le_at-append_16}
use Rattle.packet_stream.specs.Format.{wrong_at, IsSound}
use Rattle.redir_wire.specs.declared.packet.Caps.{Caps}
use Rattle.redir_wire.specs.declared.state.RedirState.{RedirState}
use Rattle.redir_wire.specs.declared.packet.Way.{Way}
use Rattle.redir_wire.specs.declared.packet.Header.{Header}
use Rattle.redir_wire.specs.declared.kind.DataKind.{DataKind}
use Rattle.redir_wire.specs.declared.kind.DataKind.TheVariants.{Control, Bulk, Iso, Interrupt}
use Rattle.redir_wire.specs.declared.packet.TheConstants.Caps.{WIDE_BULK_LENGTH}
use Rattle.redir_wire.specs.Capability.{has}
use Rattle.redir_wire.specs.Table.{data_row, data_numbered}
use Rattle.redir_wire.specs.Header.{IsHeader}
use Rattle.redir_wire.specs.Bodies.{with_header}
use Rattle.redir_wire.specs.Plain.{is_plain}
use Rattle.redir_wire.proofs.Numbers.{data_number, data_again}
use Rattle.redir_wire.proofs.Says.{header_says}
use Rattle.redir_wire.proofs.Packets.{IsFound, AreBodies, AreSteadyBehind, packets_sound}
use Rattle.redir_data.specs.declared.packet.RedirData.{RedirData}
use Rattle.redir_data.specs.declared.packet.RedirData.TheVariants as moving
use Rattle.redir_data.specs.Spelling.{form_of, number_of, data_count, fields}
use Rattle.redir_data.specs.Ranges.{IsData}
use Rattle.redir_data.specs.Places.{fixed, bulk_length, told_length, fields_at, data_at}
use Rattle.redir_data.specs.Carrying.{data_check, transfers, carrying}
use Rattle.redir_data.specs.sound.Checks.{announced, is_numbered, least_length, none_of, agrees_by}
use Rattle.redir_data.specs.sound.Fields.{fixed_spelled, ranges_there, length_there, are_fields, length_fields, endpoint_again, told_again, fields_again}

-- ---- a check sees only the fixed fields

bulk_more : (wide : Bool) (b more : List ℕ) → 8 + cond wide 2 0 ≤ length b → bulk_length wide (b ++ more) ≡ bulk_length wide b
bulk_more true b more there =
    let low = le_at-append_16 2 b more (omega arith) in
    let high = le_at-append_16 8 b more (omega arith) in
    λ i. low i + 65536 * high i
bulk_more false b more there = le_at-append_16 2 b more (omega arith)

told_more : (caps : Caps) (k : DataKind) (b more : List ℕ) → fixed caps k ≤ length b → told_length caps k (b ++ more) ≡ told_length caps k b
told_more caps Control b more there = le_at-append_16 8 b more there
told_more caps Bulk b more there = bulk_more (has caps WIDE_BULK_LENGTH) b more there
told_more caps Iso b more there = le_at-append_16 2 b more there
told_more caps Interrupt b more there = le_at-append_16 2 b more there

fixed_least : (caps : Caps) (k : DataKind) → 4 ≤ fixed caps k
fixed_least caps Control = omega arith
fixed_least caps Bulk = omega arith
fixed_least caps Iso = omega arith
fixed_least caps Interrupt = omega arith

sees : (caps : Caps) (way : Way) (k : DataKind) (h : Header) (b more : List ℕ) → fixed caps k ≤ length b → (data_check caps way k).passes h (b ++ more) ≡ (data_check caps way k).passes h b
sees caps way k h b more there =
    let least = fixed_least caps k in
    let endpoint = get_or_append_left b more 0 0 (omega arith) in
    let told = told_more caps k b more there in
    λ i. h.length == fixed caps k + data_count way (endpoint i) (told i)

most : (wide : Bool) → 8 + cond wide 2 0 ≤ 10
most true = omega arith
most false = omega arith

steady : (caps : Caps) (way : Way) → AreSteadyBehind 0 (transfers caps way).checks
steady caps way = (omega arith, sees caps way Iso, (omega arith, sees caps way Interrupt, (fixed_least caps Bulk, sees caps way Bulk, (most (has caps WIDE_BULK_LENGTH), sees caps way Control, tt))))

-- ---- what is found

data_by : (caps : Caps) (h : Header) (b : List ℕ) (k : DataKind) → data_numbered h.kind ≡ Some k → data_at caps h b ≡ fields_at caps h.length k b
data_by caps h b k e = rw e refl

found_as : (caps : Caps) (way : Way) (h : Header) (b : List ℕ) (k : DataKind) → AreBytes b → data_numbered h.kind ≡ Some k → h.length ≡ announced caps way k b → h.length ≤ length b → IsFound (transfers caps way) h b
found_as caps way h b k are e agrees there =
    let same = data_by caps h b k e in
    let f = fixed caps k in
    let told = told_length caps k b in
    let body = part f (h.length - f) b in
    let is = are_fields k b told body in
    let all : f + (h.length - f) ≡ h.length = omega arith in
    let count : length body ≡ data_count way (byte_at 0 b) told = length-part f (h.length - f) b (omega arith) ∙ omega arith in
    let fits : IsData caps way (fields_at caps h.length k b) = record {
      ranges = ranges_there caps k b body are;
      length_fits = length_there caps k b body are;
      data_there = ap length is.body_is ∙ count ∙ sym (λ i. data_count way (is.endpoint i) (is.length_is i));
    } in
    record {
      spelled = ap (fields caps) same ∙ then f (h.length - f) b _ _ (fixed_spelled caps k b body are (omega arith)) is.body_is ∙ ap (λ (n : ℕ). take n b) all;
      kind = data_number h.kind k e ∙ ap (λ (x : DataKind). (data_row x).number) (sym is.kind) ∙ ap number_of (sym same);
      fits = subst (IsData caps way) (sym same) fits;
    }

found_with : (s : RedirState) (way : Way) (h : Header) (b : List ℕ) → AreBytes b → IsHeader s way h → is_plain h.kind ≡ false → wrong_at (with_header h (transfers s.caps way).checks) b ≡ None → h.length ≤ length b →
    (o : Option DataKind) → data_numbered h.kind ≡ o → IsFound (transfers s.caps way) h b
found_with s way h b are header above none there None e = absurd (is_numbered s.caps h above (header_says header).its_length e)
found_with s way h b are header above none there (Some k) e =
    let least = least_length s.caps h k e (header_says header).its_length in
    found_as s.caps way h b k are e (agrees_by s.caps way h k b (data_number h.kind k e) none (omega arith)) there

-- ---- what is spelled

pub data_owned : (d : RedirData) → not (is_plain (number_of d)) ≡ true
data_owned (moving.Control endpoint request kind status value index told body) = refl
data_owned d = refl

agrees : (caps : Caps) (way : Way) (h : Header) (d : RedirData) (more : List ℕ) → h.length ≡ length (fields caps d) → IsData caps way d → h.length ≡ announced caps way (form_of d).kind (fields caps d ++ more)
agrees caps way h d more is fits =
    let endpoint = endpoint_again caps d more in
    let told = told_again caps d more fits.ranges fits.length_fits in
    is ∙ length_fields caps d ∙ ap (λ (n : ℕ). fixed caps (form_of d).kind + n) (fits.data_there ∙ sym (λ i. data_count way (endpoint i) (told i)))

fields_there : (caps : Caps) (h : Header) (d : RedirData) (more : List ℕ) → h.kind ≡ number_of d → fields_at caps h.length (form_of d).kind (fields caps d ++ more) ≡ d → data_at caps h (fields caps d ++ more) ≡ d
fields_there caps h d more kind again = data_by caps h (fields caps d ++ more) (form_of d).kind (ap data_numbered kind ∙ data_again (form_of d).kind) ∙ again

pub data_bodies : (s : RedirState) (way : Way) → AreBodies (transfers s.caps way) s way
data_bodies s way = record {
  steady = steady s.caps way;
  found = λ h b are header owns none there. found_with s way h b are header (not-true (is_plain h.kind) owns) none there (data_numbered h.kind) refl;
  right = λ p more is. none_of s.caps way p.0 (form_of p.1).kind (fields s.caps p.1 ++ more) is.kind (λ _. agrees s.caps way p.0 p.1 more is.length_is is.fits);
  fields = λ p more is. fields_there s.caps p.0 p.1 more is.kind (fields_again s.caps p.0.length p.1 more is.fits.ranges is.fits.length_fits is.length_is);
  owned = data_owned;
}

pub carrying_sound : (s : RedirState) (way : Way) → IsSound (carrying s way)
carrying_sound s way = packets_sound (transfers s.caps way) s way (data_bodies s way)
