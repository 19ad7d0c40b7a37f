-- The packets that move no data are sound, and what is written of them is read again.
use Rattle.std.proofs.Common.{◌≡◌, ℕ, ◌+◌, ◌*◌, ◌-◌, ◌%◌, ◌≤◌, Bool, true, false, cond, List, [], ◌∷◌, ◌++◌, length, Option, Some, None, refl, sym, ap, subst, ◌∙◌, arith}
use Rattle.std.specs.Prelude.{nat_le, not, ◌&&◌, ◌==◌}
use Rattle.std.specs.Int.{w32}
use Rattle.std.proofs.lemmas.Bool.{eq-eqb, leb-true, le-leb}
use Rattle.std.proofs.lemmas.Grind.{common_steps}
use Rattle.usb_base.specs.Number.{le_at, AreBytes}
use Rattle.usb_base.proofs.Numbers.{le_at-append_32}
use Rattle.packet_stream.specs.Format.{wrong_at, IsSound, reading, Whole}
use Rattle.packet_stream.proofs.Formats.{none_first, none_from, read_again}
use Rattle.redir_wire.specs.declared.packet.Caps.{Caps}
use Rattle.redir_wire.specs.declared.state.RedirState.{RedirState}
use Rattle.redir_wire.specs.declared.packet.Way.{Way}
use Rattle.redir_wire.specs.declared.packet.Header.{Header}
use Rattle.redir_wire.specs.declared.packet.RedirControl.{RedirControl}
use Rattle.redir_wire.specs.declared.packet.RedirControl.TheVariants as controls
use Rattle.redir_wire.specs.declared.kind.PlainKind.{PlainKind}
use Rattle.redir_wire.specs.declared.kind.Kind.TheVariants.{Plain}
use Rattle.redir_wire.specs.declared.packet.TheConstants.Caps.{CONNECT_VERSION, MAX_PACKET_SIZE}
use Rattle.redir_wire.specs.Capability.{has}
use Rattle.redir_wire.specs.Table.{plain_row, plain_numbered, has_length, has_wanted, goes}
use Rattle.redir_wire.specs.Header.{IsHeader}
use Rattle.redir_wire.proofs.Says.{header_says, is_header}
use Rattle.redir_wire.specs.Bodies.{check_behind, with_header, IsPacket}
use Rattle.redir_wire.specs.Spelling.{kind_of, number_of, fields, length_of, header_of}
use Rattle.redir_wire.specs.Ranges.{Ranges, IsWritable, IsControl}
use Rattle.redir_wire.specs.Table.{fields_at}
use Rattle.redir_wire.specs.Plain.{control_at}
use Rattle.redir_wire.specs.Plain.{is_plain, count_check, plain}
use Rattle.redir_wire.specs.Plain as wire
use Rattle.redir_wire.specs.Written.{CanWrite, packet_bytes, state_before}
use Rattle.redir_wire.proofs.Lengths.{length_fields}
use Rattle.redir_wire.proofs.Behind.{length_by, is_numbered}
use Rattle.redir_wire.proofs.Numbers.{plain_number, plain_again, says, known, number_fits, agreed_by}
use Rattle.redir_wire.proofs.Controls.{IsFoundAs, found_as, fields_again, count_passes}
use Rattle.redir_wire.proofs.Packets.{IsFound, AreBodies, packets_sound}

-- ---- what is found

control_by : (caps : Caps) (h : Header) (b : List ℕ) (k : PlainKind) → plain_numbered h.kind ≡ Some k → control_at caps h b ≡ fields_at caps h.length k b
control_by caps h b k e = rw e refl

found_by : (caps : Caps) (h : Header) (b : List ℕ) (k : PlainKind) → plain_numbered h.kind ≡ Some k → IsFoundAs caps h.length k b → IsFound (wire.controls caps) h b
found_by caps h b k e f =
    let same = control_by caps h b k e in
    record {
      spelled = ap (fields caps) same ∙ f.spelled;
      kind = plain_number h.kind k e ∙ ap (λ (x : PlainKind). (plain_row x).number) (sym f.kind) ∙ ap number_of (sym same);
      fits = subst (IsControl caps) (sym same) f.fits;
    }

found_with : (s : RedirState) (way : Way) (h : Header) (b : List ℕ) → AreBytes b → IsHeader s way h → is_plain h.kind ≡ true → wrong_at (with_header h (count_check ∷ [])) b ≡ None →
    h.length ≤ length b → (o : Option PlainKind) → plain_numbered h.kind ≡ o → IsFound (wire.controls s.caps) h b
found_with s way h b are header plain none there None e = absurd (is_numbered s.caps h plain (header_says header).its_length e)
found_with s way h b are header plain none there (Some k) e =
    let its = sym (length_by s.caps h k e) ∙ (header_says header).its_length in
    let few : (plain_row k).number ≡ 4 → 4 ≤ length b → le_at w32 0 b ≤ 32 =
    λ is long. leb-true (le_at w32 0 b) 32 (none_first (check_behind h count_check) [] b none (eq-eqb h.kind 4 (plain_number h.kind k e ∙ is)) long) in
    found_by s.caps h b k e (found_as s.caps h.length k b are its there few)

-- ---- what is spelled

pub plain_owned : (c : RedirControl) → is_plain (number_of c) ≡ true
plain_owned (controls.Hello h) = refl
plain_owned c = refl

fields_there : (caps : Caps) (h : Header) (c : RedirControl) (more : List ℕ) → h.kind ≡ number_of c → fields_at caps h.length (kind_of c) (fields caps c ++ more) ≡ c → control_at caps h (fields caps c ++ more) ≡ c
fields_there caps h c more kind again = control_by caps h (fields caps c ++ more) (kind_of c) (ap plain_numbered kind ∙ plain_again (kind_of c)) ∙ again

count_steady : (h : Header) (b more : List ℕ) → 4 ≤ length b → count_check.passes h (b ++ more) ≡ count_check.passes h b
count_steady h b more there = ap (λ (n : ℕ). nat_le n 32) (le_at-append_32 0 b more there)

pub plain_bodies : (s : RedirState) (way : Way) → AreBodies (wire.controls s.caps) s way
plain_bodies s way = record {
  steady = (omega arith, count_steady, tt);
  found = λ h b are header plain none there. found_with s way h b are header plain none there (plain_numbered h.kind) refl;
  right = λ p more is. none_from (check_behind p.0 count_check) [] (fields s.caps p.1 ++ more) (λ tried _. count_passes s.caps p.0.kind p.1 more is.kind is.fits tried) refl;
  fields = λ p more is. fields_there s.caps p.0 p.1 more is.kind (fields_again s.caps p.0.length p.1 more is.fits is.length_is);
  owned = plain_owned;
}

pub plain_sound : (s : RedirState) (way : Way) → IsSound (plain s way)
plain_sound s way = packets_sound (wire.controls s.caps) s way (plain_bodies s way)

-- ---- what is written

in_turn : (t : Bool) → cond t t (not t) ≡ true
in_turn true = refl
in_turn false = refl

eq_same : (n : ℕ) → (n + 0 == n) ≡ true
eq_same n = grind (arith, common_steps)

hello_length : (n : ℕ) → n ≤ 32 → (nat_le 64 (64 + n * 4) && (nat_le (64 + n * 4) 192 && (((64 + n * 4) - 64) % 4 == 0))) ≡ true
hello_length n few = grind (arith, common_steps)

its_length : (caps : Caps) (p : RedirControl) → IsWritable caps p → has_length caps (plain_row (kind_of p)) (length_of caps p) ≡ true
its_length caps (controls.Hello h) w = hello_length (length h.words) w
its_length caps (controls.Connect c) w = eq_same (8 + cond (has caps CONNECT_VERSION) 2 0)
its_length caps (controls.EpInfo e) w = eq_same (96 + cond (has caps MAX_PACKET_SIZE) 64 0)
its_length caps p w = refl

sent_most : (t : Bool) (n : ℕ) → cond t n 0 ≤ n
sent_most true n = omega arith
sent_most false n = omega arith

length_most : (caps : Caps) (p : RedirControl) → IsWritable caps p → length_of caps p ≤ 16777280
length_most caps (controls.Hello h) w = omega (arith, w)
length_most caps (controls.Connect c) w = omega (arith, sent_most (has caps CONNECT_VERSION) 2)
length_most caps (controls.EpInfo e) w = omega (arith, sent_most (has caps MAX_PACKET_SIZE) 64)
length_most caps p w = omega arith

pub packet_written : (way : Way) (caps : Caps) (id : ℕ) (p : RedirControl) → Ranges p → CanWrite id caps p → goes way (plain_row (kind_of p)) ≡ true →
    IsPacket (wire.controls caps) (state_before caps p) way (header_of id caps p, p)
packet_written way caps id p ranges can goes_so =
    let k = Plain (kind_of p) in
    record {
      header = is_header (state_before caps p) way (header_of id caps p) (record {
        in_turn = in_turn (number_of p == 0);
        known = known k;
        agreed = agreed_by caps k (has_wanted caps) can.agreed;
        on_its_way = says (goes way) k ∙ goes_so;
        in_limit = le-leb (length_of caps p) 16777280 (length_most caps p can.writable);
        its_length = says (λ r. has_length caps r (length_of caps p)) k ∙ its_length caps p can.writable;
        kind_fits = number_fits k;
        id_fits = can.id_fits;
      });
      kind = refl;
      length_is = sym (length_fields caps p ranges);
      fits = record { ranges = ranges; writable = can.writable };
    }

pub written_again : (way : Way) (caps : Caps) (id : ℕ) (p : RedirControl) (more : List ℕ) → Ranges p → CanWrite id caps p → goes way (plain_row (kind_of p)) ≡ true →
    reading (plain (state_before caps p) way) (packet_bytes id caps p ++ more) ≡ Whole (header_of id caps p, p) (length (packet_bytes id caps p))
written_again way caps id p more ranges can goes_so =
    read_again (plain (state_before caps p) way) (plain_sound (state_before caps p) way) (header_of id caps p, p) more (packet_written way caps id p ranges can goes_so)
