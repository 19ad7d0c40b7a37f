-- A packet that is next in a stream fits its format, and so the translator can take it.
use Rattle.std.proofs.Common.{◌≡◌, ℕ, Bool, true, false, refl, sym, subst, arith}
use Rattle.redir_wire.specs.declared.packet.Caps.{Caps}
use Rattle.redir_wire.specs.declared.state.RedirState.{RedirState}
use Rattle.redir_wire.specs.declared.packet.Header.{Header}
use Rattle.redir_wire.specs.declared.packet.RedirControl.{RedirControl}
use Rattle.redir_wire.specs.declared.packet.RedirControl.TheVariants as plain
use Rattle.redir_wire.specs.Capability.{no_caps}
use Rattle.redir_wire.specs.State.{is_wide}
use Rattle.redir_wire.specs.Header.{IdFits}
use Rattle.redir_wire.proofs.Says.{is_in_turn, header_says}
use Rattle.redir_wire.specs.Spelling.{number_of}
use Rattle.redir_data.specs.declared.packet.RedirData.{RedirData}
use Rattle.redir_data.specs.declared.packet.RedirData.TheVariants as moving
use Rattle.redir_data.specs.declared.packet.RedirPacket.{RedirPacket}
use Rattle.redir_data.specs.declared.packet.RedirPacket.TheVariants.{Plain, Carrying}
use Rattle.redir_wire.specs.declared.packet.Way.TheVariants.{ToGuest}
use Rattle.redir_data.specs.Spelling as carrying
use Rattle.redir_data.specs.Ranges.{HasItsData}
use Rattle.redir_data.specs.Streams.{stream_format}
use Rattle.usb_base.specs.Endpoint.{is_in_endpoint}
use Rattle.gate_history.specs.state.Flight.{wide_ids}
use Rattle.gate_history.specs.host.Responses.{response_of}
use Rattle.gate_history.specs.step.Fits.{ResponseFits, HelloFits, ToldFits}

-- ---- of the host

-- the host's stream is read by the capabilities that are agreed, which are none before its hello
pub record IsInStep (s : RedirState) (caps : Caps) : Type 0 where
  pub caps_are : s.caps ≡ caps
  pub none_yet : s.first ≡ true → caps ≡ no_caps

id_fits_by : (first : Bool) (its caps : Caps) (id : ℕ) → its ≡ caps → (first ≡ true → caps ≡ no_caps) → IdFits (is_wide (record { first = first; caps = its })) id → IdFits (wide_ids caps) id
id_fits_by true its caps id same none fits = subst (λ (c : Caps). IdFits (wide_ids c) id) (sym (none refl)) fits
id_fits_by false its caps id same none fits = subst (λ (c : Caps). IdFits (wide_ids c) id) same fits

hello_by : (first : Bool) (kind : ℕ) (caps : Caps) → is_in_turn first kind ≡ true → kind ≡ 0 → (first ≡ true → caps ≡ no_caps) → wide_ids caps ≡ false
hello_by true kind caps turn zero none = subst (λ (c : Caps). wide_ids c ≡ false) (sym (none refl)) refl
hello_by false kind caps turn zero none =
    let no : is_in_turn false 0 ≡ true = subst (λ (n : ℕ). is_in_turn false n ≡ true) zero turn in absurd cc

plain_hello : (first : Bool) (kind : ℕ) (caps : Caps) (q : RedirControl) → is_in_turn first kind ≡ true → kind ≡ number_of q → (first ≡ true → caps ≡ no_caps) → HelloFits caps (Plain q)
plain_hello first kind caps (plain.Hello hello) turn is none = hello_by first kind caps turn is none
plain_hello first kind caps _ turn is none = tt

plain_response : (kind : ℕ) (q : RedirControl) → kind ≡ number_of q → ResponseFits kind (response_of (Plain q))
plain_response kind (plain.ConfigurationStatus status configuration) is = let e : kind ≡ 8 = is in omega arith
plain_response kind (plain.AltStatus status interface alt) is = let e : kind ≡ 11 = is in omega arith
plain_response kind _ is = tt

data_response : (kind : ℕ) (d : RedirData) → kind ≡ carrying.number_of d → HasItsData ToGuest d → ResponseFits kind (response_of (Carrying d))
data_response kind (moving.Control endpoint request type status value index told body) is there = (let e : kind ≡ 100 = is in omega arith, there)
data_response kind (moving.Bulk endpoint status told stream body) is there = (let e : kind ≡ 101 = is in omega arith, there)
data_response kind (moving.Iso endpoint status told body) is there = tt
data_response kind (moving.Interrupt endpoint status told body) is there =
    interrupt_by (is_in_endpoint endpoint) refl
  where
    interrupt_by : (b : Bool) → is_in_endpoint endpoint ≡ b → ResponseFits kind (response_of (Carrying (moving.Interrupt endpoint status told body)))
    interrupt_by true e = rw e tt
    interrupt_by false e = rw e (let k : kind ≡ 103 = is in omega arith, there)

pub told_fits : (s : RedirState) (caps : Caps) (h : Header) (p : RedirPacket) → IsInStep s caps → (stream_format ToGuest s).Fits (h, p) → ToldFits caps h p
told_fits s caps h (Plain q) step fits = record {
  id_fits = id_fits_by s.first s.caps caps h.id step.caps_are step.none_yet fits.header.id_fits;
  response = plain_response h.kind q fits.kind;
  hello = plain_hello s.first h.kind caps q (header_says fits.header).in_turn fits.kind step.none_yet;
}
told_fits s caps h (Carrying d) step fits = record {
  id_fits = id_fits_by s.first s.caps caps h.id step.caps_are step.none_yet fits.header.id_fits;
  response = data_response h.kind d fits.kind fits.fits.data_there;
  hello = tt;
}
