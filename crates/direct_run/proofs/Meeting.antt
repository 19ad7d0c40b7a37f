-- How far the gateway has met its host: before the host's hello it sends nothing behind its own, and from then on it
-- spells and reads by the capabilities that both have. Lists of items have the latest first.
use Rattle.std.proofs.Common.{◌≡◌, ℕ, Bool, true, false, cond, List, [], ◌∷◌, ◌++◌, Option, None, refl, sym, ap, ◌∙◌, subst}
use Rattle.std.specs.Prelude.{unwrap_or}
use Rattle.std.specs.List.{flat_map}
use Rattle.std.proofs.lemmas.Grind.{flat_map-append}
use Rattle.usb_base.specs.declared.reason.Reason.{Reason}
use Rattle.usbip_urb.specs.declared.client.ClientPacket.{ClientPacket}
use Rattle.redir_wire.specs.declared.packet.Caps.{Caps}
use Rattle.redir_wire.specs.declared.packet.Header.{Header}
use Rattle.redir_wire.specs.declared.packet.RedirControl.TheVariants as plain
use Rattle.redir_wire.specs.Capability.{no_caps}
use Rattle.redir_data.specs.declared.packet.RedirPacket.{RedirPacket}
use Rattle.redir_data.specs.declared.packet.RedirPacket.TheVariants.{Plain, Carrying}
use Rattle.redir_host.specs.write.Output.{host_hello}
use Rattle.gate_history.specs.declared.item.Item.{Item}
use Rattle.gate_history.specs.declared.item.Item.TheVariants.{Asked, ClientWrong, ClientLeft, Told, HostWrong, HostLeft}
use Rattle.gate_history.specs.step.Marks.{Mark, Agrees}
use Rattle.gate_history.specs.state.Sides.{sides, agrees, host_over as host_over_of}
use Rattle.gate_history.specs.state.Ups.{Up}
use Rattle.gate_history.specs.write.Packets.{asked_packets}
use Rattle.gate_history.specs.state.State.{State}
use Rattle.gate_history.specs.write.Output.{to_host}
use Rattle.redir_data.specs.Sent.{sent_packet_bytes}
use Rattle.gate_history.specs.write.Bytes.{host_bytes_of}
use Rattle.gate_history.specs.step.Meaning.{told_by, told_meaning, meaning, mark_of, mark_as}
use Rattle.gate_history.specs.step.Past.{is_left_out, past}
use Rattle.gate_history.specs.step.Machine.{with_mark, run, given, all_given}
use Rattle.gate_history.proofs.lemmas.step.Runs.{state-run}
use Rattle.gate_history.proofs.lemmas.step.Apart.{asked-host, wrong-host, left-host, asked-agreed, wrong-agreed, left-agreed, data-agrees, response-agrees}
use Rattle.gate_history.proofs.lemmas.host.NoHello.{IsQuiet, IsUntold, none-sent, stays-quiet, sends-none}
use Rattle.gate_history.specs.host.Responses.{response_of}
use Rattle.direct_run.specs.Packets.{both_caps}
use Rattle.direct_run.proofs.Headed.{is_hello}

abbrev pub IsClients : Item → Type 0
IsClients (Asked place packet) = Unit {0}
IsClients (ClientWrong place reason) = Unit {0}
IsClients ClientLeft = Unit {0}
IsClients (Told place header packet) = ⊥
IsClients (HostWrong place reason) = ⊥
IsClients HostLeft = ⊥

-- ---- nothing of the host has come

pub record IsFresh (st : State) : Type 0 where
  pub quiet : IsQuiet st
  pub host_there : st.sides.host_over ≡ false
  pub agreed : st.sides.agreed ≡ no_caps

untold : (x : Item) → IsClients x → IsUntold x
untold (Told place header packet) h = h
untold _ h = tt

told-none : (x : Item) → IsClients x → told_by x ≡ None
told-none (Told place header packet) h = absurd h
told-none (HostWrong place reason) h = absurd h
told-none HostLeft h = absurd h
told-none _ h = refl

-- a state that is fresh, and behind which nothing was sent
pub record IsUnmet (first : ℕ) (xs : List Item) : Type 0 where
  pub fresh : IsFresh (run first xs)
  pub none : all_given to_host first xs ≡ []
  pub no_bytes : all_given host_bytes_of first xs ≡ []

-- the hello was read
pub record HasMet (first : ℕ) (xs : List Item) : Type 0 where
  pub agreed : (run first xs).sides.agreed ≡ both_caps
  pub bytes : all_given host_bytes_of first xs ≡ flat_map (sent_packet_bytes both_caps) (all_given to_host first xs)

pub unmet-first : (first : ℕ) → IsUnmet first []
unmet-first first = record { fresh = record { quiet = record { live = refl; connect = refl; imported = refl; streams = refl }; host_there = refl; agreed = refl }; none = refl; no_bytes = refl }

-- ---- the client's items leave what is of the host

-- by each kind of them
client-items : (P : Item → Type 0) → ((place : ℕ) (packet : ClientPacket) → P (Asked place packet)) → ((place : ℕ) (reason : Reason) → P (ClientWrong place reason)) → P ClientLeft → (x : Item) → IsClients x → P x
client-items P asked wrong left (Asked place packet) client = asked place packet
client-items P asked wrong left (ClientWrong place reason) client = wrong place reason
client-items P asked wrong left ClientLeft client = left
client-items P asked wrong left _ client = absurd client

pub client-agreed : (first : ℕ) (xs : List Item) (x : Item) → IsClients x → (run first (x ∷ xs)).sides.agreed ≡ (run first xs).sides.agreed
client-agreed first xs x client =
    ap (λ (st : State). st.sides.agreed) (sym (state-run first (x ∷ xs)))
    ∙ client-items (λ (y : Item). (sides (past first (y ∷ xs))).agreed ≡ (sides (past first xs)).agreed) (asked-agreed first xs) (wrong-agreed first xs) (left-agreed first xs) x client
    ∙ ap (λ (st : State). st.sides.agreed) (state-run first xs)

client-host : (first : ℕ) (xs : List Item) (x : Item) → IsClients x → (run first (x ∷ xs)).sides.host_over ≡ (run first xs).sides.host_over
client-host first xs x client =
    ap (λ (st : State). st.sides.host_over) (sym (state-run first (x ∷ xs)))
    ∙ client-items (λ (y : Item). host_over_of (past first (y ∷ xs)) ≡ host_over_of (past first xs)) (asked-host first xs) (wrong-host first xs) (left-host first xs) x client
    ∙ ap (λ (st : State). st.sides.host_over) (state-run first xs)

-- ---- one item more

pub unmet-more : (first : ℕ) (xs : List Item) (x : Item) → IsClients x → IsUnmet first xs → IsUnmet first (x ∷ xs)
unmet-more first xs x client u =
    let st = run first xs in
    let m = mark_as st (meaning st x) None in
    let silent : to_host st m ≡ [] = sends-none st x u.fresh.quiet (untold x client) in
    let left : Bool = is_left_out st x in
    let same : mark_of st x ≡ m = ap (mark_as st (meaning st x)) (told-none x client) in
    record {
      fresh = record {
        quiet = subst (λ (k : Mark). IsQuiet (cond left st (with_mark st k))) (sym same)
            (elim left as (λ (b : Bool). IsQuiet (cond b st (with_mark st m))) [ true ↦ u.fresh.quiet | false ↦ stays-quiet st x u.fresh.quiet (untold x client) ]);
        host_there = client-host first xs x client ∙ u.fresh.host_there;
        agreed = client-agreed first xs x client ∙ u.fresh.agreed;
      };
      none = (λ i. u.none i ++ cond left [] (to_host st (same i))) ∙ elim left as (λ (b : Bool). cond b [] (to_host st m) ≡ []) [ true ↦ refl | false ↦ silent ];
      no_bytes = (λ i. u.no_bytes i ++ cond left [] (flat_map (sent_packet_bytes st.sides.agreed) (to_host st (same i))))
          ∙ elim left as (λ (b : Bool). cond b [] (flat_map (sent_packet_bytes st.sides.agreed) (to_host st m)) ≡ []) [ true ↦ refl | false ↦ ap (flat_map (sent_packet_bytes st.sides.agreed)) silent ];
    }

pub met-more : (first : ℕ) (xs : List Item) (x : Item) → (run first (x ∷ xs)).sides.agreed ≡ (run first xs).sides.agreed → HasMet first xs → HasMet first (x ∷ xs)
met-more first xs x same h =
    let st = run first xs in
    let m = mark_of st x in
    let one : given host_bytes_of st x ≡ flat_map (sent_packet_bytes both_caps) (given to_host st x) =
    elim (is_left_out st x) as (λ (b : Bool). cond b [] (flat_map (sent_packet_bytes st.sides.agreed) (to_host st m)) ≡ flat_map (sent_packet_bytes both_caps) (cond b [] (to_host st m)))
    [ true ↦ refl | false ↦ ap (λ (caps : Caps). flat_map (sent_packet_bytes caps) (to_host st m)) h.agreed ] in
    record {
      agreed = same ∙ h.agreed;
      bytes = (λ i. h.bytes i ++ one i) ∙ sym (flat_map-append (sent_packet_bytes both_caps) (all_given to_host first xs) (given to_host st x));
    }

pub met-hello : (first : ℕ) (xs : List Item) (place : ℕ) (h : Header) → IsUnmet first xs → HasMet first (Told place h (Plain host_hello) ∷ xs)
met-hello first xs place h u =
    let st = run first xs in
    let x = Told place h (Plain host_hello) in
    let m = mark_of st x in
    let silent : to_host st m ≡ [] = none-sent st (Agrees both_caps) u.fresh.quiet.live (ap (λ (ups : List (Option Up)). asked_packets ups (Agrees both_caps)) u.fresh.quiet.streams) refl in
    let none : all_given to_host first (x ∷ xs) ≡ [] = (λ i. u.none i ++ cond (u.fresh.host_there i) [] (silent i)) in
    let no_bytes : all_given host_bytes_of first (x ∷ xs) ≡ [] = (λ i. u.no_bytes i ++ cond (u.fresh.host_there i) [] (flat_map (sent_packet_bytes st.sides.agreed) (silent i))) in
    record {
      agreed = ap (λ (b : Bool). (cond b st (with_mark st m)).sides.agreed) u.fresh.host_there;
      bytes = no_bytes ∙ ap (flat_map (sent_packet_bytes both_caps)) (sym none);
    }

-- ---- what the host tells agrees on nothing new

told-agrees : (st : State) (place : ℕ) (h : Header) (p : RedirPacket) → is_hello p ≡ false → agrees (told_meaning st place h p) ≡ None
told-agrees st place h (Plain (plain.Hello hello)) none = absurd (let no : true ≡ false = none in cc)
told-agrees st place h (Plain plain.Disconnect) none = refl
told-agrees st place h (Carrying d) none = data-agrees st place h d
told-agrees st place h p none = response-agrees st place h (response_of p)

pub told-agreed : (first : ℕ) (xs : List Item) (place : ℕ) (h : Header) (p : RedirPacket) → is_hello p ≡ false → (run first (Told place h p ∷ xs)).sides.agreed ≡ (run first xs).sides.agreed
told-agreed first xs place h p none =
    let st = run first xs in
    elim st.sides.host_over as (λ (b : Bool). (cond b st (with_mark st (mark_of st (Told place h p)))).sides.agreed ≡ st.sides.agreed)
    [ true ↦ refl | false ↦ ap (λ (o : Option Caps). unwrap_or o st.sides.agreed) (told-agrees st place h p none) ]
