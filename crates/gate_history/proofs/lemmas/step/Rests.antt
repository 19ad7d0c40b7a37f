-- What is kept of a side's stream is shorter than its longest packet.
use Rattle.std.proofs.Common.{◌≡◌, ◌==◌, ◌||◌, ℕ, ◌+◌, ◌<◌, ◌≤◌, Bool, true, false, cond, List, length, IsTrue, Option, Some, None, refl, sym, ap, subst, ◌∙◌, inl, inr, arith}
use Rattle.std.specs.Prelude.{nat_lt, nat_le}
use Rattle.std.specs.Int.{w16, w32}
use Rattle.std.proofs.lemmas.Bool.{cases_Bool, ltb-true, ltb-false, leb-true, eqb-true, false≢true}
use Rattle.usb_base.specs.Number.{AreBytes, be_at, le_at}
use Rattle.packet_stream.specs.Format.{Format, IsSound, IsShort, Found, Whole, Short, Wrong, wrong_at, reading_by}
use Rattle.packet_stream.specs.Split.{Position, Ends, reads, split}
use Rattle.packet_stream.proofs.Formats.{short_reading}
use Rattle.packet_stream.proofs.Following.{rest_bytes}
use Rattle.packet_stream.proofs.Laws.{reads_steady}
use Rattle.packet_stream.proofs.Splits.{is_splitting}
use Rattle.packet_stream.proofs.Joins.{joined-left, joined-right}
use Rattle.usbip_op.specs.declared.code.TheConstants.{OP_REQ_DEVLIST}
use Rattle.usbip_op.specs.Requests.{requests as op_requests}
use Rattle.usbip_op.proofs.Requests.{request_size_by as op_size}
use Rattle.usb_base.specs.declared.limits.TheConstants.{MAX_PACKETS}
use Rattle.usbip_urb.specs.declared.code.TheConstants.{NO_PACKETS, USBIP_CMD_SUBMIT}
use Rattle.usbip_urb.specs.Checks.{request_checks as urb_checks}
use Rattle.usbip_urb.specs.Requests.{requests as urb_requests}
use Rattle.usbip_urb.specs.Sound.Requests.{request_size_by as urb_size, limits_there}
use Rattle.usbip_urb.specs.ClientPackets.{is_op, client_packets}
use Rattle.usbip_urb.specs.Ranges.{is_packet_count}
use Rattle.usbip_urb.specs.Sizes.{is_out, body_size, count_of, whole_size}
use Rattle.usbip_urb.specs.Sound.ClientPackets.{client_packets_sound}
use Rattle.usbip_urb.specs.Sound.Limits.{limits_found}
use Rattle.redir_wire.specs.declared.packet.Way.TheVariants.{ToGuest}
use Rattle.redir_wire.specs.declared.state.RedirState.{RedirState}
use Rattle.redir_wire.specs.State.{is_wide}
use Rattle.redir_wire.specs.Header.{head_size}
use Rattle.redir_wire.specs.Bodies.{Bodies, packets}
use Rattle.redir_wire.proofs.Headers.{size}
use Rattle.redir_wire.proofs.Packets.{limit_there}
use Rattle.redir_wire.specs.Plain.{controls, plain}
use Rattle.redir_data.specs.Carrying.{transfers, carrying}
use Rattle.redir_data.specs.Packets.{begins_plain}
use Rattle.redir_data.specs.Streams.{after, stream_format, stream_start}
use Rattle.redir_data.specs.sound.Joined.{stream_sound}
use Rattle.gate_history.specs.step.Events.{PastEvent, client_bytes, host_bytes}
use Rattle.gate_history.specs.state.Sides.{client_over, host_over}
use Rattle.gate_history.specs.step.History.{client_split, host_split, history, rest_length}
use Rattle.gate_history.specs.step.Streams.{client_start}

-- ---- of any stream

abbrev is_short : {P R : Type 0} → Found P R → Bool
is_short (Whole p n) = false
is_short Short = true
is_short (Wrong place reason) = false

-- bytes in which nothing is whole or wrong are fewer than the packet has that they begin
short-size : {P R : Type 0} (f : Format P R) → IsSound f → (b : List ℕ) → AreBytes b → IsShort f b → length b < f.size b
short-size {P = P} {R = R} f sound b are h = go (nat_lt (length b) (f.size b)) refl (ap is_short (sym (ap (reading_by f b) h.right) ∙ short_reading f sound b are h))
  where
    go : (t : Bool) → nat_lt (length b) (f.size b) ≡ t → is_short {P = P} {R = R} (cond t Short (Whole (f.packet b) (f.size b))) ≡ true → length b < f.size b
    go true e k = ltb-true (length b) (f.size b) e
    go false e k = absurd (false≢true k)

ends-short : {S P R : Type 0} (format : S → Format P R) → ((s : S) → IsSound (format s)) → (bound : ℕ) →
    ((s : S) (b : List ℕ) → wrong_at (format s).checks b ≡ None → length b < (format s).size b → length b ≤ bound) →
    (z : Position S) (left : List ℕ) (w : Option (ℕ × R)) (rest : List ℕ) → AreBytes rest → Ends format z left w rest → length rest ≤ bound
ends-short format sound bound few z left None rest are e =
    let h = subst (IsShort (format z.state)) (sym e.1) e.0 in few z.state rest h.right (short-size (format z.state) (sound z.state) rest are h)
ends-short format sound bound few z left (Some w) rest are e = let none = ap length e.3 in omega (arith, none)

-- so the rest is shorter than every packet may be
rest-short : {S P R : Type 0} (format : S → Format P R) (next : S → P → S) → ((s : S) → IsSound (format s)) → (start : Position S) (bytes : List ℕ) → AreBytes bytes → (bound : ℕ) →
    ((s : S) (b : List ℕ) → wrong_at (format s).checks b ≡ None → length b < (format s).size b → length b ≤ bound) → length (split (reads format next) start bytes).rest ≤ bound
rest-short format next sound start bytes are bound few =
    let x = split (reads format next) start bytes in
    let is = is_splitting format next sound start bytes are in
    ends-short format sound bound few x.position is.left x.wrong x.rest (rest_bytes (reads format next) (reads_steady format next sound) start bytes are) is.ends

-- ---- the client's

pub counted : (packets : ℕ) → IsTrue (is_packet_count packets) → count_of packets ≤ MAX_PACKETS
counted packets h = go (packets == NO_PACKETS) refl h
  where
    go : (t : Bool) → (packets == NO_PACKETS) ≡ t → IsTrue (nat_le packets MAX_PACKETS || t) → cond t 0 packets ≤ MAX_PACKETS
    go true e k = omega arith
    go false e k = few (nat_le packets MAX_PACKETS) refl k
      where
        few : (u : Bool) → nat_le packets MAX_PACKETS ≡ u → IsTrue (u || false) → packets ≤ MAX_PACKETS
        few true f l = leb-true packets MAX_PACKETS f
        few false f l = absurd (false≢true l)

body-most : (has : Bool) (told : ℕ) → body_size has told ≤ told
body-most true told = omega arith
body-most false told = omega arith

op-most : (code : ℕ) → op_size code ≤ 40
op-most code = go (code == OP_REQ_DEVLIST)
  where
    go : (t : Bool) → cond t 8 40 ≤ 40
    go true = omega arith
    go false = omega arith

-- the limits are checked before the 48 bytes of a head are there
urb-most : (b : List ℕ) → wrong_at urb_checks b ≡ None → 48 ≤ length b → urb_size (be_at w32 0 b) b ≤ 16793648
urb-most b right there = go (be_at w32 0 b == USBIP_CMD_SUBMIT) refl
  where
    go : (t : Bool) → (be_at w32 0 b == USBIP_CMD_SUBMIT) ≡ t → cond t (whole_size (is_out (be_at w32 12 b)) b) 48 ≤ 16793648
    go true e =
        let l = limits_found USBIP_CMD_SUBMIT b (limits_there b right) (omega arith) (eqb-true (be_at w32 0 b) USBIP_CMD_SUBMIT e) in
        let body = body-most (is_out (be_at w32 12 b)) (be_at w32 24 b) in
        let descs = counted (be_at w32 32 b) l.few_packets in
        omega (arith, l.few_bytes, body, descs)
    go false e = omega arith

client-short : (b : List ℕ) → wrong_at client_packets.checks b ≡ None → length b < client_packets.size b → length b ≤ 16793647
client-short b right short =
    elim (cases_Bool (is_op b)) [
      | inl op ↦ let h : length b < op_size (be_at w16 2 b) = rw op at short in omega (arith, op-most (be_at w16 2 b))
      | inr urb ↦
          let h : length b < urb_size (be_at w32 0 b) b = rw urb at short in
          elim (cases_Bool (nat_lt (length b) 48)) [
            | inl less ↦ let l = ltb-true (length b) 48 less in omega arith
            | inr there ↦ let most = urb-most b (sym (joined-right is_op op_requests urb_requests b urb) ∙ right) (ltb-false (length b) 48 there) in omega arith
          ]
    ]

pub client-rest : (bytes : List ℕ) → AreBytes bytes → length (client_split bytes).rest ≤ 16793647
client-rest bytes are = rest-short (λ s. client_packets) (λ s p. s) (λ s. client_packets_sound) client_start bytes are 16793647 (λ s b. client-short b)

-- ---- the host's

head-most : (wide : Bool) → head_size wide ≤ 16
head-most true = omega arith
head-most false = omega arith

bodies-short : {P : Type 0} (f : Bodies P) (s : RedirState) (b : List ℕ) → wrong_at (packets f s ToGuest).checks b ≡ None → length b < size (is_wide s) b → length b ≤ 16777295
bodies-short f s b right short = go (nat_lt (length b) 8) refl short
  where
    go : (t : Bool) → nat_lt (length b) 8 ≡ t → length b < cond t (head_size (is_wide s)) (head_size (is_wide s) + le_at w32 4 b) → length b ≤ 16777295
    go true e h = omega (arith, head-most (is_wide s))
    go false e h = let limit = leb-true (le_at w32 4 b) 16777280 (limit_there f s ToGuest b right (ltb-false (length b) 8 e)) in omega (arith, limit, head-most (is_wide s))

host-short : (s : RedirState) (b : List ℕ) → wrong_at (stream_format ToGuest s).checks b ≡ None → length b < (stream_format ToGuest s).size b → length b ≤ 16777295
host-short s b right short =
    elim (cases_Bool (begins_plain b)) [
      | inl plainly ↦ bodies-short (controls s.caps) s b (sym (joined-left begins_plain (plain s ToGuest) (carrying s ToGuest) b plainly) ∙ right) (rw plainly at short)
      | inr other ↦ bodies-short (transfers s.caps ToGuest) s b (sym (joined-right begins_plain (plain s ToGuest) (carrying s ToGuest) b other) ∙ right) (rw other at short)
    ]

pub host-rest : (bytes : List ℕ) → AreBytes bytes → length (host_split bytes).rest ≤ 16777295
host-rest bytes are = rest-short (stream_format ToGuest) after (λ s. stream_sound ToGuest s) stream_start bytes are 16777295 host-short

-- ---- both

cond-few : (t : Bool) (n bound : ℕ) → n ≤ bound → cond t 0 n ≤ bound
cond-few true n bound h = omega arith
cond-few false n bound h = h

pub rests-few : (first : ℕ) (events : List PastEvent) → AreBytes (client_bytes events) → AreBytes (host_bytes events) → rest_length first events ≤ 16793647 + 16777295
rests-few first events client host =
    let a = cond-few (client_over (history first events)) (length (client_split (client_bytes events)).rest) 16793647 (client-rest (client_bytes events) client) in
    let b = cond-few (host_over (history first events)) (length (host_split (host_bytes events)).rest) 16777295 (host-rest (host_bytes events) host) in
    omega (arith, a, b)
