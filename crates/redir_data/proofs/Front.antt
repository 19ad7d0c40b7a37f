-- Reading a packet of any type is reading its header, and then what is behind it.
use Rattle.std.proofs.Common.{◌≡◌, ℕ, ◌≤◌, Bool, true, false, cond, List, length, drop, Err, refl, sym, ap, subst, ◌∙◌}
use Rattle.std.specs.Prelude.{not}
use Rattle.usb_base.specs.declared.reason.Reason.{Reason}
use Rattle.packet_stream.specs.Format.{Found, Whole, Short, Wrong, reading}
use Rattle.packet_stream.specs.Reads.{WantsMemory, Answers}
use Rattle.packet_stream.specs.declared.read.ReadError.{ReadError}
use Rattle.packet_stream.specs.declared.read.ReadError.TheVariants as error
use Rattle.packet_stream.proofs.Formats.{whole_parts}
use Rattle.packet_stream.proofs.Joins.{found_as, reading-left, reading-right}
use Rattle.redir_wire.specs.declared.state.RedirState.{RedirState}
use Rattle.redir_wire.specs.declared.packet.Way.{Way}
use Rattle.redir_wire.specs.declared.packet.Header.{Header}
use Rattle.redir_wire.specs.declared.packet.RedirControl.{RedirControl}
use Rattle.redir_wire.specs.State.{is_wide}
use Rattle.redir_wire.specs.Header.{head_size, header_at, IsHeader, headers}
use Rattle.redir_wire.specs.Bodies.{behind}
use Rattle.redir_wire.specs.Plain.{controls, plain}
use Rattle.redir_wire.specs.Past.{found_past}
use Rattle.redir_wire.specs.Reads.{never}
use Rattle.redir_wire.proofs.Past.{read_past, read_short, read_wrong}
use Rattle.redir_wire.proofs.Plain.{plain_bodies}
use Rattle.redir_data.specs.declared.packet.RedirData.{RedirData}
use Rattle.redir_data.specs.declared.packet.RedirPacket.{RedirPacket}
use Rattle.redir_data.specs.declared.packet.RedirPacket.TheVariants.{Plain, Carrying}
use Rattle.redir_data.specs.Carrying.{transfers, carrying}
use Rattle.redir_data.specs.Packets.{begins_plain, from_packet, redir_packets}
use Rattle.redir_data.specs.inner.Past.{packet_past, past_found}
use Rattle.redir_data.specs.sound.Carrying.{data_bodies}
use Rattle.redir_data.specs.sound.Joined.{as_plain, as_carrying}

-- ---- one of the two formats reads

if_plain : (s : RedirState) (way : Way) (b : List ℕ) (x : Found (Header × RedirControl) Reason) → begins_plain b ≡ true → reading (plain s way) b ≡ x →
    reading (redir_packets s way) b ≡ found_as as_plain x
if_plain s way b x begins e =
    reading-left begins_plain as_plain as_carrying from_packet (plain s way) (carrying s way) b begins ∙ ap (found_as as_plain) e

if_data : (s : RedirState) (way : Way) (b : List ℕ) (x : Found (Header × RedirData) Reason) → begins_plain b ≡ false → reading (carrying s way) b ≡ x →
    reading (redir_packets s way) b ≡ found_as as_carrying x
if_data s way b x begins e =
    reading-right begins_plain as_plain as_carrying from_packet (plain s way) (carrying s way) b begins ∙ ap (found_as as_carrying) e

-- ---- without a whole header

short_by : (s : RedirState) (way : Way) (b : List ℕ) (t : Bool) → begins_plain b ≡ t → reading (headers s way) b ≡ Short → reading (redir_packets s way) b ≡ Short
short_by s way b true begins e = if_plain s way b Short begins (read_short (controls s.caps) s way b (plain_bodies s way).steady (λ _. begins) e)
short_by s way b false begins e = if_data s way b Short begins (read_short (transfers s.caps way) s way b (data_bodies s way).steady (λ _. ap not begins) e)

pub short : (s : RedirState) (way : Way) (b : List ℕ) → reading (headers s way) b ≡ Short → reading (redir_packets s way) b ≡ Short
short s way b e = short_by s way b (begins_plain b) refl e

wrong_by : (s : RedirState) (way : Way) (b : List ℕ) (place : ℕ) (reason : Reason) (t : Bool) → begins_plain b ≡ t → reading (headers s way) b ≡ Wrong place reason →
    reading (redir_packets s way) b ≡ Wrong place reason
wrong_by s way b place reason true begins e = if_plain s way b (Wrong place reason) begins (read_wrong (controls s.caps) s way b place reason (λ _. begins) e)
wrong_by s way b place reason false begins e = if_data s way b (Wrong place reason) begins (read_wrong (transfers s.caps way) s way b place reason (λ _. ap not begins) e)

never_wants : {P : Type 0} (x : Found P Reason) → WantsMemory never x → ⊥
never_wants (Whole p n) e = absurd cc
never_wants Short e = e
never_wants (Wrong place reason) e = e

pub error_same : (s : RedirState) (way : Way) (b : List ℕ) (takes : Header × RedirPacket → Bool) (e : ReadError) → Answers never (Err e) (reading (headers s way) b) →
    Answers takes (Err e) (reading (redir_packets s way) b)
error_same s way b takes (error.Refused place reason) e = wrong_by s way b place reason (begins_plain b) refl e
error_same s way b takes (error.Memory memory) e = absurd (never_wants (reading (headers s way) b) e)

-- ---- with one

plain_past : (wide : Bool) (h : Header) (x : Found RedirControl Reason) → found_as as_plain (found_past wide h x) ≡ packet_past Plain (head_size wide) h x
plain_past wide h (Whole p n) = refl
plain_past wide h Short = refl
plain_past wide h (Wrong place reason) = refl

data_past : (wide : Bool) (h : Header) (x : Found RedirData Reason) → found_as as_carrying (found_past wide h x) ≡ packet_past Carrying (head_size wide) h x
data_past wide h (Whole p n) = refl
data_past wide h Short = refl
data_past wide h (Wrong place reason) = refl

past_by : (s : RedirState) (way : Way) (b : List ℕ) → head_size (is_wide s) ≤ length b → IsHeader s way (header_at (is_wide s) b) → (t : Bool) → begins_plain b ≡ t →
    reading (redir_packets s way) b ≡ past_found s.caps way (head_size (is_wide s)) (header_at (is_wide s) b) (drop (head_size (is_wide s)) b)
past_by s way b there header true begins =
    let wide = is_wide s in
    let h = header_at wide b in
    let x = reading (behind (controls s.caps) h) (drop (head_size wide) b) in
    let y = reading (behind (transfers s.caps way) h) (drop (head_size wide) b) in
    if_plain s way b (found_past wide h x) begins (read_past (controls s.caps) s way b there begins header)
    ∙ plain_past wide h x
    ∙ ap (λ (t : Bool). cond t (packet_past Plain (head_size wide) h x) (packet_past Carrying (head_size wide) h y)) (sym begins)
past_by s way b there header false begins =
    let wide = is_wide s in
    let h = header_at wide b in
    let x = reading (behind (controls s.caps) h) (drop (head_size wide) b) in
    let y = reading (behind (transfers s.caps way) h) (drop (head_size wide) b) in
    if_data s way b (found_past wide h y) begins (read_past (transfers s.caps way) s way b there (ap not begins) header)
    ∙ data_past wide h y
    ∙ ap (λ (t : Bool). cond t (packet_past Plain (head_size wide) h x) (packet_past Carrying (head_size wide) h y)) (sym begins)

pub past : (s : RedirState) (way : Way) (b : List ℕ) (h : Header) (n : ℕ) → IsHeader s way h → reading (headers s way) b ≡ Whole h n →
    reading (redir_packets s way) b ≡ past_found s.caps way n h (drop n b)
past s way b h n header e =
    let parts = whole_parts (headers s way) b h n e in
    past_by s way b parts.1 (subst (IsHeader s way) (sym parts.3) header) (begins_plain b) refl
    ∙ (λ i. past_found s.caps way (parts.2 i) (parts.3 i) (drop (parts.2 i) b))
