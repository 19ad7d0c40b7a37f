-- What a packet of any type awaits is what the one of both formats awaits.
use Rattle.std.proofs.Common.{◌≡◌, ℕ, ◌+◌, ◌<◌, ◌≤◌, ◌==◌, Bool, true, false, cond, List, ◌++◌, length, None, refl, sym, ap, ◌∙◌, arith}
use Rattle.std.specs.Prelude.{nat_lt}
use Rattle.std.specs.Int.{w32}
use Rattle.std.proofs.lemmas.Bool.{eqb-true, le-ltb, lt-ltb}
use Rattle.usb_base.specs.Number.{le_at}
use Rattle.usb_base.specs.declared.reason.Reason.{Reason}
use Rattle.usb_base.proofs.Numbers.{le_at-append_32}
use Rattle.packet_stream.specs.Format.{Found, Whole, Short, Wrong, reading}
use Rattle.packet_stream.specs.Awaited.{IsAwaited, StaysShort, awaited}
use Rattle.packet_stream.proofs.Formats.{none_before}
use Rattle.packet_stream.proofs.Joins.{found_as, reading-left, reading-right}
use Rattle.packet_stream.proofs.Awaiting.{IsPatient, short_parts, short_from, awaited_least, stays_short, awaited-left, awaited-right, stays-left, stays-right}
use Rattle.redir_wire.specs.declared.packet.Caps.{Caps}
use Rattle.redir_wire.specs.declared.state.RedirState.{RedirState}
use Rattle.redir_wire.specs.declared.packet.Way.{Way}
use Rattle.redir_wire.specs.declared.kind.DataKind.{DataKind}
use Rattle.redir_wire.specs.declared.kind.DataKind.TheVariants.{Control, Bulk, Iso, Interrupt}
use Rattle.redir_wire.specs.Table.{data_row, data_numbered}
use Rattle.redir_wire.specs.State.{is_wide}
use Rattle.redir_wire.specs.Header.{head_size, is_its_length}
use Rattle.redir_wire.specs.Bodies.{behind_head}
use Rattle.redir_wire.specs.Plain.{is_plain, controls, plain}
use Rattle.redir_wire.proofs.Checks.{passed}
use Rattle.redir_wire.proofs.Numbers.{data_again}
use Rattle.redir_wire.proofs.Packets.{headed, packets_steady}
use Rattle.redir_wire.proofs.Plain.{plain_bodies}
use Rattle.redir_wire.proofs.Awaits.{AreOwn, size_long, packets_patient, plain_patient}
use Rattle.redir_data.specs.Places.{fixed}
use Rattle.redir_data.specs.Carrying.{transfers, carrying}
use Rattle.redir_data.specs.Packets.{begins_plain, from_packet, redir_packets}
use Rattle.redir_data.specs.sound.Joined.{as_plain, as_carrying}
use Rattle.redir_data.specs.sound.Carrying.{data_bodies}
use Rattle.redir_data.specs.sound.Checks.{is_numbered, least_length}

-- ---- the packets that move data

its_fields : (caps : Caps) (k : DataKind) (kind length : ℕ) → (kind == (data_row k).number) ≡ true → is_its_length caps kind length ≡ true → fixed caps k ≤ length
its_fields caps k kind length is its =
    least_length caps (record { kind = kind; length = length; id = 0 }) k (ap data_numbered (eqb-true kind (data_row k).number is) ∙ data_again k) its

transfers_own : (caps : Caps) (way : Way) → AreOwn caps (transfers caps way).checks
transfers_own caps way = (its_fields caps Iso, (its_fields caps Interrupt, (its_fields caps Bulk, (its_fields caps Control, tt))))

pub carrying_patient : (s : RedirState) (way : Way) → IsPatient (carrying s way)
carrying_patient s way = packets_patient (transfers s.caps way) s way (data_bodies s way).steady (transfers_own s.caps way)

-- of a packet of this type
pub data_awaited : (s : RedirState) (way : Way) (k : DataKind) (b : List ℕ) → 8 ≤ length b → le_at w32 0 b ≡ (data_row k).number →
    awaited (carrying s way) b
    ≡ cond (nat_lt (length b) (head_size (is_wide s) + fixed s.caps k)) (head_size (is_wide s) + fixed s.caps k) (head_size (is_wide s) + le_at w32 4 b)
data_awaited s way Control b there e = rw (le-ltb (length b) 4 (omega arith), le-ltb (length b) 8 there, e) refl
data_awaited s way Bulk b there e = rw (le-ltb (length b) 4 (omega arith), le-ltb (length b) 8 there, e) refl
data_awaited s way Iso b there e = rw (le-ltb (length b) 4 (omega arith), le-ltb (length b) 8 there, e) refl
data_awaited s way Interrupt b there e = rw (le-ltb (length b) 4 (omega arith), le-ltb (length b) 8 there, e) refl

awaited_by : (t : Bool) (f n m : ℕ) → t ≡ true → m ≡ f → m ≡ cond t f n
awaited_by true f n m e is = is
awaited_by false f n m e is = absurd cc

behind_by : (t : Bool) (f n m : ℕ) → t ≡ false → m ≡ n → m ≡ cond t f n
behind_by true f n m e is = absurd cc
behind_by false f n m e is = is

-- its fields are awaited, and then all of it
pub fields_awaited : (s : RedirState) (way : Way) (k : DataKind) (b : List ℕ) (h f : ℕ) → 8 ≤ length b → le_at w32 0 b ≡ (data_row k).number → h ≡ head_size (is_wide s) → f ≡ fixed s.caps k →
    length b < h + f → h + f ≡ awaited (carrying s way) b
fields_awaited s way k b h f there e size fields less =
    let n = head_size (is_wide s) + fixed s.caps k in
    let is : h + f ≡ n = λ i. size i + fields i in
    awaited_by (nat_lt (length b) n) n (head_size (is_wide s) + le_at w32 4 b) (h + f) (lt-ltb (length b) n (omega (arith, less, is))) is ∙ sym (data_awaited s way k b there e)

pub all_awaited : (s : RedirState) (way : Way) (k : DataKind) (b : List ℕ) (h f l : ℕ) → 8 ≤ length b → le_at w32 0 b ≡ (data_row k).number → h ≡ head_size (is_wide s) → f ≡ fixed s.caps k →
    l ≡ le_at w32 4 b → h + f ≤ length b → h + l ≡ awaited (carrying s way) b
all_awaited s way k b h f l there e size fields told enough =
    let n = head_size (is_wide s) + fixed s.caps k in
    let is : h + f ≡ n = λ i. size i + fields i in
    behind_by (nat_lt (length b) n) n (head_size (is_wide s) + le_at w32 4 b) (h + l) (le-ltb (length b) n (omega (arith, enough, is))) (λ i. size i + told i) ∙ sym (data_awaited s way k b there e)

-- its type is one of those
pub is_data : (s : RedirState) (way : Way) (b : List ℕ) → reading (carrying s way) b ≡ Short → 8 ≤ length b → begins_plain b ≡ false → data_numbered (le_at w32 0 b) ≡ None → ⊥
is_data s way b short there carries none =
    let right = (short_parts (carrying s way) b short).0 in
    let checks = passed (headed (transfers s.caps way) s way) (behind_head (is_wide s) (transfers s.caps way).checks) b right in
    is_numbered s.caps (record { kind = le_at w32 0 b; length = le_at w32 4 b; id = 0 }) carries (checks.0.1.1.1.1.1.1.0 refl there) none

-- ---- without a whole type

plain_waits : (s : RedirState) (way : Way) (x : List ℕ) → length x < 4 → reading (plain s way) x ≡ Short
plain_waits s way x less =
    short_from (plain s way) x (none_before (plain s way).checks 4 x (packets_steady (controls s.caps) s way (plain_bodies s way).steady) less) (omega (arith, less, size_long (is_wide s) x))

data_waits : (s : RedirState) (way : Way) (x : List ℕ) → length x < 4 → reading (carrying s way) x ≡ Short
data_waits s way x less =
    short_from (carrying s way) x (none_before (carrying s way).checks 4 x (packets_steady (transfers s.caps way) s way (data_bodies s way).steady) less)
    (omega (arith, less, size_long (is_wide s) x))

short_by : (s : RedirState) (way : Way) (x : List ℕ) → length x < 4 → (t : Bool) → begins_plain x ≡ t → reading (redir_packets s way) x ≡ Short
short_by s way x less true e =
    reading-left begins_plain as_plain as_carrying from_packet (plain s way) (carrying s way) x e ∙ ap (found_as as_plain) (plain_waits s way x less)
short_by s way x less false e =
    reading-right begins_plain as_plain as_carrying from_packet (plain s way) (carrying s way) x e ∙ ap (found_as as_carrying) (data_waits s way x less)

pub four_quiet : (s : RedirState) (way : Way) (b : List ℕ) → StaysShort (redir_packets s way) b 4
four_quiet s way b more less = short_by s way (b ++ more) less (begins_plain (b ++ more)) refl

four_by : (s : RedirState) (way : Way) (b : List ℕ) → length b < 4 → (t : Bool) → begins_plain b ≡ t → IsAwaited (redir_packets s way) b 4
four_by s way b less true e =
    let is : 4 ≡ awaited (plain s way) b = rw (lt-ltb (length b) 4 less) refl in
    awaited-left begins_plain (plain s way) (carrying s way) b 4 e (awaited_least (plain s way) (plain_patient s way) b (plain_waits s way b less) 4 is)
four_by s way b less false e =
    let is : 4 ≡ awaited (carrying s way) b = rw (lt-ltb (length b) 4 less) refl in
    awaited-right begins_plain (plain s way) (carrying s way) b 4 e (awaited_least (carrying s way) (carrying_patient s way) b (data_waits s way b less) 4 is)

pub four_awaited : (s : RedirState) (way : Way) (b : List ℕ) → length b < 4 → IsAwaited (redir_packets s way) b 4
four_awaited s way b less = four_by s way b less (begins_plain b) refl

-- ---- with one

sees : (b more : List ℕ) (t : Bool) → 4 ≤ length b → begins_plain b ≡ t → begins_plain (b ++ more) ≡ t
sees b more t there e = ap is_plain (le_at-append_32 0 b more there) ∙ e

unfound : {P X : Type 0} (to : P → X) (found : Found P Reason) → found_as to found ≡ Short → found ≡ Short
unfound to (Whole p n) e = absurd cc
unfound to Short e = refl
unfound to (Wrong place reason) e = absurd cc

pub plain_short : (s : RedirState) (way : Way) (b : List ℕ) → begins_plain b ≡ true → reading (redir_packets s way) b ≡ Short → reading (plain s way) b ≡ Short
plain_short s way b e short =
    unfound as_plain (reading (plain s way) b) (sym (reading-left begins_plain as_plain as_carrying from_packet (plain s way) (carrying s way) b e) ∙ short)

pub data_short : (s : RedirState) (way : Way) (b : List ℕ) → begins_plain b ≡ false → reading (redir_packets s way) b ≡ Short → reading (carrying s way) b ≡ Short
data_short s way b e short =
    unfound as_carrying (reading (carrying s way) b) (sym (reading-right begins_plain as_plain as_carrying from_packet (plain s way) (carrying s way) b e) ∙ short)

pub plain_awaited : (s : RedirState) (way : Way) (b : List ℕ) (n : ℕ) → begins_plain b ≡ true → IsAwaited (plain s way) b n → IsAwaited (redir_packets s way) b n
plain_awaited s way b n e is = awaited-left begins_plain (plain s way) (carrying s way) b n e is

pub plain_quiet : (s : RedirState) (way : Way) (b : List ℕ) (n : ℕ) → 4 ≤ length b → begins_plain b ≡ true → StaysShort (plain s way) b n → StaysShort (redir_packets s way) b n
plain_quiet s way b n there e stays =
    stays-left begins_plain as_plain as_carrying from_packet (plain s way) (carrying s way) b n (λ more. sees b more true there e) stays

pub data_least : (s : RedirState) (way : Way) (b : List ℕ) (n : ℕ) → begins_plain b ≡ false → reading (redir_packets s way) b ≡ Short → n ≡ awaited (carrying s way) b →
    IsAwaited (redir_packets s way) b n
data_least s way b n e short is =
    awaited-right begins_plain (plain s way) (carrying s way) b n e (awaited_least (carrying s way) (carrying_patient s way) b (data_short s way b e short) n is)

pub data_quiet : (s : RedirState) (way : Way) (b : List ℕ) (n : ℕ) → 4 ≤ length b → begins_plain b ≡ false → reading (redir_packets s way) b ≡ Short → n ≡ awaited (carrying s way) b →
    StaysShort (redir_packets s way) b n
data_quiet s way b n there e short is =
    stays-right begins_plain as_plain as_carrying from_packet (plain s way) (carrying s way) b n (λ more. sees b more false there e) (stays_short (carrying s way) (carrying_patient s way) b (data_short s way b e short) n is)
