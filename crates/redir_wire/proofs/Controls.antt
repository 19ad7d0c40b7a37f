-- The fields of packets that move no data: spelled again where they stand, and read again where they are spelled.
use Rattle.std.proofs.Common.{◌≡◌, ℕ, zero, suc, ◌+◌, ◌*◌, ◌-◌, ◌/◌, ◌%◌, ◌^◌, ◌<◌, ◌≤◌, Bool, true, false, cond, List, [], ◌∷◌, ◌++◌, length, take, drop, refl, sym, ap, ◌∙◌, append_assoc, arith, length-drop, replicate}
use Rattle.std.specs.Prelude.{nat_le, ◌&&◌, ◌==◌}
use Rattle.std.specs.Int.{w16, w32}
use Rattle.std.proofs.lemmas.Bool.{eqb-true, le-leb}
use Rattle.std.proofs.lemmas.Grind.{common_steps}
use Rattle.std.proofs.lemmas.List.{append-nil, drop-drop, take_at, drop_at}
use Rattle.std.proofs.lemmas.Nat.{from_le_bytes-to_le_bytes_2, from_le_bytes-to_le_bytes_4}
use Rattle.usb_base.specs.Number.{le, le_at, byte_at, part, AreBytes}
use Rattle.usb_base.proofs.Numbers.{AreBytes-drop, length-part, part_past, then, join, le_spelled_16, le_spelled_32, le_at-below_16, le_at-below_32}
use Rattle.redir_wire.specs.declared.packet.Caps.{Caps}
use Rattle.redir_wire.specs.declared.packet.Hello.{Hello}
use Rattle.redir_wire.specs.declared.packet.Connect.{Connect}
use Rattle.redir_wire.specs.declared.packet.InterfaceInfo.{InterfaceInfo}
use Rattle.redir_wire.specs.declared.packet.EpInfo.{EpInfo}
use Rattle.redir_wire.specs.declared.packet.RedirControl.{RedirControl}
use Rattle.redir_wire.specs.declared.packet.RedirControl.TheVariants as controls
use Rattle.redir_wire.specs.declared.kind.PlainKind.{PlainKind}
use Rattle.redir_wire.specs.declared.kind.PlainKind.TheVariants as plain
use Rattle.redir_wire.specs.declared.packet.TheConstants.Caps.{CONNECT_VERSION, MAX_PACKET_SIZE}
use Rattle.redir_wire.specs.Capability.{has}
use Rattle.redir_wire.specs.Table.{plain_row, has_length}
use Rattle.redir_wire.specs.Words.{numbers, numbers_of}
use Rattle.redir_wire.specs.Field.{wire_bytes}
use Rattle.redir_wire.specs.Spelling.{kind_of, number_of, fields}
use Rattle.redir_wire.specs.Ranges.{IsSent, Ranges, IsControl}
use Rattle.redir_wire.specs.Places.{hello_at, connect_at, interface_info_at, ep_info_at}
use Rattle.redir_wire.specs.Table.{fields_at}
use Rattle.redir_wire.proofs.Lengths.{connect_fields, interface_fields, endpoint_fields, length_fields}
use Rattle.redir_wire.proofs.Words.{zeros_fit, length-numbers_of, halves_exact, words_exact, numbers_spelled, numbers_ranges, numbers_again}

-- ---- what stands at its place

-- so many bytes from a place on, one by one
abbrev pub bytes_at : ℕ → ℕ → List ℕ → List ℕ
bytes_at p zero b = []
bytes_at p (suc n) b = byte_at p b ∷ bytes_at (suc p) n b

one_less : (n p x : ℕ) (b : List ℕ) → bytes_at (suc p) n (x ∷ b) ≡ bytes_at p n b
one_less zero p x b = refl
one_less (suc n) p x b = ap (λ (l : List ℕ). byte_at p b ∷ l) (one_less n (suc p) x b)

pub bytes_there : (n : ℕ) (b : List ℕ) → n ≤ length b → bytes_at 0 n b ≡ take n b
bytes_there zero b there = refl
bytes_there (suc n) [] there = absurd (omega arith)
bytes_there (suc n) (x ∷ b) there = ap (λ (l : List ℕ). x ∷ l) (one_less n 0 x b ∙ bytes_there n b (omega arith))

version_range : (sent : Bool) (b : List ℕ) → AreBytes b → (cond sent (le_at w16 8 b) 0 < 2 ^ 16) × IsSent sent 0 (cond sent (le_at w16 8 b) 0)
version_range true b are = (le_at-below_16 8 b are, tt)
version_range false b are = (omega arith, refl)

connect_spelled : (sent : Bool) (b : List ℕ) → AreBytes b → 8 + cond sent 2 0 ≤ length b → wire_bytes (connect_fields sent (connect_at sent b)) ≡ take (8 + cond sent 2 0) b
connect_spelled true b are there =
    let numbers = join 4 2 2 b _ _ (le_spelled_16 4 b are (omega arith)) (join 6 2 0 b _ _ (le_spelled_16 6 b are (omega arith)) refl) in
    let version = join 8 2 0 b _ _ (join 8 2 0 b _ _ (le_spelled_16 8 b are there) refl) refl in
    join 0 4 6 b _ _ (bytes_there 4 b (omega arith)) (join 4 4 2 b _ _ numbers version)
connect_spelled false b are there =
    let numbers = join 4 2 2 b _ _ (le_spelled_16 4 b are (omega arith)) (join 6 2 0 b _ _ (le_spelled_16 6 b are (omega arith)) refl) in
    join 0 4 4 b _ _ (bytes_there 4 b (omega arith)) (join 4 4 0 b _ _ numbers refl)

connect_ranges : (sent : Bool) (b : List ℕ) → AreBytes b → Ranges (controls.Connect (connect_at sent b))
connect_ranges sent b are = ((le_at-below_16 4 b are, (le_at-below_16 6 b are, tt)), (((version_range sent b are).0, tt), tt))

interface_spelled : (b : List ℕ) → AreBytes b → 132 ≤ length b → wire_bytes (interface_fields (interface_info_at b)) ≡ take 132 b
interface_spelled b are there =
    let count = join 0 4 0 b _ _ (le_spelled_32 0 b are (omega arith)) refl in
    join 0 4 128 b _ _ count (join 4 32 96 b _ _ refl (join 36 32 64 b _ _ refl (join 68 32 32 b _ _ refl (join 100 32 0 b _ _ refl refl))))

interface_ranges : (b : List ℕ) → AreBytes b → 132 ≤ length b → Ranges (controls.InterfaceInfo (interface_info_at b))
interface_ranges b are there =
    let table : (place : ℕ) → place ≤ 100 → length (part place 32 b) ≡ 32 = λ place early. length-part place 32 b (omega arith) in
    ((le_at-below_32 0 b are, tt), (table 4 (omega arith), (table 36 (omega arith), (table 68 (omega arith), (table 100 (omega arith), tt)))))

ep_spelled : (sent : Bool) (b : List ℕ) → AreBytes b → 96 + cond sent 64 0 ≤ length b → wire_bytes (endpoint_fields sent (ep_info_at sent b)) ≡ take (96 + cond sent 64 0) b
ep_spelled true b are there =
    let sizes = numbers_spelled w16 halves_exact 32 (drop 96 b) (AreBytes-drop 96 b are) (omega (arith, length-drop 96 b)) in
    join 0 32 128 b _ _ refl (join 32 32 96 b _ _ refl (join 64 32 64 b _ _ refl (join 96 64 0 b _ _ sizes refl)))
ep_spelled false b are there = join 0 32 64 b _ _ refl (join 32 32 32 b _ _ refl (join 64 32 0 b _ _ refl refl))

ep_ranges : (sent : Bool) (b : List ℕ) → AreBytes b → 96 + cond sent 64 0 ≤ length b → Ranges (controls.EpInfo (ep_info_at sent b)) × IsSent sent (replicate 32 0) (ep_info_at sent b).max_packet
ep_ranges true b are there =
    let sizes = numbers_ranges w16 halves_exact 32 (drop 96 b) (AreBytes-drop 96 b are) in
    ((length-part 0 32 b (omega arith), (length-part 32 32 b (omega arith), (length-part 64 32 b (omega arith), (length-numbers_of w16 32 (drop 96 b), sizes, tt)))), tt)
ep_ranges false b are there =
    ((length-part 0 32 b (omega arith), (length-part 32 32 b (omega arith), (length-part 64 32 b (omega arith), (refl, zeros_fit 32, tt)))), refl)

-- how many words a hello of this length has
abbrev word_count : ℕ → ℕ
word_count length = (length - 64) / 4

-- the length of a hello
record HelloLength (n : ℕ) : Type 0 where
  least : 64 ≤ n
  most : n ≤ 192
  whole : (n - 64) % 4 ≡ 0

hello_length : (n : ℕ) → (nat_le 64 n && (nat_le n 192 && ((n - 64) % 4 == 0))) ≡ true → HelloLength n
hello_length n e = record { least = grind (arith, common_steps); most = grind (arith, common_steps); whole = grind (arith, common_steps) }

-- ---- what is found behind a header of this type

pub record IsFoundAs (caps : Caps) (n : ℕ) (k : PlainKind) (b : List ℕ) : Type 0 where
  pub spelled : fields caps (fields_at caps n k b) ≡ take n b
  pub kind : kind_of (fields_at caps n k b) ≡ k
  pub fits : IsControl caps (fields_at caps n k b)

hello_found : (caps : Caps) (n : ℕ) (b : List ℕ) → AreBytes b → HelloLength n → n ≤ length b → IsFoundAs caps n plain.Hello b
hello_found caps n b are h there =
    let count = word_count n in
    let is : 64 + count * 4 ≡ n = omega (arith, h.least, h.whole) in
    record {
      spelled =
          then 64 (count * 4) b _ _ refl (append-nil (numbers w32 (numbers_of w32 count (drop 64 b))) ∙ numbers_spelled w32 words_exact count (drop 64 b) (AreBytes-drop 64 b are) (omega (arith, length-drop 64 b)))
          ∙ ap (λ (m : ℕ). take m b) is;
      kind = refl;
      fits = record {
        ranges = (length-part 0 64 b (omega (arith, h.least)), numbers_ranges w32 words_exact count (drop 64 b) (AreBytes-drop 64 b are));
        writable = omega (arith, length-numbers_of w32 count (drop 64 b), h.most);
      };
    }

-- fields of so many bytes
of_length : (n m : ℕ) (b xs : List ℕ) → (n == m) ≡ true → n ≤ length b → (m ≤ length b → xs ≡ take m b) → xs ≡ take n b
of_length n m b xs e there h = let is = eqb-true n m e in h (omega arith) ∙ ap (λ (x : ℕ). take x b) (sym is)

pub found_as : (caps : Caps) (n : ℕ) (k : PlainKind) (b : List ℕ) → AreBytes b → has_length caps (plain_row k) n ≡ true → n ≤ length b →
    ((plain_row k).number ≡ 4 → 4 ≤ length b → le_at w32 0 b ≤ 32) → IsFoundAs caps n k b
found_as caps n plain.Hello b are e there few = hello_found caps n b are (hello_length n e) there
found_as caps n plain.Connect b are e there few =
    let is = eqb-true n (8 + cond (has caps CONNECT_VERSION) 2 0) e in
    record {
      spelled = connect_spelled (has caps CONNECT_VERSION) b are (omega arith) ∙ ap (λ (m : ℕ). take m b) (sym is);
      kind = refl;
      fits = record { ranges = connect_ranges (has caps CONNECT_VERSION) b are; writable = (version_range (has caps CONNECT_VERSION) b are).1 };
    }
found_as caps n plain.InterfaceInfo b are e there few =
    let is = eqb-true n 132 e in
    record {
      spelled = interface_spelled b are (omega arith) ∙ ap (λ (m : ℕ). take m b) (sym is);
      kind = refl;
      fits = record { ranges = interface_ranges b are (omega arith); writable = few refl (omega arith) };
    }
found_as caps n plain.EpInfo b are e there few =
    let is = eqb-true n (96 + cond (has caps MAX_PACKET_SIZE) 64 0) e in
    let r = ep_ranges (has caps MAX_PACKET_SIZE) b are (omega arith) in
    record {
      spelled = ep_spelled (has caps MAX_PACKET_SIZE) b are (omega arith) ∙ ap (λ (m : ℕ). take m b) (sym is);
      kind = refl;
      fits = record { ranges = r.0; writable = r.1 };
    }
found_as caps n k b are e there few = record { spelled = of_length n _ b _ e there (bytes_there _ b); kind = refl; fits = record { ranges = tt; writable = tt } }

-- ---- what is spelled is read again

count_of_length : (n : ℕ) → word_count (64 + n * 4) ≡ n
count_of_length n = omega arith

hello_again : (x : Hello) (more : List ℕ) (n : ℕ) → Ranges (controls.Hello x) → n ≡ 64 + length x.words * 4 → hello_at (word_count n) ((x.version ++ (numbers w32 x.words ++ [])) ++ more) ≡ x
hello_again x more n r e =
    let all = append_assoc x.version (numbers w32 x.words ++ []) more ∙ ap (λ (l : List ℕ). x.version ++ (l ++ more)) (append-nil (numbers w32 x.words)) in
    let version = ap (take 64) all ∙ take_at x.version (numbers w32 x.words ++ more) 64 r.0 in
    let behind = ap (drop 64) all ∙ drop_at x.version (numbers w32 x.words ++ more) 64 r.0 in
    let found = (λ i. numbers_of w32 ((ap word_count e ∙ count_of_length (length x.words)) i) (behind i)) ∙ numbers_again w32 words_exact x.words more r.1 in
    λ i. record { version = version i; words = found i }

version_again : (sent : Bool) (c : Connect) (more : List ℕ) → c.version < 2 ^ 16 → IsSent sent 0 c.version → cond sent (le_at w16 8 (wire_bytes (connect_fields sent c) ++ more)) 0 ≡ c.version
unfolding le le_at
version_again true c more fits is = from_le_bytes-to_le_bytes_2 c.version fits
version_again false c more fits is = sym is

vendor_again : (sent : Bool) (c : Connect) (more : List ℕ) → c.vendor < 2 ^ 16 → le_at w16 4 (wire_bytes (connect_fields sent c) ++ more) ≡ c.vendor
unfolding le le_at
vendor_again true c more fits = from_le_bytes-to_le_bytes_2 c.vendor fits
vendor_again false c more fits = from_le_bytes-to_le_bytes_2 c.vendor fits

product_again : (sent : Bool) (c : Connect) (more : List ℕ) → c.product < 2 ^ 16 → le_at w16 6 (wire_bytes (connect_fields sent c) ++ more) ≡ c.product
unfolding le le_at
product_again true c more fits = from_le_bytes-to_le_bytes_2 c.product fits
product_again false c more fits = from_le_bytes-to_le_bytes_2 c.product fits

connect_again : (sent : Bool) (c : Connect) (more : List ℕ) → Ranges (controls.Connect c) → IsSent sent 0 c.version → connect_at sent (wire_bytes (connect_fields sent c) ++ more) ≡ c
connect_again sent c more r is =
    let vendor = vendor_again sent c more r.0.0 in
    let product = product_again sent c more r.0.1.0 in
    let version = version_again sent c more r.1.0.0 is in
    λ i. record { speed = c.speed; class = c.class; subclass = c.subclass; protocol = c.protocol; vendor = vendor i; product = product i; version = version i }

-- fields behind others
front : (a rest more : List ℕ) (n : ℕ) → length a ≡ n → take n ((a ++ rest) ++ more) ≡ a
front a rest more n e = ap (take n) (append_assoc a rest more) ∙ take_at a (rest ++ more) n e

past : (k p n : ℕ) (a rest more : List ℕ) → length a ≡ k → part (k + p) n ((a ++ rest) ++ more) ≡ part p n (rest ++ more)
past k p n a rest more e = ap (part (k + p) n) (append_assoc a rest more) ∙ part_past k p n a (rest ++ more) e

drop_past : (k p : ℕ) (a rest more : List ℕ) → length a ≡ k → drop (k + p) ((a ++ rest) ++ more) ≡ drop p (rest ++ more)
drop_past k p a rest more e = ap (drop (k + p)) (append_assoc a rest more) ∙ sym (drop-drop p k (a ++ (rest ++ more))) ∙ ap (drop p) (drop_at a (rest ++ more) k e)

count_again : (x : InterfaceInfo) (more : List ℕ) → x.count < 2 ^ 32 → le_at w32 0 (wire_bytes (interface_fields x) ++ more) ≡ x.count
unfolding le le_at
count_again x more fits = from_le_bytes-to_le_bytes_4 x.count fits

interface_again : (x : InterfaceInfo) (more : List ℕ) → Ranges (controls.InterfaceInfo x) → x.count ≤ 32 → interface_info_at (wire_bytes (interface_fields x) ++ more) ≡ x
unfolding le
interface_again x more r few =
    let protocol = x.protocol ++ [] in
    let subclass = x.subclass ++ protocol in
    let class = x.class ++ subclass in
    let count_is = count_again x more (omega arith) in
    let interface_is = front x.interface class more 32 r.1.0 in
    let class_is = past 32 0 32 x.interface class more r.1.0 ∙ front x.class subclass more 32 r.1.1.0 in
    let subclass_is = past 32 32 32 x.interface class more r.1.0 ∙ past 32 0 32 x.class subclass more r.1.1.0 ∙ front x.subclass protocol more 32 r.1.1.1.0 in
    let protocol_is =
    past 32 64 32 x.interface class more r.1.0 ∙ past 32 32 32 x.class subclass more r.1.1.0 ∙ past 32 0 32 x.subclass protocol more r.1.1.1.0 ∙ front x.protocol [] more 32 r.1.1.1.1.0 in
    λ i. record { count = count_is i; interface = interface_is i; class = class_is i; subclass = subclass_is i; protocol = protocol_is i }

sizes_again : (x : EpInfo) (more : List ℕ) → Ranges (controls.EpInfo x) → numbers_of w16 32 (drop 96 (wire_bytes (endpoint_fields true x) ++ more)) ≡ x.max_packet
sizes_again x more r =
    let sizes = numbers w16 x.max_packet ++ [] in
    let interface = x.interface ++ sizes in
    let interval = x.interval ++ interface in
    let behind = drop_past 32 64 x.kinds interval more r.0 ∙ drop_past 32 32 x.interval interface more r.1.0 ∙ drop_past 32 0 x.interface sizes more r.1.1.0 in
    ap (numbers_of w16 32) (behind ∙ ap (λ (l : List ℕ). l ++ more) (append-nil (numbers w16 x.max_packet)))
    ∙ ap (λ (n : ℕ). numbers_of w16 n (numbers w16 x.max_packet ++ more)) (sym r.1.1.1.0)
    ∙ numbers_again w16 halves_exact x.max_packet more r.1.1.1.1

max_packet_again : (sent : Bool) (x : EpInfo) (more : List ℕ) → Ranges (controls.EpInfo x) → IsSent sent (replicate 32 0) x.max_packet → (ep_info_at sent (wire_bytes (endpoint_fields sent x) ++ more)).max_packet ≡ x.max_packet
max_packet_again true x more r is = sizes_again x more r
max_packet_again false x more r is = sym is

ep_again : (sent : Bool) (x : EpInfo) (more : List ℕ) → Ranges (controls.EpInfo x) → IsSent sent (replicate 32 0) x.max_packet → ep_info_at sent (wire_bytes (endpoint_fields sent x) ++ more) ≡ x
ep_again sent x more r is =
    let sizes = numbers w16 (cond sent x.max_packet []) ++ [] in
    let interface = x.interface ++ sizes in
    let interval = x.interval ++ interface in
    let kinds_are = front x.kinds interval more 32 r.0 in
    let intervals_are = past 32 0 32 x.kinds interval more r.0 ∙ front x.interval interface more 32 r.1.0 in
    let interfaces_are = past 32 32 32 x.kinds interval more r.0 ∙ past 32 0 32 x.interval interface more r.1.0 ∙ front x.interface sizes more 32 r.1.1.0 in
    let sizes_are = max_packet_again sent x more r is in
    λ i. record { kinds = kinds_are i; interval = intervals_are i; interface = interfaces_are i; max_packet = sizes_are i }

pub fields_again : (caps : Caps) (n : ℕ) (c : RedirControl) (more : List ℕ) → IsControl caps c → n ≡ length (fields caps c) → fields_at caps n (kind_of c) (fields caps c ++ more) ≡ c
fields_again caps n (controls.Hello x) more is e = ap controls.Hello (hello_again x more n is.ranges (e ∙ length_fields caps (controls.Hello x) is.ranges))
fields_again caps n (controls.Connect x) more is e = ap controls.Connect (connect_again (has caps CONNECT_VERSION) x more is.ranges is.writable)
fields_again caps n (controls.InterfaceInfo x) more is e = ap controls.InterfaceInfo (interface_again x more is.ranges is.writable)
fields_again caps n (controls.EpInfo x) more is e = ap controls.EpInfo (ep_again (has caps MAX_PACKET_SIZE) x more is.ranges is.writable)
fields_again caps n c more is e = refl

-- ---- the count of interfaces

pub count_passes : (caps : Caps) (k : ℕ) (c : RedirControl) (more : List ℕ) → k ≡ number_of c → IsControl caps c → (k == 4) ≡ true → nat_le (le_at w32 0 (fields caps c ++ more)) 32 ≡ true
count_passes caps k (controls.InterfaceInfo x) more e is tried =
    let count = count_again x more (omega (arith, is.writable)) in
    le-leb (le_at w32 0 (wire_bytes (interface_fields x) ++ more)) 32 (omega (arith, count, is.writable))
count_passes caps k c more e is tried = let no = sym (ap (λ (n : ℕ). n == 4) e) ∙ tried in absurd cc
