-- A stream of bytes, split into its packets with their places, the wrong place that ends it, and else the rest.
use Rattle.std.specs.Prelude.{◌≡◌, ℕ, zero, suc, ◌+◌, List, [], ◌∷◌, ◌++◌, length, drop, Option, Some, None}
use Rattle.usb_base.specs.Number.{AreBytes}
use Rattle.packet_stream.specs.Format.{Format, IsShort, wrong_at, Found, Whole, Short, Wrong, reading}

-- how packets are read, where what was read decides how the next one is
pub record Reader (S P R : Type 0) : Type 0 where
  pub read : S → List ℕ → Found P R
  pub next : S → P → S

-- where reading stands: how the next packet is read, and at which place of the stream it begins
pub record Position (S : Type 0) : Type 0 where
  pub state : S
  pub place : ℕ

abbrev pub past : {S P : Type 0} → (S → P → S) → Position S → P → ℕ → Position S
past next a p n = record { state = next a.state p; place = a.place + n }

pub record Splitting (S P R : Type 0) : Type 0 where
  pub packets : List (ℕ × P)
  pub wrong : Option (ℕ × R)
  pub position : Position S
  pub rest : List ℕ

-- ---- what a splitting is

-- from position a the bytes are the spellings of these packets, each at its place, up to position z, and then the rest
abbrev pub Spells : {S P R : Type 0} → (S → Format P R) → (S → P → S) → Position S → List ℕ → List (ℕ × P) → Position S → List ℕ → Type 0
Spells format next a bytes [] z rest = (z ≡ a) × (rest ≡ bytes)
Spells format next a bytes (i ∷ is) z rest =
    (more : List ℕ) × (i.0 ≡ a.place) × (format a.state).Fits i.1 × (bytes ≡ (format a.state).spelling i.1 ++ more)
    × Spells format next (past next a i.1 (length ((format a.state).spelling i.1))) more is z rest

-- the rest is kept where nothing in it is whole or wrong, and dropped from a wrong place on
abbrev pub Ends : {S P R : Type 0} → (S → Format P R) → Position S → List ℕ → Option (ℕ × R) → List ℕ → Type 0
Ends format z left None rest = IsShort (format z.state) left × (rest ≡ left)
Ends format z left (Some w) rest = (at : ℕ) × (wrong_at (format z.state).checks left ≡ Some (at, w.1)) × (w.0 ≡ z.place + at) × (rest ≡ [])

pub record IsSplitting {S P R : Type 0} (format : S → Format P R) (next : S → P → S) (start : Position S) (stream : List ℕ) (x : Splitting S P R) : Type 0 where
  pub left : List ℕ
  pub spelled : Spells format next start stream x.packets x.position left
  pub ends : Ends format x.position left x.wrong x.rest

-- ---- the same as a computation

abbrev pub reads : {S P R : Type 0} → (S → Format P R) → (S → P → S) → Reader S P R
reads format next = record { read = λ s bytes. reading (format s) bytes; next = next }

abbrev pub with_packets : {S P R : Type 0} → List (ℕ × P) → Splitting S P R → Splitting S P R
with_packets front x = record x { packets = front ++ x.packets }

abbrev pub go_on : {S P R : Type 0} → Reader S P R → Position S → List ℕ → (Position S → List ℕ → Splitting S P R) → Found P R → Splitting S P R
go_on r a bytes later (Whole p n) = with_packets ((a.place, p) ∷ []) (later (past r.next a p n) (drop n bytes))
go_on r a bytes later Short = record { packets = []; wrong = None; position = a; rest = bytes }
go_on r a bytes later (Wrong at why) = record { packets = []; wrong = Some (a.place + at, why); position = a; rest = [] }

-- a packet has a byte at least, so there are no more packets than bytes
abbrev pub split_by : {S P R : Type 0} → Reader S P R → ℕ → Position S → List ℕ → Splitting S P R
split_by r zero a bytes = record { packets = []; wrong = None; position = a; rest = bytes }
split_by r (suc fuel) a bytes = go_on r a bytes (λ z rest. split_by r fuel z rest) (r.read a.state bytes)

unfoldable pub split : {S P R : Type 0} → Reader S P R → Position S → List ℕ → Splitting S P R
split r a bytes = split_by r (suc (length bytes)) a bytes

-- what more bytes make of it
abbrev pub further_by : {S P R : Type 0} → Reader S P R → Splitting S P R → List ℕ → Option (ℕ × R) → Splitting S P R
further_by r x more None = with_packets x.packets (split r x.position (x.rest ++ more))
further_by r x more (Some w) = x

abbrev pub further : {S P R : Type 0} → Reader S P R → Splitting S P R → List ℕ → Splitting S P R
further r x more = further_by r x more x.wrong

-- ---- the laws of splitting

pub record SplitsWell {S P R : Type 0} (format : S → Format P R) (next : S → P → S) (start : Position S) : Type 0 where
  -- the stream is the spellings of its packets and then the rest, in which nothing is whole or wrong
  pub found : (stream : List ℕ) → AreBytes stream → IsSplitting format next start stream (split (reads format next) start stream)
  -- there is no other splitting
  pub only : (stream : List ℕ) (x : Splitting S P R) → AreBytes stream → IsSplitting format next start stream x → x ≡ split (reads format next) start stream
  -- splitting more bytes is going on from where the bytes left off
  pub more : (stream more : List ℕ) → AreBytes stream → split (reads format next) start (stream ++ more) ≡ further (reads format next) (split (reads format next) start stream) more
