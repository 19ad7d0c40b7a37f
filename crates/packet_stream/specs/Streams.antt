-- Where a stream stands, of which bytes have come in pieces and packets were given one by one.
use Rattle.std.specs.Prelude.{◌≡◌, ℕ, ◌<◌, Bool, true, false, List, [], ◌∷◌, ◌++◌, length, Option, Some, None, Result, Ok, Err}
use Rattle.usb_base.specs.Number.{AreBytes}
-- a place past the greatest number is that number
pub use Rattle.usb_base.specs.Number.{capped}
use Rattle.packet_stream.specs.Split.{Reader, Position, Splitting, with_packets, split}
use Rattle.usb_base.specs.declared.reason.Reason.{Reason}
use Rattle.packet_stream.specs.declared.read.ReadError.{ReadError}
use Rattle.packet_stream.specs.declared.read.ReadError.TheVariants.{Refused, Memory}

-- what is kept of a stream
pub record StreamView (S : Type 0) : Type 0 where
  -- how the next packet is read
  pub state : S
  -- the bytes from the next packet on, and the place where they begin
  pub rest : List ℕ
  pub place : ℕ
  -- the packet that was given last, as long as it is held, and the rest behind it; and the place where these begin
  pub held : List ℕ
  pub at : ℕ
  -- nothing more is read of it
  pub over : Bool

-- the packet that was given last is held no more
abbrev pub passed : {S : Type 0} → StreamView S → StreamView S
passed kept = record kept { held = kept.rest; at = kept.place }

-- the stream is over
abbrev pub ended : {S : Type 0} → StreamView S → StreamView S
ended kept = record kept { rest = []; held = []; over = true }

-- of the splitting x these packets were given, and what is kept is split into what is left of it
pub record Left {S P R : Type 0} (r : Reader S P R) (kept : StreamView S) (x : Splitting S P R) (given : List (ℕ × P)) : Type 0 where
  pub at : Position S
  pub parts : x ≡ with_packets given (split r at kept.rest)
  pub place : kept.place ≡ capped at.place
  pub state : kept.state ≡ at.state
  pub fits : AreBytes kept.rest

-- all packets were given, and then the wrong place was
pub record Closed {S P R : Type 0} (x : Splitting S P R) (given : List (ℕ × P)) : Type 0 where
  pub packets : x.packets ≡ given
  pub at : ℕ × R
  pub wrong : x.wrong ≡ Some at

abbrev pub FollowsBy : {S P R : Type 0} → Reader S P R → StreamView S → Splitting S P R → List (ℕ × P) → Bool → Type 0
FollowsBy r kept x given false = Left r kept x given
FollowsBy r kept x given true = Closed x given

-- the stream stands where these bytes were split, and these packets of them were given
pub record Follows {S P R : Type 0} (r : Reader S P R) (start : Position S) (kept : StreamView S) (bytes : List ℕ) (given : List (ℕ × P)) : Type 0 where
  pub fits : AreBytes bytes
  pub follows : FollowsBy r kept (split r start bytes) given kept.over

-- all packets were given, and the rest is kept
pub record Drained {S P R : Type 0} (kept : StreamView S) (x : Splitting S P R) (given : List (ℕ × P)) : Type 0 where
  pub packets : x.packets ≡ given
  pub right : x.wrong ≡ None
  pub rest : kept.rest ≡ x.rest
  pub place : kept.place ≡ capped x.position.place
  pub state : kept.state ≡ x.position.state

-- all packets were given, and this is the wrong place
pub record Wrongs {S P R : Type 0} (place : ℕ) (reason : R) (x : Splitting S P R) (given : List (ℕ × P)) : Type 0 where
  pub packets : x.packets ≡ given
  pub at : ℕ
  pub wrong : x.wrong ≡ Some (at, reason)
  pub place-is : place ≡ capped at

-- this packet comes next
pub record GivesNext {S P R : Type 0} (r : Reader S P R) (start : Position S) (kept : StreamView S) (bytes : List ℕ) (given : List (ℕ × P)) (place : ℕ) (packet : P) : Type 0 where
  pub at : ℕ
  pub place-is : place ≡ capped at
  pub follows : Follows r start kept bytes (given ++ (at, packet) ∷ [])

-- a packet comes next that takes memory
pub record WantsNext {S P R : Type 0} (takes : P → Bool) (x : Splitting S P R) (given : List (ℕ × P)) : Type 0 where
  pub next : ℕ × P
  pub left : List (ℕ × P)
  pub packets : x.packets ≡ given ++ next ∷ left
  pub takes-some : takes next.1 ≡ true

-- what is held is split into what is left of x after these packets
pub record Holds {S P R : Type 0} (r : Reader S P R) (kept : StreamView S) (x : Splitting S P R) (given : List (ℕ × P)) : Type 0 where
  pub position : Position S
  pub parts : x ≡ with_packets given (split r position kept.held)
  pub place : kept.at ≡ capped position.place

-- what an answer of `next` says of the splitting
abbrev pub Answered : {S P : Type 0} → Reader S P Reason → (P → Bool) → Position S → Result (Option (ℕ × P)) ReadError → StreamView S → List ℕ → List (ℕ × P) → Type 0
Answered r takes start (Ok (Some i)) new bytes given = GivesNext r start new bytes given i.0 i.1
Answered r takes start (Ok None) new bytes given = new.over ≡ false → Drained new (split r start bytes) given
Answered r takes start (Err (Refused place reason)) new bytes given = Wrongs place reason (split r start bytes) given
Answered r takes start (Err (Memory memory)) new bytes given = WantsNext takes (split r start bytes) given

-- whatever has come and was given: the answer is what comes next of the splitting
abbrev pub Nexts : {S P : Type 0} → Reader S P Reason → (P → Bool) → Result (Option (ℕ × P)) ReadError → StreamView S → StreamView S → Type 0
Nexts {S = S} {P = P} r takes result old new = (start : Position S) (bytes : List ℕ) (given : List (ℕ × P)) → Follows r start old bytes given → Answered r takes start result new bytes given

-- whatever has come and was given: this piece has come too
abbrev pub Puts : {S P : Type 0} → Reader S P Reason → List ℕ → StreamView S → StreamView S → Type 0
Puts {S = S} {P = P} r piece old new = (start : Position S) (bytes : List ℕ) (given : List (ℕ × P)) → Follows r start old bytes given → Follows r start new (bytes ++ piece) given

-- what `next` makes of what is kept: a packet that is given stays held, and a wrong place ends the stream
abbrev pub Changes : {S P : Type 0} → Result (Option (ℕ × P)) ReadError → StreamView S → StreamView S → Type 0
Changes (Ok (Some i)) old new = (length new.rest < length old.rest) × (old.over ≡ false) × (new.over ≡ false) × (new.held ≡ old.rest) × (new.at ≡ old.place) × (i.0 ≡ old.place)
Changes (Ok None) old new = new ≡ passed old
Changes (Err (Refused place reason)) old new = (old.over ≡ false) × (new ≡ ended (passed old))
Changes (Err (Memory memory)) old new = (old.over ≡ false) × (new ≡ passed old)

abbrev pub after_piece_by : {S : Type 0} → StreamView S → List ℕ → Bool → StreamView S
after_piece_by kept piece false = passed (record kept { rest = kept.rest ++ piece })
after_piece_by kept piece true = kept

-- a piece more has come
abbrev pub after_piece : {S : Type 0} → StreamView S → List ℕ → StreamView S
after_piece kept piece = after_piece_by kept piece kept.over

-- this piece has come straight into what is kept, or nothing came
pub record Receives {S P : Type 0} (r : Reader S P Reason) (count : ℕ) (piece : List ℕ) (old new : StreamView S) : Type 0 where
  pub stream : 0 < count → new ≡ after_piece old piece
  pub puts : 0 < count → Puts r piece old new
  pub nothing : count ≡ 0 → new ≡ old
