-- What is on the way of a stream, once a packet of it is read.
use Rattle.std.proofs.Common.{◌≡◌, ℕ, ◌==◌, ◌&&◌, Bool, true, false, cond, List, [], ◌∷◌, ◌++◌, Option, Some, None, refl, sym, ap, ◌∙◌, arith}
use Rattle.std.specs.Option.{option_map}
use Rattle.usb_base.specs.declared.endpoint.EpRow.{EpRow}
use Rattle.usb_base.specs.declared.transfer.StreamPacket.{StreamPacket}
use Rattle.redir_data.specs.declared.stream_kind.StreamKind.{StreamKind}
use Rattle.redir_data.specs.StreamKinds.{is_kind_of}
use Rattle.gate_history.specs.state.Ups.{Up, stream_of}
use Rattle.direct_proof.specs.Tagged.{Tagged, Packed, packets_in}
use Rattle.direct_proof.specs.Shared.{way_of}
use Rattle.direct_proof.proofs.performs.Performs.{itself}
use Rattle.direct_proof.proofs.streams.wires.UpRows.{up_row}

-- ---- the way

flip : (a b : ℕ) (c : Bool) → (a == b) ≡ c → (b == a) ≡ c
flip a b c e = swap a b ∙ e
  where
    swap : (x y : ℕ) → (y == x) ≡ (x == y)
    swap x y = grind arith

-- a packet of another endpoint is on no way of this one
way-other : (up : Option Up) (e ep : ℕ) (k : StreamKind) (p : StreamPacket) (bs : List Tagged) → (e == ep) ≡ false → way_of up e (Packed k ep p ∷ bs) ≡ way_of up e bs
way-other None e ep k p bs i = refl
way-other (Some up) e ep k p bs i = λ t. cond (flip e ep false i t && is_kind_of k up.row.kind) (p ∷ []) [] ++ packets_in up.row.kind e bs

-- of a stream that is down nothing is on the way
pub way-lost : (ups : List (Option Up)) (ep : ℕ) (k : StreamKind) (p : StreamPacket) (bs : List Tagged) → stream_of ups ep ≡ None → (e : ℕ) → way_of (stream_of ups e) e (Packed k ep p ∷ bs) ≡ way_of (stream_of ups e) e bs
way-lost ups ep k p bs down e = go (e == ep) refl
  where
    go : (b : Bool) → (e == ep) ≡ b → way_of (stream_of ups e) e (Packed k ep p ∷ bs) ≡ way_of (stream_of ups e) e bs
    go false i = way-other (stream_of ups e) e ep k p bs i
    go true i =
        let same : e ≡ ep = grind (arith, i) in
        let none : stream_of ups e ≡ None = ap (stream_of ups) same ∙ down in
        ap (λ (o : Option Up). way_of o e (Packed k ep p ∷ bs)) none ∙ sym (ap (λ (o : Option Up). way_of o e bs) none)

pub way-first : (ep : ℕ) (k : StreamKind) (p : StreamPacket) (bs : List Tagged) (up : Up) → is_kind_of k up.row.kind ≡ true → way_of (Some up) ep (Packed k ep p ∷ bs) ≡ p ∷ packets_in up.row.kind ep bs
way-first ep k p bs up kind = λ t. cond (itself ep t && kind t) (p ∷ []) [] ++ packets_in up.row.kind ep bs

-- the first is taken off
pub way-taken : (ups : List (Option Up)) (ep : ℕ) (k : StreamKind) (p : StreamPacket) (bs : List Tagged) (up : Up) → stream_of ups ep ≡ Some up → (e : ℕ) →
    cond (e == ep) (packets_in up.row.kind ep bs) (way_of (stream_of ups e) e (Packed k ep p ∷ bs)) ≡ way_of (stream_of ups e) e bs
way-taken ups ep k p bs up here e = go (e == ep) refl
  where
    go : (b : Bool) → (e == ep) ≡ b → cond b (packets_in up.row.kind ep bs) (way_of (stream_of ups e) e (Packed k ep p ∷ bs)) ≡ way_of (stream_of ups e) e bs
    go false i = way-other (stream_of ups e) e ep k p bs i
    go true i =
        let same : e ≡ ep = grind (arith, i) in
        ap (λ (x : ℕ). packets_in up.row.kind x bs) (sym same) ∙ sym (ap (λ (o : Option Up). way_of o e bs) (ap (stream_of ups) same ∙ here))

pub way-rows : (o p : Option Up) (e : ℕ) (bs : List Tagged) → option_map up_row o ≡ option_map up_row p → way_of o e bs ≡ way_of p e bs
way-rows None None e bs h = refl
way-rows (Some x) (Some y) e bs h = ap (λ (r : EpRow). packets_in r.kind e bs) (inner h)
  where
    inner : Some x.row ≡ Some y.row → x.row ≡ y.row
    inner z = cc
way-rows None (Some y) e bs h = absurd (cc)
way-rows (Some x) None e bs h = absurd (cc)
