-- One packet more on the wire to the gateway: what stays as it was.
use Rattle.std.proofs.Common.{◌≡◌, ℕ, ◌==◌, ◌&&◌, ◌||◌, Bool, true, false, cond, List, [], ◌∷◌, ◌++◌, Option, Some, None, refl, sym, ap, ◌∙◌, subst, arith, append-nil}
use Rattle.std.specs.List.{list_any, find}
use Rattle.usb_base.specs.declared.transfer.StreamPacket.{StreamPacket}
use Rattle.redir_data.specs.declared.packet.RedirPacket.{RedirPacket}
use Rattle.redir_data.specs.declared.stream_kind.StreamKind.{StreamKind}
use Rattle.redir_data.specs.declared.stream_kind.StreamKind.TheVariants.{Iso, Interrupt}
use Rattle.redir_data.specs.StreamKinds.{is_kind_of}
use Rattle.redir_host.specs.device.Offering.{stream_packet}
use Rattle.gate_history.specs.state.Ids.{times}
use Rattle.gate_history.specs.state.Facts.{tell}
use Rattle.gate_history.specs.step.Meaning.{fact_of}
use Rattle.gate_history.specs.state.Ups.{Up, stream_of}
use Rattle.gate_history.specs.declared.facts.Facts.{Facts}
use Rattle.direct_device.specs.Direct.{way_if}
use Rattle.direct_proof.specs.Requests.{Coming}
use Rattle.direct_proof.specs.Tagged.{Tagged, Packed, Stated, on_wire, runs_in, ran_in, told, packets_in}
use Rattle.direct_proof.specs.Shared.{way_of}
use Rattle.direct_proof.specs.StreamIds.{Fenced, statuses_on}
use Rattle.direct_proof.specs.Kinds.{OfKind}
use Rattle.direct_proof.proofs.shared.Backs.{told-append}
use Rattle.direct_proof.proofs.shared.WireBack.{runs_in-append, packets_in-append}

-- what a search finds
pub found-any : {X : Type 0} (p : X → Bool) (xs : List X) (x : X) → find p xs ≡ Some x → list_any p xs ≡ true
found-any p [] x e = absurd (cc)
found-any {X = X} p (y ∷ ys) x e = go (p y) e (found-any p ys x)
  where
    go : (b : Bool) → cond b (Some y) (find p ys) ≡ Some x → (find p ys ≡ Some x → list_any p ys ≡ true) → (b || list_any p ys) ≡ true
    go true z rest = refl
    go false z rest = rest z

pub runs-last : (bs : List Tagged) (b : Tagged) → ran_in b ≡ [] → runs_in (bs ++ b ∷ []) ≡ runs_in bs
runs-last bs b h = runs_in-append bs (b ∷ []) ∙ ap (λ (l : List Coming). runs_in bs ++ (l ++ [])) h ∙ append-nil (runs_in bs)

pub told-last : (f : Facts) (bs : List Tagged) (b : Tagged) → fact_of (on_wire b).1 ≡ None → told f (bs ++ b ∷ []) ≡ told f bs
told-last f bs b h = told-append f bs (b ∷ []) ∙ ap (tell (told f bs)) h

pub no-fact : (k : StreamKind) (ep : ℕ) (p : StreamPacket) → fact_of (stream_packet k ep p).1 ≡ None
no-fact Iso ep p = refl
no-fact Interrupt ep p = refl

pub no-fact-told : (k : StreamKind) (id ep status : ℕ) → fact_of (on_wire (Stated k id ep status)).1 ≡ None
no-fact-told Iso id ep status = refl
no-fact-told Interrupt id ep status = refl

pub fenced-same : (fence : Option ℕ) (fenced : Bool) (ps : List (ℕ × RedirPacket)) (bs cs : List Tagged) → statuses_on cs ≡ statuses_on bs → Fenced fence fenced ps bs → Fenced fence fenced ps cs
fenced-same None fenced ps bs cs e h = h
fenced-same (Some f) fenced ps bs cs e h = (h.0, λ k. ap (times f) e ∙ h.1 k)

-- ---- the way of a stream

pub way-stated : (up : Option Up) (e : ℕ) (bs : List Tagged) (k : StreamKind) (id ep status : ℕ) → way_of up e (bs ++ Stated k id ep status ∷ []) ≡ way_of up e bs
way-stated None e bs k id ep status = refl
way-stated (Some up) e bs k id ep status = packets_in-append up.row.kind e bs (Stated k id ep status ∷ []) ∙ append-nil (packets_in up.row.kind e bs)

flip : (a b : ℕ) (c : Bool) → (a == b) ≡ c → (b == a) ≡ c
flip a b c e = swap a b ∙ e
  where
    swap : (x y : ℕ) → (y == x) ≡ (x == y)
    swap x y = grind arith

-- a packet that is offered is on the way where the stream is up, and of its type
pub way-offered : (ups : List (Option Up)) (bs : List Tagged) (k : StreamKind) (ep : ℕ) (p : StreamPacket) → OfKind (stream_of ups ep) k → (e : ℕ) →
    way_if (stream_of ups e) (cond (e == ep) (way_of (stream_of ups ep) ep bs ++ p ∷ []) (way_of (stream_of ups e) e bs)) ≡ way_of (stream_of ups e) e (bs ++ Packed k ep p ∷ [])
way-offered ups bs k ep p kind e = go (stream_of ups e) refl (e == ep) refl
  where
    go : (o : Option Up) → stream_of ups e ≡ o → (b : Bool) → (e == ep) ≡ b → way_if o (cond b (way_of (stream_of ups ep) ep bs ++ p ∷ []) (way_of o e bs)) ≡ way_of o e (bs ++ Packed k ep p ∷ [])
    go None h b i = refl
    go (Some up) h false i = sym (packets_in-append up.row.kind e bs (Packed k ep p ∷ []) ∙ (λ t. packets_in up.row.kind e bs ++ (cond (flip e ep false i t && is_kind_of k up.row.kind) (p ∷ []) [] ++ [])) ∙ append-nil (packets_in up.row.kind e bs))
    go (Some up) h true i =
        let same : e ≡ ep = grind (arith, i) in
        let here : stream_of ups ep ≡ Some up = ap (stream_of ups) (sym same) ∙ h in
        let right : is_kind_of k up.row.kind ≡ true = subst (λ (o : Option Up). OfKind o k) here kind in
        (λ t. way_of (here t) ep bs ++ p ∷ [])
        ∙ (λ t. packets_in up.row.kind (sym same t) bs ++ p ∷ [])
        ∙ sym (packets_in-append up.row.kind e bs (Packed k ep p ∷ []) ∙ (λ t. packets_in up.row.kind e bs ++ (cond (flip e ep true i t && right t) (p ∷ []) [] ++ [])))
