-- Streams that have the same rows: what is known of wires and of what runs speaks of no more of them.
use Rattle.std.proofs.Common.{◌≡◌, ◌≢◌, ℕ, ◌-◌, ◌≤◌, ◌<◌, ◌%◌, ◌==◌, nat_lt, Bool, true, false, cond, List, [], ◌∷◌, length, Option, Some, None, is_none, refl, sym, ap, ◌∙◌, subst, arith}
use Rattle.std.specs.Prelude.{get_or, slice_set}
use Rattle.std.specs.List.{AllByRecursion as Each}
use Rattle.std.specs.Option.{option_map}
use Rattle.std.proofs.lemmas.List.{get_or-set_same, get_or-set_other, length-set}
use Rattle.usb_base.specs.Endpoint.{endpoint_index}
use Rattle.usb_base.specs.declared.endpoint.EpRow.{EpRow}
use Rattle.usb_base.specs.declared.transfer.StreamPacket.{StreamPacket}
use Rattle.redir_data.specs.declared.packet.RedirPacket.{RedirPacket}
use Rattle.redir_data.specs.declared.stream_kind.StreamKind.{StreamKind}
use Rattle.redir_data.specs.StreamKinds.{is_kind_of}
use Rattle.redir_host.specs.declared.state.running.Running.{Running}
use Rattle.gate_history.specs.state.Ups.{Up, stream_at, stream_of, hold}
use Rattle.direct_proof.specs.Tagged.{Tagged, Answered, Packed, Stated}
use Rattle.direct_proof.specs.Kinds.{IsIn, OfKind, TaggedOfKind, StartOfKind, UpsFit, UpFits}
use Rattle.direct_proof.specs.Session.{down_in}
use Rattle.direct_proof.specs.Running.{started_kind}
use Rattle.direct_proof.proofs.shared.UpsFound.{in-place, by-address, index-is}

-- ---- one place

pub place-differs : (e ep : ℕ) → IsIn ep → nat_lt (e % 128) 16 ≡ true → (e == ep) ≡ false → endpoint_index e ≢ endpoint_index ep
place-differs e ep h small other same = go (nat_lt e 128) refl same
  where
    go : (b : Bool) → nat_lt e 128 ≡ b → cond b e (e - 112) ≡ endpoint_index ep → ⊥
    go true low k = out e ep low small (k ∙ index-is ep h) h.low
      where
        out : (x y : ℕ) → nat_lt x 128 ≡ true → nat_lt (x % 128) 16 ≡ true → x ≡ y - 112 → 128 ≤ y → ⊥
        out x y f g k l = grind (arith, f, g, k, l)
    go false high k = both e ep high other (k ∙ index-is ep h) h.low
      where
        both : (x y : ℕ) → nat_lt x 128 ≡ false → (x == y) ≡ false → x - 112 ≡ y - 112 → 128 ≤ y → ⊥
        both x y f g k l = grind (arith, f, g, k, l)

pub set-other : (ups : List (Option Up)) (o : Option Up) (ep e : ℕ) → IsIn ep → (e == ep) ≡ false → stream_of (slice_set ups (endpoint_index ep) o) e ≡ stream_of ups e
set-other ups o ep e h other = go (nat_lt (e % 128) 16) refl
  where
    go : (b : Bool) → nat_lt (e % 128) 16 ≡ b → cond b (stream_at (slice_set ups (endpoint_index ep) o) e) None ≡ cond b (stream_at ups e) None
    go false i = refl
    go true i = get_or-set_other ups (endpoint_index ep) (endpoint_index e) o None (place-differs e ep h i other)

pub set-here : (ups : List (Option Up)) (o : Option Up) (ep : ℕ) → IsIn ep → length ups ≡ 32 → stream_of (slice_set ups (endpoint_index ep) o) ep ≡ o
set-here ups o ep h n = by-address (slice_set ups (endpoint_index ep) o) ep h ∙ get_or-set_same ups (endpoint_index ep) o None (subst (λ (k : ℕ). endpoint_index ep < k) (sym n) (in-place ep h))

-- ---- the same rows

abbrev pub up_row : Up → EpRow
up_row up = up.row

abbrev pub SameRows : List (Option Up) → List (Option Up) → Type 0
SameRows a b = (e : ℕ) → option_map up_row (stream_of b e) ≡ option_map up_row (stream_of a e)

pub rows-refl : (a : List (Option Up)) → SameRows a a
rows-refl a e = refl

none-by-row : (o p : Option Up) → option_map up_row o ≡ option_map up_row p → is_none o ≡ is_none p
none-by-row None None h = refl
none-by-row (Some x) (Some y) h = refl
none-by-row None (Some y) h = absurd (cc)
none-by-row (Some x) None h = absurd (cc)

pub same-down : (a b : List (Option Up)) → SameRows a b → down_in b ≡ down_in a
same-down a b h = λ i e. none-by-row (stream_of b e) (stream_of a e) (h e) i

pub kind-by-row : (o p : Option Up) (k : StreamKind) → option_map up_row o ≡ option_map up_row p → OfKind p k → OfKind o k
kind-by-row None p k h f = tt
kind-by-row (Some x) None k h f = absurd (cc)
kind-by-row (Some x) (Some y) k h f = ap (λ (r : EpRow). is_kind_of k r.kind) (inner h) ∙ f
  where
    inner : Some x.row ≡ Some y.row → x.row ≡ y.row
    inner z = cc

pub tagged-rows : (a b : List (Option Up)) → SameRows a b → (bs : List Tagged) → Each (TaggedOfKind a) bs → Each (TaggedOfKind b) bs
tagged-rows a b h [] t = tt
tagged-rows a b h (x ∷ bs) t = (go x t.0, tagged-rows a b h bs t.1)
  where
    go : (x : Tagged) → TaggedOfKind a x → TaggedOfKind b x
    go (Answered c) f = f
    go (Packed k ep p) f = (f.0, f.1, f.2, kind-by-row (stream_of b ep) (stream_of a ep) k (h ep) f.3)
    go (Stated k id ep status) f = f
    go _ f = tt

pub kinds-rows : (a b : List (Option Up)) → SameRows a b → (rs : List Running) → Each (λ (s : Running). OfKind (stream_of a s.ep) s.kind) rs → Each (λ (s : Running). OfKind (stream_of b s.ep) s.kind) rs
kinds-rows a b h [] t = tt
kinds-rows a b h (s ∷ rs) t = (kind-by-row (stream_of b s.ep) (stream_of a s.ep) s.kind (h s.ep) t.0, kinds-rows a b h rs t.1)

start-row : (a b : List (Option Up)) → SameRows a b → (o : Option (StreamKind × ℕ)) → StartOfKind a o → StartOfKind b o
start-row a b h None f = tt
start-row a b h (Some s) f = kind-by-row (stream_of b s.1) (stream_of a s.1) s.0 (h s.1) f

pub starts-rows : (a b : List (Option Up)) → SameRows a b → (ps : List (ℕ × RedirPacket)) → Each (λ (p : ℕ × RedirPacket). StartOfKind a (started_kind p.1)) ps → Each (λ (p : ℕ × RedirPacket). StartOfKind b (started_kind p.1)) ps
starts-rows a b h [] t = tt
starts-rows a b h (p ∷ ps) t = (start-row a b h (started_kind p.1) t.0, starts-rows a b h ps t.1)

-- ---- what is held

abbrev pub holding : List StreamPacket → Up → Up
holding packets up = record up { held = packets }

held-row : (packets : List StreamPacket) (o : Option Up) → option_map up_row (option_map (holding packets) o) ≡ option_map up_row o
held-row packets None = refl
held-row packets (Some up) = refl

pub hold-rows : (ep : ℕ) (packets : List StreamPacket) (ups : List (Option Up)) → IsIn ep → length ups ≡ 32 → SameRows ups (hold ep packets ups)
hold-rows ep packets ups h n e = go (e == ep) refl
  where
    o : Option Up
    o = option_map (holding packets) (stream_at ups ep)

    go : (b : Bool) → (e == ep) ≡ b → option_map up_row (stream_of (hold ep packets ups) e) ≡ option_map up_row (stream_of ups e)
    go false i = ap (option_map up_row) (set-other ups (option_map (holding packets) (stream_at ups ep)) ep e h i)
    go true i =
        let same : e ≡ ep = grind (arith, i) in
        ap (λ (k : ℕ). option_map up_row (stream_of (hold ep packets ups) k)) same
        ∙ ap (option_map up_row) (set-here ups (option_map (holding packets) (stream_at ups ep)) ep h n)
        ∙ held-row packets (stream_at ups ep)
        ∙ ap (option_map up_row) (sym (by-address ups ep h))
        ∙ ap (λ (k : ℕ). option_map up_row (stream_of ups k)) (sym same)

fits-held : (i : ℕ) (packets : List StreamPacket) (o : Option Up) → UpFits i o → UpFits i (option_map (holding packets) o)
fits-held i packets None f = tt
fits-held i packets (Some up) f = f

pub fits-set : (ups : List (Option Up)) (ep : ℕ) (o : Option Up) → IsIn ep → UpFits (endpoint_index ep) o → UpsFit ups → UpsFit (slice_set ups (endpoint_index ep) o)
fits-set ups ep o h new fits = record { count_is = length-set ups (endpoint_index ep) o ∙ fits.count_is; each = λ i. go i (i == endpoint_index ep) refl }
  where
    go : (i : ℕ) (b : Bool) → (i == endpoint_index ep) ≡ b → UpFits i (get_or (slice_set ups (endpoint_index ep) o) i None)
    go i true e =
        let same : endpoint_index ep ≡ i = grind (arith, e) in
        subst (λ (k : ℕ). UpFits k (get_or (slice_set ups (endpoint_index ep) o) k None)) same
        (subst (UpFits (endpoint_index ep)) (sym (get_or-set_same ups (endpoint_index ep) o None (subst (λ (k : ℕ). endpoint_index ep < k) (sym fits.count_is) (in-place ep h)))) new)
    go i false e = subst (UpFits i) (sym (get_or-set_other ups (endpoint_index ep) i o None (apart i (endpoint_index ep) e))) (fits.each i)
      where
        apart : (x y : ℕ) → (x == y) ≡ false → x ≢ y
        apart x y f g = grind (arith, f, g)

pub fits-hold : (ep : ℕ) (packets : List StreamPacket) (ups : List (Option Up)) → IsIn ep → UpsFit ups → UpsFit (hold ep packets ups)
fits-hold ep packets ups h fits = fits-set ups ep (option_map (holding packets) (stream_at ups ep)) h (fits-held (endpoint_index ep) packets (stream_at ups ep) (fits.each (endpoint_index ep))) fits
