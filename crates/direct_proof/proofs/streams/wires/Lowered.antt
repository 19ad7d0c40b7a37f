-- Streams that go down: what is known of the others stays.
use Rattle.std.proofs.Common.{◌≡◌, ℕ, ◌%◌, ◌==◌, ◌⊎◌, inl, inr, nat_lt, Bool, true, false, cond, List, [], ◌∷◌, Option, Some, None, is_none, refl, sym, ap, ◌∙◌, subst, arith, true≢false}
use Rattle.std.specs.Prelude.{get_or}
use Rattle.std.specs.List.{AllByRecursion as Each}
use Rattle.std.proofs.Math.ListN.{get_or-map}
use Rattle.std.proofs.lemmas.List.{length-map}
use Rattle.usb_base.specs.Endpoint.{endpoint_index}
use Rattle.redir_data.specs.declared.packet.RedirPacket.{RedirPacket}
use Rattle.redir_data.specs.declared.stream_kind.StreamKind.{StreamKind}
use Rattle.redir_host.specs.declared.state.running.Running.{Running}
use Rattle.gate_history.specs.state.Ups.{Up, stream_at, stream_of, unless, lower}
use Rattle.direct_device.specs.Direct.{way_if}
use Rattle.direct_proof.specs.Tagged.{Tagged, Answered, Packed, Stated}
use Rattle.direct_proof.specs.Shared.{way_of}
use Rattle.direct_proof.specs.Kinds.{OfKind, TaggedOfKind, StartOfKind, UpsFit, UpFits}
use Rattle.direct_proof.specs.Session.{down_in}
use Rattle.direct_proof.specs.Running.{started_kind}
use Rattle.direct_proof.proofs.shared.UpsFound.{lowered}
use Rattle.direct_proof.proofs.streams.wires.UpRows.{place-differs}

module _ (test : Up → Bool) (ups : List (Option Up)) where
  kind-lower : (o : Option Up) (k : StreamKind) → OfKind o k → OfKind (unless test o) k
  kind-lower None k h = tt
  kind-lower (Some up) k h = elim (test up) as (λ b. OfKind (cond b None (Some up)) k) [ true ↦ tt | false ↦ h ]

  kind-at : (e : ℕ) (k : StreamKind) → OfKind (stream_of ups e) k → OfKind (stream_of (lower test ups) e) k
  kind-at e k h = subst (λ (o : Option Up). OfKind o k) (sym (lowered test ups e)) (kind-lower (stream_of ups e) k h)

  pub tagged-lower : (bs : List Tagged) → Each (TaggedOfKind ups) bs → Each (TaggedOfKind (lower test ups)) bs
  tagged-lower [] t = tt
  tagged-lower (b ∷ bs) t = (go b t.0, tagged-lower bs t.1)
    where
      go : (b : Tagged) → TaggedOfKind ups b → TaggedOfKind (lower test ups) b
      go (Answered c) y = y
      go (Packed k e p) y = (y.0, y.1, y.2, kind-at e k y.3)
      go (Stated k n e status) y = y
      go _ y = tt

  pub kinds-lower : (rs : List Running) → Each (λ (s : Running). OfKind (stream_of ups s.ep) s.kind) rs → Each (λ (s : Running). OfKind (stream_of (lower test ups) s.ep) s.kind) rs
  kinds-lower [] t = tt
  kinds-lower (s ∷ rs) t = (kind-at s.ep s.kind t.0, kinds-lower rs t.1)

  pub starts-lower : (ps : List (ℕ × RedirPacket)) → Each (λ (p : ℕ × RedirPacket). StartOfKind ups (started_kind p.1)) ps → Each (λ (p : ℕ × RedirPacket). StartOfKind (lower test ups) (started_kind p.1)) ps
  starts-lower [] t = tt
  starts-lower (p ∷ ps) t = (go (started_kind p.1) t.0, starts-lower ps t.1)
    where
      go : (o : Option (StreamKind × ℕ)) → StartOfKind ups o → StartOfKind (lower test ups) o
      go None y = tt
      go (Some s) y = kind-at s.1 s.0 y

  pub fits-lower : UpsFit ups → UpsFit (lower test ups)
  fits-lower h = record { count_is = length-map ups (unless test) ∙ h.count_is; each = λ i. subst (UpFits i) (sym (get_or-map (unless test) ups i None)) (go i (get_or ups i None) (h.each i)) }
    where
      go : (i : ℕ) (o : Option Up) → UpFits i o → UpFits i (unless test o)
      go i None y = tt
      go i (Some up) y = elim (test up) as (λ b. UpFits i (cond b None (Some up))) [ true ↦ tt | false ↦ y ]

  pub way-lower : (e : ℕ) (bs : List Tagged) → way_if (stream_of (lower test ups) e) (way_of (stream_of ups e) e bs) ≡ way_of (stream_of (lower test ups) e) e bs
  way-lower e bs = ap (λ (o : Option Up). way_if o (way_of (stream_of ups e) e bs)) (lowered test ups e) ∙ go (stream_of ups e) ∙ sym (ap (λ (o : Option Up). way_of o e bs) (lowered test ups e))
    where
      go : (o : Option Up) → way_if (unless test o) (way_of o e bs) ≡ way_of (unless test o) e bs
      go None = refl
      go (Some up) = by (test up)
        where
          by : (b : Bool) → way_if (cond b None (Some up)) (way_of (Some up) e bs) ≡ way_of (cond b None (Some up)) e bs
          by true = refl
          by false = refl

  -- one that is down was down, or passes the test and stands at its place
  pub record WasUp (e : ℕ) : Type 0 where
    pub up : Up
    pub passes-it : test up ≡ true
    pub at : get_or ups (endpoint_index e) None ≡ Some up
    pub same : up.ep ≡ e

  pub why-down : UpsFit ups → (e : ℕ) → down_in (lower test ups) e ≡ true → (stream_of ups e ≡ None) ⊎ WasUp e
  why-down fits e d = go (nat_lt (e % 128) 16) refl (sym (ap is_none (lowered test ups e)) ∙ d)
    where
      go : (b : Bool) → nat_lt (e % 128) 16 ≡ b → is_none (unless test (cond b (stream_at ups e) None)) ≡ true → (cond b (stream_at ups e) None ≡ None) ⊎ WasUp e
      go false i z = inl refl
      go true i z = by (stream_at ups e) refl z (fits.each (endpoint_index e))
        where
          by : (o : Option Up) → stream_at ups e ≡ o → is_none (unless test o) ≡ true → UpFits (endpoint_index e) (get_or ups (endpoint_index e) None) → (stream_at ups e ≡ None) ⊎ WasUp e
          by None here y f = inl here
          by (Some up) here y f = inr (record { up = up; passes-it = passed (test up) y; at = here; same = equal (e == up.ep) refl (subst (UpFits (endpoint_index e)) here f) })
            where
              passed : (b : Bool) → is_none (cond b None (Some up)) ≡ true → b ≡ true
              passed true k = refl
              passed false k = absurd (true≢false (sym k))

              equal : (b : Bool) → (e == up.ep) ≡ b → UpFits (endpoint_index e) (Some up) → up.ep ≡ e
              equal true k u = grind (arith, k)
              equal false k u = absurd (place-differs e up.ep u.0 i k (sym u.1))
