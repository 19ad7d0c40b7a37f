-- A stream that is down goes up: nothing of it is under way, and what is of others stays of their kinds.
use Rattle.std.proofs.Common.{◌≡◌, ℕ, ◌==◌, ◌⊎◌, Bool, true, false, List, [], ◌∷◌, ◌++◌, Option, Some, None, is_none, refl, sym, ap, ◌∙◌, subst, arith}
use Rattle.std.specs.Prelude.{slice_set}
use Rattle.std.specs.List.{list_any, AllByRecursion as Each}
use Rattle.std.proofs.lemmas.Bool.{both_ways}
use Rattle.usb_base.specs.Endpoint.{endpoint_index, row_of}
use Rattle.usb_base.specs.declared.endpoint.EpKind.TheVariants as kind
use Rattle.usb_base.specs.declared.endpoint.EpRow.{EpRow}
use Rattle.redir_data.specs.declared.packet.RedirPacket.{RedirPacket}
use Rattle.redir_data.specs.declared.stream_kind.StreamKind.{StreamKind}
use Rattle.redir_host.specs.declared.state.running.Running.{Running}
use Rattle.model_device.specs.Meaning.{Meaning}
use Rattle.gate_history.specs.state.StreamIds.{ids_of_streams}
use Rattle.gate_history.specs.state.Ids.{holds}
use Rattle.gate_history.specs.write.Packets.{start_packet}
use Rattle.gate_history.specs.state.Ups.{Up, stream_of}
use Rattle.gate_history.proofs.lemmas.state.StreamIds.{AreLong}
use Rattle.direct_run.specs.Moves.{World}
use Rattle.direct_proof.specs.Tagged.{Tagged, Answered, Packed, Stated}
use Rattle.direct_proof.specs.Shared.{Shared}
use Rattle.direct_proof.specs.Related.{Related}
use Rattle.direct_proof.specs.Session.{down_in, runs}
use Rattle.direct_proof.specs.Kinds.{IsIn, OfKind, TaggedOfKind, StartOfKind}
use Rattle.direct_proof.specs.Running.{stream_endpoint, started_kind, passes, Quits}
use Rattle.direct_proof.specs.Stale.{is_stale, asks}
use Rattle.direct_proof.proofs.streams.submits.Still.{IsStill}
use Rattle.direct_proof.proofs.streams.wires.Folds.{quits-runs, no-trails}
use Rattle.direct_proof.proofs.streams.wires.Sorts.{IsSwitch, Switches_or, is-switch}
use Rattle.direct_proof.proofs.streams.wires.SortsMore.{started-stream}
use Rattle.direct_proof.proofs.streams.wires.UpRows.{set-other, set-here}
use Rattle.direct_proof.proofs.streams.submits.Starting.{IsStart, is-start}

module _ {S : Type 0} (m : Meaning S) (w : World S) (j : Shared) (ep id : ℕ) (row : EpRow) (rel : Related m w j) (s : IsStill m w j) (h : IsIn ep) (kinds : (row.kind ≡ kind.Iso) ⊎ (row.kind ≡ kind.Interrupt))
    (same-row : row ≡ row_of (m.table w.host.gadget) ep) (down : stream_of w.gate.streams ep ≡ None) (long : AreLong w.gate.stream_ids) (free : holds (ids_of_streams w.gate.stream_ids) id ≡ false) where
  abbrev pub up : Up
  up = record { ep = ep; row = row; held = [] }

  abbrev pub ups : List (Option Up)
  ups = slice_set w.gate.streams (endpoint_index ep) (Some up)

  abbrev pub q : ℕ × RedirPacket
  q = (id, start_packet ep row)

  abbrev pub ps : List (ℕ × RedirPacket)
  ps = w.to_host ++ (id, start_packet ep row) ∷ []

  pub start : IsStart ep row (start_packet ep row)
  start = is-start ep row kinds

  pub switch : IsSwitch q
  switch = subst (λ (o : Option ℕ). Switches_or o (id, start_packet ep row)) start.stream (is-switch (id, start_packet ep row))

  pub up-here : stream_of ups ep ≡ Some up
  up-here = set-here w.gate.streams (Some up) ep h rel.ups.count_is

  pub up-other : (e : ℕ) → (e == ep) ≡ false → stream_of ups e ≡ stream_of w.gate.streams e
  up-other e i = set-other w.gate.streams (Some up) ep e h i

  pub was-down : down_in w.gate.streams ep ≡ true
  was-down = ap is_none down

  -- one that is down now is another, and was down
  pub down-other : (e : ℕ) → down_in ups e ≡ true → (e == ep) ≡ false
  down-other e d = go (e == ep) refl
    where
      go : (b : Bool) → (e == ep) ≡ b → b ≡ false
      go false i = refl
      go true i = let same : e ≡ ep = grind (arith, i) in absurd (both_ways (down_in ups e) (ap is_none (ap (stream_of ups) same ∙ up-here)) d)

  pub down-less : (e : ℕ) → down_in ups e ≡ true → down_in w.gate.streams e ≡ true
  down-less e d = sym (ap is_none (up-other e (down-other e d))) ∙ d

  pub stale-less : (b : Tagged) → is_stale (down_in ups) b ≡ true → is_stale (down_in w.gate.streams) b ≡ true
  stale-less (Packed x e p) z = down-less e z
  stale-less (Stated x n e status) z = down-less e z
  stale-less _ z = z

  -- what isn't stale is of another endpoint
  pub fresh-other : (e : ℕ) → down_in w.gate.streams e ≡ false → (e == ep) ≡ false
  fresh-other e f = go (e == ep) refl
    where
      go : (b : Bool) → (e == ep) ≡ b → b ≡ false
      go false i = refl
      go true i = let same : e ≡ ep = grind (arith, i) in absurd (both_ways (down_in w.gate.streams e) f (ap (down_in w.gate.streams) same ∙ was-down))

  kind-other : (e : ℕ) (k : StreamKind) → (e == ep) ≡ false → OfKind (stream_of w.gate.streams e) k → OfKind (stream_of ups e) k
  kind-other e k i f = subst (λ (o : Option Up). OfKind o k) (sym (up-other e i)) f

  pub tagged : (bs : List Tagged) → Each (λ b. is_stale (down_in w.gate.streams) b ≡ false) bs → Each (TaggedOfKind w.gate.streams) bs → Each (TaggedOfKind ups) bs
  tagged [] f t = tt
  tagged (b ∷ bs) f t = (go b f.0 t.0, tagged bs f.1 t.1)
    where
      go : (b : Tagged) → is_stale (down_in w.gate.streams) b ≡ false → TaggedOfKind w.gate.streams b → TaggedOfKind ups b
      go (Answered c) z y = y
      go (Packed k e p) z y = (y.0, y.1, y.2, kind-other e k (fresh-other e z) y.3)
      go (Stated k n e status) z y = y
      go _ z y = tt

  pub runs-not : runs w.host ep ≡ false
  runs-not = go (runs w.host ep) refl
    where
      go : (b : Bool) → runs w.host ep ≡ b → b ≡ false
      go false i = refl
      go true i = absurd (both_ways (list_any (asks w.gate.fence) w.to_host) s.none_asks (quits-runs w.gate.fence ep w.to_host (subst (λ (r : Bool). Quits w.gate.fence ep r w.to_host) i (s.session.quits ep was-down))))

  pub none-switched : Each (λ (p : ℕ × RedirPacket). passes (down_in w.gate.streams) (stream_endpoint p.1) ≡ false) w.to_host
  none-switched = no-trails w.gate.fence (down_in w.gate.streams) w.to_host s.none_asks s.session.trails

  pub running-kinds : (rs : List Running) → Each (λ (x : Running). (x.ep == ep) ≡ false) rs → Each (λ (x : Running). OfKind (stream_of w.gate.streams x.ep) x.kind) rs → Each (λ (x : Running). OfKind (stream_of ups x.ep) x.kind) rs
  running-kinds [] n f = tt
  running-kinds (x ∷ rs) n f = (kind-other x.ep x.kind n.0 f.0, running-kinds rs n.1 f.1)

  pub start-kinds : (xs : List (ℕ × RedirPacket)) → Each (λ (p : ℕ × RedirPacket). passes (down_in w.gate.streams) (stream_endpoint p.1) ≡ false) xs → Each (λ (p : ℕ × RedirPacket). StartOfKind w.gate.streams (started_kind p.1)) xs → Each (λ (p : ℕ × RedirPacket). StartOfKind ups (started_kind p.1)) xs
  start-kinds [] n f = tt
  start-kinds (p ∷ xs) n f = (go (started_kind p.1) refl f.0, start-kinds xs n.1 f.1)
    where
      go : (o : Option (StreamKind × ℕ)) → started_kind p.1 ≡ o → StartOfKind w.gate.streams o → StartOfKind ups o
      go None e y = tt
      go (Some z) e y = kind-other z.1 z.0 (fresh-other z.1 (sym (ap (passes (down_in w.gate.streams)) (started-stream p.1 z e)) ∙ n.0)) y
