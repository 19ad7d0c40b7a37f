-- A wire without packets of a stream that is down, and a stream that stays up.
use Rattle.std.proofs.Common.{◌≡◌, ℕ, ◌==◌, ◌&&◌, Bool, true, false, cond, List, [], ◌∷◌, ◌++◌, refl, sym, ap, ◌∙◌, arith}
use Rattle.std.specs.List.{list_any, AllByRecursion as Each}
use Rattle.std.proofs.lemmas.Bool.{both_ways, or_parts}
use Rattle.usb_base.specs.declared.endpoint.EpKind.{EpKind}
use Rattle.redir_data.specs.StreamKinds.{is_kind_of}
use Rattle.redir_host.specs.declared.state.running.Running.{Running}
use Rattle.redir_host.specs.guest.Packets.{runs_at}
use Rattle.model_device.specs.Meaning.{Meaning}
use Rattle.direct_run.specs.Moves.{World}
use Rattle.direct_proof.specs.Tagged.{Tagged, Greeted, Plugged, ToldTable, ToldFaces, Answered, Packed, Stated, Bye, packets_in, packet_in}
use Rattle.direct_proof.specs.Shared.{Shared}
use Rattle.direct_proof.specs.Related.{Related}
use Rattle.direct_proof.specs.Session.{Session}
use Rattle.direct_proof.specs.Stale.{is_stale}
use Rattle.direct_proof.proofs.streams.submits.Waited.{AfterWait}

-- ---- a wire without packets of a stream that is down

pub packets-none : (down : ℕ → Bool) (kind : EpKind) (e : ℕ) → down e ≡ true → (bs : List Tagged) → Each (λ b. is_stale down b ≡ false) bs → packets_in kind e bs ≡ []
packets-none down kind e h [] k = refl
packets-none down kind e h (b ∷ bs) k = (λ i. go b k.0 i ++ packets-none down kind e h bs k.1 i)
  where
    go : (b : Tagged) → is_stale down b ≡ false → packet_in kind e b ≡ []
    go Greeted z = refl
    go (Plugged c) z = refl
    go (ToldTable t) z = refl
    go (ToldFaces x) z = refl
    go (Answered c) z = refl
    go (Stated x id ep status) z = refl
    go Bye z = refl
    go (Packed x ep p) z = by (ep == e) refl
      where
        by : (c : Bool) → (ep == e) ≡ c → cond (c && is_kind_of x kind) (p ∷ []) [] ≡ []
        by false y = refl
        by true y = let same : ep ≡ e = grind (arith, y) in absurd (both_ways (down e) (ap down (sym same) ∙ z) h)

pub none-runs : (ep : ℕ) (rs : List Running) → list_any (runs_at ep) rs ≡ false → Each (λ (s : Running). (s.ep == ep) ≡ false) rs
none-runs ep [] h = tt
none-runs ep (s ∷ rs) h = let p = or_parts (s.ep == ep) (list_any (runs_at ep) rs) h in (p.0, none-runs ep rs p.1)

-- ---- a stream that is up stays up, and nothing is sent

pub after-kept : {S : Type 0} (m : Meaning S) (w : World S) (j : Shared) → Related m w j → w.gate.sides.lost ≡ false → Session m w j → AfterWait m w j w.to_host w.gate.stream_ids w.gate.streams
after-kept m w j rel there s = record {
  tagged = rel.tagged;
  streams_in = rel.line.streams_in;
  line = rel.line.coming;
  controls = rel.controls there;
  fenced-is = rel.fenced there;
  asked = rel.asked;
  cancels = rel.line.cancels;
  session = record { table = s.table; faces = s.faces; clean = s.clean; quits = s.quits; trails = s.trails; starts = s.starts; kinds = s.kinds; start_kinds = s.start_kinds };
  fits = rel.ups;
}
