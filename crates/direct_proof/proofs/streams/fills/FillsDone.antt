-- What the gateway makes of packets that fill requests is a chain of answers of the device attached directly.
use Rattle.std.proofs.Common.{◌≡◌, ℕ, ◌<◌, ◌⊎◌, inl, inr, true, List, [], length, map, filter, Option, Some, refl, sym, ap, ◌∙◌, subst, arith}
use Rattle.std.specs.List.{count_by}
use Rattle.std.proofs.lemmas.List.Sums.{length-filter}
use Rattle.usbip_urb.specs.declared.client.ClientPacket.TheVariants.{Urb}
use Rattle.usbip_urb.specs.declared.packet.UrbPacket.{UrbPacket}
use Rattle.usb_base.specs.declared.transfer.StreamPacket.{StreamPacket}
use Rattle.usb_base.specs.Endpoint.{endpoint_index}
use Rattle.model_device.specs.Meaning.{Meaning}
use Rattle.gate_history.specs.host.Fillings.{Fill, fill, none_filled}
use Rattle.gate_history.specs.client.Submits.{Pending}
use Rattle.gate_history.specs.state.Sound.{IsSound}
use Rattle.gate_history.specs.state.State.{State, submits, is_number as has_seq}
use Rattle.gate_history.specs.state.Ups.{Up, stream_of, hold}
use Rattle.gate_history.proofs.lemmas.Lists.{map-map}
use Rattle.direct_device.specs.Direct.{Live, Direct, is_number}
use Rattle.direct_device.specs.Acting.{Deed, Answer}
use Rattle.direct_proof.specs.Requests.{live_of}
use Rattle.direct_proof.specs.Kinds.{IsIn}
use Rattle.direct_proof.proofs.lists.Counts.{count-map}
use Rattle.direct_proof.proofs.streams.Keeping.{Does, does-nothing}
use Rattle.direct_proof.proofs.shared.UpsFound.{in-place, by-address}
use Rattle.direct_proof.proofs.streams.fills.Filling.{Filled, fill_all, filled_deeds, filled_outs, Holds, hold-same, chain}
use Rattle.direct_proof.proofs.streams.fills.FillLists.{AreApart}
use Rattle.direct_proof.proofs.streams.fills.Fills.{AreFills, are-fills, none-fill, asking_at, Differ, has_seqnum}
use Rattle.direct_proof.proofs.streams.reads.Arriving.{stay_by, told_by_fills, sent_by_fills}

-- ---- numbers

pub differ-of : (st : State) → IsSound st → Differ st.live
differ-of st sound n =
    let few = sound.numbers n in
    let same : length (filter (has_seq n) (submits st)) ≡ count_by (has_seqnum n) st.live = length-filter (has_seq n) (submits st) ∙ count-map (has_seq n) (λ (p : Pending). p.submit) st.live in
    omega (arith, few, same)

pub apart-of : (ps : List Pending) → Differ ps → AreApart (map live_of ps)
apart-of ps d n = let few = d n in let same : count_by (λ (l : Live). is_number n l.load) (map live_of ps) ≡ count_by (has_seqnum n) ps = count-map (λ (l : Live). is_number n l.load) live_of ps in omega (arith, few, same)

-- ---- what is done

pub holds-at : (ups : List (Option Up)) (ep : ℕ) (up : Up) → IsIn ep → length ups ≡ 32 → stream_of ups ep ≡ Some up → Holds ups ep up.row.max_packet up.held
holds-at ups ep up h n e = record {
  up = up;
  at = sym (by-address ups ep h) ∙ e;
  max-is = refl;
  held-is = refl;
  place = subst (λ (k : ℕ). endpoint_index ep < k) (sym n) (in-place ep h);
}

-- the deeds and answers of these fillings
abbrev pub DoesFill : {S : Type 0} → Meaning S → Direct S → ℕ → List Pending → Fill → Type 0
DoesFill m d ep ps f = Does m d (map Answer (told_by_fills ep f.fillings ps)) (record d { live = map live_of (stay_by ep f.fillings ps); streams = hold ep f.left d.streams }) (map Urb (sent_by_fills ep f.fillings ps))

as-fills : {S : Type 0} (m : Meaning S) (d : Direct S) (ep : ℕ) (ps : List Pending) (f : Fill) (g : Filled) → AreFills ep ps f g → Does m d (filled_deeds g) (record d { live = g.live; streams = hold ep g.left d.streams }) (filled_outs g) → DoesFill m d ep ps f
as-fills {S = S} m d ep ps f g are does =
    subst (λ (xs : List Deed). Does m d xs (new f) (map Urb (sent_by_fills ep f.fillings ps))) (sym (map-map Answer (λ (x : ℕ × UrbPacket). x.0) g.filled) ∙ ap (map Answer) (sym are.numbers))
    (subst (Does m d (filled_deeds g) (new f)) (sym (map-map Urb (λ (x : ℕ × UrbPacket). x.1) g.filled) ∙ ap (map Urb) (sym are.outs))
    (subst (λ (e : Direct S). Does m d (filled_deeds g) e (filled_outs g)) (λ i. record d { live = sym are.live i; streams = hold ep (sym are.left i) d.streams }) does))
  where
    new : Fill → Direct S
    new h = record d { live = map live_of (stay_by ep h.fillings ps); streams = hold ep h.left d.streams }

pub does-fill : {S : Type 0} (m : Meaning S) (d : Direct S) (ep max : ℕ) (ps : List Pending) (held : List StreamPacket) → (d.imported ≡ true) ⊎ (ps ≡ []) → d.live ≡ map live_of ps → Differ ps → Holds d.streams ep max held → DoesFill m d ep ps (fill max (asking_at ep ps) held)
does-fill {S = S} m d ep max ps held who live differ holds = as-fills m d ep ps (fill max (asking_at ep ps) held) (fill_all max ep (map live_of ps) held) (are-fills max ep ps held differ) (by who)
  where
    by : (d.imported ≡ true) ⊎ (ps ≡ []) → Does m d (filled_deeds (fill_all max ep (map live_of ps) held)) (record d { live = (fill_all max ep (map live_of ps) held).live; streams = hold ep (fill_all max ep (map live_of ps) held).left d.streams }) (filled_outs (fill_all max ep (map live_of ps) held))
    by (inl imported) = chain m ep max [] (map live_of ps) held d imported live (apart-of ps differ) tt holds
    by (inr none) = subst (λ (qs : List Pending). Does m d (filled_deeds (fill_all max ep (map live_of qs) held)) (record d { live = (fill_all max ep (map live_of qs) held).live; streams = hold ep (fill_all max ep (map live_of qs) held).left d.streams }) (filled_outs (fill_all max ep (map live_of qs) held))) (sym none)
        (does-nothing m d (record d { live = []; streams = hold ep held d.streams }) (λ i. record d { live = (live ∙ ap (map live_of) none) i; streams = sym (hold-same d.streams ep max held holds) i }))

pub does-none : {S : Type 0} (m : Meaning S) (d : Direct S) (ep max : ℕ) (ps : List Pending) (held : List StreamPacket) → d.live ≡ map live_of ps → Holds d.streams ep max held → DoesFill m d ep ps (none_filled held)
does-none m d ep max ps held live holds = as-fills m d ep ps (none_filled held) (record { live = map live_of ps; filled = []; left = held }) (none-fill ep ps held)
    (does-nothing m d (record d { live = map live_of ps; streams = hold ep held d.streams }) (λ i. record d { live = live i; streams = sym (hold-same d.streams ep max held holds) i }))
