-- What holds of requests that are all asked back, and where no stream is up.
use Rattle.std.proofs.Common.{◌≡◌, ℕ, Bool, true, false, cond, List, [], ◌∷◌, map, filter, Option, Some, None, refl, sym, ap, ◌∙◌, subst}
use Rattle.std.specs.List.{AllByRecursion as Each}
use Rattle.redir_data.specs.declared.packet.RedirPacket.{RedirPacket}
use Rattle.redir_data.specs.declared.stream_kind.StreamKind.{StreamKind}
use Rattle.redir_host.specs.declared.state.running.Running.{Running}
use Rattle.gate_history.specs.step.Marks.{Submission}
use Rattle.gate_history.specs.state.Ups.{Up, no_streams, stream_of}
use Rattle.gate_history.specs.client.Verdict.{goes_by_id}
use Rattle.direct_proof.specs.Cancels.{CancelsFit, IsAsked, begins, left, moved}
use Rattle.direct_proof.specs.Kinds.{OfKind, StartOfKind, TaggedOfKind}
use Rattle.direct_proof.specs.Requests.{Debt, Entry, debts_of, load_of}
use Rattle.direct_proof.specs.Running.{started_kind}
use Rattle.direct_proof.specs.Tagged.{Tagged, Answered, Packed, Stated}
use Rattle.direct_proof.proofs.meeting.First.{all-down}
use Rattle.direct_proof.proofs.streams.changes.Stops.{StopsOne}
use Rattle.direct_proof.proofs.leaving.LeftWire.{every_up}

-- ---- every request is asked back

abbrev pub asked_all : Entry → Entry
asked_all e = record e { asked = true }

all-asked : (id : ℕ) (es : List Entry) → Each (IsAsked id) (map asked_all es)
all-asked id [] = tt
all-asked id (e ∷ es) = ((λ h. refl), all-asked id es)

pub asked-fits : (es : List Entry) (ps : List (ℕ × RedirPacket)) → CancelsFit (map asked_all es) ps []
asked-fits es [] = tt
asked-fits es (p ∷ ps) = ((λ h. all-asked p.0 es), go (begins p.1) (asked-fits es ps))
  where
    go : (b : Bool) → CancelsFit (map asked_all es) ps [] → CancelsFit (moved b (map asked_all es) []) ps (left b [])
    go true h = h
    go false h = h

-- ---- no stream

pub tagged-none : (bs : List Tagged) (ups : List (Option Up)) → Each (TaggedOfKind ups) bs → Each (TaggedOfKind no_streams) bs
tagged-none [] ups h = tt
tagged-none (b ∷ bs) ups h = (go b h.0, tagged-none bs ups h.1)
  where
    go : (b : Tagged) → TaggedOfKind ups b → TaggedOfKind no_streams b
    go (Answered c) k = k
    go (Packed x ep p) k = (k.0, k.1, k.2, subst (λ (o : Option Up). OfKind o x) (sym (all-down ep)) tt)
    go (Stated x id ep status) k = k
    go _ k = tt

pub kinds-none : (rs : List Running) → Each (λ (s : Running). OfKind (stream_of no_streams s.ep) s.kind) rs
kinds-none [] = tt
kinds-none (s ∷ rs) = (subst (λ (o : Option Up). OfKind o s.kind) (sym (all-down s.ep)) tt, kinds-none rs)

pub starts-down : (ps : List (ℕ × RedirPacket)) → Each (λ (p : ℕ × RedirPacket). StartOfKind no_streams (started_kind p.1)) ps
starts-down [] = tt
starts-down (p ∷ ps) = (go (started_kind p.1), starts-down ps)
  where
    go : (o : Option (StreamKind × ℕ)) → StartOfKind no_streams o
    go None = tt
    go (Some s) = subst (λ (o : Option Up). OfKind o s.0) (sym (all-down s.1)) tt

pub no-starts : (zs : List (ℕ × RedirPacket)) → Each (StopsOne every_up) zs → Each (λ (p : ℕ × RedirPacket). started_kind p.1 ≡ None) zs
no-starts [] h = tt
no-starts (z ∷ zs) h = (h.0.is.no_start, no-starts zs h.1)

-- ---- debts

abbrev pub by_id : Submission → Bool
by_id s = goes_by_id s.verdict

pub debts-again : (ss : List Submission) → debts_of (filter by_id ss) ≡ debts_of ss
debts-again [] = refl
debts-again (s ∷ ss) = go (by_id s) refl (debts-again ss)
  where
    debt : Submission → Debt
    debt x = record { id = x.id; load = load_of x }

    go : (b : Bool) → by_id s ≡ b → debts_of (filter by_id ss) ≡ debts_of ss → debts_of (cond b (s ∷ filter by_id ss) (filter by_id ss)) ≡ map debt (cond b (s ∷ filter by_id ss) (filter by_id ss))
    go true e ih = ap (λ (c : Bool). map debt (cond c (s ∷ filter by_id (filter by_id ss)) (filter by_id (filter by_id ss)))) e ∙ ap (λ (l : List Debt). debt s ∷ l) ih
    go false e ih = ih
