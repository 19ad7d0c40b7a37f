-- The folds over the wires: how they grow at the end and lose their first, and what they say where no change is under
-- way.
use Rattle.std.proofs.Common.{◌≡◌, ℕ, ◌||◌, Bool, true, false, List, [], ◌∷◌, ◌++◌, Option, Some, None, refl, sym, ap, ◌∙◌, true≢false}
use Rattle.std.specs.List.{list_any, AllByRecursion as Each}
use Rattle.std.proofs.lemmas.List.Folds.{list_any-append}
use Rattle.std.proofs.lemmas.Bool.{both_ways, or_left, or_parts}
use Rattle.redir_data.specs.declared.packet.RedirPacket.{RedirPacket}
use Rattle.direct_proof.specs.Requests.{Entry}
use Rattle.direct_proof.specs.Tagged.{Tagged}
use Rattle.direct_proof.specs.Stale.{Clean, asks, ends, is_stale}
use Rattle.direct_proof.specs.Running.{Quits, Trails, runs_after, stream_endpoint, passes}
use Rattle.direct_proof.specs.Cancels.{CancelsFit, moved, left, begins, is_cancel}
use Rattle.direct_proof.proofs.streams.wires.Sorts.{runs-less, runs-same, is_for_endpoint}
use Rattle.direct_proof.proofs.lists.Counts.{list_any-same}

-- ---- tests

-- ---- what is stale

pub clean-weaker : (fence : Option ℕ) (down down' : ℕ → Bool) (p : Bool) → ((b : Tagged) → is_stale down' b ≡ true → is_stale down b ≡ true) → (bs : List Tagged) → Clean fence down p bs → Clean fence down' p bs
clean-weaker fence down down' p h [] c = tt
clean-weaker fence down down' p h (b ∷ bs) c = ((λ s. c.0 (h b s)), clean-weaker fence down down' p h bs c.1)

-- where no change is under way, nothing is stale
pub silent : (fence : Option ℕ) (down : ℕ → Bool) (bs : List Tagged) → Clean fence down false bs → list_any (ends fence) bs ≡ false → Each (λ b. is_stale down b ≡ false) bs
silent fence down [] c e = tt
silent fence down (b ∷ bs) c e = let parts = or_parts (ends fence b) (list_any (ends fence) bs) e in (go e (is_stale down b) refl, silent fence down bs c.1 parts.1)
  where
    go : list_any (ends fence) (b ∷ bs) ≡ false → (x : Bool) → is_stale down b ≡ x → x ≡ false
    go none true h = absurd (both_ways (list_any (ends fence) (b ∷ bs)) none (c.0 h))
    go none false h = refl

pub clean-fence : (a b : Option ℕ) (down : ℕ → Bool) (p : Bool) (bs : List Tagged) → Each (λ c. ends a c ≡ ends b c) bs → Clean a down p bs → Clean b down p bs
clean-fence a b down p [] h k = tt
clean-fence a b down p (c ∷ bs) h k = ((λ e. ap (λ (z : Bool). p || z) (sym (list_any-same (ends a) (ends b) (c ∷ bs) h)) ∙ k.0 e), clean-fence a b down p bs h.1 k.1)

-- ---- streams that run

pub quits-low : (fence : Option ℕ) (ep : ℕ) (ps : List (ℕ × RedirPacket)) → Quits fence ep true ps → Quits fence ep false ps
quits-low fence ep [] h = absurd (true≢false h)
quits-low fence ep (p ∷ ps) h = ((λ e. absurd (true≢false (sym e))), go (runs_after ep p.1 true) refl (runs_after ep p.1 false) refl (quits-low fence ep ps) h.1)
  where
    go : (a : Bool) → runs_after ep p.1 true ≡ a → (b : Bool) → runs_after ep p.1 false ≡ b → (Quits fence ep true ps → Quits fence ep false ps) → Quits fence ep a ps → Quits fence ep b ps
    go true x true y low k = k
    go true x false y low k = low k
    go false x false y low k = k
    go false x true y low k = absurd (both_ways (runs_after ep p.1 false) (runs-less ep p.1 x) y)

pub quits-off : (fence : Option ℕ) (ep : ℕ) (r : Bool) (ps : List (ℕ × RedirPacket)) → Quits fence ep r ps → Quits fence ep false ps
quits-off fence ep true ps h = quits-low fence ep ps h
quits-off fence ep false ps h = h

-- one packet more, of another endpoint
pub quits-more : (fence : Option ℕ) (ep : ℕ) (r : Bool) (ps : List (ℕ × RedirPacket)) (q : ℕ × RedirPacket) → is_for_endpoint ep (stream_endpoint q.1) ≡ false → Quits fence ep r ps → Quits fence ep r (ps ++ q ∷ [])
quits-more fence ep true [] q k h = absurd (true≢false h)
quits-more fence ep false [] q k h = ((λ e. absurd (true≢false (sym e))), runs-same ep q.1 false k)
quits-more fence ep r (p ∷ ps) q k h = (
  (λ e. list_any-append (asks fence) (p ∷ ps) (q ∷ []) ∙ or_left (list_any (asks fence) (p ∷ ps)) (list_any (asks fence) (q ∷ [])) (h.0 e)),
  quits-more fence ep (runs_after ep p.1 r) ps q k h.1,
)

pub quits-runs : (fence : Option ℕ) (ep : ℕ) (ps : List (ℕ × RedirPacket)) → Quits fence ep true ps → list_any (asks fence) ps ≡ true
quits-runs fence ep [] h = absurd (true≢false h)
quits-runs fence ep (p ∷ ps) h = h.0 refl

pub quits-fence : (a b : Option ℕ) (ep : ℕ) (r : Bool) (ps : List (ℕ × RedirPacket)) → Each (λ p. asks a p ≡ asks b p) ps → Quits a ep r ps → Quits b ep r ps
quits-fence a b ep r [] h k = k
quits-fence a b ep r (p ∷ ps) h k = ((λ e. sym (list_any-same (asks a) (asks b) (p ∷ ps) h) ∙ k.0 e), quits-fence a b ep (runs_after ep p.1 r) ps h.1 k.1)

-- ---- starts and stops of streams that are down

passes-less : (down down' : ℕ → Bool) → ((e : ℕ) → down' e ≡ true → down e ≡ true) → (o : Option ℕ) → passes down' o ≡ true → passes down o ≡ true
passes-less down down' h None k = absurd (true≢false (sym k))
passes-less down down' h (Some e) k = h e k

pub trails-weaker : (fence : Option ℕ) (down down' : ℕ → Bool) → ((e : ℕ) → down' e ≡ true → down e ≡ true) → (ps : List (ℕ × RedirPacket)) → Trails fence down ps → Trails fence down' ps
trails-weaker fence down down' w [] h = tt
trails-weaker fence down down' w (p ∷ ps) h = ((λ e. h.0 (passes-less down down' w (stream_endpoint p.1) e)), trails-weaker fence down down' w ps h.1)

pub trails-fence : (a b : Option ℕ) (down : ℕ → Bool) (ps : List (ℕ × RedirPacket)) → Each (λ p. asks a p ≡ asks b p) ps → Trails a down ps → Trails b down ps
trails-fence a b down [] h k = tt
trails-fence a b down (p ∷ ps) h k = ((λ e. sym (list_any-same (asks a) (asks b) (p ∷ ps) h) ∙ k.0 e), trails-fence a b down ps h.1 k.1)

pub no-trails : (fence : Option ℕ) (down : ℕ → Bool) (ps : List (ℕ × RedirPacket)) → list_any (asks fence) ps ≡ false → Trails fence down ps → Each (λ (p : ℕ × RedirPacket). passes down (stream_endpoint p.1) ≡ false) ps
no-trails fence down [] h k = tt
no-trails fence down (p ∷ ps) h k = (go (passes down (stream_endpoint p.1)) refl, no-trails fence down ps (or_parts (asks fence p) (list_any (asks fence) ps) h).1 k.1)
  where
    go : (b : Bool) → passes down (stream_endpoint p.1) ≡ b → b ≡ false
    go true e = absurd (both_ways (list_any (asks fence) (p ∷ ps)) h (k.0 e))
    go false e = refl

-- ---- starts

-- ---- cancels

pub cancels-more : (ahead : List Entry) (ps : List (ℕ × RedirPacket)) (q : ℕ × RedirPacket) (cs : List Entry) → is_cancel q.1 ≡ false → CancelsFit ahead ps cs → CancelsFit ahead (ps ++ q ∷ []) cs
cancels-more ahead [] q cs n h = ((λ e. absurd (both_ways (is_cancel q.1) n e)), tt)
cancels-more ahead (p ∷ ps) q cs n h = (h.0, cancels-more (moved (begins p.1) ahead cs) ps q (left (begins p.1) cs) n h.1)
