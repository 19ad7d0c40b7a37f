-- Cancels on the wire to the host still fit where it grows, and where what stands ahead of them changes.
use Rattle.std.proofs.Common.{◌≡◌, ℕ, Bool, true, false, List, [], ◌∷◌, ◌++◌, map, refl, sym, ap, ◌∙◌, subst, append-nil, append_assoc}
use Rattle.std.specs.List.{AllByRecursion as Each}
use Rattle.redir_data.specs.declared.packet.RedirPacket.{RedirPacket}
use Rattle.redir_host.specs.guest.Line.{Waiting as InLine, Reset}
use Rattle.direct_proof.specs.Requests.{Entry}
use Rattle.direct_proof.specs.Shared.{lines, half_line, at_hosts}
use Rattle.direct_proof.specs.Cancels.{begins, moved, left, IsAsked, CancelsFit}
use Rattle.direct_proof.proofs.shared.Folds.{Shape, shape, Next, next-line, none-half, no-second, Silent, Resets, Asking_for}

pub fits-append : (h : Bool) (ahead : List Entry) (ps qs : List (ℕ × RedirPacket)) (cs ds : List Entry) → half_line h ++ lines ps ≡ at_hosts cs → CancelsFit ahead ps cs → CancelsFit (ahead ++ cs) qs ds → CancelsFit ahead (ps ++ qs) (cs ++ ds)
fits-append h ahead [] qs cs ds e f k =
    subst (λ (l : List Entry). CancelsFit ahead qs (l ++ ds)) (sym none) (subst (λ (l : List Entry). CancelsFit l qs ds) (ap (λ (l : List Entry). ahead ++ l) none ∙ append-nil ahead) k)
  where
    none : cs ≡ []
    none = none-half h cs e
fits-append h ahead (p ∷ ps) qs cs ds e f k = (f.0, go (shape p) (λ x es ys. fits-append x es ps qs ys ds))
  where
    Rest : Type 0
    Rest = (x : Bool) (es ys : List Entry) → half_line x ++ lines ps ≡ at_hosts ys → CancelsFit es ps ys → CancelsFit (es ++ ys) qs ds → CancelsFit es (ps ++ qs) (ys ++ ds)

    go : Shape p → Rest → CancelsFit (moved (begins p.1) ahead (cs ++ ds)) (ps ++ qs) (left (begins p.1) (cs ++ ds))
    go (Silent l b) rest = subst (λ (x : Bool). CancelsFit (moved x ahead (cs ++ ds)) (ps ++ qs) (left x (cs ++ ds))) (sym b)
        (rest h ahead cs (ap (λ (x : List InLine). half_line h ++ (x ++ lines ps)) (sym l) ∙ e) (subst (λ (x : Bool). CancelsFit (moved x ahead cs) ps (left x cs)) b f.1) k)
    go (Resets is l b) rest = subst (λ (x : Bool). CancelsFit (moved x ahead (cs ++ ds)) (ps ++ qs) (left x (cs ++ ds))) (sym b)
        (by h (ap (λ (x : List InLine). half_line h ++ (x ++ lines ps)) (sym l) ∙ e))
      where
        by : (x : Bool) → half_line x ++ (Reset ∷ lines ps) ≡ at_hosts cs → CancelsFit ahead (ps ++ qs) (cs ++ ds)
        by true z = absurd (no-second cs (lines ps) z)
        by false z = rest true ahead cs z (subst (λ (x : Bool). CancelsFit (moved x ahead cs) ps (left x cs)) b f.1) k
    go (Asking_for g t l b) rest = subst (λ (x : Bool). CancelsFit (moved x ahead (cs ++ ds)) (ps ++ qs) (left x (cs ++ ds))) (sym b)
        (subst (λ (x : List Entry). CancelsFit (moved true ahead (x ++ ds)) (ps ++ qs) (left true (x ++ ds))) (sym n.is)
        (rest false (ahead ++ n.entry ∷ []) n.rest n.others
        (subst (λ (x : List Entry). CancelsFit (moved true ahead x) ps (left true x)) n.is (subst (λ (x : Bool). CancelsFit (moved x ahead cs) ps (left x cs)) b f.1))
        (subst (λ (x : List Entry). CancelsFit x qs ds) (ap (λ (x : List Entry). ahead ++ x) n.is ∙ sym (append_assoc ahead (n.entry ∷ []) n.rest)) k)))
      where
        n : Next h p.0 g t (lines ps) cs
        n = next-line h p.0 g t (lines ps) cs (ap (λ (x : List InLine). half_line h ++ (x ++ lines ps)) (sym l) ∙ e)

pub fits-nil : (h : Bool) (ahead : List Entry) (ps qs : List (ℕ × RedirPacket)) (cs : List Entry) → half_line h ++ lines ps ≡ at_hosts cs → CancelsFit ahead ps cs → CancelsFit (ahead ++ cs) qs [] → CancelsFit ahead (ps ++ qs) cs
fits-nil h ahead ps qs cs e f k = subst (CancelsFit ahead (ps ++ qs)) (append-nil cs) (fits-append h ahead ps qs cs [] e f k)

-- those ahead may be fewer, and may be asked back
pub fits-map : (g : Entry → Entry) → ((id : ℕ) (e : Entry) → IsAsked id e → IsAsked id (g e)) → (ahead : List Entry) (ps : List (ℕ × RedirPacket)) (cs : List Entry) → CancelsFit ahead ps cs → CancelsFit (map g ahead) ps (map g cs)
fits-map g ok ahead [] cs f = tt
fits-map g ok ahead (p ∷ ps) cs f = ((λ c. mapped ahead (f.0 c)), go (begins p.1) cs f.1 (λ es xs. fits-map g ok es ps xs))
  where
    mapped : (es : List Entry) → Each (IsAsked p.0) es → Each (IsAsked p.0) (map g es)
    mapped [] h = tt
    mapped (e ∷ es) h = (ok p.0 e h.0, mapped es h.1)

    joined : (es : List Entry) (c : Entry) → map g (es ++ c ∷ []) ≡ map g es ++ g c ∷ []
    joined [] c = refl
    joined (e ∷ es) c = ap (λ (l : List Entry). g e ∷ l) (joined es c)

    go : (b : Bool) (xs : List Entry) → CancelsFit (moved b ahead xs) ps (left b xs) → ((es ys : List Entry) → CancelsFit es ps ys → CancelsFit (map g es) ps (map g ys)) → CancelsFit (moved b (map g ahead) (map g xs)) ps (left b (map g xs))
    go false xs k rest = rest ahead xs k
    go true [] k rest = rest ahead [] k
    go true (c ∷ xs) k rest = subst (λ (l : List Entry). CancelsFit l ps (map g xs)) (joined ahead c) (rest (ahead ++ c ∷ []) xs k)

pub fits-each : (ahead fewer : List Entry) → ((P : Entry → Type 0) → Each P ahead → Each P fewer) → (ps : List (ℕ × RedirPacket)) (cs : List Entry) → CancelsFit ahead ps cs → CancelsFit fewer ps cs
fits-each ahead fewer ok [] cs f = tt
fits-each ahead fewer ok (p ∷ ps) cs f = ((λ c. ok (IsAsked p.0) (f.0 c)), go (begins p.1) cs f.1 (λ es es' z xs. fits-each es es' z ps xs))
  where
    front : (P : Entry → Type 0) (xs : List Entry) (c : Entry) → Each P (xs ++ c ∷ []) → Each P xs × P c
    front P [] c h = (tt, h.0)
    front P (x ∷ xs) c h = let r = front P xs c h.1 in ((h.0, r.0), r.1)

    last : (P : Entry → Type 0) (xs : List Entry) (c : Entry) → Each P xs → P c → Each P (xs ++ c ∷ [])
    last P [] c h k = (k, tt)
    last P (x ∷ xs) c h k = (h.0, last P xs c h.1 k)

    go : (b : Bool) (xs : List Entry) → CancelsFit (moved b ahead xs) ps (left b xs) → ((es es' : List Entry) → ((P : Entry → Type 0) → Each P es → Each P es') → (ys : List Entry) → CancelsFit es ps ys → CancelsFit es' ps ys) → CancelsFit (moved b fewer xs) ps (left b xs)
    go false xs k rest = rest ahead fewer ok xs k
    go true [] k rest = rest ahead fewer ok [] k
    go true (c ∷ xs) k rest = rest (ahead ++ c ∷ []) (fewer ++ c ∷ []) (λ P h. let r = front P ahead c h in last P fewer c (ok P r.0) r.1) xs k
