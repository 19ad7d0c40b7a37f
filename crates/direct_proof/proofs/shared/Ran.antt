-- What isn't a change is performed, or taken off the queue: it leaves, its answer is under way, and the facts stay.
use Rattle.std.proofs.Common.{◌≡◌, ℕ, ◌||◌, Bool, true, false, List, [], ◌∷◌, ◌++◌, Some, refl, sym, ap, ◌∙◌, subst, append_assoc, true≢false}
use Rattle.std.specs.List.{list_any, AllByRecursion as Each}
use Rattle.std.proofs.lemmas.Bool.{or_left}
use Rattle.usb_base.specs.Endpoint.{is_control}
use Rattle.usb_base.specs.declared.transfer.Outcome.{Outcome}
use Rattle.usb_base.specs.declared.endpoint.EpTable.{EpTable}
use Rattle.redir_wire.specs.EpTable.{table_of}
use Rattle.model_device.specs.Meaning.{Meaning}
use Rattle.model_device.specs.Gadget.{SameFacts}
use Rattle.redir_host.specs.device.Facts.{ep_info_of}
use Rattle.direct_run.specs.Moves.{World}
use Rattle.direct_run.specs.Packets.{both_caps}
use Rattle.direct_device.specs.Direct.{normal_of}
use Rattle.direct_proof.specs.Requests.{Entry, Coming}
use Rattle.direct_proof.specs.Shared.{Shared}
use Rattle.direct_proof.specs.Tagged.{Tagged, Answered, runs_in, told}
use Rattle.direct_proof.specs.Related.{Related}
use Rattle.direct_proof.specs.Session.{Session, down_in}
use Rattle.direct_proof.specs.Loads.{IsLoad, IsComing}
use Rattle.direct_proof.specs.Ids.{Ids}
use Rattle.direct_proof.specs.Cancels.{Behind, is_change, any_change}
use Rattle.direct_proof.specs.Stale.{ends}
use Rattle.direct_proof.specs.Running.{StartsFit}
use Rattle.direct_proof.proofs.shared.Owed.{each-parts, ids-perform}
use Rattle.direct_proof.proofs.shared.Backs.{told-append, clean-append}
use Rattle.direct_proof.proofs.shared.Sending.{after-host, sent_world, sent_shared, TellsLittle, answer-tells}

-- ---- one leaves

pub any-middle : {X : Type 0} (test : X → Bool) (xs : List X) (x : X) (ys : List X) → test x ≡ false → list_any test (xs ++ x ∷ ys) ≡ list_any test (xs ++ ys)
any-middle test [] x ys h = ap (λ (b : Bool). b || list_any test ys) h
any-middle test (z ∷ xs) x ys h = ap (λ (b : Bool). test z || b) (any-middle test xs x ys h)

pub behind-drop : (xs : List Entry) (x : Entry) (ys : List Entry) → Behind (xs ++ x ∷ ys) → Behind (xs ++ ys)
behind-drop [] x ys h = h.1
behind-drop (z ∷ xs) x ys h = ((λ c. (each-parts (λ (y : Entry). is_control (normal_of y.load).ep ≡ true) xs x ys (h.0 c)).1), behind-drop xs x ys h.1)

-- the moved parts of an entry that is held
pub record Held (j : Shared) (front : List Entry) (e : Entry) (back : List Entry) : Type 0 where
  pub is : j.held ≡ front ++ e ∷ back
  pub inside : j.held ++ j.coming ≡ front ++ e ∷ (back ++ j.coming)
  pub outside : front ++ (back ++ j.coming) ≡ (front ++ back) ++ j.coming

pub held-parts : (j : Shared) (front : List Entry) (e : Entry) (back : List Entry) → j.held ≡ front ++ e ∷ back → Held j front e back
held-parts j front e back is = record {
  is = is;
  inside = ap (λ (l : List Entry). l ++ j.coming) is ∙ append_assoc front (e ∷ back) j.coming;
  outside = sym (append_assoc front back j.coming);
}

abbrev pub coming_of : Entry → ℕ → Outcome → Coming
coming_of e configuration o = record { id = e.id; load = e.load; configuration = configuration; outcome = o }

-- one that isn't held early
pub greeted-held : {S : Type 0} (m : Meaning S) (w : World S) (j : Shared) (front : List Entry) (e : Entry) (back : List Entry) → Related m w j → j.held ≡ front ++ e ∷ back → (b : Bool) → w.host.guest.first ≡ b → b ≡ false
greeted-held m w j front e back rel is true h = absurd (some front (sym is ∙ (rel.before h).held))
  where
    some : (xs : List Entry) → xs ++ e ∷ back ≡ [] → ⊥
    some [] z = cc
    some (x ∷ xs) z = cc
greeted-held m w j front e back rel is false h = refl

pub after-ran : {S : Type 0} (m : Meaning S) (w : World S) (j : Shared) (front : List Entry) (e : Entry) (back : List Entry) (gadget : S) (configuration : ℕ) (o : Outcome) → Related m w j → w.host.unplugged ≡ false → Held j front e back → is_change e ≡ false → SameFacts m w.host.gadget gadget →
    IsComing (coming_of e configuration o) →
    Related m (sent_world w gadget (front ++ back) w.host.running (Answered (coming_of e configuration o) ∷ [])) (sent_shared j (front ++ back) (Answered (coming_of e configuration o) ∷ []))
after-ran {S = S} m w j front e back gadget configuration o rel plugged held plain same came =
    after-host m w j gadget (front ++ back) w.host.running cs rel plugged (greeted-held m w j front e back rel held.is w.host.guest.first refl) (tt, tt)
    (subst (Each (λ (x : Entry). IsLoad x.load)) held.outside (each-parts (λ (x : Entry). IsLoad x.load) front e (back ++ j.coming) (subst (Each (λ (x : Entry). IsLoad x.load)) held.inside rel.line.loads)).1)
    (came, tt)
    (subst (λ (l : List Entry). Ids j.debts w.submits l (runs_in j.back ++ c ∷ [])) held.outside
    (ids-perform j.debts w.submits front (back ++ j.coming) e (runs_in j.back) configuration o (subst (λ (l : List Entry). Ids j.debts w.submits l (runs_in j.back)) held.inside rel.ids)))
    (λ P h. (each-parts P front e back (subst (Each P) held.is h)).1)
    (subst Behind held.outside (behind-drop front e (back ++ j.coming) (subst Behind held.inside rel.line.behind)))
    session rel.runs_at_in
  where
    c : Coming
    c = coming_of e configuration o

    cs : List Tagged
    cs = Answered c ∷ []

    all-same : any_change (j.held ++ j.coming) ≡ any_change ((front ++ back) ++ j.coming)
    all-same = ap any_change held.inside ∙ any-middle is_change front e (back ++ j.coming) plain ∙ ap any_change held.outside

    held-same : any_change j.held ≡ any_change (front ++ back)
    held-same = ap any_change held.is ∙ any-middle is_change front e back plain

    tells : TellsLittle (told w.gate.facts j.back) (told w.gate.facts (j.back ++ cs))
    tells = subst (TellsLittle (told w.gate.facts j.back)) (sym (told-append w.gate.facts j.back cs)) (answer-tells (told w.gate.facts j.back) c)

    session : Session m w j → Session m (sent_world w gadget (front ++ back) w.host.running cs) (sent_shared j (front ++ back) cs)
    session s = record {
      table = tells.table ∙ s.table ∙ ap (λ (t : EpTable). table_of (ep_info_of both_caps t)) (sym same.table);
      faces = tells.interfaces ∙ s.faces ∙ ap Some (sym same.interfaces);
      clean = clean-append w.gate.fence (down_in w.gate.streams) (any_change (j.held ++ j.coming) || j.fenced) (any_change ((front ++ back) ++ j.coming) || j.fenced) j.back cs
          (λ z. or_left (any_change ((front ++ back) ++ j.coming) || j.fenced) (list_any (ends w.gate.fence) cs) (ap (λ (b : Bool). b || j.fenced) (sym all-same) ∙ z)) s.clean ((λ z. absurd (true≢false (sym z))), tt);
      quits = s.quits;
      trails = s.trails;
      starts = subst (λ (t : EpTable). StartsFit t (any_change (front ++ back) || j.half) w.to_host) (sym same.table) (subst (λ (b : Bool). StartsFit (m.table w.host.gadget) (b || j.half) w.to_host) held-same s.starts);
      kinds = s.kinds;
      start_kinds = s.start_kinds;
    }
