-- What packets fill at the gateway is what they fill at the device attached directly.
use Rattle.std.proofs.Common.{◌≡◌, ℕ, ◌≤◌, ◌==◌, Bool, true, false, cond, List, [], ◌∷◌, ◌++◌, map, filter, Option, Some, None, is_none, refl, ap, ◌∙◌, arith}
use Rattle.std.specs.List.{flat_map, count_by, AllByRecursion as Each}
use Rattle.std.specs.Option.{option_map}
use Rattle.usbip_urb.specs.declared.packet.UrbPacket.{UrbPacket}
use Rattle.usb_base.specs.declared.transfer.StreamPacket.{StreamPacket}
use Rattle.stream_buffers.specs.Cuts.{Cut}
use Rattle.gate_history.specs.declared.request.Request.{Request}
use Rattle.gate_history.specs.host.Fillings.{Given, Fill, Filling, fill, filled_by, cut_of, given_to}
use Rattle.gate_history.specs.client.Submits.{Pending}
use Rattle.gate_history.specs.client.Ends.{End, ByPackets, waits_at, packets_end, answers_at}
use Rattle.gate_history.specs.write.Answers.{with_given}
use Rattle.gate_history.specs.write.Notes.{is_by_answer}
use Rattle.direct_device.specs.Direct.{Live}
use Rattle.direct_proof.specs.Requests.{live_of}
use Rattle.direct_proof.proofs.lists.Counts.{count-cons, zero-count, itself}
use Rattle.direct_proof.proofs.streams.fills.Filling.{Filled, fill_one, fill_by, fill_all, with_live, with_answer}
use Rattle.direct_proof.proofs.streams.fills.FillLists.{weight}

-- the requests of those that wait
abbrev pub asking_at : ℕ → List Pending → List Request
asking_at ep ps = map (λ (p : Pending). p.submit.request) (filter (λ (p : Pending). waits_at ep p.submit) ps)

abbrev pub ends_by : ℕ → List Filling → Pending → Option End
ends_by ep fs p = packets_end ep fs p.submit

abbrev pub has_seqnum : ℕ → Pending → Bool
has_seqnum n p = p.submit.request.seqnum == n

abbrev pub Differ : List Pending → Type 0
Differ ps = (n : ℕ) → count_by (has_seqnum n) ps ≤ 1

-- these fillings, of which these packets are left, are those of the device attached directly
pub record AreFills (ep : ℕ) (ps : List Pending) (f : Fill) (g : Filled) : Type 0 where
  pub left : f.left ≡ g.left
  pub live : map live_of (filter (λ p. is_none (ends_by ep f.fillings p)) ps) ≡ g.live
  pub outs : flat_map (λ (p : Pending). answers_at p.submit p.unlinker (ends_by ep f.fillings p)) ps ≡ map (λ (x : ℕ × UrbPacket). x.1) g.filled
  pub numbers : map (λ (p : Pending). p.submit.request.seqnum) (filter (λ p. is_by_answer (ends_by ep f.fillings p)) ps) ≡ map (λ (x : ℕ × UrbPacket). x.0) g.filled

no-end : (b : Bool) → cond b (option_map ByPackets None) None ≡ None
no-end true = refl
no-end false = refl

-- where nothing is filled
pub none-fill : (ep : ℕ) (ps : List Pending) (left : List StreamPacket) → AreFills ep ps (record { fillings = []; left = left }) (record { live = map live_of ps; filled = []; left = left })
none-fill ep [] left = record { left = refl; live = refl; outs = refl; numbers = refl }
none-fill ep (p ∷ ps) left =
    let r = none-fill ep ps left in
    let e = no-end (waits_at ep p.submit) in record {
      left = refl;
      live = (λ i. map live_of (cond (is_none (e i)) (p ∷ filter (λ q. is_none (ends_by ep [] q)) ps) (filter (λ q. is_none (ends_by ep [] q)) ps))) ∙ ap (λ (l : List Live). live_of p ∷ l) r.live;
      outs = (λ i. answers_at p.submit p.unlinker (e i) ++ flat_map (λ (q : Pending). answers_at q.submit q.unlinker (ends_by ep [] q)) ps) ∙ r.outs;
      numbers = (λ i. map (λ (q : Pending). q.submit.request.seqnum) (cond (is_by_answer (e i)) (p ∷ filter (λ q. is_by_answer (ends_by ep [] q)) ps) (filter (λ q. is_by_answer (ends_by ep [] q)) ps))) ∙ r.numbers;
    }

-- one in front that doesn't wait
skip-fill : (ep : ℕ) (p : Pending) (ps : List Pending) (f : Fill) (g : Filled) → waits_at ep p.submit ≡ false → AreFills ep ps f g → AreFills ep (p ∷ ps) f (with_live (live_of p) g)
skip-fill ep p ps f g h r = record {
  left = r.left;
  live = (λ i. map live_of (cond (is_none (e i)) (p ∷ filter (λ q. is_none (ends_by ep f.fillings q)) ps) (filter (λ q. is_none (ends_by ep f.fillings q)) ps))) ∙ ap (λ (l : List Live). live_of p ∷ l) r.live;
  outs = (λ i. answers_at p.submit p.unlinker (e i) ++ flat_map (λ (q : Pending). answers_at q.submit q.unlinker (ends_by ep f.fillings q)) ps) ∙ r.outs;
  numbers = (λ i. map (λ (q : Pending). q.submit.request.seqnum) (cond (is_by_answer (e i)) (p ∷ filter (λ q. is_by_answer (ends_by ep f.fillings q)) ps) (filter (λ q. is_by_answer (ends_by ep f.fillings q)) ps))) ∙ r.numbers;
}
  where
    e : ends_by ep f.fillings p ≡ None
    e = ap (λ (b : Bool). cond b (option_map ByPackets (given_to f.fillings p.submit.request.seqnum)) None) h

-- one in front that is filled
front-fill : (ep : ℕ) (p : Pending) (ps : List Pending) (given : Given) (f : Fill) (g : Filled) → waits_at ep p.submit ≡ true → Each (λ (q : Pending). has_seqnum p.submit.request.seqnum q ≡ false) ps → AreFills ep ps f g →
    AreFills ep (p ∷ ps) (record { fillings = record { seqnum = p.submit.request.seqnum; given = given } ∷ f.fillings; left = f.left }) (with_answer p.submit.request.seqnum (with_given p.submit.request given) g)
front-fill ep p ps given f g h others r = record {
  left = r.left;
  live = (λ i. map live_of (cond (is_none (e i)) (p ∷ filter (λ q. is_none (ends_by ep fs q)) ps) (filter (λ q. is_none (ends_by ep fs q)) ps))) ∙ ap (map live_of) (stay ps others) ∙ r.live;
  outs = (λ i. answers_at p.submit p.unlinker (e i) ++ gives ps others i) ∙ ap (λ (l : List UrbPacket). with_given p.submit.request given ∷ l) r.outs;
  numbers = (λ i. map (λ (q : Pending). q.submit.request.seqnum) (cond (is_by_answer (e i)) (p ∷ told ps others i) (told ps others i))) ∙ ap (λ (l : List ℕ). p.submit.request.seqnum ∷ l) r.numbers;
}
  where
    n : ℕ
    n = p.submit.request.seqnum

    fs : List Filling
    fs = record { seqnum = n; given = given } ∷ f.fillings

    e : ends_by ep fs p ≡ Some (ByPackets given)
    e = (λ i. cond (h i) (option_map ByPackets (cond (itself n i) (Some given) (given_to f.fillings n))) None)

    apart : (k : ℕ) → (k == n) ≡ false → (n == k) ≡ false
    apart k z = grind (arith, z)

    past : (q : Pending) → has_seqnum n q ≡ false → ends_by ep fs q ≡ ends_by ep f.fillings q
    past q z = ap (λ (b : Bool). cond (waits_at ep q.submit) (option_map ByPackets (cond b (Some given) (given_to f.fillings q.submit.request.seqnum))) None) (apart q.submit.request.seqnum z)

    stay : (qs : List Pending) → Each (λ (q : Pending). has_seqnum n q ≡ false) qs → filter (λ q. is_none (ends_by ep fs q)) qs ≡ filter (λ q. is_none (ends_by ep f.fillings q)) qs
    stay [] z = refl
    stay (q ∷ qs) z = λ i. cond (is_none (past q z.0 i)) (q ∷ stay qs z.1 i) (stay qs z.1 i)

    told : (qs : List Pending) → Each (λ (q : Pending). has_seqnum n q ≡ false) qs → filter (λ q. is_by_answer (ends_by ep fs q)) qs ≡ filter (λ q. is_by_answer (ends_by ep f.fillings q)) qs
    told [] z = refl
    told (q ∷ qs) z = λ i. cond (is_by_answer (past q z.0 i)) (q ∷ told qs z.1 i) (told qs z.1 i)

    gives : (qs : List Pending) → Each (λ (q : Pending). has_seqnum n q ≡ false) qs → flat_map (λ (q : Pending). answers_at q.submit q.unlinker (ends_by ep fs q)) qs ≡ flat_map (λ (q : Pending). answers_at q.submit q.unlinker (ends_by ep f.fillings q)) qs
    gives [] z = refl
    gives (q ∷ qs) z = λ i. answers_at q.submit q.unlinker (past q z.0 i) ++ gives qs z.1 i

pub are-fills : (max ep : ℕ) (ps : List Pending) (held : List StreamPacket) → Differ ps → AreFills ep ps (fill max (asking_at ep ps) held) (fill_all max ep (map live_of ps) held)
are-fills max ep [] held d = record { left = refl; live = refl; outs = refl; numbers = refl }
are-fills max ep (p ∷ ps) held d = go (waits_at ep p.submit) refl (λ left. are-fills max ep ps left rest)
  where
    rest : Differ ps
    rest n = let z = d n in omega (arith, z, count-cons (has_seqnum n) p ps)

    others : Each (λ (q : Pending). has_seqnum p.submit.request.seqnum q ≡ false) ps
    others = let z = d p.submit.request.seqnum in let w = ap weight (itself p.submit.request.seqnum) in zero-count (has_seqnum p.submit.request.seqnum) ps (omega (arith, z, w, count-cons (has_seqnum p.submit.request.seqnum) p ps))

    go : (b : Bool) → waits_at ep p.submit ≡ b → ((left : List StreamPacket) → AreFills ep ps (fill max (asking_at ep ps) left) (fill_all max ep (map live_of ps) left)) →
        AreFills ep (p ∷ ps) (fill max (map (λ (q : Pending). q.submit.request) (cond b (p ∷ filter (λ (q : Pending). waits_at ep q.submit) ps) (filter (λ (q : Pending). waits_at ep q.submit) ps))) held)
        (fill_one b max (live_of p) (map live_of ps) held (fill_all max ep (map live_of ps)))
    go false e ih = skip-fill ep p ps (fill max (asking_at ep ps) held) (fill_all max ep (map live_of ps) held) e (ih held)
    go true e ih = by (cut_of max p.submit.request held)
      where
        by : (o : Option (Cut Given)) → AreFills ep (p ∷ ps) (filled_by p.submit.request.seqnum held o (fill max (asking_at ep ps))) (fill_by (live_of p) (map live_of ps) held o (fill_all max ep (map live_of ps)))
        by None = none-fill ep (p ∷ ps) held
        by (Some cut) = front-fill ep p ps cut.gives (fill max (asking_at ep ps) cut.leaves) (fill_all max ep (map live_of ps) cut.leaves) e others (ih cut.leaves)
