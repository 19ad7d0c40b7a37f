-- The device is taken away: its host tells of that, where it has sent its hello, and answers nothing any more.
use Rattle.std.proofs.Common.{◌≡◌, ℕ, ◌||◌, Bool, true, false, cond, List, [], ◌∷◌, ◌++◌, map, Option, Some, None, is_some, refl, sym, ap, ◌∙◌, subst, append-nil, inl, inr, ◌⊎◌, true≢false}
use Rattle.std.specs.List.{list_any, AllByRecursion as Each}
use Rattle.std.proofs.lemmas.Bool.{both_ways, or_left, or_parts}
use Rattle.std.proofs.lemmas.List.{map-append}
use Rattle.redir_wire.specs.declared.packet.RedirControl.TheVariants as plain
use Rattle.redir_data.specs.declared.packet.RedirPacket.{RedirPacket}
use Rattle.redir_data.specs.declared.packet.RedirPacket.TheVariants.{Plain}
use Rattle.model_device.specs.Meaning.{Meaning}
use Rattle.redir_host.specs.declared.state.host.Host.{Host}
use Rattle.redir_host.specs.step.Moves.{quiet as host_quiet}
use Rattle.gate_history.proofs.lemmas.Lists.{Each-append}
use Rattle.gate_history.specs.declared.facts.Facts.{Facts}
use Rattle.gate_history.specs.state.Ups.{Up, stream_of}
use Rattle.usb_base.specs.declared.endpoint.EpKind.{EpKind}
use Rattle.direct_run.specs.Moves.{World, Unplugs, move, quiet, host_made}
use Rattle.direct_proof.specs.Deeds.{as_deeds}
use Rattle.direct_proof.specs.Requests.{Coming, ran_of}
use Rattle.direct_proof.specs.Shared.{Shared, way_of, view}
use Rattle.direct_proof.specs.Tagged.{Tagged, Greeted, Bye, on_wire, runs_in, packets_in, told}
use Rattle.direct_proof.specs.Related.{Related}
use Rattle.direct_proof.specs.StreamIds.{statuses_on, StatusIsKept}
use Rattle.direct_proof.specs.Ids.{Ids}
use Rattle.direct_proof.specs.Kinds.{TaggedOfKind}
use Rattle.direct_proof.specs.Stale.{Clean, ends}
use Rattle.direct_proof.specs.Meets.{ByeLast, is_plug, is_greeting, is_bye}
use Rattle.direct_proof.specs.Session.{down_in, runs}
use Rattle.direct_proof.specs.Cancels.{any_change}
use Rattle.direct_proof.proofs.shared.WireBack.{runs_in-append, packets_in-append}
use Rattle.direct_proof.proofs.shared.Streaming.{controls-sent, fenced-sent}
use Rattle.direct_proof.proofs.shared.Backs.{told-append, clean-append}
use Rattle.direct_proof.proofs.performs.Flushes.{quits-low}
use Rattle.direct_proof.proofs.shared.Sending.{none-more, meets-sent}
use Rattle.direct_proof.proofs.shared.Keeps.{Keeps, keeps-quiet}

bye-behind : (bs : List Tagged) → list_any is_bye bs ≡ false → ByeLast (bs ++ Bye ∷ [])
bye-behind [] h = ((λ z. refl), tt)
bye-behind (b ∷ bs) h = let r = or_parts (is_bye b) (list_any is_bye bs) h in ((λ z. absurd (both_ways (is_bye b) r.0 z)), bye-behind bs r.1)

module _ {S : Type 0} (m : Meaning S) (w : World S) (j : Shared) (rel : Related m w j) (on : w.host.unplugged ≡ false) where
  abbrev gone_host : Host S
  gone_host = record w.host { queue = []; resets_next = false; running = []; unplugged = true }

  abbrev gone_world : List Tagged → World S
  gone_world cs = record w { host = gone_host; to_gate = w.to_gate ++ map on_wire cs }

  abbrev gone_shared : List Tagged → Shared
  gone_shared cs = record j { back = j.back ++ cs }

  -- with its farewell, or without where the hello wasn't read
  related : (cs : List Tagged) → runs_in cs ≡ [] → list_any is_greeting cs ≡ false → list_any is_plug cs ≡ false → Each (TaggedOfKind w.gate.streams) cs → Each (StatusIsKept w.gate.stream_ids) cs → statuses_on cs ≡ [] → ((f : Facts) → told f cs ≡ f) →
      ((fence : Option ℕ) (pending : Bool) → Clean fence (down_in w.gate.streams) pending cs) → ByeLast (j.back ++ cs) → (w.host.guest.first ≡ true → cs ≡ []) → Related m (gone_world cs) (gone_shared cs)
  related cs no_ran no_greeting no_plug tagged kept no_status no_fact clean bye_last early = record {
    line = record {
      held = refl;
      half = λ h. absurd (true≢false h);
      coming = rel.line.coming;
      loads = rel.line.loads;
      streams_in = rel.line.streams_in;
      cancels = rel.line.cancels;
      behind = rel.line.behind;
    };
    answers = ap (λ (l : List (ℕ × RedirPacket)). l ++ map on_wire cs) rel.answers ∙ sym (map-append on_wire j.back cs);
    tagged = Each-append (TaggedOfKind w.gate.streams) j.back cs rel.tagged tagged;
    ids = subst (Ids j.debts w.submits (j.held ++ j.coming)) (sym (runs_in-append j.back cs ∙ ap (λ (l : List Coming). runs_in j.back ++ l) no_ran ∙ append-nil (runs_in j.back))) rel.ids;
    real = rel.real;
    runs_at_in = tt;
    before = λ h. let e = rel.before h in record { back = same-back (early h) e.back; wire = e.wire; held = e.held; half = e.half; running = refl };
    asked = rel.asked;
    meets = let k = meets-sent w j cs no_greeting no_plug rel.meets in record {
      host = k.host;
      gate = k.gate;
      announced = λ h z. absurd (true≢false z);
      behind = k.behind;
      once = k.once;
      plugged = k.plugged;
      no_session = k.no_session;
    };
    debts = rel.debts;
    controls = λ h. controls-sent w.gate.stream_ids w.to_host j.back cs no_status kept (rel.controls h);
    fenced = λ h. fenced-sent w.gate.fence j.fenced w.to_host j.back cs no_status (rel.fenced h);
    alone = rel.alone;
    session = λ h a. let s = rel.session h (ap (λ (b : Bool). is_some w.gate.facts.connect || b) (sym (none-more is_plug j.back cs no_plug)) ∙ a) in record {
      table = ap (λ (f : Facts). f.table) (told-append w.gate.facts j.back cs ∙ no_fact (told w.gate.facts j.back)) ∙ s.table;
      faces = ap (λ (f : Facts). f.interfaces) (told-append w.gate.facts j.back cs ∙ no_fact (told w.gate.facts j.back)) ∙ s.faces;
      clean = clean-append w.gate.fence (down_in w.gate.streams) (any_change (j.held ++ j.coming) || j.fenced) (any_change (j.held ++ j.coming) || j.fenced) j.back cs
          (λ z. or_left (any_change (j.held ++ j.coming) || j.fenced) (list_any (ends w.gate.fence) cs) z) s.clean (clean w.gate.fence (any_change (j.held ++ j.coming) || j.fenced));
      quits = λ ep d. quits-low w.gate.fence ep (runs w.host ep) w.to_host (s.quits ep d);
      trails = s.trails;
      starts = s.starts;
      kinds = tt;
      start_kinds = s.start_kinds;
    };
    ups = rel.ups;
    down = rel.down;
    lost = λ h. absurd (both_ways w.host.unplugged on (rel.lost h).1);
    sides = rel.sides;
    farewell = record {
      still = λ h. refl;
      bye = λ h. absurd (true≢false h);
      bye_last = bye_last;
    };
  }
    where
      same-back : cs ≡ [] → (j.back ≡ Greeted ∷ []) ⊎ (j.back ≡ []) → (j.back ++ cs ≡ Greeted ∷ []) ⊎ (j.back ++ cs ≡ [])
      same-back none (inl e) = inl ((λ i. e i ++ none i))
      same-back none (inr e) = inr ((λ i. e i ++ none i))

  ways : (cs : List Tagged) → ((kind : EpKind) (ep : ℕ) → packets_in kind ep cs ≡ []) → (up : Option Up) (ep : ℕ) → way_of up ep (j.back ++ cs) ≡ way_of up ep j.back
  ways cs none None ep = refl
  ways cs none (Some up) ep = packets_in-append up.row.kind ep j.back cs ∙ ap (λ l. packets_in up.row.kind ep j.back ++ l) (none up.row.kind ep) ∙ append-nil (packets_in up.row.kind ep j.back)

  unplugs : Keeps m w j (move as_deeds m w Unplugs)
  unplugs = go w.host.guest.first refl
    where
      made : (b : Bool) → w.host.guest.first ≡ b → move as_deeds m w Unplugs ≡ quiet (gone_world (cond b [] (Bye ∷ [])))
      made b f = (λ i. host_made as_deeds w (cond (on i) (host_quiet w.host) (record { host = gone_host; sent = cond (f i) [] ((0, Plain plain.Disconnect) ∷ []); notes = [] })) []) ∙ spread b
        where
          spread : (x : Bool) → host_made as_deeds w (record { host = gone_host; sent = cond x [] ((0, Plain plain.Disconnect) ∷ []); notes = [] }) [] ≡ quiet (gone_world (cond x [] (Bye ∷ [])))
          spread true = refl
          spread false = refl

      go : (b : Bool) → w.host.guest.first ≡ b → Keeps m w j (move as_deeds m w Unplugs)
      go true f = keeps-quiet m w j (gone_shared []) (move as_deeds m w Unplugs) (gone_world []) (made true f)
          (related [] refl refl refl tt tt refl (λ x. refl) (λ fence p. tt) (subst ByeLast (sym (append-nil j.back)) rel.farewell.bye_last) (λ h. refl))
          (λ i. record (view w j) {
            ran = cond w.gate.sides.imported (map ran_of (runs_in (sym (append-nil j.back) i))) [];
            way = λ ep. way_of (stream_of w.gate.streams ep) ep (sym (append-nil j.back) i);
          })
      go false f = keeps-quiet m w j (gone_shared (Bye ∷ [])) (move as_deeds m w Unplugs) (gone_world (Bye ∷ [])) (made false f)
          (related (Bye ∷ []) refl refl refl (tt, tt) (tt, tt) refl (λ x. refl) (λ fence p. ((λ h. absurd (true≢false (sym h))), tt)) (bye-behind j.back (rel.farewell.bye on)) (λ h. absurd (both_ways w.host.guest.first f h)))
          (λ i. record (view w j) {
            ran = cond w.gate.sides.imported (map ran_of (sym (runs_in-append j.back (Bye ∷ []) ∙ append-nil (runs_in j.back)) i)) [];
            way = λ ep. sym (ways (Bye ∷ []) (λ kind k. refl) (stream_of w.gate.streams ep) ep) i;
          })

-- it may be gone already
pub keep-unplug : {S : Type 0} (m : Meaning S) (w : World S) (j : Shared) → Related m w j → Keeps m w j (move as_deeds m w Unplugs)
keep-unplug {S = S} m w j rel = go w.host.unplugged refl
  where
    go : (b : Bool) → w.host.unplugged ≡ b → Keeps m w j (move as_deeds m w Unplugs)
    go true off = keeps-quiet m w j j (move as_deeds m w Unplugs) (record w { to_gate = w.to_gate ++ [] }) (ap (λ (b : Bool). host_made as_deeds w (cond b (host_quiet w.host) (record { host = record w.host { queue = []; resets_next = false; running = []; unplugged = true }; sent = cond w.host.guest.first [] ((0, Plain plain.Disconnect) ∷ []); notes = [] })) []) off)
        (subst (λ (l : List (ℕ × RedirPacket)). Related m (record w { to_gate = l }) j) (sym (append-nil w.to_gate)) rel) refl
    go false on = unplugs m w j rel on
