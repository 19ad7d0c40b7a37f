-- The two meet: from the first world on, the hellos are read, and the gateway is told of the device.
use Rattle.std.proofs.Common.{◌≡◌, ℕ, ◌||◌, Bool, true, false, cond, List, [], ◌∷◌, ◌++◌, map, Option, Some, None, is_some, refl, sym, ap, ◌∙◌, subst, append-nil, inl, inr, ◌⊎◌, true≢false}
use Rattle.std.specs.List.{list_any, AllByRecursion as Each}
use Rattle.std.proofs.lemmas.Bool.{both_ways, or_right}
use Rattle.std.proofs.lemmas.List.Folds.{list_any-append}
use Rattle.std.proofs.lemmas.List.{map-append}
use Rattle.redir_wire.specs.State.{later}
use Rattle.redir_data.specs.declared.packet.RedirPacket.{RedirPacket}
use Rattle.model_device.specs.Meaning.{Meaning}
use Rattle.redir_host.specs.declared.state.host.Host.{Host}
use Rattle.redir_host.specs.declared.state.running.Running.{Running}
use Rattle.redir_host.specs.step.Moves.{quiet as host_quiet}
use Rattle.redir_host.specs.guest.Packets.{greets, runs_at}
use Rattle.gate_history.proofs.lemmas.Lists.{Each-append}
use Rattle.gate_history.specs.write.Bytes.{gateway_hello}
use Rattle.gate_history.specs.declared.facts.Facts.{Facts}
use Rattle.gate_history.specs.state.Ups.{Up, stream_of}
use Rattle.direct_run.specs.Moves.{World, HostReads, move, host_reads, host_takes}
use Rattle.direct_run.specs.Packets.{both_caps}
use Rattle.direct_proof.specs.Deeds.{as_deeds}
use Rattle.direct_proof.specs.Requests.{Coming, ran_of}
use Rattle.direct_proof.specs.Shared.{Shared, lines, half_line, at_hosts, way_of, view}
use Rattle.direct_proof.specs.Tagged.{Tagged, Greeted, Plugged, ToldTable, ToldFaces, on_wire, runs_in, packets_in}
use Rattle.direct_proof.specs.Related.{Related}
use Rattle.direct_proof.specs.Session.{Session, down_in}
use Rattle.direct_proof.specs.Meets.{Early, PlugOnce, is_announced, is_plug, is_greeting, is_bye, ByeLast}
use Rattle.direct_proof.specs.Ids.{Ids}
use Rattle.direct_proof.specs.Kinds.{TaggedOfKind, OfKind}
use Rattle.direct_proof.specs.Stale.{Clean}
use Rattle.direct_proof.specs.Cancels.{any_change}
use Rattle.direct_proof.specs.StreamIds.{Controls, Fenced, StatusIsKept, statuses_on}
use Rattle.direct_proof.proofs.shared.WireBack.{runs_in-append, packets_in-append}
use Rattle.direct_proof.proofs.shared.Streaming.{controls-heard, fenced-heard, controls-sent, fenced-sent}
use Rattle.direct_proof.proofs.shared.Backs.{told-append}
use Rattle.direct_proof.proofs.shared.Sending.{no-bye, none-more}
use Rattle.direct_proof.proofs.shared.Keeps.{Keeps, keeps-quiet}

-- ---- the host reads the gateway's hello

abbrev pub introduction : {S : Type 0} → Meaning S → S → List Tagged
introduction m s = ToldTable (m.table s) ∷ ToldFaces (m.interfaces s) ∷ Plugged m.identity ∷ []

pub keep-hello : {S : Type 0} (m : Meaning S) (w : World S) (j : Shared) → Related m w j → w.host.guest.first ≡ true → Keeps m w j (move as_deeds m w HostReads)
keep-hello {S = S} m w j rel fresh = go w.host.unplugged refl
  where
    early : Early w j
    early = rel.before fresh

    g : Host S
    g = record w.host { guest = later both_caps }

    unknown : is_announced w j ≡ true → ⊥
    unknown h = by (is_some w.gate.facts.connect) refl h
      where
        by : (b : Bool) → is_some w.gate.facts.connect ≡ b → (b || list_any is_plug j.back) ≡ true → ⊥
        by true e k = both_ways w.host.guest.first (rel.meets.behind e).2 fresh
        by false e k = both_ways w.host.guest.first (rel.meets.plugged k) fresh

    coming : half_line j.half ++ lines [] ≡ at_hosts j.coming
    coming = ap (λ l. half_line j.half ++ lines l) (sym early.wire) ∙ rel.line.coming

    after : (cs : List Tagged) → (w.host.unplugged ≡ true → cs ≡ []) → runs_in cs ≡ [] → Each (TaggedOfKind w.gate.streams) cs → Each (StatusIsKept w.gate.stream_ids) cs → statuses_on cs ≡ [] → list_any is_greeting cs ≡ false → list_any is_bye cs ≡ false → PlugOnce (j.back ++ cs) → (w.host.unplugged ≡ false → list_any is_plug cs ≡ true) →
        (is_announced w (record j { back = j.back ++ cs }) ≡ true → Session m (record w { to_host = []; host = g; to_gate = w.to_gate ++ map on_wire cs }) (record j { back = j.back ++ cs })) →
        Related m (record w { to_host = []; host = g; to_gate = w.to_gate ++ map on_wire cs }) (record j { back = j.back ++ cs })
    after cs off no_ran tagged kept no_status no_greeting no_end once plugs session = record {
      line = record {
        held = rel.line.held;
        half = rel.line.half;
        coming = coming;
        loads = rel.line.loads;
        streams_in = tt;
        cancels = tt;
        behind = rel.line.behind;
      };
      answers = ap (λ (l : List (ℕ × RedirPacket)). l ++ map on_wire cs) rel.answers ∙ sym (map-append on_wire j.back cs);
      tagged = Each-append (TaggedOfKind w.gate.streams) j.back cs rel.tagged tagged;
      ids = subst (Ids j.debts w.submits (j.held ++ j.coming)) (sym (runs_in-append j.back cs ∙ ap (λ (l : List Coming). runs_in j.back ++ l) no_ran ∙ append-nil (runs_in j.back))) rel.ids;
      real = rel.real;
      runs_at_in = rel.runs_at_in;
      before = λ h. absurd (true≢false (sym h));
      asked = λ h. tt;
      meets = record {
        host = λ h. refl;
        gate = λ h. rel.meets.gate (sym (none-more is_greeting j.back cs no_greeting) ∙ h);
        announced = λ h k. or_right (is_some w.gate.facts.connect) (list_any is_plug (j.back ++ cs)) (list_any-append is_plug j.back cs ∙ or_right (list_any is_plug j.back) (list_any is_plug cs) (plugs k));
        behind = λ h. absurd (both_ways w.host.guest.first (rel.meets.behind h).2 fresh);
        once = once;
        plugged = λ h. refl;
        no_session = rel.meets.no_session;
      };
      debts = rel.debts;
      controls = λ h. controls-sent w.gate.stream_ids [] j.back cs no_status kept (controls-heard w.gate.stream_ids (0, gateway_hello) [] j.back (subst (λ l. Controls w.gate.stream_ids l j.back) early.wire (rel.controls h)));
      fenced = λ h. fenced-sent w.gate.fence j.fenced [] j.back cs no_status (fenced-heard w.gate.fence j.fenced (0, gateway_hello) [] j.back (subst (λ l. Fenced w.gate.fence j.fenced l j.back) early.wire (rel.fenced h)));
      alone = rel.alone;
      session = λ h a. session a;
      ups = rel.ups;
      down = rel.down;
      lost = λ h. let l = rel.lost h in (ap (λ bs. bs ++ cs) l.0 ∙ off l.1, l.1, l.2, l.3, l.4);
      sides = rel.sides;
      farewell = record {
        still = rel.farewell.still;
        bye = λ h. none-more is_bye j.back cs no_end ∙ rel.farewell.bye h;
        bye_last = last w.host.unplugged refl;
      };
    }
      where
        last : (b : Bool) → w.host.unplugged ≡ b → ByeLast (j.back ++ cs)
        last true u = subst (λ bs. ByeLast (j.back ++ bs)) (sym (off u)) (subst ByeLast (sym (append-nil j.back)) rel.farewell.bye_last)
        last false u = no-bye (j.back ++ cs) (none-more is_bye j.back cs no_end ∙ rel.farewell.bye u)

    go : (b : Bool) → w.host.unplugged ≡ b → Keeps m w j (move as_deeds m w HostReads)
    go true off = keeps-quiet m w j (record j { back = j.back ++ [] }) (move as_deeds m w HostReads) (record w { to_host = []; host = g; to_gate = w.to_gate ++ [] })
        (ap (host_reads as_deeds m w) early.wire ∙ ap (host_takes as_deeds (record w { to_host = [] })) (ap (λ (b : Bool). cond b (host_quiet g) (greets m g)) off))
        (after [] (λ h. refl) refl tt tt refl refl refl (subst PlugOnce (sym (append-nil j.back)) rel.meets.once) (λ k. absurd (both_ways w.host.unplugged k off)) (λ a. absurd (unknown (ap (λ bs. is_some w.gate.facts.connect || list_any is_plug bs) (sym (append-nil j.back)) ∙ a))))
        (λ i. record (view w j) {
          ran = cond w.gate.sides.imported (map ran_of (runs_in (sym (append-nil j.back) i))) [];
          way = λ ep. way_of (stream_of w.gate.streams ep) ep (sym (append-nil j.back) i);
        })
    go false on = keeps-quiet m w j (record j { back = j.back ++ cs }) (move as_deeds m w HostReads) (record w { to_host = []; host = g; to_gate = w.to_gate ++ map on_wire cs })
        (ap (host_reads as_deeds m w) early.wire ∙ ap (host_takes as_deeds (record w { to_host = [] })) (ap (λ (b : Bool). cond b (host_quiet g) (greets m g)) on))
        (after cs (λ h. absurd (both_ways w.host.unplugged on h)) refl (tt, (tt, (tt, tt))) (tt, (tt, (tt, tt))) refl refl refl (order j.back early.back) (λ k. refl) (λ a. session))
        (λ i. record (view w j) {
          ran = cond w.gate.sides.imported (map ran_of (sym (runs_in-append j.back cs ∙ append-nil (runs_in j.back)) i)) [];
          way = λ ep. sym (ways (stream_of w.gate.streams ep) ep) i;
        })
      where
        cs : List Tagged
        cs = introduction m w.host.gadget

        ways : (up : Option Up) (ep : ℕ) → way_of up ep (j.back ++ cs) ≡ way_of up ep j.back
        ways None ep = refl
        ways (Some up) ep = packets_in-append up.row.kind ep j.back cs ∙ append-nil (packets_in up.row.kind ep j.back)

        plug : PlugOnce cs
        plug = ((λ h. absurd (true≢false (sym h))), ((λ h. absurd (true≢false (sym h))), ((λ h. (refl, refl)), tt)))

        order : (bs : List Tagged) → (bs ≡ Greeted ∷ []) ⊎ (bs ≡ []) → PlugOnce (bs ++ cs)
        order bs (inl e) = subst (λ l. PlugOnce (l ++ cs)) (sym e) ((λ h. absurd (true≢false (sym h))), plug)
        order bs (inr e) = subst (λ l. PlugOnce (l ++ cs)) (sym e) plug

        pending : Bool
        pending = any_change (j.held ++ j.coming) || j.fenced

        clean-cs : Clean w.gate.fence (down_in w.gate.streams) pending cs
        clean-cs = ((λ h. or_right pending true refl), ((λ h. or_right pending true refl), ((λ h. absurd (true≢false (sym h))), tt)))

        clean : (bs : List Tagged) → (bs ≡ Greeted ∷ []) ⊎ (bs ≡ []) → Clean w.gate.fence (down_in w.gate.streams) pending (bs ++ cs)
        clean bs (inl e) = subst (λ l. Clean w.gate.fence (down_in w.gate.streams) pending (l ++ cs)) (sym e) ((λ h. absurd (true≢false (sym h))), clean-cs)
        clean bs (inr e) = subst (λ l. Clean w.gate.fence (down_in w.gate.streams) pending (l ++ cs)) (sym e) clean-cs

        session : Session m (record w { to_host = []; host = g; to_gate = w.to_gate ++ map on_wire cs }) (record j { back = j.back ++ cs })
        session = record {
          table = ap (λ (f : Facts). f.table) (told-append w.gate.facts j.back cs);
          faces = ap (λ (f : Facts). f.interfaces) (told-append w.gate.facts j.back cs);
          clean = clean j.back early.back;
          quits = λ ep d. ap (list_any (runs_at ep)) early.running;
          trails = tt;
          starts = tt;
          kinds = subst (Each (λ (s : Running). OfKind (stream_of w.gate.streams s.ep) s.kind)) (sym early.running) tt;
          start_kinds = tt;
        }
