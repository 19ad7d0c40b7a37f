-- The present client is sent its replies, and then the answers that the device attached directly gives behind its
-- import.
use Rattle.std.proofs.Common.{◌≡◌, ◌||◌, Bool, true, false, cond, List, [], ◌∷◌, ◌++◌, map, refl, sym, ap, ◌∙◌, append-nil, append_assoc}
use Rattle.std.specs.List.{flat_map, list_any}
use Rattle.std.proofs.lemmas.Grind.{flat_map-append}
use Rattle.std.proofs.lemmas.List.Folds.{list_any-append}
use Rattle.std.proofs.lemmas.Bool.{or_right}
use Rattle.std.proofs.lemmas.List.{map-append}
use Rattle.usbip_op.specs.declared.packet.OpPacket.{OpPacket}
use Rattle.usbip_urb.specs.declared.client.ClientPacket.{ClientPacket}
use Rattle.usbip_urb.specs.declared.client.ClientPacket.TheVariants.{Op, Urb}
use Rattle.usbip_urb.specs.declared.packet.UrbPacket.{UrbPacket}
use Rattle.model_device.specs.Meaning.{Meaning}
use Rattle.gate_history.specs.client.Ends.{answers_at, ends}
use Rattle.gate_history.specs.step.Machine.{with_mark}
use Rattle.gate_history.specs.step.Marks.{Mark}
use Rattle.gate_history.specs.write.Output.{fresh, to_client}
use Rattle.gate_history.specs.state.Sides.{imports, leaves, refuses_client, ends_client}
use Rattle.gate_history.specs.state.Sound.{IsSound}
use Rattle.gate_history.specs.state.State.{State}
use Rattle.gate_history.specs.client.Submits.{opened}
use Rattle.direct_device.specs.Direct.{Direct}
use Rattle.direct_device.specs.Legal.{all_answers}
use Rattle.direct_proof.specs.Deeds.{deeds_of}
use Rattle.direct_proof.specs.Runs.{urb_in}
use Rattle.direct_proof.specs.Simulates.{is_import, since_import}
use Rattle.direct_proof.proofs.shared.Keeps.{urbs-mapped}
use Rattle.direct_proof.proofs.steps.Replying.{Replying}
use Rattle.direct_proof.proofs.steps.Since.{mark-imports, mark-since}

-- the packets of the present client, and what was answered since the last import: it has no answers before its own
pub record Begun (since : List UrbPacket) (st : State) (packets : List ClientPacket) : Type 0 where
  pub ops : List OpPacket
  pub urbs : List UrbPacket
  pub are : packets ≡ map Op ops ++ map Urb urbs
  pub none : st.sides.imported ≡ false → st.sides.client_over ≡ false → urbs ≡ []
  pub given : urbs ≡ cond (list_any is_import ops) since []
  pub inside : st.sides.imported ≡ true → list_any is_import ops ≡ true

no-urbs : (xs : List OpPacket) → flat_map urb_in (map Op xs) ≡ []
no-urbs [] = refl
no-urbs (x ∷ xs) = no-urbs xs

chosen : (b : Bool) (x y : List UrbPacket) → b ≡ true → cond b x y ≡ x
chosen b x y h = ap (λ (c : Bool). cond c x y) h

-- where nothing was answered, nothing more makes it so
nothing-more : (b : Bool) (x : List UrbPacket) → [] ≡ cond b x [] → [] ≡ cond b (x ++ []) []
nothing-more true x h = h ∙ sym (append-nil x)
nothing-more false x h = refl

module _ {S : Type 0} (n : Meaning S) (d : Direct S) (since : List UrbPacket) (st : State) (sound : IsSound st) (m : Mark) (packets : List ClientPacket) (r : Replying st m.what) (k : flat_map urb_in (to_client st m) ≡ all_answers n d (deeds_of st m)) (b : Begun since st packets) where
  abbrev told : List UrbPacket
  told = flat_map (λ p. answers_at p.submit p.unlinker (ends m.what p.submit)) (st.live ++ map fresh (opened m.what))

  abbrev later : List UrbPacket
  later = since_import n d since (deeds_of st m)

  out : to_client st m ≡ (map Op r.ops ++ map Urb r.urbs) ++ map Urb told
  out = ap (λ (l : List ClientPacket). l ++ map Urb told) r.said

  none-told : st.sides.imported ≡ false → told ≡ []
  none-told h = λ i. flat_map (λ p. answers_at p.submit p.unlinker (ends m.what p.submit)) (sound.gone h i ++ map fresh ((r.behind h).1 i))

  urbs-out : flat_map urb_in (to_client st m) ≡ r.urbs ++ told
  urbs-out =
      ap (flat_map urb_in) out
      ∙ flat_map-append urb_in (map Op r.ops ++ map Urb r.urbs) (map Urb told)
      ∙ (λ i. (flat_map-append urb_in (map Op r.ops) (map Urb r.urbs) ∙ (λ j. no-urbs r.ops j ++ urbs-mapped r.urbs j)) i ++ urbs-mapped told i)

  -- a client that has imported, and isn't over, hasn't left
  refused-over : (i g f l : Bool) → g ≡ false → cond i true (cond (g || f) false true) ≡ false → cond f true (cond g false l) ≡ false → ⊥
  refused-over true g f l e h z = cc
  refused-over false true f l e h z = cc
  refused-over false false true l e h z = cc
  refused-over false false false l e h z = cc

  over-on : (f g : Bool) → g ≡ false → cond f true (cond g false true) ≡ false → ⊥
  over-on true g e z = cc
  over-on false true e z = cc
  over-on false false e z = cc

  not-in : (i l : Bool) → i ≡ false → cond i true (cond l false false) ≡ true → ⊥
  not-in true l e h = cc
  not-in false true e h = cc
  not-in false false e h = cc

  no-ops : r.ops ≡ [] → imports m.what ≡ false
  no-ops h = sym r.success ∙ ap (list_any is_import) h

  begun-inside : st.sides.imported ≡ true → Begun later (with_mark st m) (packets ++ to_client st m)
  begun-inside h = record {
    ops = b.ops;
    urbs = b.urbs ++ (r.urbs ++ told);
    are = (λ i. b.are i ++ (out ∙ ap (λ (l : List OpPacket). (map Op l ++ map Urb r.urbs) ++ map Urb told) (r.before h) ∙ sym (map-append Urb r.urbs told)) i)
        ∙ append_assoc (map Op b.ops) (map Urb b.urbs) (map Urb (r.urbs ++ told))
        ∙ ap (λ (l : List ClientPacket). map Op b.ops ++ l) (sym (map-append Urb b.urbs (r.urbs ++ told)));
    none = λ i o. absurd (refused-over (imports m.what) (ends_client m.what) (refuses_client m.what) st.sides.client_over r.ends (ap (λ (x : Bool). cond (imports m.what) true (cond (leaves m.what) false x)) (sym h) ∙ i) o);
    given = (λ i. (b.given ∙ chosen (list_any is_import b.ops) since [] (b.inside h)) i ++ (sym urbs-out ∙ k) i)
        ∙ sym (mark-since st m n d since (no-ops (r.before h)))
        ∙ sym (chosen (list_any is_import b.ops) later [] (b.inside h));
    inside = λ i. b.inside h;
  }

  none-out : st.sides.imported ≡ false → all_answers n d (deeds_of st m) ≡ []
  none-out h = sym k ∙ urbs-out ∙ (λ i. (r.behind h).0 i ++ none-told h i)

  begun-outside : st.sides.imported ≡ false → b.urbs ≡ [] → Begun later (with_mark st m) (packets ++ to_client st m)
  begun-outside h nothing = record {
    ops = b.ops ++ r.ops;
    urbs = [];
    are = (λ i. (b.are ∙ ap (λ (l : List UrbPacket). map Op b.ops ++ map Urb l) nothing ∙ append-nil (map Op b.ops)) i ++ (out ∙ (λ z. (map Op r.ops ++ map Urb ((r.behind h).0 z)) ++ map Urb (none-told h z)) ∙ append-nil (map Op r.ops ++ []) ∙ append-nil (map Op r.ops)) i)
        ∙ sym (map-append Op b.ops r.ops) ∙ sym (append-nil (map Op (b.ops ++ r.ops)));
    none = λ i o. refl;
    given = by (imports m.what) refl;
    inside = λ i. list_any-append is_import b.ops r.ops ∙ or_right (list_any is_import b.ops) (list_any is_import r.ops) (r.success ∙ comes (imports m.what) refl i);
  }
    where
      comes : (x : Bool) → imports m.what ≡ x → (with_mark st m).sides.imported ≡ true → imports m.what ≡ true
      comes true e i = e
      comes false e i = absurd (not-in (imports m.what) (leaves m.what) e (ap (λ (z : Bool). cond (imports m.what) true (cond (leaves m.what) false z)) (sym h) ∙ i))

      by : (x : Bool) → imports m.what ≡ x → [] ≡ cond (list_any is_import (b.ops ++ r.ops)) later []
      by true e = sym (chosen (list_any is_import (b.ops ++ r.ops)) later [] (list_any-append is_import b.ops r.ops ∙ or_right (list_any is_import b.ops) (list_any is_import r.ops) (r.success ∙ e)) ∙ mark-imports st m n d since e ∙ none-out h)
      by false e =
          nothing-more (list_any is_import b.ops) since (sym nothing ∙ b.given)
          ∙ (λ i. cond (sym same i) (since ++ sym (none-out h) i) [])
          ∙ ap (λ (l : List UrbPacket). cond (list_any is_import (b.ops ++ r.ops)) l []) (sym (mark-since st m n d since e))
        where
          or-none : (a c : Bool) → c ≡ false → (a || c) ≡ a
          or-none true c z = refl
          or-none false c z = z

          same : list_any is_import (b.ops ++ r.ops) ≡ list_any is_import b.ops
          same = list_any-append is_import b.ops r.ops ∙ or-none (list_any is_import b.ops) (list_any is_import r.ops) (r.success ∙ e)

  begun-over : st.sides.imported ≡ false → st.sides.client_over ≡ true → Begun later (with_mark st m) (packets ++ to_client st m)
  begun-over h over = record {
    ops = b.ops;
    urbs = b.urbs;
    are = (λ i. b.are i ++ (out ∙ (λ z. (map Op (r.on over z) ++ map Urb ((r.behind h).0 z)) ++ map Urb (none-told h z))) i) ∙ append-nil (map Op b.ops ++ map Urb b.urbs);
    none = λ i o. absurd (over-on (refuses_client m.what) (ends_client m.what) r.ends (ap (λ (x : Bool). cond (refuses_client m.what) true (cond (ends_client m.what) false x)) (sym over) ∙ o));
    given = b.given ∙ ap (λ (l : List UrbPacket). cond (list_any is_import b.ops) l []) (sym (mark-since st m n d since (no-ops (r.on over)) ∙ ap (λ (l : List UrbPacket). since ++ l) (none-out h) ∙ append-nil since));
    inside = λ i. absurd (not-in (imports m.what) (leaves m.what) (no-ops (r.on over)) (ap (λ (z : Bool). cond (imports m.what) true (cond (leaves m.what) false z)) (sym h) ∙ i));
  }

  pub begun-mark : Begun later (with_mark st m) (packets ++ to_client st m)
  begun-mark = go st.sides.imported st.sides.client_over refl refl
    where
      go : (i o : Bool) → st.sides.imported ≡ i → st.sides.client_over ≡ o → Begun later (with_mark st m) (packets ++ to_client st m)
      go true o h z = begun-inside h
      go false true h z = begun-over h z
      go false false h z = begun-outside h (b.none h z)
