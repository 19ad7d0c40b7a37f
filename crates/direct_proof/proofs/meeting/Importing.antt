-- A client lists or imports the device: it gets a reply, and with a success the session begins.
use Rattle.std.proofs.Common.{◌≡◌, ℕ, suc, ◌&&◌, Bool, true, false, cond, List, [], ◌∷◌, ◌++◌, map, filter, Option, Some, None, is_some, is_none, refl, sym, ap, ◌∙◌, subst, arith, append-nil, true≢false}
use Rattle.std.specs.List.{flat_map, count_by}
use Rattle.std.proofs.lemmas.Bool.{both_ways, and_parts}
use Rattle.usb_base.specs.declared.side.Side.TheVariants.{Client}
use Rattle.usb_base.specs.declared.reason.Reason.TheVariants.{AlreadyImported}
use Rattle.usb_base.specs.Lists.{is_empty}
use Rattle.usbip_op.specs.declared.packet.OpPacket.{OpPacket}
use Rattle.usbip_op.specs.declared.packet.OpPacket.TheVariants as op
use Rattle.usbip_urb.specs.declared.client.ClientPacket.TheVariants.{Op, Urb}
use Rattle.redir_wire.specs.declared.packet.Connect.{Connect}
use Rattle.redir_data.specs.declared.packet.RedirPacket.{RedirPacket}
use Rattle.model_device.specs.Meaning.{Meaning}
use Rattle.gate_history.specs.declared.item.Item.TheVariants.{Asked}
use Rattle.gate_history.specs.step.Marks.{Replies, Imports}
use Rattle.gate_history.specs.client.Submits.{Pending}
use Rattle.gate_history.specs.client.Ends.{ends}
use Rattle.gate_history.specs.client.Replies.{list_reply, import_reply, failed_import, is_exported}
use Rattle.gate_history.specs.write.Output.{present}
use Rattle.gate_history.specs.state.State.{State}
use Rattle.gate_history.specs.state.Sound.{IsSound}
use Rattle.gate_history.specs.step.Machine.{live_after}
use Rattle.gate_history.specs.step.Meaning.{mark_as, mark_of, refused, importable, imported_as}
use Rattle.gate_history.specs.declared.note.Note.TheVariants as note
use Rattle.gate_history.proofs.lemmas.Lists.{filter-all, filter-none, flat_map-none}
use Rattle.gate_history.proofs.lemmas.step.NoCancel.{asks-none, none-cancelled, stays-uncancelled}
use Rattle.direct_run.specs.Noted.{named}
use Rattle.direct_run.specs.Moves.{World, ByClient, Made, move, quiet, gate_made}
use Rattle.direct_device.specs.Acting.{Deed, Import, Answer}
use Rattle.direct_proof.specs.Deeds.{as_deeds}
use Rattle.direct_proof.specs.Requests.{Debt, at_device, ran_of, debts_of}
use Rattle.direct_proof.specs.Shared.{Shared, view}
use Rattle.direct_proof.specs.Tagged.{runs_in}
use Rattle.direct_proof.specs.Related.{Related}
use Rattle.direct_proof.proofs.lists.Counts.{count-cons}
use Rattle.direct_proof.proofs.shared.Sending.{meets-client}
use Rattle.direct_proof.proofs.shared.Keeps.{Keeps, keeps-quiet, keeps-replied, not-gone}
use Rattle.direct_proof.proofs.shared.Counted.{replied_world, replied-related}

-- ---- a reply

replied-made : {S : Type 0} (w : World S) (reply : OpPacket) → gate_made as_deeds w (mark_as w.gate (Replies reply) None) ≡ record { world = replied_world w; outs = Op reply ∷ []; told = [] }
replied-made {S = S} w reply = λ i. record {
  world = record w {
    gate = record st { items = suc st.items; live = live i; abandoned = filter-all st.abandoned i };
    to_host = (ap (λ (l : List (ℕ × RedirPacket)). w.to_host ++ ((l ++ []) ++ [])) (none-cancelled (Replies reply) stays-uncancelled st.live) ∙ append-nil w.to_host) i;
    submits = (ap (λ (ps : List Pending). w.submits ++ flat_map named (((map (λ (p : Pending). note.Answered p.submit.request.seqnum) ps ++ []) ++ []) ++ [])) (filter-none (present st (Replies reply))) ∙ append-nil w.submits) i;
  };
  outs = Op reply ∷ map Urb (flat_map-none (present st (Replies reply)) i);
  told = (ap (λ (ps : List Pending). (map (λ (p : Pending). Answer p.submit.request.seqnum) ps ++ []) ++ []) (filter-none (present st (Replies reply)))) i;
}
  where
    st : State
    st = w.gate

    live : live_after st (Replies reply) ≡ st.live
    live = asks-none (Replies reply) (λ s. refl) (filter (λ p. is_none (ends (Replies reply) p.submit)) (present st (Replies reply))) ∙ filter-all (present st (Replies reply)) ∙ append-nil st.live

pub keep-list : {S : Type 0} (m : Meaning S) (w : World S) (j : Shared) (place status : ℕ) → Related m w j → IsSound w.gate → w.gate.sides.imported ≡ false → Keeps m w j (move as_deeds m w (ByClient (Asked place (Op (op.ReqDevlist status)))))
keep-list {S = S} m w j place status rel sound out = go w.gate.sides.client_over refl
  where
    made : Made S Deed
    made = move as_deeds m w (ByClient (Asked place (Op (op.ReqDevlist status))))

    go : (b : Bool) → w.gate.sides.client_over ≡ b → Keeps m w j made
    go true over = keeps-quiet m w j j made w (ap (λ (b : Bool). cond b (quiet w) (gate_made as_deeds w (mark_of w.gate (Asked place (Op (op.ReqDevlist status)))))) over) rel refl
    go false on = keeps-replied m w j j made (replied_world w) (list_reply w.gate.facts)
        ((λ i. cond (on i) (quiet w) (gate_made as_deeds w (mark_as w.gate (cond (out i) (refused Client place AlreadyImported) (Replies (list_reply w.gate.facts))) None))) ∙ replied-made w (list_reply w.gate.facts))
        (replied-related m w j rel) refl

-- ---- an import

abbrev pub imported_world : {S : Type 0} → World S → World S
imported_world w = record w { gate = record w.gate { items = suc w.gate.items; sides = record w.gate.sides { imported = true; lost = false } } }

imported-made : {S : Type 0} (w : World S) (reply : OpPacket) → gate_made as_deeds w (mark_as w.gate (Imports reply) None) ≡ record { world = imported_world w; outs = Op reply ∷ []; told = Import ∷ [] }
imported-made {S = S} w reply = λ i. record {
  world = record w {
    gate = record st { items = suc st.items; sides = record st.sides { imported = true; lost = false }; live = live i; abandoned = filter-all st.abandoned i };
    to_host = (ap (λ (l : List (ℕ × RedirPacket)). w.to_host ++ ((l ++ []) ++ [])) (none-cancelled (Imports reply) stays-uncancelled st.live) ∙ append-nil w.to_host) i;
    submits = (ap (λ (ps : List Pending). w.submits ++ flat_map named (((((note.Imported ∷ []) ++ map (λ (p : Pending). note.Answered p.submit.request.seqnum) ps) ++ []) ++ []) ++ [])) (filter-none (present st (Imports reply))) ∙ append-nil w.submits) i;
  };
  outs = Op reply ∷ map Urb (flat_map-none (present st (Imports reply)) i);
  told = (ap (λ (ps : List Pending). (((Import ∷ []) ++ map (λ (p : Pending). Answer p.submit.request.seqnum) ps) ++ []) ++ []) (filter-none (present st (Imports reply)))) i;
}
  where
    st : State
    st = w.gate

    live : live_after st (Imports reply) ≡ st.live
    live = asks-none (Imports reply) (λ s. refl) (filter (λ p. is_none (ends (Imports reply) p.submit)) (present st (Imports reply))) ∙ filter-all (present st (Imports reply)) ∙ append-nil st.live

count-all : {X : Type 0} (xs : List X) → count_by (λ x. true) xs ≡ 0 → xs ≡ []
count-all [] h = refl
count-all (x ∷ xs) h = absurd (omega (arith, h, count-cons (λ x. true) x xs))

pub keep-import : {S : Type 0} (m : Meaning S) (w : World S) (j : Shared) (place status : ℕ) (busid : List ℕ) → Related m w j → IsSound w.gate → w.gate.sides.imported ≡ false → Keeps m w j (move as_deeds m w (ByClient (Asked place (Op (op.ReqImport status busid)))))
keep-import {S = S} m w j place status busid rel sound out = go w.gate.sides.client_over refl
  where
    st : State
    st = w.gate

    made : Made S Deed
    made = move as_deeds m w (ByClient (Asked place (Op (op.ReqImport status busid))))

    moved : st.sides.client_over ≡ false → (o : Option Connect) → importable st busid ≡ o → made ≡ gate_made as_deeds w (mark_as st (imported_as st o) None)
    moved on o e = λ i. cond (on i) (quiet w) (gate_made as_deeds w (mark_as st (cond (out i) (refused Client place AlreadyImported) (imported_as st (e i))) None))

    fails : st.sides.client_over ≡ false → importable st busid ≡ None → Keeps m w j made
    fails on e = keeps-replied m w j j made (replied_world w) failed_import (moved on None e ∙ replied-made w failed_import) (replied-related m w j rel) refl

    none-is : {X : Type 0} (xs : List X) → is_empty xs ≡ true → xs ≡ []
    none-is [] h = refl
    none-is (x ∷ xs) h = absurd (true≢false (sym h))

    no-fence : (o : Option ℕ) → is_none o ≡ true → o ≡ None
    no-fence None h = refl
    no-fence (Some x) h = absurd (true≢false (sym h))

    succeeds : st.sides.client_over ≡ false → (c : Connect) → (is_exported busid && is_empty st.abandoned && is_none st.fence) ≡ true → st.facts.connect ≡ Some c → importable st busid ≡ Some c → Keeps m w j made
    succeeds on c may known e = keeps-import
      where
        parts : (is_empty st.abandoned ≡ true) × (is_none st.fence ≡ true)
        parts = let a = and_parts (is_exported busid && is_empty st.abandoned) (is_none st.fence) may in ((and_parts (is_exported busid) (is_empty st.abandoned) a.0).1, a.1)

        empty : st.abandoned ≡ []
        empty = none-is st.abandoned parts.0

        there : st.sides.lost ≡ false
        there = by st.sides.lost refl
          where
            by : (b : Bool) → st.sides.lost ≡ b → b ≡ false
            by true h = absurd (let bad : Some c ≡ None = sym known ∙ (rel.lost h).2 in cc)
            by false h = refl

        unowed : [] ≡ j.debts
        unowed = (λ i. debts_of (map (λ (p : Pending). p.submit) (sym (sound.gone out) i)) ++ debts_of (sym empty i)) ∙ rel.debts there

        zero : count_by (λ (d : Debt). true) j.debts ≡ 0
        zero = ap (count_by (λ (d : Debt). true)) (sym unowed)

        no-entry : j.held ++ j.coming ≡ []
        no-entry = count-all (j.held ++ j.coming) (let s = rel.ids.balance (λ i n. true) in omega (arith, s, zero))

        no-ran : runs_in j.back ≡ []
        no-ran = count-all (runs_in j.back) (let s = rel.ids.balance (λ i n. true) in omega (arith, s, zero))

        done : made ≡ record { world = imported_world w; outs = Op (import_reply st.facts c) ∷ []; told = Import ∷ [] }
        done = moved on (Some c) e ∙ imported-made w (import_reply st.facts c)

        ungone : j.gone ≡ false
        ungone = not-gone m w j rel there

        related : Related m (imported_world w) j
        related = record {
          line = rel.line;
          answers = rel.answers;
          tagged = rel.tagged;
          ids = rel.ids;
          real = rel.real;
          runs_at_in = rel.runs_at_in;
          before = rel.before;
          asked = rel.asked;
          meets = meets-client w j true false (λ h k. ap is_some known) rel.meets;
          debts = λ h. rel.debts there;
          controls = λ h. rel.controls there;
          fenced = λ h. rel.fenced there;
          alone = λ h. (empty, no-fence st.fence parts.1);
          session = λ h a. rel.session there a;
          ups = rel.ups;
          down = λ h. absurd (true≢false h);
          lost = λ h. absurd (true≢false (sym h));
          sides = record {
            reads = rel.sides.reads;
            refused = λ h. absurd (both_ways st.sides.client_over on h);
            gone = λ h. absurd (both_ways j.gone ungone h);
            seen = λ h. sym ungone;
          };
          farewell = rel.farewell;
        }

        keeps-import : Keeps m w j made
        keeps-import = subst (Keeps m w j) (sym done) (record {
          later = j;
          related = related;
          same = λ i. record (view w j) { imported = true; ran = (ap (λ (b : Bool). cond b (map ran_of (runs_in j.back)) []) out ∙ sym (ap (map ran_of) no-ran)) i };
          legal = ((out, ungone, ap (map at_device) no-entry), tt);
          outs = refl;
        })

    go : (b : Bool) → st.sides.client_over ≡ b → Keeps m w j made
    go true over = keeps-quiet m w j j made w (ap (λ (b : Bool). cond b (quiet w) (gate_made as_deeds w (mark_of st (Asked place (Op (op.ReqImport status busid)))))) over) rel refl
    go false on = by (is_exported busid && is_empty st.abandoned && is_none st.fence) refl st.facts.connect refl
      where
        by : (b : Bool) → (is_exported busid && is_empty st.abandoned && is_none st.fence) ≡ b → (o : Option Connect) → st.facts.connect ≡ o → Keeps m w j made
        by false barred o e = fails on (ap (λ (b : Bool). cond b st.facts.connect None) barred)
        by true may None e = fails on (ap (λ (b : Bool). cond b st.facts.connect None) may ∙ e)
        by true may (Some c) e = succeeds on c may e (ap (λ (b : Bool). cond b st.facts.connect None) may ∙ e)
