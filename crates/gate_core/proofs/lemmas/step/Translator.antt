-- What the translator does with an item is one step of the past, and all that was given gains what it sends.
use Rattle.std.proofs.Common.{◌≡◌, ℕ, ◌+◌, Bool, true, false, cond, List, [], ◌∷◌, ◌++◌, length, sym, ap, subst, ◌∙◌, append_assoc}
use Rattle.std.specs.Prelude.{filter}
use Rattle.std.proofs.lemmas.List.{append-nil, length-append}
use Rattle.std.proofs.lemmas.List.Elements.{filter-append}
use Rattle.packet_stream.proofs.Following.{capped-past}
use Rattle.redir_wire.specs.Capability.{no_caps}
use Rattle.gate_parts.specs.declared.write.outputs.Outputs.{Outputs}
use Rattle.gate_core.specs.declared.state.kept.Kept.{Kept}
use Rattle.gate_history.specs.declared.item.Item.{Item}
use Rattle.usb_base.specs.Number.{capped}
use Rattle.gate_history.specs.step.Marks.{Mark}
use Rattle.gate_history.specs.state.State.{State, state_of}
use Rattle.gate_history.specs.step.Meaning.{mark_of}
use Rattle.gate_history.specs.step.Past.{is_left_out, past}
use Rattle.gate_history.specs.write.Output.{to_client}
use Rattle.gate_history.specs.write.Notes.{notes_of, dropped}
use Rattle.gate_history.specs.write.All.{all_of, is_ret_submit, is_won_unlink}
use Rattle.redir_data.specs.Sent.{sent_packet_bytes}
use Rattle.gate_history.specs.write.Bytes.{gateway_hello, client_bytes_of, host_bytes_of, out_client, out_host}
use Rattle.gate_history.specs.step.Machine.{with_mark, step}
use Rattle.gate_core.specs.step.Stands.{Translates}
use Rattle.gate_history.specs.Headline.{Gains}
use Rattle.gate_core.specs.inner.state.Holds.{Holds, Does}
use Rattle.gate_core.specs.inner.step.Steps.{SendsItems}
use Rattle.gate_history.proofs.lemmas.step.Runs.{state-run}

-- ---- gains

pub gains-none : {A : Type 0} (old before : List A) → Gains old old before before
gains-none old before = record { more = []; new-is = sym (append-nil old); after-is = sym (append-nil before) }

pub gains-then : {A : Type 0} (a b c x y z : List A) → Gains a b x y → Gains b c y z → Gains a c x z
gains-then {A = A} a b c x y z p q = record {
  more = p.more ++ q.more;
  new-is = q.new-is ∙ ap (λ (l : List A). l ++ q.more) p.new-is ∙ append_assoc a p.more q.more;
  after-is = q.after-is ∙ ap (λ (l : List A). l ++ q.more) p.after-is ∙ append_assoc x p.more q.more;
}

pub sends-none : (first : ℕ) (out : Outputs) (h : List Item) → SendsItems first out out h h
sends-none first out h = record { client = gains-none out.to_client _; host = gains-none out.to_host _; told = gains-none out.notes _ }

-- what depends on the past alone
pub translates-past : (first : ℕ) (t : Kept) (xs ys : List Item) → past first ys ≡ past first xs → Translates first t xs → Translates first t ys
translates-past first t xs ys same h = record {
  state = subst (λ (ms : List Mark). Holds t (state_of first ms)) (sym same) h.state;
  answered = h.answered ∙ ap (λ (ms : List Mark). capped (length (filter is_ret_submit (all_of to_client first ms)))) (sym same);
  unlinked = h.unlinked ∙ ap (λ (ms : List Mark). capped (length (filter is_won_unlink (all_of to_client first ms)))) (sym same);
  dropped = h.dropped ∙ ap (λ (ms : List Mark). capped (length (all_of dropped first ms))) (sym same);
}

pub sends-past : (first : ℕ) (out_old out_new : Outputs) (h k l : List Item) → past first l ≡ past first k →
    SendsItems first out_old out_new h k → SendsItems first out_old out_new h l
sends-past first out_old out_new h k l same s = record {
  client = subst (λ (ms : List Mark). Gains out_old.to_client out_new.to_client (out_client first (past first h)) (out_client first ms)) (sym same) s.client;
  host = subst (λ (ms : List Mark). Gains out_old.to_host out_new.to_host (out_host first (past first h)) (out_host first ms)) (sym same) s.host;
  told = subst (λ (ms : List Mark). Gains out_old.notes out_new.notes (all_of notes_of first (past first h)) (all_of notes_of first ms)) (sym same) s.told;
}

-- ---- one item

pub past-taken : (first : ℕ) (xs : List Item) (x : Item) → is_left_out (state_of first (past first xs)) x ≡ false → past first (x ∷ xs) ≡ mark_of (state_of first (past first xs)) x ∷ past first xs
past-taken first xs x taken = let ms = past first xs in ap (λ (b : Bool). cond b ms (mark_of (state_of first ms) x ∷ ms)) taken

pub past-skipped : (first : ℕ) (xs : List Item) (x : Item) → is_left_out (state_of first (past first xs)) x ≡ true → past first (x ∷ xs) ≡ past first xs
past-skipped first xs x skipped = let ms = past first xs in ap (λ (b : Bool). cond b ms (mark_of (state_of first ms) x ∷ ms)) skipped

state-taken : (first : ℕ) (xs : List Item) (x : Item) → is_left_out (state_of first (past first xs)) x ≡ false →
    with_mark (state_of first (past first xs)) (mark_of (state_of first (past first xs)) x) ≡ state_of first (past first (x ∷ xs))
state-taken first xs x taken =
    let st = state_of first (past first xs) in
    let now : state_of first (past first (x ∷ xs)) ≡ step st x = state-run first (x ∷ xs) ∙ ap (λ (s : State). step s x) (sym (state-run first xs)) in
    sym (now ∙ ap (λ (b : Bool). cond b st (with_mark st (mark_of st x))) taken)

counts-more : {A : Type 0} (gives : State → Mark → List A) (p : A → Bool) (first : ℕ) (ms : List Mark) (m : Mark) (old new : ℕ) → old ≡ capped (length (filter p (all_of gives first ms))) →
    new ≡ capped (old + length (filter p (gives (state_of first ms) m))) → new ≡ capped (length (filter p (all_of gives first (m ∷ ms))))
counts-more {A = A} gives p first ms m old new e f =
    let a = all_of gives first ms in
    let b = gives (state_of first ms) m in
    capped-past old (length (filter p a)) (length (filter p b)) new e f
    ∙ ap capped (sym (ap length (filter-append p a b) ∙ length-append (filter p a) (filter p b)))

dropped-more : (first : ℕ) (ms : List Mark) (m : Mark) (old new : ℕ) → old ≡ capped (length (all_of dropped first ms)) →
    new ≡ capped (old + length (dropped (state_of first ms) m)) → new ≡ capped (length (all_of dropped first (m ∷ ms)))
dropped-more first ms m old new e f =
    let a = all_of dropped first ms in
    let b = dropped (state_of first ms) m in
    capped-past old (length a) (length b) new e f ∙ ap capped (sym (length-append a b))

pub translates-item : (first : ℕ) (old new : Kept) (xs : List Item) (x : Item) (out_old out_new : Outputs) → Translates first old xs →
    is_left_out (state_of first (past first xs)) x ≡ false →
    Does (state_of first (past first xs)) (mark_of (state_of first (past first xs)) x) old new out_old out_new → Translates first new (x ∷ xs)
translates-item first old new xs x out_old out_new t taken does =
    let ms = past first xs in
    let m = mark_of (state_of first ms) x in
    let is = sym (past-taken first xs x taken) in
    record {
      state = subst (Holds new) (state-taken first xs x taken) does.holds;
      answered = counts-more to_client is_ret_submit first ms m old.answered new.answered t.answered does.answered ∙ ap (λ (l : List Mark). capped (length (filter is_ret_submit (all_of to_client first l)))) is;
      unlinked = counts-more to_client is_won_unlink first ms m old.unlinked new.unlinked t.unlinked does.unlinked ∙ ap (λ (l : List Mark). capped (length (filter is_won_unlink (all_of to_client first l)))) is;
      dropped = dropped-more first ms m old.dropped new.dropped t.dropped does.dropped ∙ ap (λ (l : List Mark). capped (length (all_of dropped first l))) is;
    }

pub sends-item : (first : ℕ) (old new : Kept) (h xs : List Item) (x : Item) (out_old out out_new : Outputs) →
    SendsItems first out_old out h xs → is_left_out (state_of first (past first xs)) x ≡ false →
    Does (state_of first (past first xs)) (mark_of (state_of first (past first xs)) x) old new out out_new → SendsItems first out_old out_new h (x ∷ xs)
sends-item first old new h xs x out_old out out_new s taken does =
    let ms = past first xs in
    let st = state_of first ms in
    let m = mark_of st x in
    let is = past-taken first xs x taken in
    let hello = sent_packet_bytes no_caps (0, gateway_hello) in
    record {
      client = gains-then out_old.to_client out.to_client out_new.to_client (out_client first (past first h)) (out_client first ms) (out_client first (past first (x ∷ xs))) s.client
          (record { more = client_bytes_of st m; new-is = does.client; after-is = ap (out_client first) is });
      host = gains-then out_old.to_host out.to_host out_new.to_host (out_host first (past first h)) (out_host first ms) (out_host first (past first (x ∷ xs))) s.host
          (record { more = host_bytes_of st m; new-is = does.host; after-is = ap (out_host first) is ∙ sym (append_assoc hello (all_of host_bytes_of first ms) (host_bytes_of st m)) });
      told = gains-then out_old.notes out.notes out_new.notes (all_of notes_of first (past first h)) (all_of notes_of first ms) (all_of notes_of first (past first (x ∷ xs))) s.told
          (record { more = notes_of st m; new-is = does.notes; after-is = ap (all_of notes_of first) is });
    }
