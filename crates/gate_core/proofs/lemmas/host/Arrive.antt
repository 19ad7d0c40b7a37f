-- What a packet of a stream makes of what is kept.
use Rattle.std.proofs.Common.{◌≡◌, ◌≤◌, ◌%◌, ◌==◌, ℕ, Bool, true, false, cond, List, [], ◌∷◌, ◌++◌, length, map, get_or, Option, Some, None, Result, Ok, Err, OnOk, OnErr, refl, sym, ap, ◌∙◌, subst, inl, inr, arith}
use Rattle.std.specs.Prelude.{nat_lt, filter, slice_set}
use Rattle.std.specs.Option.{option_map}
use Rattle.std.proofs.lemmas.Bool.{lt-ltb, ltb-true, cases_Bool}
use Rattle.std.proofs.lemmas.List.{append-nil}
use Rattle.usb_base.specs.Endpoint.{IsEndpoint, endpoint_index}
use Rattle.usb_base.specs.declared.transfer.StreamPacket.{StreamPacket}
use Rattle.redir_data.specs.declared.stream_kind.StreamKind.{StreamKind}
use Rattle.gate_history.specs.declared.note.Note.TheVariants as note
use Rattle.gate_parts.specs.declared.write.outputs.Outputs.{Outputs}
use Rattle.gate_core.specs.declared.state.kept.Kept.{Kept}
use Rattle.gate_history.specs.declared.request.Request.{Request}
use Rattle.gate_history.specs.host.Fillings.{Fill, none_filled, fill}
use Rattle.gate_history.specs.step.Marks.{Submission, Effect, Arrives}
use Rattle.gate_history.specs.client.Submits.{Pending}
use Rattle.gate_history.specs.client.Ends.{ByPackets, waits_at, packets_end, own_end}
use Rattle.gate_history.specs.state.Ups.{Up, stream_at, stream_of, hold}
use Rattle.gate_history.specs.state.State.{State, is_number}
use Rattle.gate_history.specs.state.Sound.{IsSound}
use Rattle.gate_history.specs.step.Meaning.{mark_as, arrives, waiting, is_held}
use Rattle.gate_history.specs.write.Output.{present}
use Rattle.gate_parts.specs.state.Rows.{row}
use Rattle.gate_parts.specs.host.Fill.{up_fill, up_bytes, filled_notes}
use Rattle.gate_core.specs.inner.host.Fill.{with_packet, received_bytes, received_notes, HasEnded, HasReceivedIf, HasReceived}
use Rattle.gate_core.specs.inner.state.Holds.{IsKept, Holds, Does, StopsShort}
use Rattle.gate_parts.specs.write.Outputs.{with_answers, HasSome}
use Rattle.gate_history.proofs.lemmas.Lists.{Each, filter-map, map-map}
use Rattle.gate_core.proofs.lemmas.client.WaitRows.{IsGoing, all-going}
use Rattle.gate_core.proofs.lemmas.step.Quiet.{silent-is}
use Rattle.gate_core.proofs.lemmas.write.InTurn.{leaves-some}
use Rattle.gate_core.proofs.lemmas.step.Steady.{does-steady, rows-same, host-same}
use Rattle.gate_history.proofs.lemmas.step.NoCancel.{stays-uncancelled}
use Rattle.gate_core.proofs.lemmas.host.Fill.{Differ, number, requests, waiters, fillings, FillsAll, fills-all}
use Rattle.gate_core.proofs.lemmas.host.FillItem.{does-fill-up}
use Rattle.gate_parts.proofs.lemmas.state.Places.{set-twice, set-back}

-- ---- the stream of an address

pub of-address : (ups : List (Option Up)) (byte : ℕ) → IsEndpoint byte → stream_of ups byte ≡ stream_at ups byte
of-address ups byte h = ap (λ (b : Bool). cond b (stream_at ups byte) None) (lt-ltb (byte % 128) 16 h)

pub of-none : (ups : List (Option Up)) (byte : ℕ) → (IsEndpoint byte → ⊥) → stream_of ups byte ≡ None
of-none ups byte h =
    elim (cases_Bool (nat_lt (byte % 128) 16)) [
      | inl e ↦ absurd (h (ltb-true (byte % 128) 16 e))
      | inr e ↦ ap (λ (b : Bool). cond b (stream_at ups byte) None) e
    ]

-- ---- the numbers of the live requests differ

none-numbered : (n : ℕ) (ps : List Pending) → length (filter (is_number n) (map (λ (p : Pending). p.submit) ps)) ≤ 0 → Each (λ q. (n == number q) ≡ false) ps
none-numbered n [] h = tt
none-numbered n (p ∷ ps) h =
    elim (cases_Bool (is_number n p.submit)) [
      | inl e ↦ let k : length (p.submit ∷ filter (is_number n) (map (λ (q : Pending). q.submit) ps)) ≤ 0 = rw e at h in absurd (omega arith)
      | inr e ↦ (swapped (number p) n e, none-numbered n ps (rw e at h))
    ]
  where
    swapped : (a b : ℕ) → (a == b) ≡ false → (b == a) ≡ false
    swapped a b e = grind (arith, e)

pub all-differ : (ps : List Pending) → ((n : ℕ) → length (filter (is_number n) (map (λ (p : Pending). p.submit) ps)) ≤ 1) → Differ ps
all-differ [] h = tt
all-differ (p ∷ ps) h = (none-numbered (number p) ps (first (h (number p))), all-differ ps (λ n. rest n (is_number n p.submit) refl (h n)))
  where
    tail : ℕ → List Submission
    tail n = filter (is_number n) (map (λ (q : Pending). q.submit) ps)

    own : (n : ℕ) → (n == n) ≡ true
    own n = grind arith

    first : length (cond (number p == number p) (p.submit ∷ filter (is_number (number p)) (map (λ (q : Pending). q.submit) ps)) (filter (is_number (number p)) (map (λ (q : Pending). q.submit) ps))) ≤ 1
        → length (filter (is_number (number p)) (map (λ (q : Pending). q.submit) ps)) ≤ 0
    first k = let one : length (p.submit ∷ filter (is_number (number p)) (map (λ (q : Pending). q.submit) ps)) ≤ 1 =
        subst (λ (b : Bool). length (cond b (p.submit ∷ filter (is_number (number p)) (map (λ (q : Pending). q.submit) ps)) (filter (is_number (number p)) (map (λ (q : Pending). q.submit) ps))) ≤ 1) (own (number p)) k in
        omega (arith, one)

    rest : (n : ℕ) (b : Bool) → is_number n p.submit ≡ b →
        length (cond (is_number n p.submit) (p.submit ∷ filter (is_number n) (map (λ (q : Pending). q.submit) ps)) (filter (is_number n) (map (λ (q : Pending). q.submit) ps))) ≤ 1
        → length (filter (is_number n) (map (λ (q : Pending). q.submit) ps)) ≤ 1
    rest n true e k = let more : length (p.submit ∷ filter (is_number n) (map (λ (q : Pending). q.submit) ps)) ≤ 1 =
        subst (λ (b : Bool). length (cond b (p.submit ∷ filter (is_number n) (map (λ (q : Pending). q.submit) ps)) (filter (is_number n) (map (λ (q : Pending). q.submit) ps))) ≤ 1) e k in omega (arith, more)
    rest n false e k = subst (λ (b : Bool). length (cond b (p.submit ∷ filter (is_number n) (map (λ (q : Pending). q.submit) ps)) (filter (is_number n) (map (λ (q : Pending). q.submit) ps))) ≤ 1) e k

-- ---- those that wait

pub waiting-are : (st : State) (ep : ℕ) → waiting st ep ≡ requests (waiters ep st.live)
waiting-are st ep =
    ap (map (λ (s : Submission). s.request)) (filter-map (waits_at ep) (λ (p : Pending). p.submit) st.live)
    ∙ map-map (λ (s : Submission). s.request) (λ (p : Pending). p.submit) (waiters ep st.live)

-- ---- an arrival

module _ (st : State) (sound : IsSound st) (ep : ℕ) (packet : StreamPacket) (up : Up) where
  abbrev held : Effect
  held = Arrives ep (fill up.row.max_packet (waiting st ep) (up.held ++ packet ∷ []))

  here : present st held ≡ st.live
  here = append-nil st.live

  filled : fill up.row.max_packet (waiting st ep) (up.held ++ packet ∷ []) ≡ fill up.row.max_packet (requests (waiters ep (present st held))) (up.held ++ packet ∷ [])
  filled = ap (λ (rs : List Request). fill up.row.max_packet rs (up.held ++ packet ∷ [])) (waiting-are st ep ∙ ap (λ (ps : List Pending). requests (waiters ep ps)) (sym here))

  fills : (s : Submission) → own_end held s ≡ packets_end ep (fillings up.row.max_packet (waiters ep (present st held)) (up.held ++ packet ∷ [])) s
  fills s = ap (λ (f : Fill). packets_end ep f.fillings s) filled

  all : FillsAll up.row.max_packet ep (present st held) (up.held ++ packet ∷ [])
  all =
      fills-all up.row.max_packet ep (present st held) (up.held ++ packet ∷ []) (subst (Each IsGoing) (sym here) (all-going st sound))
      (subst Differ (sym here) (all-differ st.live sound.numbers))

  -- it is held, and may fill requests
  pub does-hold : (up_new : Up) (old between mid new : Kept) (out out_new : Outputs) → Holds old st → IsKept old →
      stream_at old.streams ep ≡ Some up →
      between ≡ record old { streams = slice_set old.streams (endpoint_index ep) None } →
      HasEnded ep (with_packet packet up) up_new between mid →
      new ≡ record mid { streams = slice_set mid.streams (endpoint_index ep) (Some up_new) } →
      out_new ≡ with_answers out (up_bytes ep (with_packet packet up) between.lives.live) (note.Arrived ep ∷ filled_notes (up_fill ep (with_packet packet up) between.lives.live)) →
      Does st (mark_as st held None) old new out out_new
  does-hold up_new old between mid new out out_new h k at between-is ended is gives =
      does-fill-up st held up.row.max_packet ep (up.held ++ packet ∷ []) refl fills all up up_new old between mid new out out_new
      (fill up.row.max_packet (waiting st ep) (up.held ++ packet ∷ [])) h k.unlinked_fits k.dropped_fits at refl filled refl refl
      (ap (λ (t : Kept). t.lives.live) between-is ∙ h.live ∙ ap (map row) (sym here))
      (between-is ∙ ap (λ (t : Kept). record old { lives = t.lives; streams = slice_set old.streams (endpoint_index ep) None }) (sym between-is))
      (ap (λ (t : Kept). t.lives.abandoned) between-is) ended is gives

-- ---- a packet that is lost

module _ (st : State) (ep : ℕ) (up : Up) (at : stream_at st.streams ep ≡ Some up) where
  abbrev lost : Effect
  lost = Arrives ep (none_filled up.held)

  none-ends : (s : Submission) → packets_end ep [] s ≡ None
  none-ends s = elim (waits_at ep s) as (λ b. cond b (option_map ByPackets None) None ≡ None) [ true ↦ refl | false ↦ refl ]

  -- it is told, and nothing changes
  pub does-lose : (old new : Kept) (out out_new : Outputs) → Holds old st → IsKept old → new ≡ old →
      out_new ≡ with_answers out [] (note.Arrived ep ∷ []) → Does st (mark_as st lost None) old new out out_new
  does-lose old new out out_new h k is gives =
      does-steady st lost refl (silent-is st lost refl) none-ends old new old.lives.live out out_new h k.answered_fits k.unlinked_fits k.dropped_fits
      (rows-same lost old.lives.live st.live (λ s. refl) h.live)
      (is ∙ ap (λ (ups : List (Option Up)). record old { streams = ups }) (sym same)) (ap (λ (o : Outputs). o.to_client) gives) (ap (λ (o : Outputs). o.to_host) gives ∙ host-same st.sides.agreed lost out.to_host st.live stays-uncancelled)
      (ap (λ (o : Outputs). o.notes) gives)
    where
      there : stream_at old.streams ep ≡ Some up
      there = ap (λ (ups : List (Option Up)). stream_at ups ep) h.streams ∙ at

      same : hold ep up.held old.streams ≡ old.streams
      same =
          ap (λ (o : Option Up). slice_set old.streams (endpoint_index ep) (option_map (λ (u : Up). record u { held = up.held }) o)) there
          ∙ ap (λ (o : Option Up). slice_set old.streams (endpoint_index ep) o) (sym there)
          ∙ set-back old.streams (endpoint_index ep) None

-- ---- either

-- both of what holds where it succeeds
pub on-ok : {T E : Type 0} {P Q R : Type 0} (r : Result T E) → (P → Q → R) → OnOk r P → OnOk r Q → OnOk r R
on-ok (Ok v) f p q = f p q
on-ok (Err e) f p q = tt

pub does-receive : (st : State) (sound : IsSound st) (endpoint : ℕ) (kind : StreamKind) (packet : StreamPacket) (up up_new : Up) (old between mid new : Kept) (out out_new : Outputs) → Holds old st → IsKept old →
    IsEndpoint endpoint → stream_at old.streams endpoint ≡ Some up →
    between ≡ record old { streams = slice_set old.streams (endpoint_index endpoint) None } →
    new ≡ record mid { streams = slice_set mid.streams (endpoint_index endpoint) (Some up_new) } →
    HasReceived endpoint kind packet up up_new between mid →
    out_new ≡ with_answers out (received_bytes endpoint kind packet up between.lives.live) (note.Arrived endpoint ∷ received_notes endpoint kind packet up between.lives.live) →
    Does st (mark_as st (arrives st endpoint kind packet (stream_of st.streams endpoint)) None) old new out out_new
does-receive st sound endpoint kind packet up up_new old between mid new out out_new h k byte at between-is is received gives =
    let there : stream_of st.streams endpoint ≡ Some up = of-address st.streams endpoint byte ∙ ap (λ (ups : List (Option Up)). stream_at ups endpoint) (sym h.streams) ∙ at in
    subst (λ (o : Option Up). Does st (mark_as st (arrives st endpoint kind packet o) None) old new out out_new) (sym there) (by (is_held kind up) received gives)
  where
    by : (b : Bool) → HasReceivedIf endpoint b packet up up_new between mid →
        out_new ≡ with_answers out (cond b (up_bytes endpoint (with_packet packet up) between.lives.live) []) (note.Arrived endpoint ∷ cond b (filled_notes (up_fill endpoint (with_packet packet up) between.lives.live)) []) →
        Does st (mark_as st (Arrives endpoint (cond b (fill up.row.max_packet (waiting st endpoint) (up.held ++ packet ∷ [])) (none_filled up.held))) None) old new out out_new
    by true r gave = does-hold st sound endpoint packet up up_new old between mid new out out_new h k at between-is r is gave
    by false r gave =
        let same : new ≡ old =
        is ∙ ap (λ (t : Kept). record t { streams = slice_set t.streams (endpoint_index endpoint) (Some up_new) }) (r.same ∙ between-is)
        ∙ ap (λ (ups : List (Option Up)). record old { streams = ups })
        (set-twice old.streams (endpoint_index endpoint) None (Some up_new) ∙ ap (slice_set old.streams (endpoint_index endpoint)) (ap (λ (u : Up). Some u) r.up_same ∙ sym at)
        ∙ set-back old.streams (endpoint_index endpoint) None) in
        does-lose st endpoint up (ap (λ (ups : List (Option Up)). stream_at ups endpoint) (sym h.streams) ∙ at) old new out out_new h k same gave

on-err : {T E : Type 0} {P Q R S : Type 0} (r : Result T E) → (P → Q → R → S) → OnErr r P → OnErr r Q → OnErr r R → OnErr r S
on-err (Ok v) f p q r = tt
on-err (Err e) f p q r = f p q r

-- for want of memory the stream is put back as it was
pub puts-back : {T E : Type 0} (r : Result T E) (old mid : Kept) (up up_new : Up) (i : ℕ) (taken put : List (Option Up)) (out out_new : Outputs) →
    taken ≡ slice_set old.streams i None → Some up ≡ get_or old.streams i None → put ≡ slice_set mid.streams i (Some up_new) →
    OnErr r (mid ≡ record old { streams = taken }) → OnErr r (up_new ≡ up) → OnErr r (HasSome out out_new) → OnErr r (StopsShort old (record mid { streams = put }) out out_new)
puts-back r old mid up up_new i taken put out out_new taken-is here put-is =
    on-err r (λ same back some.
    leaves-some old (record mid { streams = put }) out out_new
    (ap (λ (t : Kept). record t { streams = put }) same
    ∙ ap (λ (ups : List (Option Up)). record old { streams = ups })
    (put-is ∙ ap (λ (t : Kept). slice_set t.streams i (Some up_new)) same ∙ (λ j. slice_set (taken-is j) i (Some (back j)))
    ∙ set-twice old.streams i None (Some up) ∙ ap (slice_set old.streams i) here ∙ set-back old.streams i None))
    some)
