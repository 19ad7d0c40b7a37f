-- What a request that waits for a stream's packets makes of what is kept, whether its stream is up or is started for
-- it.
use Rattle.std.proofs.Common.{◌≡◌, ◌+◌, ◌==◌, ℕ, zero, suc, Bool, true, false, cond, List, [], ◌∷◌, ◌++◌, length, map, get_or, set, Option, Some, None, refl, sym, ap, ◌∙◌, subst, arith}
use Rattle.std.specs.Prelude.{slice_set, zip, ◌||◌, is_some}
use Rattle.std.specs.List.{flat_map, list_any}
use Rattle.std.specs.Option.{option_map}
use Rattle.std.proofs.lemmas.List.{append-nil, map-append}
use Rattle.std.proofs.lemmas.List.Elements.{filter-append}
use Rattle.std.proofs.lemmas.Bool.{false≢true}
use Rattle.usb_base.specs.Endpoint.{endpoint_index}
use Rattle.usb_base.specs.declared.endpoint.EpRow.{EpRow}
use Rattle.usb_base.specs.declared.transfer.StreamPacket.{StreamPacket}
use Rattle.unlink_race.specs.declared.live.Live.{Live}
use Rattle.unlink_race.specs.declared.live.LiveKind.TheVariants as live_kind
use Rattle.unlink_race.specs.Searches.{waits_for, has_number}
use Rattle.gate_history.specs.declared.note.Note.{Note}
use Rattle.gate_history.specs.declared.note.Note.TheVariants as note
use Rattle.gate_parts.specs.declared.write.outputs.Outputs.{Outputs}
use Rattle.gate_core.specs.declared.state.kept.Kept.{Kept}
use Rattle.usb_base.specs.Number.{capped}
use Rattle.gate_history.specs.declared.request.Request.{Request}
use Rattle.gate_history.specs.declared.verdict.Verdict.{Verdict}
use Rattle.gate_history.specs.declared.verdict.Verdict.TheVariants.{Stream}
use Rattle.gate_history.specs.host.Fillings.{Fill, none_filled, filled_by, fill}
use Rattle.gate_history.specs.step.Marks.{Submission, Effect, Waits}
use Rattle.gate_history.specs.client.Submits.{Pending}
use Rattle.gate_history.specs.client.Ends.{waits_at, packets_end, own_end}
use Rattle.gate_history.specs.state.Ups.{Up, stream_at, held_of, hold, raise}
use Rattle.gate_history.specs.write.Packets.{starts}
use Rattle.gate_history.specs.state.StreamIds.{StreamIds, stream_ids_after}
use Rattle.gate_history.specs.state.Ids.{last_of}
use Rattle.gate_history.specs.state.State.{State, next_ids}
use Rattle.gate_history.specs.state.Sound.{IsSound}
use Rattle.gate_history.specs.step.Meaning.{mark_as, drawn_for, waiting, submission, by_stream, accepted_as, accepts}
use Rattle.gate_history.specs.write.Output.{fresh, present}
use Rattle.redir_data.specs.Sent.{sent_packet_bytes}
use Rattle.gate_parts.specs.state.Rows.{row, row_for}
use Rattle.gate_parts.specs.host.Fill.{filled_notes, waiting_rows, without_firsts, up_fill, up_bytes}
use Rattle.gate_parts.specs.write.Outputs.{with_answers}
use Rattle.gate_core.specs.inner.host.Fill.{joining_row, with_row, HasJoined}
use Rattle.gate_core.specs.inner.state.Holds.{IsKept, Holds, Does}
use Rattle.gate_history.proofs.lemmas.Lists.{Each, Each-append}
use Rattle.gate_core.proofs.lemmas.client.WaitRows.{IsGoing, all-going}
use Rattle.gate_core.proofs.lemmas.step.Quiet.{capped-same}
use Rattle.gate_core.proofs.lemmas.host.Fill.{Differ, number, requests, waiters, fillings, FillsAll, fills-all}
use Rattle.gate_core.proofs.lemmas.host.FillItem.{does-fill, does-fill-up}
use Rattle.gate_core.proofs.lemmas.host.Arrive.{all-differ, waiting-are}
use Rattle.gate_parts.proofs.lemmas.host.FillLoop.{nothing-cut, nothing-sent}
use Rattle.gate_parts.proofs.lemmas.state.Places.{set-back}

own : (n : ℕ) → (n == n) ≡ true
own n = grind arith

-- ---- one more, whose number is free

none-has : (n : ℕ) (ps : List Pending) → list_any (has_number n) (map row ps) ≡ false → Each (λ p. (number p == n) ≡ false) ps
none-has n [] h = tt
none-has n (p ∷ ps) h = (first (number p == n) (list_any (has_number n) (map row ps)) h, none-has n ps (rest (number p == n) (list_any (has_number n) (map row ps)) h))
  where
    first : (a b : Bool) → (a || b) ≡ false → a ≡ false
    first true b e = absurd (false≢true (sym e))
    first false b e = refl

    rest : (a b : Bool) → (a || b) ≡ false → b ≡ false
    rest true b e = absurd (false≢true (sym e))
    rest false b e = e

differ-more : (ps : List Pending) (p : Pending) → Differ ps → Each (λ q. (number q == number p) ≡ false) ps → Differ (ps ++ p ∷ [])
differ-more [] p d h = (tt, tt)
differ-more (q ∷ qs) p d h = (Each-append (λ r. (number q == number r) ≡ false) qs (p ∷ []) d.0 (h.0, tt), differ-more qs p d.1 h.1)

-- ---- a request that waits, with a stream that has this row and holds these packets

module _ (st : State) (sound : IsSound st) (r : Request) (kept : EpRow) (packets : List StreamPacket) where
  abbrev s : Submission
  s = submission st r (Stream kept) []

  abbrev f : Fill
  f = fill kept.max_packet (waiting st r.transfer.ep ++ r ∷ []) packets

  abbrev e : Effect
  e = Waits s f

  it-waits : waiters r.transfer.ep (present st e) ≡ waiters r.transfer.ep st.live ++ fresh s ∷ []
  it-waits =
      filter-append (λ p. waits_at r.transfer.ep p.submit) st.live (fresh s ∷ [])
      ∙ ap (λ (b : Bool). waiters r.transfer.ep st.live ++ cond b (fresh s ∷ []) []) (own r.transfer.ep)

  filled : f ≡ fill kept.max_packet (requests (waiters r.transfer.ep (present st e))) packets
  filled =
      ap (λ (rs : List Request). fill kept.max_packet rs packets)
      (ap (λ (rs : List Request). rs ++ r ∷ []) (waiting-are st r.transfer.ep)
      ∙ sym (ap requests it-waits ∙ map-append (λ (p : Pending). p.submit.request) (waiters r.transfer.ep st.live) (fresh s ∷ [])))

  fills : (t : Submission) → own_end e t ≡ packets_end r.transfer.ep (fillings kept.max_packet (waiters r.transfer.ep (present st e)) packets) t
  fills t = ap (λ (x : Fill). packets_end r.transfer.ep x.fillings t) filled

  all : (rows : List Live) → rows ≡ map row st.live → list_any (has_number r.seqnum) rows ≡ false → FillsAll kept.max_packet r.transfer.ep (present st e) packets
  all rows is free =
      fills-all kept.max_packet r.transfer.ep (present st e) packets (Each-append IsGoing st.live (fresh s ∷ []) (all-going st sound) (refl, tt))
      (differ-more st.live (fresh s) (all-differ st.live sound.numbers) (none-has r.seqnum st.live (sym (ap (list_any (has_number r.seqnum)) is) ∙ free)))

  rows-are : (rows : List Live) → rows ≡ map row st.live → rows ++ row (fresh s) ∷ [] ≡ map row (present st e)
  rows-are rows is = ap (λ (ls : List Live). ls ++ row (fresh s) ∷ []) is ∙ sym (map-append row st.live (fresh s ∷ []))

-- ---- its stream is up

accepts-up : (st : State) (r : Request) (told : EpRow) (up : Up) → stream_at st.streams r.transfer.ep ≡ Some up →
    accepts st r (Stream told) ≡ Waits (submission st r (Stream up.row) []) (fill up.row.max_packet (waiting st r.transfer.ep ++ r ∷ []) up.held)
accepts-up st r told up at =
    ap (λ (v : Verdict). accepted_as st (submission st r v (drawn_for st r v)) v) (ap (λ (o : Option Up). by_stream o (Stream told)) at)
    ∙ ap (λ (o : Option Up). Waits (submission st r (Stream up.row) []) (fill up.row.max_packet (waiting st r.transfer.ep ++ r ∷ []) (held_of o))) at

pub does-join : (st : State) (sound : IsSound st) (r : Request) (told : EpRow) (up up_new : Up) (old emptied mid new : Kept) (out out_new : Outputs) → Holds old st → IsKept old →
    list_any (has_number r.seqnum) old.lives.live ≡ false → stream_at old.streams r.transfer.ep ≡ Some up →
    emptied ≡ record old { streams = slice_set old.streams (endpoint_index r.transfer.ep) None } →
    HasJoined up up_new r emptied mid →
    new ≡ record mid { streams = slice_set mid.streams (endpoint_index r.transfer.ep) (Some up_new) } →
    out_new ≡ with_answers out (up_bytes r.transfer.ep up (emptied.lives.live ++ joining_row up r ∷ [])) (note.Submitted r.seqnum 0 ∷ filled_notes (up_fill r.transfer.ep up (emptied.lives.live ++ joining_row up r ∷ []))) →
    Does st (mark_as st (accepts st r (Stream told)) None) old new out out_new
does-join st sound r told up up_new old emptied mid new out out_new h k free at emptied-is joined is gives =
    let there : stream_at st.streams r.transfer.ep ≡ Some up = ap (λ (ups : List (Option Up)). stream_at ups r.transfer.ep) (sym h.streams) ∙ at in
    let same = ap (λ (t : Kept). t.lives.live) emptied-is in
    subst (λ (x : Effect). Does st (mark_as st x None) old new out out_new) (sym (accepts-up st r told up there))
    (does-fill-up st (e st sound r up.row up.held) up.row.max_packet r.transfer.ep up.held refl (fills st sound r up.row up.held) (all st sound r up.row up.held old.lives.live h.live free)
    up up_new old (with_row (joining_row up r) emptied) mid new out out_new (f st sound r up.row up.held) h k.unlinked_fits k.dropped_fits at refl
    (filled st sound r up.row up.held)
    (ap (λ (o : Option Up). next_ids st (length (starts o r.transfer.ep up.row))) there)
    (ap (λ (o : Option Up). hold r.transfer.ep (f st sound r up.row up.held).left (cond (is_some o) old.streams (slice_set old.streams (endpoint_index r.transfer.ep) (Some (record { ep = r.transfer.ep; row = up.row; held = [] }))))) at)
    (ap (λ (ls : List Live). ls ++ joining_row up r ∷ []) same ∙ rows-are st sound r up.row up.held old.lives.live h.live)
    (ap (λ (t : Kept). with_row (joining_row up r) t) emptied-is ∙ ap (λ (ls : List Live). record old { lives = record { live = ls ++ joining_row up r ∷ []; abandoned = old.lives.abandoned }; streams = slice_set old.streams (endpoint_index r.transfer.ep) None }) (sym same)
    ∙ ap (λ (ls : List Live). record old { lives = record { live = emptied.lives.live ++ joining_row up r ∷ []; abandoned = ls }; streams = slice_set old.streams (endpoint_index r.transfer.ep) None }) (sym (ap (λ (t : Kept). t.lives.abandoned) emptied-is)))
    (ap (λ (t : Kept). t.lives.abandoned) emptied-is)
    joined is gives)

-- ---- it is started

accepts-down : (st : State) (r : Request) (told : EpRow) → stream_at st.streams r.transfer.ep ≡ None →
    accepts st r (Stream told) ≡ Waits (submission st r (Stream told) []) (fill told.max_packet (waiting st r.transfer.ep ++ r ∷ []) [])
accepts-down st r told at =
    ap (λ (v : Verdict). accepted_as st (submission st r v (drawn_for st r v)) v) (ap (λ (o : Option Up). by_stream o (Stream told)) at)
    ∙ ap (λ (o : Option Up). Waits (submission st r (Stream told) []) (fill told.max_packet (waiting st r.transfer.ep ++ r ∷ []) (held_of o))) at

-- what is set is there, or nothing is
get-set : {X : Type 0} (P : X → Type 0) (xs : List X) (i : ℕ) (a d : X) → P a → P d → P (get_or (set xs i a) i d)
get-set P [] i a d p q = q
get-set P (x ∷ xs) zero a d p q = p
get-set P (x ∷ xs) (suc i) a d p q = get-set P xs i a d p q

-- a stream that has just gone up holds nothing
raised-empty : (ups : List (Option Up)) (up : Up) → up.held ≡ [] → stream_at ups up.ep ≡ None → hold up.ep [] (raise up ups) ≡ raise up ups
raised-empty ups up none at =
    let i = endpoint_index up.ep in
    let is-set : raise up ups ≡ slice_set ups i (Some up) = ap (λ (o : Option Up). cond (is_some o) ups (slice_set ups (endpoint_index up.ep) (Some up))) at in
    ap (hold up.ep []) is-set
    ∙ ap (slice_set (slice_set ups i (Some up)) i)
    (get-set (λ (o : Option Up). option_map (λ (u : Up). record u { held = [] }) o ≡ o) ups i (Some up) None (ap (λ (ps : List StreamPacket). Some (record up { held = ps })) (sym none)) refl)
    ∙ set-back (slice_set ups i (Some up)) i None ∙ sym is-set

nothing : (max_packet : ℕ) (rs : List Request) → fill max_packet rs [] ≡ none_filled []
nothing max_packet [] = refl
nothing max_packet (r ∷ rs) = ap (λ cut. filled_by r.seqnum [] cut (fill max_packet rs)) (nothing-cut max_packet r)

pub does-start : (st : State) (sound : IsSound st) (r : Request) (told : EpRow) (old new : Kept) (stream_ids_new : StreamIds) (last_new : ℕ) (out : Outputs) (host_new : List ℕ) (notes_new : List Note) → Holds old st → IsKept old →
    list_any (has_number r.seqnum) old.lives.live ≡ false → stream_at old.streams r.transfer.ep ≡ None →
    new ≡ record old {
      lives = record { live = old.lives.live ++ row_for r (live_kind.Stream r.transfer.ep told.interface) 0 ∷ []; abandoned = old.lives.abandoned };
      streams = raise (record { ep = r.transfer.ep; row = told; held = [] }) old.streams;
      stream_ids = stream_ids_new;
      last = last_new;
    } →
    stream_ids_new ≡ stream_ids_after (zip (next_ids st (length (starts (stream_at st.streams r.transfer.ep) r.transfer.ep told))) (starts (stream_at st.streams r.transfer.ep) r.transfer.ep told)) old.stream_ids →
    last_new ≡ last_of old.last (next_ids st (length (starts (stream_at st.streams r.transfer.ep) r.transfer.ep told))) →
    host_new ≡ out.to_host ++ flat_map (sent_packet_bytes st.sides.agreed) (zip (next_ids st (length (starts (stream_at st.streams r.transfer.ep) r.transfer.ep told))) (starts (stream_at st.streams r.transfer.ep) r.transfer.ep told)) →
    notes_new ≡ out.notes ++ note.Submitted r.seqnum 0 ∷ [] →
    Does st (mark_as st (accepts st r (Stream told)) None) old new out (record out { to_host = host_new; notes = notes_new })
does-start st sound r told old new stream_ids_new last_new out host_new notes_new h k free at is stream_ids-is last-is host notes =
    let there : stream_at st.streams r.transfer.ep ≡ None = ap (λ (ups : List (Option Up)). stream_at ups r.transfer.ep) (sym h.streams) ∙ at in
    let up : Up = record { ep = r.transfer.ep; row = told; held = [] } in
    let rows = old.lives.live ++ row (fresh (s st sound r told [])) ∷ [] in
    let none : fill told.max_packet (requests (waiters r.transfer.ep (present st (e st sound r told [])))) [] ≡ none_filled [] = nothing told.max_packet (requests (waiters r.transfer.ep (present st (e st sound r told [])))) in
    let left : (f st sound r told []).left ≡ [] = ap (λ (x : Fill). x.left) (nothing told.max_packet (waiting st r.transfer.ep ++ r ∷ [])) in
    subst (λ (x : Effect). Does st (mark_as st x None) old new out (record out { to_host = host_new; notes = notes_new })) (sym (accepts-down st r told there))
    (does-fill st (e st sound r told []) told.max_packet r.transfer.ep [] refl (fills st sound r told []) (all st sound r told [] old.lives.live h.live free)
    old new rows out (record out { to_host = host_new; notes = notes_new }) h k.unlinked_fits k.dropped_fits
    (rows-are st sound r told [] old.lives.live h.live)
    (is ∙ (λ i. record old {
      lives = record { live = without_firsts (length (sym none i).fillings) (waits_for r.transfer.ep) rows; abandoned = old.lives.abandoned };
      streams = (sym (raised-empty old.streams up refl at) ∙ ap (λ (ps : List StreamPacket). hold r.transfer.ep ps (raise up old.streams)) (sym left)) i;
      stream_ids = stream_ids-is i;
      last = last-is i;
      answered = (capped-same old.answered k.answered_fits ∙ ap (λ (x : Fill). capped (old.answered + length x.fillings)) (sym none)) i;
    }))
    (sym (append-nil out.to_client) ∙ ap (λ (bs : List ℕ). out.to_client ++ bs) (sym (nothing-sent told.max_packet (waiting_rows r.transfer.ep rows))))
    host
    (notes ∙ ap (λ (x : Fill). out.notes ++ note.Submitted r.seqnum 0 ∷ filled_notes x) (sym none)))
