-- What is read of a recording, and of a front of one.
use Rattle.std.proofs.Common.{◌≡◌, ◌⊎◌, ◌≤◌, ℕ, zero, suc, ◌+◌, ◌-◌, Bool, false, cond, ◌&&◌, ◌==◌, inl, inr, List, [], ◌∷◌, ◌++◌, length, take, slice_index, nat_eq, nat_lt, option_and_then, Option, Some, None, refl, sym, ap, subst, ◌∙◌, append_assoc, append-nil, arith}
use Rattle.std.specs.List.{onto_first}
use Rattle.std.proofs.lemmas.Bool.{cond_both, eqb-true, false_from_ne_true, le-ltb}
use Rattle.std.proofs.lemmas.List.{length-append}
use Rattle.usb_base.specs.Writes.{Begins}
use Rattle.gate_history.specs.step.Events.{PastEvent}
use Rattle.session_tape.specs.Lines.{first_comment}
use Rattle.bridge_run.specs.events.Events.{PastLinkEvent}
use Rattle.bridge_serve.specs.served.Gate.{gate_events}
use Rattle.packet_show.specs.declared.tape.ReplayLine.{ReplayLine}
use Rattle.packet_show.specs.declared.tape.ReplayLine.TheVariants.{Skip}
use Rattle.packet_show.specs.Tape.{replay_line}
use Rattle.tape_run.specs.tape.Tape.{event_said, lines_of, content}
use Rattle.tape_run.specs.Text.{opening_text}
use Rattle.packet_show.specs.declared.tape.TheConstants.{TAPE_LIMIT as tape_limit}
use Rattle.tape_run.specs.tape.TapeCommand.{Progress, begin, one_further, next_line, Reading, on_line, read_lines, last_text}
use Rattle.tape_run.specs.tape.EventCommand.{on_event, over_events}
use Rattle.tape_run.specs.Replay.{replay}
use Rattle.usbgate_commands.specs.words.Serving.{ServeSettings}
use Rattle.tape_run.specs.Run.{HasNoLF}
use Rattle.tape_run.proofs.lemmas.tape.Lines.{HasNoLF-append}
use Rattle.std.specs.Prelude.{codes, option_map}
use Rattle.std.specs.Fmt.{decimal}
use Rattle.bridge_run.specs.written.Recorded.{lines_of as event_lines}
use Rattle.tape_laws.specs.Recordings.{recorded, served, replayed, all_replayed}
use Rattle.tape_laws.specs.Plays.{read_of}
use Rattle.tape_laws.proofs.Spelled.{no-lf-tested, no-lf-decimal}
use Rattle.tape_laws.proofs.Reading.{with_text, reads-both, reads-line}
use Rattle.tape_laws.proofs.Events.{AllFit, Comes, event-comes, events-come}

-- the words of the first line
abbrev first_words : ℕ → List ℕ
first_words first_id = codes "# --first-id " ++ decimal first_id

first-whole : (first_id : ℕ) → HasNoLF (first_words first_id)
first-whole first_id = HasNoLF-append (codes "# --first-id ") (decimal first_id) (no-lf-tested (codes "# --first-id ") refl) (no-lf-decimal first_id)

-- the first line, and then the lines of all events
abbrev pub recording : ServeSettings → List PastLinkEvent → List ℕ
recording asked events = first_comment asked.first_id ++ recorded (served asked) events

pub recording-comes : (asked : ServeSettings) (events : List PastLinkEvent) → AllFit events → length (recording asked events) ≤ tape_limit
    → Comes asked (begin (over_events (replay asked.first_id))) (recording asked events) (all_replayed asked events) (gate_events events)
recording-comes asked events fit room =
    let command = over_events (replay asked.first_id) in
    let long = length-append (first_comment asked.first_id) (recorded (served asked) events) in
    let none : List ℕ × List PastEvent = ([], []) in
    let mid = (one_further (begin command) (first_comment asked.first_id) none).1 in
    let one = reads-line command (begin command) (first_words asked.first_id) none (first-whole asked.first_id) refl (omega (arith, room, long)) in
    let others = events-come asked events mid fit refl (omega (arith, room, long)) in
    record {
      to = others.to;
      reads = reads-both command (begin command) mid others.to (first_comment asked.first_id) (recorded (served asked) events) [] (all_replayed asked events) one others.reads;
      kept-is = others.kept-is;
    }

-- what is read of a tape that begins with a recording
abbrev pub rest_read : ServeSettings → (to : Progress (List PastEvent)) → List ℕ → Reading (List PastEvent)
rest_read asked to later = read_lines (over_events (replay asked.first_id)) to (lines_of later)

pub front-read : (asked : ServeSettings) (events : List PastLinkEvent) (later held : List ℕ) (c : Comes asked (begin (over_events (replay asked.first_id))) (recording asked events) (all_replayed asked events) (gate_events events))
    → held ≡ recording asked events ++ later → read_of asked held ≡ with_text (all_replayed asked events) (rest_read asked c.to later)
front-read asked events later held c is = ap (read_of asked) is ∙ c.reads.goes_on later

pub all-read : (asked : ServeSettings) (events : List PastLinkEvent) (held : List ℕ) (c : Comes asked (begin (over_events (replay asked.first_id))) (recording asked events) (all_replayed asked events) (gate_events events))
    → held ≡ recording asked events → read_of asked held ≡ record { text = all_replayed asked events; after = c.to; bad = false }
all-read asked events held c is =
    front-read asked events [] held c (is ∙ sym (append-nil (recording asked events)))
    ∙ ap (λ (l : List ℕ). record { text = l; after = c.to; bad = false }) (append-nil (all_replayed asked events))

-- its text begins with that of the events
pub front-text : (asked : ServeSettings) (events : List PastLinkEvent) (x y : Reading (List PastEvent)) → x ≡ with_text (all_replayed asked events) y
    → opening_text asked.first_id ++ x.text ++ last_text (over_events (replay asked.first_id)) x ≡ opening_text asked.first_id ++ all_replayed asked events ++ (y.text ++ last_text (over_events (replay asked.first_id)) (with_text (all_replayed asked events) y))
front-text asked events x y is =
    let command = over_events (replay asked.first_id) in
    let made = opening_text asked.first_id in
    let all = all_replayed asked events in
    ap (λ (z : Reading (List PastEvent)). made ++ z.text ++ last_text command z) is
    ∙ ap (λ (l : List ℕ). l ++ last_text command (with_text all y)) (sym (append_assoc made all y.text))
    ∙ append_assoc (made ++ all) y.text (last_text command (with_text all y))

-- the lines of all events, and then that of one more
pub line-comes : (asked : ServeSettings) (events : List PastLinkEvent) (e : PastLinkEvent) → AllFit (e ∷ events) → length (recording asked events ++ event_lines e []) ≤ tape_limit
    → Comes asked (begin (over_events (replay asked.first_id))) (recording asked events ++ event_lines e []) (all_replayed asked (e ∷ events)) (gate_events (e ∷ events))
line-comes asked events e fit room =
    let command = over_events (replay asked.first_id) in
    let long = length-append (recording asked events) (event_lines e []) in
    let before = recording-comes asked events fit.1 (omega (arith, room, long)) in
    let reached = before.reads.bytes-are in
    let last = event-comes asked events e [] before.to fit.0 before.kept-is (omega (arith, room, long, reached)) in
    record {
      to = last.to;
      reads = reads-both command (begin command) before.to last.to (recording asked events) (event_lines e []) (all_replayed asked events) (replayed asked events e) before.reads last.reads;
      kept-is = last.kept-is;
    }

-- ---- a front of the first line

-- a front of a line is one line, or nothing
one-line : (part held lost : List ℕ) → HasNoLF part → part ++ 10 ∷ [] ≡ held ++ lost → (held ≡ []) ⊎ (lines_of held ≡ held ∷ [])
one-line part [] lost whole is = inl refl
one-line [] (h ∷ []) lost whole is = let lf : h ≡ 10 = cc in inr (ap (λ (n : ℕ). lines_of (n ∷ [])) lf ∙ ap (λ (n : ℕ). (n ∷ []) ∷ []) (sym lf))
one-line [] (h ∷ g ∷ hs) lost whole is = absurd cc
one-line (p ∷ ps) (h ∷ hs) lost whole is =
    let same : p ≡ h = cc in
    let others : ps ++ 10 ∷ [] ≡ hs ++ lost = cc in
    let no_lf : nat_eq h 10 ≡ false = false_from_ne_true (nat_eq h 10) (λ e. whole.0 (same ∙ eqb-true h 10 e)) in
    inr (ap (λ (t : Bool). cond t ((10 ∷ []) ∷ lines_of hs) (onto_first h (lines_of hs))) no_lf ∙ go (one-line ps hs lost whole.1 others))
  where
    go : (hs ≡ []) ⊎ (lines_of hs ≡ hs ∷ []) → onto_first h (lines_of hs) ≡ (h ∷ hs) ∷ []
    go (inl none) = ap (λ (l : List ℕ). onto_first h (lines_of l)) none ∙ ap (λ (l : List ℕ). (h ∷ l) ∷ []) (sym none)
    go (inr one) = ap (onto_first h) one

-- what begins with `#` says nothing, with an LF and without
front-skips : (n : ℕ) (bs : List ℕ) → replay_line (take n (35 ∷ bs)) ≡ Some Skip
front-skips zero bs = refl
front-skips (suc n) bs = refl

comment-skips : (bs : List ℕ) → replay_line (content (35 ∷ bs)) ≡ Some Skip
comment-skips bs =
    let line = 35 ∷ bs in
    let last = length line - 1 in
    cond_both (nat_lt 0 (length line) && (slice_index line last == 10)) (take last line) line (λ (l : List ℕ). replay_line l ≡ Some Skip) (λ ends. front-skips last bs) (λ goes_on. refl)

-- it is read as no event, and has no text
pub record IsSilent (asked : ServeSettings) (held : List ℕ) : Type 0 where
  pub to : Progress (List PastEvent)
  pub read-is : read_of asked held ≡ record { text = []; after = to; bad = false }
  pub kept-is : to.kept ≡ []

comment-read : (asked : ServeSettings) (bs : List ℕ) → lines_of (35 ∷ bs) ≡ (35 ∷ bs) ∷ [] → length (35 ∷ bs) ≤ tape_limit → IsSilent asked (35 ∷ bs)
comment-read asked bs one room =
    let command = over_events (replay asked.first_id) in
    let from = begin command in
    let line = 35 ∷ bs in
    let none : List ℕ × List PastEvent = ([], []) in
    let within : nat_lt tape_limit (0 + length line) ≡ false = le-ltb tape_limit (0 + length line) (omega (arith, room)) in
    let next : next_line command from line ≡ Some (one_further from line none) =
    ap (λ (t : Bool). cond t None (option_map (one_further from line) (command.line [] (content line)))) within
    ∙ ap (λ (o : Option ReplayLine). option_map (one_further from line) (option_and_then (λ (said : ReplayLine). on_event (replay asked.first_id) [] (event_said said)) o)) (comment-skips bs) in
    record {
      to = (one_further from line none).1;
      read-is = ap (λ (l : List (List ℕ)). read_lines command from l) one ∙ ap (λ (o : Option (List ℕ × Progress (List PastEvent))). on_line from (λ (q : Progress (List PastEvent)). read_lines command q []) o) next;
      kept-is = refl;
    }

comment-front : (asked : ServeSettings) (words held lost : List ℕ) → HasNoLF (35 ∷ words) → (35 ∷ words) ++ 10 ∷ [] ≡ held ++ lost → length held ≤ tape_limit → IsSilent asked held
comment-front asked words [] lost whole is room = record { to = begin (over_events (replay asked.first_id)); read-is = refl; kept-is = refl }
comment-front asked words (h ∷ hs) lost whole is room = subst (λ (n : ℕ). IsSilent asked (n ∷ hs)) hash (go (one-line (35 ∷ words) (h ∷ hs) lost whole is))
  where
    hash : 35 ≡ h
    hash = cc

    go : (h ∷ hs ≡ []) ⊎ (lines_of (h ∷ hs) ≡ (h ∷ hs) ∷ []) → IsSilent asked (35 ∷ hs)
    go (inl none) = absurd cc
    go (inr one) = comment-read asked hs (subst (λ (n : ℕ). lines_of (n ∷ hs) ≡ (n ∷ hs) ∷ []) (sym hash) one) room

pub first-line-read : (asked : ServeSettings) (held : List ℕ) → Begins held (first_comment asked.first_id) → length held ≤ tape_limit → IsSilent asked held
first-line-read asked held front room = comment-front asked (codes " --first-id " ++ decimal asked.first_id) held front.more (first-whole asked.first_id) front.is room
