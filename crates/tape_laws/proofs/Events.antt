-- The lines that are recorded of events are read as these events.
use Rattle.std.proofs.Common.{◌≡◌, ℕ, ◌+◌, ◌≤◌, Bool, false, cond, not, List, [], ◌∷◌, ◌++◌, length, drop, option_and_then, Option, Some, None, Result, Ok, refl, sym, ap, ◌∙◌, subst, append-nil, arith}
use Rattle.std.proofs.lemmas.List.{length-append}
use Rattle.std.specs.List.{flat_map}
use Rattle.std.specs.Prelude.{option_map}
use Rattle.std.proofs.Math.Seq.{drop-length}
use Rattle.hex.specs.Hex.{encode_lower}
use Rattle.hex.specs.declared.error.FromHexError.{FromHexError}
use Rattle.hex.proofs.HexLemmas.{decode_of-encode_lower}
use Rattle.usb_base.specs.Number.{AreBytes}
use Rattle.usb_base.specs.declared.side.Side.TheVariants.{Client, Host}
use Rattle.usb_base.specs.declared.refusal.Refusal.{Refusal}
use Rattle.gate_history.specs.declared.note.Note.{Note}
use Rattle.gate_history.specs.step.Events.{PastEvent}
use Rattle.gate_history.specs.step.Events as gate
use Rattle.session_tape.specs.Lines.{refusal_comment}
use Rattle.packet_show.specs.declared.tape.ReplayLine.{ReplayLine}
use Rattle.packet_show.specs.declared.tape.ReplayLine.TheVariants as tape
use Rattle.packet_show.specs.Tape.{replay_line, bytes_of, some_bytes}
use Rattle.bridge_run.specs.events.Events.{PastLinkEvent, ClientComes, ClientQuiet, SidePiece, SideEnd}
use Rattle.bridge_run.specs.written.Recorded.{lines_of}
use Rattle.bridge_run.specs.events.Prescribed.{gained}
use Rattle.bridge_serve.specs.served.Gate.{gate_events, gate_notes}
use Rattle.tape_run.specs.tape.Tape.{event_said, host_ended}
use Rattle.tape_run.specs.Text.{sent_text}
use Rattle.packet_show.specs.declared.tape.TheConstants.{TAPE_LIMIT as tape_limit}
use Rattle.tape_run.specs.tape.TapeCommand.{TapeCommand, Progress, one_further}
use Rattle.tape_run.specs.tape.EventCommand.{EventCommand, on_event, over_events}
use Rattle.tape_run.specs.Replay.{replay}
use Rattle.tape_run.specs.Run.{HasNoLF}
use Rattle.usbgate_commands.specs.words.Serving.{ServeSettings}
use Rattle.tape_laws.specs.Recordings.{recorded, served, replayed, all_replayed}
use Rattle.tape_run.proofs.lemmas.tape.Lines.{HasNoLF-append}
use Rattle.tape_laws.proofs.Spelled.{no-lf-tested, no-lf-hex, no-lf-refusal, refusal_words}
use Rattle.tape_laws.proofs.Reading.{Reads, reads-none, reads-both, reads-line}

-- a piece of a stream
pub record IsPiece (bytes : List ℕ) : Type 0 where
  pub some : bytes ≡ [] → ⊥
  pub bytes-are : AreBytes bytes

-- an event can be told in a tape behind these: nothing of the host comes after its end
abbrev pub Fits : PastLinkEvent → List PastLinkEvent → Type 0
Fits ClientComes events = Unit {0}
Fits (SidePiece Client b) events = IsPiece b
Fits ClientQuiet events = Unit {0}
Fits (SideEnd Client) events = Unit {0}
Fits (SidePiece Host b) events = IsPiece b × (host_ended (gate_events events) ≡ false)
Fits (SideEnd Host) events = host_ended (gate_events events) ≡ false

abbrev pub AllFit : List PastLinkEvent → Type 0
AllFit [] = Unit {0}
AllFit (e ∷ events) = Fits e events × AllFit events

-- ---- one line

abbrev the_command : ServeSettings → TapeCommand (List PastEvent)
the_command asked = over_events (replay asked.first_id)

some-bytes : (bytes : List ℕ) → (bytes ≡ [] → ⊥) → some_bytes (Ok bytes) ≡ Some bytes
some-bytes [] some = absurd (some refl)
some-bytes (b ∷ bs) some = refl

-- hexadecimal digits are read back
digits-back : (bytes : List ℕ) → IsPiece bytes → bytes_of (encode_lower bytes) ≡ Some bytes
digits-back bytes piece = ap (λ (r : Result (List ℕ) FromHexError). some_bytes r) (decode_of-encode_lower bytes piece.bytes-are) ∙ some-bytes bytes piece.some

client-line : (bytes : List ℕ) → IsPiece bytes → replay_line (99 ∷ 32 ∷ encode_lower bytes) ≡ Some (tape.Client bytes)
client-line bytes piece = ap (λ (o : Option (List ℕ)). option_map tape.Client o) (digits-back bytes piece)

host-line : (bytes : List ℕ) → IsPiece bytes → replay_line (104 ∷ 32 ∷ encode_lower bytes) ≡ Some (tape.Host bytes)
host-line bytes piece = ap (λ (o : Option (List ℕ)). option_map tape.Host o) (digits-back bytes piece)

-- a line tells an event that may happen
tells : (command : EventCommand) (events : List PastEvent) (text : List ℕ) (said : ReplayLine) → replay_line text ≡ Some said → (x : Option (List ℕ × List PastEvent)) → on_event command events (event_said said) ≡ x
    → (over_events command).line events text ≡ x
tells command events text said is x gives = ap (option_and_then (λ (line : ReplayLine). on_event command events (event_said line))) is ∙ gives

abbrev told : EventCommand → List PastEvent → PastEvent → Option (List ℕ × List PastEvent)
told command events e = Some (command.text events e, e ∷ events)

may : (command : EventCommand) (events : List PastEvent) (e : PastEvent) (ended : Bool) → ended ≡ false → cond (not ended) (told command events e) None ≡ told command events e
may command events e ended is = ap (λ (t : Bool). cond (not t) (told command events e) None) is

-- ---- several lines

-- these lines are read with this text, and then this is kept
pub record Comes (asked : ServeSettings) (from : Progress (List PastEvent)) (lines text : List ℕ) (kept : List PastEvent) : Type 0 where
  pub to : Progress (List PastEvent)
  pub reads : Reads (over_events (replay asked.first_id)) from lines text to
  pub kept-is : to.kept ≡ kept

-- a line, and then others
then-comes : (asked : ServeSettings) (from : Progress (List PastEvent)) (line later text more : List ℕ) (events kept : List PastEvent) → HasNoLF line → (the_command asked).line from.kept line ≡ Some (text, events)
    → from.bytes + length ((line ++ 10 ∷ []) ++ later) ≤ tape_limit
    → ((mid : Progress (List PastEvent)) → mid.kept ≡ events → mid.bytes + length later ≤ tape_limit → Comes asked mid later more kept) → Comes asked from ((line ++ 10 ∷ []) ++ later) (text ++ more) kept
then-comes asked from line later text more events kept whole says room next =
    let x : List ℕ × List PastEvent = (text, events) in
    let mid = (one_further from (line ++ 10 ∷ []) x).1 in
    let long = length-append (line ++ 10 ∷ []) later in
    let first = reads-line (the_command asked) from line x whole says (omega (arith, room, long)) in
    let others = next mid refl (omega (arith, room, long)) in
    record {
      to = others.to;
      reads = reads-both (the_command asked) from mid others.to (line ++ 10 ∷ []) later text more first others.reads;
      kept-is = others.kept-is;
    }

-- comments say nothing
comments : (asked : ServeSettings) (refusals : List Refusal) (from : Progress (List PastEvent)) → from.bytes + length (flat_map refusal_comment refusals) ≤ tape_limit → Comes asked from (flat_map refusal_comment refusals) [] from.kept
comments asked [] from room = record { to = from; reads = reads-none (the_command asked) from; kept-is = refl }
comments asked (r ∷ refusals) from room =
    then-comes asked from (35 ∷ 32 ∷ refusal_words r) (flat_map refusal_comment refusals) [] [] from.kept from.kept (HasNoLF-append (35 ∷ 32 ∷ []) (refusal_words r) (no-lf-tested (35 ∷ 32 ∷ []) refl) (no-lf-refusal r)) refl room
    (λ mid kept-is fits. let later = comments asked refusals mid fits in record { to = later.to; reads = later.reads; kept-is = later.kept-is ∙ kept-is })

-- a line of an event, and then the comments of its refusals
with-comments : (asked : ServeSettings) (from : Progress (List PastEvent)) (line text : List ℕ) (events : List PastEvent) (refusals : List Refusal) → HasNoLF line → (the_command asked).line from.kept line ≡ Some (text, events)
    → from.bytes + length ((line ++ 10 ∷ []) ++ flat_map refusal_comment refusals) ≤ tape_limit → Comes asked from ((line ++ 10 ∷ []) ++ flat_map refusal_comment refusals) text events
with-comments asked from line text events refusals whole says room =
    let all = then-comes asked from line (flat_map refusal_comment refusals) text [] events events whole says room
    (λ mid kept-is fits. let later = comments asked refusals mid fits in record { to = later.to; reads = later.reads; kept-is = later.kept-is ∙ kept-is }) in
    record { to = all.to; reads = subst (λ (l : List ℕ). Reads (the_command asked) from ((line ++ 10 ∷ []) ++ flat_map refusal_comment refusals) l all.to) (append-nil text) all.reads; kept-is = all.kept-is }

-- ---- an event

says-nothing : (client host : List ℕ) (notes : List Note) → sent_text (drop (length client) client) (drop (length host) host) (drop (length notes) notes) ≡ []
says-nothing client host notes =
    ap (λ (l : List ℕ). sent_text l (drop (length host) host) (drop (length notes) notes)) (drop-length client) ∙ ap (λ (l : List ℕ). sent_text [] l (drop (length notes) notes)) (drop-length host)
    ∙ ap (λ (l : List Note). sent_text [] [] l) (drop-length notes)

-- what isn't an event of the gate's has no line of its own, and sends nothing
unsaid : (asked : ServeSettings) (refusals : List Refusal) (from : Progress (List PastEvent)) (text : List ℕ) (events : List PastEvent) → text ≡ [] → from.kept ≡ events → from.bytes + length (flat_map refusal_comment refusals) ≤ tape_limit
    → Comes asked from (flat_map refusal_comment refusals) text events
unsaid asked refusals from text events none kept-is room =
    let all = comments asked refusals from room in
    record { to = all.to; reads = subst (λ (l : List ℕ). Reads (the_command asked) from (flat_map refusal_comment refusals) l all.to) (sym none) all.reads; kept-is = all.kept-is ∙ kept-is }

pub event-comes : (asked : ServeSettings) (events : List PastLinkEvent) (e : PastLinkEvent) (refusals : List Refusal) (from : Progress (List PastEvent)) → Fits e events → from.kept ≡ gate_events events → from.bytes + length (lines_of e refusals) ≤ tape_limit
    → Comes asked from (lines_of e refusals) (replayed asked events e) (gate_events (e ∷ events))
event-comes asked events ClientComes refusals from fits kept-is room = unsaid asked refusals from (replayed asked events ClientComes) (gate_events events) (says-nothing ((served asked).to_client events) ((served asked).to_host events) (gate_notes asked.first_id events)) kept-is room
event-comes asked events ClientQuiet refusals from fits kept-is room = unsaid asked refusals from (replayed asked events ClientQuiet) (gate_events events) (says-nothing ((served asked).to_client events) ((served asked).to_host events) (gate_notes asked.first_id events)) kept-is room
event-comes asked events (SidePiece Client b) refusals from fits kept-is room =
    with-comments asked from (99 ∷ 32 ∷ encode_lower b) (replayed asked events (SidePiece Client b)) (gate.ClientPiece b ∷ gate_events events) refusals (HasNoLF-append (99 ∷ 32 ∷ []) (encode_lower b) (no-lf-tested (99 ∷ 32 ∷ []) refl) (no-lf-hex b))
    (ap (λ (l : List PastEvent). (the_command asked).line l (99 ∷ 32 ∷ encode_lower b)) kept-is
    ∙ tells (replay asked.first_id) (gate_events events) (99 ∷ 32 ∷ encode_lower b) (tape.Client b) (client-line b fits) (Some (replayed asked events (SidePiece Client b), gate.ClientPiece b ∷ gate_events events)) refl) room
event-comes asked events (SideEnd Client) refusals from fits kept-is room =
    with-comments asked from (99 ∷ 46 ∷ []) (replayed asked events (SideEnd Client)) (gate.ClientEnd ∷ gate_events events) refusals (no-lf-tested (99 ∷ 46 ∷ []) refl)
    (ap (λ (l : List PastEvent). (the_command asked).line l (99 ∷ 46 ∷ [])) kept-is) room
event-comes asked events (SidePiece Host b) refusals from fits kept-is room =
    with-comments asked from (104 ∷ 32 ∷ encode_lower b) (replayed asked events (SidePiece Host b)) (gate.HostPiece b ∷ gate_events events) refusals (HasNoLF-append (104 ∷ 32 ∷ []) (encode_lower b) (no-lf-tested (104 ∷ 32 ∷ []) refl) (no-lf-hex b))
    (ap (λ (l : List PastEvent). (the_command asked).line l (104 ∷ 32 ∷ encode_lower b)) kept-is
    ∙ tells (replay asked.first_id) (gate_events events) (104 ∷ 32 ∷ encode_lower b) (tape.Host b) (host-line b fits.0) (Some (replayed asked events (SidePiece Host b), gate.HostPiece b ∷ gate_events events))
    (may (replay asked.first_id) (gate_events events) (gate.HostPiece b) (host_ended (gate_events events)) fits.1)) room
event-comes asked events (SideEnd Host) refusals from fits kept-is room =
    with-comments asked from (104 ∷ 46 ∷ []) (replayed asked events (SideEnd Host)) (gate.HostEnd ∷ gate_events events) refusals (no-lf-tested (104 ∷ 46 ∷ []) refl)
    (ap (λ (l : List PastEvent). (the_command asked).line l (104 ∷ 46 ∷ [])) kept-is
    ∙ may (replay asked.first_id) (gate_events events) gate.HostEnd (host_ended (gate_events events)) fits) room

-- ---- all events

pub events-come : (asked : ServeSettings) (events : List PastLinkEvent) (from : Progress (List PastEvent)) → AllFit events → from.kept ≡ [] → from.bytes + length (recorded (served asked) events) ≤ tape_limit
    → Comes asked from (recorded (served asked) events) (all_replayed asked events) (gate_events events)
events-come asked [] from fit none room = record { to = from; reads = reads-none (the_command asked) from; kept-is = none }
events-come asked (e ∷ events) from fit none room =
    let refusals = gained (served asked).refusals events e in
    let long = length-append (recorded (served asked) events) (lines_of e refusals) in
    let before = events-come asked events from fit.1 none (omega (arith, room, long)) in
    let reached = before.reads.bytes-are in
    let last = event-comes asked events e refusals before.to fit.0 before.kept-is (omega (arith, room, long, reached)) in
    record {
      to = last.to;
      reads = reads-both (the_command asked) from before.to last.to (recorded (served asked) events) (lines_of e refusals) (all_replayed asked events) (replayed asked events e) before.reads last.reads;
      kept-is = last.kept-is;
    }
