-- What `show` keeps of the events that it has seen.
use Rattle.std.specs.Prelude.{◌≡◌, ℕ, Bool, true, false, List, ◌∷◌, ◌++◌, Result, Ok, Err}
use Rattle.usb_base.specs.declared.side.Side.{Side}
use Rattle.usb_base.specs.declared.reason.Reason.{Reason}
use Rattle.packet_stream.specs.declared.read.ReadError.{ReadError}
use Rattle.packet_stream.specs.declared.read.ReadError.TheVariants.{Refused, Memory}
use Rattle.packet_stream.specs.Format.{Format}
use Rattle.packet_stream.specs.Split.{reads, split}
use Rattle.packet_stream.specs.Streams.{StreamView, Follows, Drained, Wrongs}
use Rattle.gate_history.specs.step.Events.{PastEvent}
use Rattle.tape_run.specs.tape.EventCommand.{EventCommand}
use Rattle.tape_run.specs.Show.{Shown, packet_lines, was_wrong, is_wrong, show_side}

abbrev pub shown_by : {S P : Type 0} → Side → (S → Format P Reason) → (S → P → S) → S → (List PastEvent → List ℕ) → (ℕ → P → List ℕ) → Shown S P
shown_by side format next start bytes line = record { side = side; reader = reads format next; start = record { state = start; place = 0 }; bytes = bytes; line = line }

-- all packets of the present stream were given, and it is over where something in it is wrong
pub record HasShown {S P : Type 0} (shown : Shown S P) (refused : Bool) (kept : StreamView S) (events : List PastEvent) : Type 0 where
  pub refused-is : refused ≡ was_wrong shown events
  pub over-is : kept.over ≡ is_wrong shown events
  pub over-refused : kept.over ≡ true → refused ≡ true
  pub follows : Follows shown.reader shown.start kept (shown.bytes events) (split shown.reader shown.start (shown.bytes events)).packets

-- it is the command that shows this side, and these events have been shown
pub record IsShow {S P : Type 0} (shown : Shown S P) (command : EventCommand) (refused : Bool) (kept : StreamView S) (events : List PastEvent) : Type 0 where
  pub command-is : command ≡ show_side shown
  pub has_shown : HasShown shown refused kept events

-- the lines of an event are put behind the text, and it has been shown
pub record ShowsEvent {S P : Type 0} (shown : Shown S P) (events : List PastEvent) (e : PastEvent) (refused_old refused_new : Bool) (old new : StreamView S) (text_old text_new : List ℕ) : Type 0 where
  pub sees : HasShown shown refused_old old events → (text_new ≡ text_old ++ (show_side shown).text events e) × HasShown shown refused_new new (e ∷ events)

-- ---- the packets that a piece makes whole

-- these packets more were given, and their lines are put behind the text
pub record Shows {S P : Type 0} (shown : Shown S P) (kept : StreamView S) (bytes : List ℕ) (given : List (ℕ × P)) (text_old text_new : List ℕ) : Type 0 where
  pub more : List (ℕ × P)
  pub follows : Follows shown.reader shown.start kept bytes (given ++ more)
  pub text-is : text_new ≡ text_old ++ packet_lines shown more

-- so far
abbrev pub ShowsSoFar : {S P : Type 0} → Shown S P → StreamView S → StreamView S → List ℕ → List ℕ → Type 0
ShowsSoFar {S = S} {P = P} shown old new text_old text_new =
    (bytes : List ℕ) (given : List (ℕ × P)) → Follows shown.reader shown.start old bytes given → Shows shown new bytes given text_old text_new

-- all were given
pub record ShowsAll {S P : Type 0} (shown : Shown S P) (new : StreamView S) (bytes : List ℕ) (given : List (ℕ × P)) (text_old text_new : List ℕ) : Type 0 where
  pub more : List (ℕ × P)
  pub drained : new.over ≡ false → Drained new (split shown.reader shown.start bytes) (given ++ more)
  pub follows : Follows shown.reader shown.start new bytes (given ++ more)
  pub text-is : text_new ≡ text_old ++ packet_lines shown more

-- all before a wrong place were given
pub record ShowsWrong {S P : Type 0} (shown : Shown S P) (place : ℕ) (reason : Reason) (bytes : List ℕ) (given : List (ℕ × P)) (text_old text_new : List ℕ) : Type 0 where
  pub more : List (ℕ × P)
  pub wrongs : Wrongs place reason (split shown.reader shown.start bytes) (given ++ more)
  pub text-is : text_new ≡ text_old ++ packet_lines shown more

abbrev pub Showed : {S P : Type 0} → Shown S P → Result (Unit {0}) ReadError → StreamView S → List ℕ → List (ℕ × P) → List ℕ → List ℕ → Type 0
Showed shown (Ok v) new bytes given text_old text_new = ShowsAll shown new bytes given text_old text_new
Showed shown (Err (Refused place reason)) new bytes given text_old text_new = ShowsWrong shown place reason bytes given text_old text_new
Showed shown (Err (Memory memory)) new bytes given text_old text_new = Unit {0}

-- whatever has come and was given
pub record ShowsPackets {S P : Type 0} (shown : Shown S P) (result : Result (Unit {0}) ReadError) (old new : StreamView S) (text_old text_new : List ℕ) : Type 0 where
  pub over : (v : Unit {0}) → result ≡ Ok v → new.over ≡ old.over
  pub ends : (place : ℕ) (reason : Reason) → result ≡ Err (Refused place reason) → (old.over ≡ false) × (new.over ≡ true)
  pub shows : (bytes : List ℕ) (given : List (ℕ × P)) → Follows shown.reader shown.start old bytes given → Showed shown result new bytes given text_old text_new
