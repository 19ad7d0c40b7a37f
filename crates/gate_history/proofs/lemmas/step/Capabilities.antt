-- The host's stream is read by the capabilities that are agreed, so each packet of it fits.
use Rattle.std.proofs.Common.{◌≡◌, ℕ, Bool, true, false, cond, List, [], ◌∷◌, ◌++◌, length, Option, Some, None, refl, sym, ap, subst, ◌∙◌}
use Rattle.std.specs.Prelude.{unwrap_or}
use Rattle.std.proofs.Props.{props}
use Rattle.std.proofs.lemmas.Bool.{true≢false}
use Rattle.usb_base.specs.Number.{AreBytes}
use Rattle.usb_base.specs.declared.reason.Reason.{Reason}
use Rattle.packet_stream.specs.Format.{Format, IsSound}
use Rattle.packet_stream.specs.Split.{Position, past as behind, Spells, reads, split}
use Rattle.packet_stream.proofs.Splits.{is_splitting}
use Rattle.redir_wire.specs.declared.packet.Caps.{Caps}
use Rattle.redir_wire.specs.declared.state.RedirState.{RedirState}
use Rattle.redir_wire.specs.declared.packet.Header.{Header}
use Rattle.redir_wire.specs.declared.packet.RedirControl.TheVariants as plain
use Rattle.redir_wire.specs.declared.packet.Way.TheVariants.{ToGuest}
use Rattle.redir_wire.specs.State.{start}
use Rattle.redir_wire.specs.Header.{IdFits}
use Rattle.redir_data.specs.declared.packet.RedirPacket.{RedirPacket}
use Rattle.redir_data.specs.declared.packet.RedirPacket.TheVariants.{Plain, Carrying}
use Rattle.redir_data.specs.Streams.{advanced, after, stream_format, stream_start}
use Rattle.redir_data.specs.sound.Joined.{stream_sound}
use Rattle.gate_history.specs.step.Streams.{host_reader}
use Rattle.gate_history.specs.declared.item.Item.{Item}
use Rattle.gate_history.specs.declared.item.Item.TheVariants.{Asked, ClientWrong, ClientLeft, Told, HostWrong, HostLeft}
use Rattle.gate_history.specs.step.Marks.{Mark}
use Rattle.gate_history.specs.state.Sides.{closes_host, host_over, sides, agrees}
use Rattle.gate_history.specs.state.State.{State, state_of}
use Rattle.gate_history.specs.state.Flight.{wide_ids}
use Rattle.gate_history.specs.host.Responses.{Response, Data, Status, response_of}
use Rattle.gate_history.specs.step.Meaning.{told_meaning, mark_of}
use Rattle.gate_history.specs.step.Past.{is_left_out, past}
use Rattle.gate_history.specs.step.Came.{told}
use Rattle.gate_history.specs.step.Fits.{ResponseFits, HelloFits, ToldFits}
use Rattle.gate_history.proofs.lemmas.step.Apart.{asked-host, wrong-host, left-host, asked-agreed, wrong-agreed, left-agreed, response-agrees, data-agrees}
use Rattle.gate_history.proofs.lemmas.step.Fits.{IsInStep, told_fits}

-- ---- any stream

-- the state behind these packets
pub states : {S P : Type 0} → (S → P → S) → S → List (ℕ × P) → S
states next s [] = s
states next s (i ∷ is) = states next (next s i.1) is

pub states-more : {S P : Type 0} (next : S → P → S) (s : S) (is : List (ℕ × P)) (i : ℕ × P) → states next s (is ++ i ∷ []) ≡ next (states next s is) i.1
unfolding states
states-more next s [] i = refl
states-more next s (j ∷ is) i = states-more next (next s j.1) is i

fits-behind : {S P : Type 0} (format : S → Format P Reason) (next : S → P → S) (a z : Position S) (bytes rest : List ℕ) (given left : List (ℕ × P)) (i : ℕ × P) →
    Spells format next a bytes (given ++ i ∷ left) z rest → (format (states next a.state given)).Fits i.1
unfolding states
fits-behind format next a z bytes rest [] left i spelled = spelled.2
fits-behind format next a z bytes rest (j ∷ given) left i spelled =
    fits-behind format next (behind next a j.1 (length ((format a.state).spelling j.1))) z spelled.0 rest given left i spelled.4

-- a packet of a stream fits its format in the state behind those before it
pub fits-at : {S P : Type 0} (format : S → Format P Reason) (next : S → P → S) → ((s : S) → IsSound (format s)) → (a : Position S) (bytes : List ℕ) (given left : List (ℕ × P)) (i : ℕ × P) → AreBytes bytes →
    (split (reads format next) a bytes).packets ≡ given ++ i ∷ left → (format (states next a.state given)).Fits i.1
fits-at {P = P} format next sound a bytes given left i are is =
    let x = split (reads format next) a bytes in
    let found = is_splitting format next sound a bytes are in
    fits-behind format next a x.position bytes found.left given left i (subst (λ (ps : List (ℕ × P)). Spells format next a bytes ps x.position found.left) is found.spelled)

-- ---- the host's

told-step : (st : State) (place : ℕ) (h : Header) (p : RedirPacket) (s : RedirState) (caps : Caps) → IsInStep s caps → IsInStep (advanced s p) (unwrap_or (agrees (told_meaning st place h p)) caps)
told-step st place h (Plain (plain.Hello hello)) s caps step = record { caps_are = refl; none_yet = λ e. absurd (true≢false (sym e)) }
told-step st place h (Plain plain.Disconnect) s caps step = step
told-step st place h (Carrying d) s caps step = subst (IsInStep s) (sym (ap (λ (o : Option Caps). unwrap_or o caps) (data-agrees st place h d))) step
told-step st place h p s caps step = subst (IsInStep s) (sym (ap (λ (o : Option Caps). unwrap_or o caps) (response-agrees st place h (response_of p)))) step

before-by : (ms : List Mark) (m : Mark) (b : Bool) → host_over (cond b ms (m ∷ ms)) ≡ false → host_over ms ≡ false
before-by ms m true e = e
before-by ms m false e = not-turned (closes_host m.what) e
  where
    not-turned : (b : Bool) → cond b true (host_over ms) ≡ false → host_over ms ≡ false
    not-turned true e = absurd (true≢false e)
    not-turned false e = e

-- a host that isn't over was never over
pub host-before : (first : ℕ) (xs : List Item) (x : Item) → host_over (past first (x ∷ xs)) ≡ false → host_over (past first xs) ≡ false
host-before first xs x going = let ms = past first xs in let st = state_of first ms in before-by ms (mark_of st x) (is_left_out st x) going

closing-by : (ms : List Mark) (m : Mark) → closes_host m.what ≡ true → (b : Bool) → host_over ms ≡ b → host_over (cond b ms (m ∷ ms)) ≡ true
closing-by ms m closes true e = e
closing-by ms m closes false e = ap (λ (c : Bool). cond c true (host_over ms)) closes

pub wrong-over : (first : ℕ) (xs : List Item) (place : ℕ) (why : Reason) → host_over (past first (HostWrong place why ∷ xs)) ≡ true
wrong-over first xs place why = let ms = past first xs in closing-by ms (mark_of (state_of first ms) (HostWrong place why)) refl (host_over ms) refl

pub left-over : (first : ℕ) (xs : List Item) → host_over (past first (HostLeft ∷ xs)) ≡ true
left-over first xs = let ms = past first xs in closing-by ms (mark_of (state_of first ms) HostLeft) refl (host_over ms) refl

told-agreed : (first : ℕ) (xs : List Item) (place : ℕ) (h : Header) (p : RedirPacket) → host_over (past first xs) ≡ false →
    (sides (past first (Told place h p ∷ xs))).agreed ≡ unwrap_or (agrees (told_meaning (state_of first (past first xs)) place h p)) (sides (past first xs)).agreed
told-agreed first xs place h p going =
    let ms = past first xs in
    ap (λ (b : Bool). (sides (cond b ms (mark_of (state_of first ms) (Told place h p) ∷ ms))).agreed) going

-- behind all packets of a host that isn't over
pub in-step : (first : ℕ) (xs : List Item) → host_over (past first xs) ≡ false → IsInStep (states after start (told xs)) (sides (past first xs)).agreed
unfolding states
in-step first [] going = record { caps_are = refl; none_yet = λ _. refl }
in-step first (Asked place p ∷ xs) going =
    subst (IsInStep (states after start (told xs))) (sym (asked-agreed first xs place p)) (in-step first xs (sym (asked-host first xs place p) ∙ going))
in-step first (ClientWrong place why ∷ xs) going =
    subst (IsInStep (states after start (told xs))) (sym (wrong-agreed first xs place why)) (in-step first xs (sym (wrong-host first xs place why) ∙ going))
in-step first (ClientLeft ∷ xs) going =
    subst (IsInStep (states after start (told xs))) (sym (left-agreed first xs)) (in-step first xs (sym (left-host first xs) ∙ going))
in-step first (Told place h p ∷ xs) going =
    let was = host-before first xs (Told place h p) going in
    let ms = past first xs in
    let step = told-step (state_of first ms) place h p (states after start (told xs)) (sides ms).agreed (in-step first xs was) in
    let behind-it : states after start (told xs ++ (place, (h, p)) ∷ []) ≡ advanced (states after start (told xs)) p = states-more after start (told xs) (place, (h, p)) in
    subst (λ (s : RedirState). IsInStep s (sides (past first (Told place h p ∷ xs))).agreed) (sym behind-it)
    (subst (IsInStep (advanced (states after start (told xs)) p)) (sym (told-agreed first xs place h p was)) step)
in-step first (HostWrong place why ∷ xs) going = absurd (true≢false (sym (wrong-over first xs place why) ∙ going))
in-step first (HostLeft ∷ xs) going = absurd (true≢false (sym (left-over first xs) ∙ going))

-- the next packet of a host that isn't over
pub told-fits : (first : ℕ) (xs : List Item) (bytes : List ℕ) (left : List (ℕ × (Header × RedirPacket))) (i : ℕ × (Header × RedirPacket)) → host_over (past first xs) ≡ false → AreBytes bytes →
    (split host_reader stream_start bytes).packets ≡ told xs ++ i ∷ left → ToldFits (sides (past first xs)).agreed i.1.0 i.1.1
told-fits first xs bytes left i going are is =
    told_fits (states after start (told xs)) (sides (past first xs)).agreed i.1.0 i.1.1 (in-step first xs going)
    (fits-at (stream_format ToGuest) after (stream_sound ToGuest) stream_start bytes (told xs) left i are is)

-- ---- there is one proof of it

id_fits-prop : (wide : Bool) (id : ℕ) → IsProp (IdFits wide id)
id_fits-prop true id = hlevel props
id_fits-prop false id = hlevel props

response-prop : (kind : ℕ) (o : Option Response) → IsProp (ResponseFits kind o)
response-prop kind None = hlevel props
response-prop kind (Some (Status status value)) = hlevel props
response-prop kind (Some (Data endpoint length_place o)) = hlevel props

hello-prop : (caps : Caps) (p : RedirPacket) → IsProp (HelloFits caps p)
hello-prop caps (Plain (plain.Hello hello)) = hlevel props
hello-prop caps _ = hlevel props

pub told_fits-prop : (caps : Caps) (h : Header) (p : RedirPacket) → IsProp (ToldFits caps h p)
told_fits-prop caps h p = λ x y i. record {
  id_fits = id_fits-prop (wide_ids caps) h.id x.id_fits y.id_fits i;
  response = response-prop h.kind (response_of p) x.response y.response i;
  hello = hello-prop caps p x.hello y.hello i;
}
