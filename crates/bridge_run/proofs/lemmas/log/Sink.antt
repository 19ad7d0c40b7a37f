-- What a sink was told, piece by piece.
use Rattle.std.proofs.Common.{◌≡◌, ℕ, List, [], ◌∷◌, ◌++◌, Result, refl, sym, ap, ◌∙◌, subst, append-nil, append_assoc}
use Rattle.std.specs.List.{flat_map}
use Rattle.usb_base.specs.Writes.{Begins}
use Rattle.usb_base.specs.declared.refusal.Refusal.{Refusal}
use Rattle.usb_base.specs.Refusal.{refusal_line}
use Rattle.gate_outside.specs.declared.fault.Failed.{Failed}
use Rattle.gate_outside.specs.Moved.{Moves, MovesFront}
use Rattle.gate_outside.proofs.Moving.{moves-none, moves-append}
use Rattle.bridge_run.specs.events.Events.{PastLinkEvent}
use Rattle.bridge_run.specs.declared.events.sent.Sent.{Sent}
use Rattle.bridge_run.specs.events.Prescribed.{Prescribed, gained}
use Rattle.bridge_run.specs.written.Ups.{told_of}
use Rattle.bridge_run.specs.log.Log.{Told, InPart}
use Rattle.bridge_run.specs.inner.Follows.{Prepared}

-- nothing was told
pub told-none : {S : Type 0} (gives : S → List ℕ → Result ℕ Failed → S → Type 0) (now : S) → Told gives now now []
told-none gives now = moves-none gives now

-- lines were told, and then more
pub told-more : {S : Type 0} (gives : S → List ℕ → Result ℕ Failed → S → Type 0) (bytes more : List ℕ) (old mid new : S) → Told gives old mid bytes → Told gives mid new more → Told gives old new (bytes ++ more)
told-more gives bytes more old mid new before behind = moves-append gives bytes more old mid new before behind

-- the lines of an event
lines-of : (p : Prescribed) (events : List PastLinkEvent) (e : PastLinkEvent) (sent : Sent) (lines : List ℕ) → Prepared p events e sent lines → lines ≡ flat_map refusal_line (gained p.refusals events e)
lines-of p events e sent lines prepared = prepared.lines-is ∙ ap (λ (rs : List Refusal). flat_map refusal_line rs) prepared.refusals

-- an event's lines were told
pub told-event : {S : Type 0} (gives : S → List ℕ → Result ℕ Failed → S → Type 0) (p : Prescribed) (events : List PastLinkEvent) (e : PastLinkEvent) (sent : Sent) (lines given : List ℕ) (old mid new : S) → Prepared p events e sent lines → given ≡ lines
    → Told gives old mid (told_of p events) → Moves gives given mid new → Told gives old new (told_of p (e ∷ events))
told-event gives p events e sent lines given old mid new prepared is before m =
    told-more gives (told_of p events) (flat_map refusal_line (gained p.refusals events e)) old mid new before (subst (λ (l : List ℕ). Moves gives l mid new) (is ∙ lines-of p events e sent lines prepared) m)

-- a front of them was
pub told-front : {S : Type 0} (gives : S → List ℕ → Result ℕ Failed → S → Type 0) (p : Prescribed) (events : List PastLinkEvent) (e : PastLinkEvent) (sent : Sent) (lines given : List ℕ) (old mid new : S) → Prepared p events e sent lines → given ≡ lines
    → Told gives old mid (told_of p events) → MovesFront gives given mid new → InPart (Told gives old new) (told_of p events) (told_of p (e ∷ events))
told-front gives p events e sent lines given old mid new prepared is before f = (
  told_of p events ++ f.front,
  (
    record { more = f.front; is = refl },
    record { more = f.back; is = ap (λ (l : List ℕ). told_of p events ++ l) (sym (lines-of p events e sent lines prepared) ∙ sym is ∙ f.parts) ∙ sym (append_assoc (told_of p events) f.front f.back) },
    told-more gives (told_of p events) f.front old mid new before f.moves,
  ),
)

-- ---- in part

-- a front of a part is one of the whole
pub front-more : (front bytes more : List ℕ) → Begins front bytes → Begins front (bytes ++ more)
front-more front bytes more f = record { more = f.more ++ more; is = ap (λ (l : List ℕ). l ++ more) f.is ∙ append_assoc front f.more more }

front-of-front : (a b c : List ℕ) → Begins a b → Begins b c → Begins a c
front-of-front a b c f h = record { more = f.more ++ h.more; is = h.is ∙ ap (λ (l : List ℕ). l ++ h.more) f.is ∙ append_assoc a f.more h.more }

-- all of the lines
pub told-all : (tells : List ℕ → Type 0) (least bytes : List ℕ) → Begins least bytes → tells bytes → InPart tells least bytes
told-all tells least bytes few t = (bytes, (few, record { more = []; is = sym (append-nil bytes) }, t))

-- and more are due
pub part-more : (tells : List ℕ → Type 0) (least bytes more : List ℕ) → InPart tells least bytes → InPart tells least (bytes ++ more)
part-more tells least bytes more t = (t.0, (t.1.0, front-more t.0 bytes more t.1.1, t.1.2))

-- fewer are there at least
pub part-least : (tells : List ℕ → Type 0) (fewer least bytes : List ℕ) → Begins fewer least → InPart tells least bytes → InPart tells fewer bytes
part-least tells fewer least bytes few t = (t.0, (front-of-front fewer least t.0 few t.1.0, t.1.1, t.1.2))
