-- What an event that comes has sent before the loop writes it, and what is served stands for then.
use Rattle.std.proofs.Common.{◌≡◌, ℕ, not, Bool, true, false, List, [], sym, ap, ◌∙◌, subst, inr, append-nil}
use Rattle.usb_base.specs.declared.refusal.Refusal.{Refusal}
use Rattle.usb_base.specs.Lists.{is_empty}
use Rattle.bridge_run.specs.events.Events.{PastLinkEvent}
use Rattle.bridge_run.specs.declared.events.sent.Sent.{Sent}
use Rattle.bridge_run.specs.declared.course.rounds.Rounds.{Rounds}
use Rattle.bridge_run.specs.events.Prescribed.{Prescribed}
use Rattle.bridge_run.specs.course.Course.{Course}
use Rattle.bridge_run.specs.course.Outside.{Outside, Written}
use Rattle.bridge_run.specs.inner.Follows.{IsServing}
use Rattle.bridge_run.specs.served.Sends.{SendsAll, SendsPart, IsPart, nothing}

pub cleared : (sent : Sent) → sent.to_client ≡ [] → sent.to_host ≡ [] → sent.refusals ≡ [] → sent.lets_go ≡ false → sent ≡ nothing
cleared sent client host refusals lets_go =
    ap (λ (b : List ℕ). record sent { to_client = b }) client ∙ ap (λ (b : List ℕ). record sent { to_client = []; to_host = b }) host ∙ ap (λ (rs : List Refusal). record sent { to_client = []; to_host = []; refusals = rs }) refusals ∙ ap (λ (b : Bool). record nothing { lets_go = b }) lets_go

pub serving-with : (stands stands' : List PastLinkEvent → Type 0) (p : Prescribed) (k : Rounds) (w : Outside) (out : Written) (c : Course) → IsServing stands p k w out c → stands' c.events → IsServing stands' p k w out c
serving-with stands stands' p k w out c f now = record { stands_for = now; tells = f.tells; client_up = f.client_up; host_up = f.host_up; busy = f.busy; waits = f.waits; left = f.left; refused = f.refused }

-- memory ran out within it
pub part-of : (runs_out : List PastLinkEvent → PastLinkEvent → List ℕ → List ℕ → Type 0) (p : Prescribed) (events : List PastLinkEvent) (e : PastLinkEvent) (sent : Sent) → SendsPart runs_out p events e nothing sent → IsPart runs_out p events e sent.to_client sent.to_host
part-of runs_out p events e sent s =
    subst (λ (b : List ℕ). IsPart runs_out p events e b sent.to_host) (sym s.to_client) (subst (λ (b : List ℕ). IsPart runs_out p events e s.client b) (sym s.to_host) s.part)

-- it was taken, and its refusals couldn't be told
pub untold-part : (runs_out : List PastLinkEvent → PastLinkEvent → List ℕ → List ℕ → Type 0) (p : Prescribed) (events : List PastLinkEvent) (e : PastLinkEvent) (sent : Sent) → SendsAll p events e nothing sent → not (is_empty sent.refusals) ≡ true → IsPart runs_out p events e sent.to_client sent.to_host
untold-part runs_out p events e sent s some = record {
  to_client = record { more = []; is = sym s.client ∙ sym (append-nil sent.to_client) };
  to_host = record { more = []; is = sym s.host ∙ sym (append-nil sent.to_host) };
  ran_out = inr (record { client-is = s.client; host-is = s.host; refuses = ap (λ (rs : List Refusal). not (is_empty rs)) (sym s.refusals) ∙ some });
}
