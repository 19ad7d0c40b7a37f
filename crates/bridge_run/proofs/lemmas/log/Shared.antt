-- What each client got is what the events of that client send.
use Rattle.std.proofs.Common.{◌≡◌, ℕ, Bool, true, false, cond, List, [], ◌∷◌, ◌++◌, Ok, Err, refl, sym, ap, ◌∙◌, append-nil, append_assoc}
use Rattle.std.proofs.lemmas.List.{append_cancel_left}
use Rattle.usb_base.specs.declared.side.Side.TheVariants.{Client, Host}
use Rattle.gate_outside.specs.declared.turn.Polled.TheVariants.{Took, NotYet, Ended, Failed}
use Rattle.gate_outside.specs.Calls.{Call, Dial, Listen, Accept, Poll, Write, Close, written_by, went}
use Rattle.bridge_run.specs.events.Events.{PastLinkEvent, ClientComes, SideEnd}
use Rattle.bridge_run.specs.events.Prescribed.{Prescribed, gained}
use Rattle.bridge_run.specs.course.Calls.{ends_next}
use Rattle.bridge_run.specs.written.Ups.{client_at, client_behind, to_clients}
use Rattle.bridge_run.specs.log.Log.{Terms, events_of, behind_call, IsWritten, Settled}
use Rattle.bridge_run.specs.log.Clients.{Shares, joined_list, joined, with_event, got_by, sent_to_each}

more-joined : (earlier : List (List ℕ)) (latest bytes all : List ℕ) → joined_list earlier ++ latest ≡ all → joined_list earlier ++ (latest ++ bytes) ≡ all ++ bytes
more-joined earlier latest bytes all is = sym (append_assoc (joined_list earlier) latest bytes) ∙ ap (λ (l : List ℕ). l ++ bytes) is

same-joined : (s : Shares) (all : List ℕ) → joined s ≡ all → joined s ≡ all ++ []
same-joined s all is = is ∙ sym (append-nil all)

-- the shares of all clients, joined, are all bytes that were written
pub got-joined : (calls : List Call) → joined (got_by calls) ≡ went Client calls
got-joined [] = refl
got-joined (Dial addr answer ∷ calls) = same-joined (got_by calls) (went Client calls) (got-joined calls)
got-joined (Listen addr answer ∷ calls) = same-joined (got_by calls) (went Client calls) (got-joined calls)
got-joined (Accept (Ok true) ∷ calls) = ap (λ (l : List ℕ). l ++ []) (got-joined calls)
got-joined (Accept (Ok false) ∷ calls) = same-joined (got_by calls) (went Client calls) (got-joined calls)
got-joined (Accept (Err e) ∷ calls) = same-joined (got_by calls) (went Client calls) (got-joined calls)
got-joined (Poll side polled buf ∷ calls) = same-joined (got_by calls) (went Client calls) (got-joined calls)
got-joined (Write side bytes answer ∷ calls) = more-joined (got_by calls).earlier (got_by calls).latest (written_by Client (Write side bytes answer)) (went Client calls) (got-joined calls)
got-joined (Close side ∷ calls) = same-joined (got_by calls) (went Client calls) (got-joined calls)

event-joined : (e : PastLinkEvent) (bytes all : List ℕ) (s : Shares) → joined s ≡ all → joined (with_event e bytes s) ≡ all ++ bytes
event-joined ClientComes bytes all s is = ap (λ (l : List ℕ). l ++ bytes) is
event-joined e bytes all s is = more-joined s.earlier s.latest bytes all is

sent-joined : (p : Prescribed) (events : List PastLinkEvent) → joined (sent_to_each p events) ≡ to_clients p events
sent-joined p [] = refl
sent-joined p (e ∷ events) = event-joined e (cond (client_at e (client_behind p events)) (gained p.to_client events e) []) (to_clients p events) (sent_to_each p events) (sent-joined p events)

-- shares of the same earlier clients that join to the same bytes
same-shares : (a b : Shares) → a.earlier ≡ b.earlier → joined a ≡ joined b → a ≡ b
same-shares a b earlier is =
    let latest = append_cancel_left (joined_list a.earlier) a.latest b.latest (is ∙ ap (λ (l : List (List ℕ)). joined_list l ++ b.latest) (sym earlier)) in
    ap (λ (l : List ℕ). record a { latest = l }) latest ∙ ap (λ (l : List (List ℕ)). record b { earlier = l }) earlier

written-shares : (terms : Terms) (p : Prescribed) (events : List PastLinkEvent) (calls : List Call) → (got_by calls).earlier ≡ (sent_to_each p events).earlier → IsWritten terms p events calls → got_by calls ≡ sent_to_each p events
written-shares terms p events calls earlier w = same-shares (got_by calls) (sent_to_each p events) earlier (got-joined calls ∙ w.client ∙ sym (sent-joined p events))

end-if : (b : Bool) (p : Prescribed) (e : PastLinkEvent) (events : List PastLinkEvent) → (sent_to_each p (e ∷ events)).earlier ≡ (sent_to_each p (cond b (SideEnd Client ∷ e ∷ events) (e ∷ events))).earlier
end-if true p e events = refl
end-if false p e events = refl

close-earlier : (p : Prescribed) (events : List PastLinkEvent) → (sent_to_each p events).earlier ≡ (sent_to_each p (behind_call (Close Client) events)).earlier
close-earlier p [] = refl
close-earlier p (e ∷ events) = end-if (ends_next e true) p e events

same-earlier : (terms : Terms) (p : Prescribed) (calls : List Call) → Settled terms p calls → (got_by calls).earlier ≡ (sent_to_each p (events_of calls)).earlier
same-earlier terms p [] s = refl
same-earlier terms p (Dial addr answer ∷ calls) s = same-earlier terms p calls s.0
same-earlier terms p (Listen addr answer ∷ calls) s = same-earlier terms p calls s.0
same-earlier terms p (Accept (Ok true) ∷ calls) s =
    ap (λ (x : Shares). x.latest ∷ x.earlier) (written-shares terms p (events_of calls) calls (same-earlier terms p calls s.0) s.1.0.written)
same-earlier terms p (Accept (Ok false) ∷ calls) s = same-earlier terms p calls s.0
same-earlier terms p (Accept (Err e) ∷ calls) s = same-earlier terms p calls s.0
same-earlier terms p (Poll side (Took n) buf ∷ calls) s = same-earlier terms p calls s.0
same-earlier terms p (Poll Client NotYet buf ∷ calls) s = same-earlier terms p calls s.0
same-earlier terms p (Poll Host NotYet buf ∷ calls) s = same-earlier terms p calls s.0
same-earlier terms p (Poll side Ended buf ∷ calls) s = same-earlier terms p calls s.0
same-earlier terms p (Poll side Failed buf ∷ calls) s = same-earlier terms p calls s.0
same-earlier terms p (Write side bytes answer ∷ calls) s = same-earlier terms p calls s.0
same-earlier terms p (Close Client ∷ calls) s = same-earlier terms p calls s.0 ∙ close-earlier p (events_of calls)
same-earlier terms p (Close Host ∷ calls) s = same-earlier terms p calls s.0

-- each client got what its events send
pub got-sent : (terms : Terms) (p : Prescribed) (calls : List Call) → Settled terms p calls → IsWritten terms p (events_of calls) calls → got_by calls ≡ sent_to_each p (events_of calls)
got-sent terms p calls s w = written-shares terms p (events_of calls) calls (same-earlier terms p calls s) w

-- and each but the latest also where a call failed, or memory ran out
pub earlier-sent : (terms : Terms) (p : Prescribed) (calls : List Call) → Settled terms p calls → (got_by calls).earlier ≡ (sent_to_each p (events_of calls)).earlier
earlier-sent terms p calls s = same-earlier terms p calls s
