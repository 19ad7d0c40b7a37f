-- An item of one side leaves the other as it was.
use Rattle.std.proofs.Common.{◌≡◌, ℕ, Bool, true, false, cond, not, List, ◌∷◌, Option, Some, None, refl, ap, ◌∙◌}
use Rattle.std.specs.Prelude.{nat_lt, ◌==◌, unwrap_or}
use Rattle.usb_base.specs.declared.reason.Reason.{Reason}
use Rattle.usb_base.specs.declared.refusal.Refusal.{Refusal}
use Rattle.usb_base.specs.declared.transfer.Outcome.{Outcome}
use Rattle.usbip_op.specs.declared.packet.OpPacket.{OpPacket}
use Rattle.usbip_op.specs.declared.packet.OpPacket.TheVariants as op
use Rattle.usbip_urb.specs.declared.packet.UrbPacket.{UrbPacket}
use Rattle.usbip_urb.specs.declared.packet.UrbPacket.TheVariants as urb
use Rattle.redir_wire.specs.declared.packet.Connect.{Connect}
use Rattle.redir_wire.specs.declared.packet.Caps.{Caps}
use Rattle.redir_wire.specs.declared.packet.Header.{Header}
use Rattle.redir_wire.specs.declared.packet.RedirControl.TheVariants as plain
use Rattle.redir_data.specs.declared.packet.RedirPacket.{RedirPacket}
use Rattle.redir_data.specs.declared.packet.RedirData.{RedirData}
use Rattle.redir_data.specs.declared.packet.RedirData.TheVariants as data_packet
use Rattle.redir_data.specs.declared.packet.RedirPacket.TheVariants.{Plain, Carrying}
use Rattle.redir_data.specs.declared.stream_kind.StreamKind.{StreamKind}
use Rattle.redir_data.specs.declared.stream_kind.StreamKind.TheVariants.{Iso, Interrupt}
use Rattle.usb_base.specs.declared.transfer.StreamPacket.{StreamPacket}
use Rattle.usb_base.specs.Endpoint.{is_in_endpoint}
use Rattle.usbip_urb.specs.declared.client.ClientPacket.{ClientPacket}
use Rattle.usbip_urb.specs.declared.client.ClientPacket.TheVariants.{Op, Urb}
use Rattle.gate_history.specs.declared.item.Item.{Item}
use Rattle.gate_history.specs.declared.item.Item.TheVariants.{Asked, ClientWrong, ClientLeft, Told, HostWrong, HostLeft}
use Rattle.gate_history.specs.declared.request.Request.{Request}
use Rattle.gate_history.specs.client.Requests.{request_of}
use Rattle.gate_history.specs.declared.verdict.Verdict.{Verdict}
use Rattle.gate_history.specs.declared.verdict.Verdict.TheVariants.{Now}
use Rattle.gate_history.specs.step.Marks.{Submission, Effect, Mark}
use Rattle.gate_history.specs.state.Sides.{is_client, agrees, refuses_client, ends_client, closes_host, client_over, host_over, sides}
use Rattle.gate_history.specs.state.Ups.{Up, stream_at, stream_of}
use Rattle.gate_history.specs.state.State.{State, state_of, has_number}
use Rattle.gate_history.specs.host.Responses.{Response, Data, Status, response_of, answer_kind, expected_of, mismatch}
use Rattle.gate_history.specs.step.Meaning.{importable, imported_as, asked_meaning, verdict_of, drawn_for, submission, by_stream, accepted_as, accepts, answered_as, answer_to, by_response, arrives, told_meaning, meaning, mark_of}
use Rattle.gate_history.specs.step.Past.{is_left_out, past}
use Rattle.gate_history.proofs.lemmas.step.Aside.{by-test}

-- ---- effects of the client's items

pub record SparesHost (e : Effect) : Type 0 where
  pub closes : closes_host e ≡ false
  pub agrees-none : agrees e ≡ None

client-import : (st : State) (o : Option Connect) → SparesHost (imported_as st o)
client-import st None = record { closes = refl; agrees-none = refl }
client-import st (Some c) = record { closes = refl; agrees-none = refl }

client-op : (st : State) (place : ℕ) (p : OpPacket) → SparesHost (asked_meaning st place (Op p))
client-op st place (op.ReqDevlist status) = by-test SparesHost st.sides.imported _ _ (record { closes = refl; agrees-none = refl }) (record { closes = refl; agrees-none = refl })
client-op st place (op.ReqImport status busid) = by-test SparesHost st.sides.imported _ _ (record { closes = refl; agrees-none = refl }) (client-import st (importable st busid))
client-op st place (op.RepDevlist status devices) = record { closes = refl; agrees-none = refl }
client-op st place (op.RepImport status device) = record { closes = refl; agrees-none = refl }

client-accepted : (st : State) (s : Submission) (v : Verdict) → SparesHost (accepted_as st s v)
client-accepted st s (Now status) = record { closes = refl; agrees-none = refl }
client-accepted st s _ = record { closes = refl; agrees-none = refl }

client-submit : (st : State) (r : Request) (v : Verdict) → SparesHost (accepts st r v)
client-submit st r v =
    let kept = by_stream (stream_at st.streams r.transfer.ep) v in
    client-accepted st (submission st r kept (drawn_for st r kept)) kept

client-urb : (st : State) (place : ℕ) (p : UrbPacket) → SparesHost (asked_meaning st place (Urb p))
client-urb st place (urb.Submit s) =
    by-test SparesHost (not st.sides.imported) _ _ (record { closes = refl; agrees-none = refl })
    (by-test SparesHost (has_number st s.head.seqnum) _ _ (record { closes = refl; agrees-none = refl }) (client-submit st (request_of s) (verdict_of st (request_of s))))
client-urb st place (urb.Unlink u) = by-test SparesHost (not st.sides.imported) _ _ (record { closes = refl; agrees-none = refl }) (record { closes = refl; agrees-none = refl })
client-urb st place (urb.RetSubmit r) = record { closes = refl; agrees-none = refl }
client-urb st place (urb.RetUnlink r) = record { closes = refl; agrees-none = refl }

client-asked : (st : State) (place : ℕ) (p : ClientPacket) → SparesHost (asked_meaning st place p)
client-asked st place (Op p) = client-op st place p
client-asked st place (Urb p) = client-urb st place p

-- ---- effects of the host's items

pub record SparesClient (e : Effect) : Type 0 where
  pub refuses : refuses_client e ≡ false
  pub ends : ends_client e ≡ false

-- a mismatch refuses the host
abbrev OfHost : Option Refusal → Type 0
OfHost None = Unit {0}
OfHost (Some r) = is_client r.side ≡ false

host-either : (b : Bool) (o p : Option Refusal) → OfHost o → OfHost p → OfHost (cond b o p)
host-either true o p h k = h
host-either false o p h k = k

host-mismatch : (place head : ℕ) (s : Submission) (kind : ℕ) (response : Response) → OfHost (mismatch place head (expected_of s) kind response)
host-mismatch place head s kind (Status status value) = host-either (kind == answer_kind s.verdict) _ _ tt refl
host-mismatch place head s kind (Data endpoint length_place o) =
    host-either (not (kind == answer_kind s.verdict)) _ _ refl
    (host-either (not (endpoint == s.request.transfer.ep)) _ _ refl (host-either (nat_lt s.request.transfer.wanted o.done) _ _ refl tt))

host-answered : (id : ℕ) (o : Outcome) (r : Option Refusal) → OfHost r → SparesClient (answered_as id o r)
host-answered id o None h = record { refuses = refl; ends = refl }
host-answered id o (Some r) h = record { refuses = h; ends = refl }

host-answer : (st : State) (place : ℕ) (h : Header) (response : Response) (s : Option Submission) → SparesClient (answer_to st place h response s)
host-answer st place h response None = record { refuses = refl; ends = refl }
host-answer st place h response (Some s) = host-answered h.id _ _ (host-mismatch place _ s h.kind response)

host-response : (st : State) (place : ℕ) (h : Header) (response : Option Response) → SparesClient (by_response st place h response)
host-response st place h None = record { refuses = refl; ends = refl }
host-response st place h (Some response) = host-answer st place h response _

host-arrival : (st : State) (ep : ℕ) (kind : StreamKind) (packet : StreamPacket) (o : Option Up) → SparesClient (arrives st ep kind packet o)
host-arrival st ep kind packet None = record { refuses = refl; ends = refl }
host-arrival st ep kind packet (Some up) = record { refuses = refl; ends = refl }

host-data : (st : State) (place : ℕ) (h : Header) (d : RedirData) → SparesClient (told_meaning st place h (Carrying d))
host-data st place h (data_packet.Interrupt endpoint status length body) =
    by-test SparesClient (is_in_endpoint endpoint) _ _ (host-arrival st endpoint Interrupt _ (stream_of st.streams endpoint)) (host-response st place h _)
host-data st place h (data_packet.Iso endpoint status length body) =
    by-test SparesClient (is_in_endpoint endpoint) _ _ (host-arrival st endpoint Iso _ (stream_of st.streams endpoint)) (record { refuses = refl; ends = refl })
host-data st place h d = host-response st place h (response_of (Carrying d))

host-told : (st : State) (place : ℕ) (h : Header) (p : RedirPacket) → SparesClient (told_meaning st place h p)
host-told st place h (Plain (plain.Hello hello)) = record { refuses = refl; ends = refl }
host-told st place h (Plain plain.Disconnect) = record { refuses = refl; ends = refl }
host-told st place h (Plain (plain.IsoStatus status endpoint)) = record { refuses = refl; ends = refl }
host-told st place h (Plain (plain.InterruptStatus status endpoint)) = record { refuses = refl; ends = refl }
host-told st place h (Carrying d) = host-data st place h d
host-told st place h p = host-response st place h (response_of p)

-- only a hello agrees to anything
answered-agrees : (id : ℕ) (o : Outcome) (r : Option Refusal) → agrees (answered_as id o r) ≡ None
answered-agrees id o None = refl
answered-agrees id o (Some r) = refl

answer-agrees : (st : State) (place : ℕ) (h : Header) (response : Response) (s : Option Submission) → agrees (answer_to st place h response s) ≡ None
answer-agrees st place h response None = refl
answer-agrees st place h response (Some s) = answered-agrees h.id _ _

pub response-agrees : (st : State) (place : ℕ) (h : Header) (response : Option Response) → agrees (by_response st place h response) ≡ None
response-agrees st place h None = refl
response-agrees st place h (Some response) = answer-agrees st place h response _

arrival-agrees : (st : State) (ep : ℕ) (kind : StreamKind) (packet : StreamPacket) (o : Option Up) → agrees (arrives st ep kind packet o) ≡ None
arrival-agrees st ep kind packet None = refl
arrival-agrees st ep kind packet (Some up) = refl

none-agreed : (b : Bool) (e f : Effect) → agrees e ≡ None → agrees f ≡ None → agrees (cond b e f) ≡ None
none-agreed b e f h k = by-test (λ x. agrees x ≡ None) b e f h k

pub data-agrees : (st : State) (place : ℕ) (h : Header) (d : RedirData) → agrees (told_meaning st place h (Carrying d)) ≡ None
data-agrees st place h (data_packet.Interrupt endpoint status length body) =
    none-agreed (is_in_endpoint endpoint) _ _ (arrival-agrees st endpoint Interrupt _ (stream_of st.streams endpoint)) (response-agrees st place h _)
data-agrees st place h (data_packet.Iso endpoint status length body) =
    none-agreed (is_in_endpoint endpoint) _ _ (arrival-agrees st endpoint Iso _ (stream_of st.streams endpoint)) refl
data-agrees st place h d = response-agrees st place h (response_of (Carrying d))

-- ---- items

-- what holds of a past with an item that is left out or isn't
put-by : {X : Type 0} (f : List Mark → X) (ms : List Mark) (m : Mark) (b : Bool) → f (m ∷ ms) ≡ f ms → f (cond b ms (m ∷ ms)) ≡ f ms
put-by f ms m true e = refl
put-by f ms m false e = e

turned-same : (a b before : Bool) → a ≡ false → b ≡ false → cond a true (cond b false before) ≡ before
turned-same a b before e f = ap (λ (x : Bool). cond x true (cond b false before)) e ∙ ap (λ (x : Bool). cond x false before) f

host-same : (first : ℕ) (xs : List Item) (x : Item) → SparesHost (meaning (state_of first (past first xs)) x) → host_over (past first (x ∷ xs)) ≡ host_over (past first xs)
host-same first xs x s =
    let ms = past first xs in
    let st = state_of first ms in
    put-by host_over ms (mark_of st x) (is_left_out st x) (turned-same (closes_host (meaning st x)) false (host_over ms) s.closes refl)

agreed-same : (first : ℕ) (xs : List Item) (x : Item) → agrees (meaning (state_of first (past first xs)) x) ≡ None → (sides (past first (x ∷ xs))).agreed ≡ (sides (past first xs)).agreed
agreed-same first xs x e =
    let ms = past first xs in
    let st = state_of first ms in
    put-by (λ (l : List Mark). (sides l).agreed) ms (mark_of st x) (is_left_out st x) (ap (λ (o : Option Caps). unwrap_or o (sides ms).agreed) e)

client-same : (first : ℕ) (xs : List Item) (x : Item) → SparesClient (meaning (state_of first (past first xs)) x) → client_over (past first (x ∷ xs)) ≡ client_over (past first xs)
client-same first xs x s =
    let ms = past first xs in
    let st = state_of first ms in
    put-by client_over ms (mark_of st x) (is_left_out st x) (turned-same (refuses_client (meaning st x)) (ends_client (meaning st x)) (client_over ms) s.refuses s.ends)

-- ---- of a client's items, and of the host's

pub asked-host : (first : ℕ) (xs : List Item) (place : ℕ) (p : ClientPacket) → host_over (past first (Asked place p ∷ xs)) ≡ host_over (past first xs)
asked-host first xs place p = host-same first xs (Asked place p) (client-asked (state_of first (past first xs)) place p)

pub wrong-host : (first : ℕ) (xs : List Item) (place : ℕ) (why : Reason) → host_over (past first (ClientWrong place why ∷ xs)) ≡ host_over (past first xs)
wrong-host first xs place why = host-same first xs (ClientWrong place why) (record { closes = refl; agrees-none = refl })

pub left-host : (first : ℕ) (xs : List Item) → host_over (past first (ClientLeft ∷ xs)) ≡ host_over (past first xs)
left-host first xs = host-same first xs ClientLeft (record { closes = refl; agrees-none = refl })

pub asked-agreed : (first : ℕ) (xs : List Item) (place : ℕ) (p : ClientPacket) → (sides (past first (Asked place p ∷ xs))).agreed ≡ (sides (past first xs)).agreed
asked-agreed first xs place p = agreed-same first xs (Asked place p) (client-asked (state_of first (past first xs)) place p).agrees-none

pub wrong-agreed : (first : ℕ) (xs : List Item) (place : ℕ) (why : Reason) → (sides (past first (ClientWrong place why ∷ xs))).agreed ≡ (sides (past first xs)).agreed
wrong-agreed first xs place why = agreed-same first xs (ClientWrong place why) refl

pub left-agreed : (first : ℕ) (xs : List Item) → (sides (past first (ClientLeft ∷ xs))).agreed ≡ (sides (past first xs)).agreed
left-agreed first xs = agreed-same first xs ClientLeft refl

pub told-client : (first : ℕ) (xs : List Item) (place : ℕ) (h : Header) (p : RedirPacket) → client_over (past first (Told place h p ∷ xs)) ≡ client_over (past first xs)
told-client first xs place h p = client-same first xs (Told place h p) (host-told (state_of first (past first xs)) place h p)

pub wrong-client : (first : ℕ) (xs : List Item) (place : ℕ) (why : Reason) → client_over (past first (HostWrong place why ∷ xs)) ≡ client_over (past first xs)
wrong-client first xs place why = client-same first xs (HostWrong place why) (record { refuses = refl; ends = refl })

pub left-client : (first : ℕ) (xs : List Item) → client_over (past first (HostLeft ∷ xs)) ≡ client_over (past first xs)
left-client first xs = client-same first xs HostLeft (record { refuses = refl; ends = refl })
