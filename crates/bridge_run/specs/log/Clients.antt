-- What each client got: by the log of the doors' calls, and by the events.
use Rattle.std.specs.Prelude.{ℕ, Bool, true, if◌then◌else◌, List, [], ◌∷◌, ◌++◌, Result, Ok}
use Rattle.usb_base.specs.declared.side.Side.TheVariants.{Client}
use Rattle.gate_outside.specs.declared.fault.Failed.{Failed as Fault}
use Rattle.gate_outside.specs.Calls.{Call, Accept, Write, written_by}
use Rattle.bridge_run.specs.events.Events.{PastLinkEvent, ClientComes}
use Rattle.bridge_run.specs.events.Prescribed.{Prescribed, gained}
use Rattle.bridge_run.specs.written.Ups.{client_at, client_behind}

-- what the latest client got, and each of those before it, the latest first. Last of all stands what was written before
-- any had come.
pub record Shares : Type 0 where
  pub latest : List ℕ
  pub earlier : List (List ℕ)

abbrev pub no_shares : Shares
no_shares = record { latest = []; earlier = [] }

abbrev pub with_more : List ℕ → Shares → Shares
with_more bytes shares = record shares { latest = shares.latest ++ bytes }

-- and then the next client comes
abbrev pub with_next : List ℕ → Shares → Shares
with_next bytes shares = record { latest = bytes; earlier = shares.latest ∷ shares.earlier }

abbrev pub joined_list : List (List ℕ) → List ℕ
joined_list [] = []
joined_list (got ∷ earlier) = joined_list earlier ++ got

-- all of them joined, in the order in which the clients came
abbrev pub joined : Shares → List ℕ
joined shares = joined_list shares.earlier ++ shares.latest

-- ---- by the calls

abbrev pub behind_answer : Result Bool Fault → Shares → Shares
behind_answer (Ok true) shares = with_next [] shares
behind_answer _ shares = shares

abbrev pub with_call : Call → Shares → Shares
with_call (Accept answer) shares = behind_answer answer shares
with_call (Write side bytes answer) shares = with_more (written_by Client (Write side bytes answer)) shares
with_call call shares = shares

-- the bytes that these calls wrote to each client's link, from where it came to where the next one does
abbrev pub got_by : List Call → Shares
got_by [] = no_shares
got_by (call ∷ calls) = with_call call (got_by calls)

-- ---- by the events

abbrev pub with_event : PastLinkEvent → List ℕ → Shares → Shares
with_event ClientComes bytes shares = with_next bytes shares
with_event e bytes shares = with_more bytes shares

-- what each event sends to the client that is there, where that one's link is up
abbrev pub sent_to_each : Prescribed → List PastLinkEvent → Shares
sent_to_each p [] = no_shares
sent_to_each p (e ∷ events) = with_event e (if client_at e (client_behind p events) then gained p.to_client events e else []) (sent_to_each p events)
