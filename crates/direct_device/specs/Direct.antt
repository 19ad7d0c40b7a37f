-- The device attached directly: what it keeps, and what is read of that. It has no id, packet, capability or wire.
use Rattle.std.specs.Prelude.{ℕ, ◌==◌, Bool, false, if◌then◌else◌, List, [], Option, Some, None, unwrap_or, is_some}
use Rattle.usb_base.specs.declared.transfer.Transfer.{Transfer}
use Rattle.usb_base.specs.declared.transfer.Outcome.{Outcome}
use Rattle.usb_base.specs.declared.transfer.StreamPacket.{StreamPacket}
use Rattle.usb_base.specs.declared.status.UsbStatus.TheVariants.{Cancelled}
use Rattle.control_route.specs.declared.route.Route.{Route}
use Rattle.control_route.specs.Changes.{is_change}
use Rattle.chapter9.specs.Standard.{ended}
use Rattle.model_device.specs.Submit.{routed_outcome}
use Rattle.redir_host.specs.guest.Asking.{routed}
pub use Rattle.usb_base.specs.Firsts.{without_first}
use Rattle.redir_host.specs.state.Queues.{queue_of}
use Rattle.gate_history.specs.declared.request.Request.{Request}
use Rattle.gate_history.specs.declared.verdict.Verdict.{Verdict}
use Rattle.gate_history.specs.declared.verdict.Verdict.TheVariants.{Routed}
use Rattle.gate_history.specs.step.Marks.{Submission}
use Rattle.gate_history.specs.write.Packets.{no_setup}
use Rattle.gate_history.specs.state.Ups.{Up, no_streams, stream_of}

-- what a submit asks, and what is made of it
pub record Load : Type 0 where
  pub request : Request
  pub verdict : Verdict

-- a submit without an answer, with the number of the unlink that asks it back
pub record Live : Type 0 where
  pub load : Load
  pub unlinker : Option ℕ

-- one that the device hasn't performed, and whether it was asked back
pub record Waiting : Type 0 where
  pub load : Load
  pub asked : Bool

-- one that was performed, or taken off the queue, whose answer the client hasn't got
pub record Ran : Type 0 where
  pub load : Load
  pub outcome : Outcome

-- `way` has, of each IN endpoint's address, the packets that its stream has sent and that haven't arrived
pub record Direct (S : Type 0) : Type 0 where
  pub gadget : S
  pub live : List Live
  pub queue : List Waiting
  pub ran : List Ran
  pub streams : List (Option Up)
  pub way : ℕ → List StreamPacket
  pub imported : Bool
  pub gone : Bool

abbrev pub no_way : ℕ → List StreamPacket
no_way ep = []

abbrev pub first_direct : {S : Type 0} → S → Direct S
first_direct s = record {
  gadget = s;
  live = [];
  queue = [];
  ran = [];
  streams = no_streams;
  way = no_way;
  imported = false;
  gone = false;
}

-- ---- of a load

-- as the definitions of answers and of waiting read it, of which none looks at a place or an id: the device has neither
abbrev pub as_submission : Load → Submission
as_submission l = record { place = 0; request = l.request; verdict = l.verdict; id = 0 }

abbrev pub number : Load → ℕ
number l = l.request.seqnum

abbrev pub is_number : ℕ → Load → Bool
is_number n l = number l == n

-- ---- what is asked of the device, and what is seen of its outcome

-- of a route its setup alone
abbrev pub normal_by : Request → Verdict → Transfer
normal_by r (Routed route) = routed route
normal_by r _ = r.transfer

abbrev pub normal_of : Load → Transfer
normal_of l = normal_by l.request l.verdict

abbrev pub seen_by : Request → Verdict → ℕ → Outcome → Outcome
seen_by r (Routed route) configuration o = routed_outcome route (unwrap_or r.transfer.setup no_setup) configuration o
seen_by r _ configuration o = o

abbrev pub seen_of : Load → ℕ → Outcome → Outcome
seen_of l configuration o = seen_by l.request l.verdict configuration o

-- the change that it is, if it is one
abbrev pub change_in : Verdict → Option Route
change_in (Routed route) = if is_change route then Some route else None
change_in _ = None

-- it ended so, and moved nothing
abbrev pub cancelled : Load → Ran
cancelled l = record { load = l; outcome = ended Cancelled }

-- ---- queues: endpoint 0 has one for both directions

abbrev pub is_at : ℕ → Waiting → Bool
is_at ep q = queue_of (normal_of q.load).ep == queue_of ep

-- ---- streams

-- of a stream that is down nothing is on the way
abbrev pub way_if : Option Up → List StreamPacket → List StreamPacket
way_if up packets = if is_some up then packets else []

abbrev pub way_by : List (Option Up) → (ℕ → List StreamPacket) → ℕ → List StreamPacket
way_by ups way ep = way_if (stream_of ups ep) (way ep)

abbrev pub with_way : ℕ → List StreamPacket → (ℕ → List StreamPacket) → ℕ → List StreamPacket
with_way ep packets way e = if e == ep then packets else way e
