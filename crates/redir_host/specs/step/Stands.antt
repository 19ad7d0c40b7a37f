-- When a host core stands for acts, and what one act more makes of it.
use Rattle.std.specs.Prelude.{◌≡◌, ◌⊎◌, ℕ, true, false, Bool, List, [], ◌∷◌, ◌++◌, Some, fold}
use Rattle.usb_base.specs.Number.{AreBytes}
use Rattle.usb_base.specs.declared.reason.Reason.{Reason}
use Rattle.packet_stream.specs.Split.{Splitting}
use Rattle.packet_stream.specs.Streams.{StreamView as Stream, Drained}
use Rattle.redir_wire.specs.declared.state.RedirState.{RedirState}
use Rattle.redir_wire.specs.declared.packet.Header.{Header}
use Rattle.redir_wire.specs.State.{start}
use Rattle.redir_data.specs.declared.packet.RedirPacket.{RedirPacket}
use Rattle.redir_data.specs.Streams.{after}
use Rattle.model_device.specs.Meaning.{Meaning}
use Rattle.redir_host.specs.state.Kept.{HostKept}
use Rattle.redir_host.specs.declared.state.host.Host.{Host}
use Rattle.redir_host.specs.declared.write.note.HostNote.{HostNote}
use Rattle.redir_host.specs.step.Acts.{Act, Piece, guest_bytes}
use Rattle.redir_host.specs.guest.Guest.{guest_split}
use Rattle.redir_host.specs.step.History.{brought, history}
use Rattle.redir_host.specs.step.Items.{Item}
use Rattle.redir_host.specs.step.Machine.{bytes_of, all_given, given_by, step}
use Rattle.redir_host.specs.step.Wants.{FirstWants, IsHeld}
use Rattle.redir_host.specs.write.Output.{host_of, act_bytes, act_notes}
use Rattle.redir_host.specs.write.Readable.{AreRead}
use Rattle.redir_host.specs.state.Sound.{IsSound}

-- memory ran out in an earlier call: from then on it does nothing
abbrev pub HostHasFailed : {S : Type 0} → HostKept S → Type 0
HostHasFailed k = k.failed ≡ true

-- what decides how the next packet is read, behind these packets
abbrev pub told_state : RedirState → List (ℕ × (Header × RedirPacket)) → RedirState
told_state s ps = fold (λ state p. after state p.1) s ps

-- all packets were taken, and the rest is kept, or the stream has met its wrong place
abbrev pub IsReadBy : Stream RedirState → Splitting RedirState (Header × RedirPacket) Reason → Bool → Type 0
IsReadBy kept x false = Drained kept x x.packets
IsReadBy kept x true = (at : ℕ × Reason) × (x.wrong ≡ Some at)

pub record IsRead (kept : Stream RedirState) (bytes : List ℕ) : Type 0 where
  pub fits : AreBytes bytes
  pub read : IsReadBy kept (guest_split bytes) kept.over

-- the core works, and stands for these acts, whose device began in state s
pub record HostStands {S : Type 0} (m : Meaning S) (s : S) (k : HostKept S) (acts : List Act) : Type 0 where
  pub works : k.failed ≡ false
  pub stream : IsRead k.stream (guest_bytes acts)
  pub host : k.host ≡ host_of m s acts
  pub sound : IsSound k.host
  -- its guest can read all that it has sent
  pub told : AreRead k.host.guest (all_given (λ v. v.sent) m s (history acts))
  pub state : k.host.guest ≡ told_state start (guest_split (guest_bytes acts)).packets

-- it stands for some acts
abbrev pub HasPast : {S : Type 0} → Meaning S → HostKept S → Type 0
HasPast {S = S} m k = (s : S) × ((acts : List Act) × HostStands m s k acts)

abbrev pub IsReady : {S : Type 0} → Meaning S → HostKept S → Type 0
IsReady m k = k.failed ≡ false → HasPast m k

-- ---- one act more

-- it stands for the act too, and the output gained what that sends
pub record DoesAct {S : Type 0} (m : Meaning S) (s : S) (new : HostKept S) (acts : List Act) (a : Act) (old_out new_out : List ℕ) : Type 0 where
  pub stands : HostStands m s new (a ∷ acts)
  pub sent : new_out ≡ old_out ++ act_bytes m s acts a

-- and the notes what that tells
pub record TakesAct {S : Type 0} (m : Meaning S) (s : S) (new : HostKept S) (acts : List Act) (a : Act) (old_out new_out : List ℕ) (old_notes new_notes : List HostNote) : Type 0 where
  pub does : DoesAct m s new acts a old_out new_out
  pub told : new_notes ≡ old_notes ++ act_notes m s acts a

-- memory ran out within an act: the first of its items were taken, what they send was sent, and it was wanted for what
-- is left
pub record StopsInAct {S : Type 0} (m : Meaning S) (s : S) (acts : List Act) (a : Act) (old_out new_out : List ℕ) : Type 0 where
  pub taken : List Item
  pub later : List Item
  pub parts : brought acts a ≡ taken ++ later
  pub sent : new_out ≡ old_out ++ given_by bytes_of m (host_of m s acts) taken
  -- to hold the bytes, or for the first of the items that are left
  pub wanted : ((taken ≡ []) × IsHeld acts a) ⊎ FirstWants m (fold (step m) (host_of m s acts) taken) later

-- ---- what the calls say of the core, whatever acts it stands for

-- an answer tells this of the host
abbrev pub TellsOf : {S T : Type 0} → Meaning S → HostKept S → (Host S → T) → T → Type 0
TellsOf {S = S} m old tells told = (s : S) (acts : List Act) → HostStands m s old acts → told ≡ tells (host_of m s acts)

abbrev pub Does : {S : Type 0} → Meaning S → Act → HostKept S → HostKept S → List ℕ → List ℕ → Type 0
Does {S = S} m a old new old_out new_out = (s : S) (acts : List Act) → HostStands m s old acts → DoesAct m s new acts a old_out new_out

abbrev pub TakesPiece : {S : Type 0} → Meaning S → List ℕ → HostKept S → HostKept S → List ℕ → List ℕ → List HostNote → List HostNote → Type 0
TakesPiece {S = S} m piece old new old_out new_out old_notes new_notes =
    (s : S) (acts : List Act) → HostStands m s old acts → TakesAct m s new acts (Piece piece) old_out new_out old_notes new_notes

abbrev pub StopsIn : {S : Type 0} → Meaning S → Act → HostKept S → List ℕ → List ℕ → Type 0
StopsIn {S = S} m a old old_out new_out = (s : S) (acts : List Act) → HostStands m s old acts → StopsInAct m s acts a old_out new_out
