-- What the gateway asks of its host: nothing that it refuses; a cancel names only what was asked back; behind a change
-- only requests of endpoint 0 wait.
use Rattle.std.specs.Prelude.{◌≡◌, ℕ, ◌==◌, Bool, true, false, List, [], ◌∷◌, ◌++◌}
use Rattle.std.specs.List.{list_any, AllByRecursion}
use Rattle.usb_base.specs.Endpoint.{is_control}
use Rattle.redir_wire.specs.declared.packet.RedirControl.TheVariants as plain
use Rattle.redir_data.specs.declared.packet.RedirPacket.{RedirPacket}
use Rattle.redir_data.specs.declared.packet.RedirPacket.TheVariants.{Carrying, Plain}
use Rattle.redir_host.specs.guest.Asking.{asking_of}
use Rattle.redir_host.specs.declared.state.request.Asking.{Asking}
use Rattle.redir_host.specs.declared.state.request.Asking.TheVariants.{Asks, Refuses}
use Rattle.gate_history.specs.client.Verdict.{changes}
use Rattle.direct_device.specs.Direct.{normal_of}
use Rattle.direct_proof.specs.Requests.{Entry}

-- what the gateway asks of a host behind its hello: nothing that it refuses
abbrev pub CanAsk : Asking → Type 0
CanAsk (Refuses f ep) = ⊥
CanAsk _ = Unit {0}

abbrev pub IsAsking : RedirPacket → Type 0
IsAsking (Plain (plain.Hello x)) = ⊥
IsAsking (Plain _) = Unit {0}
IsAsking (Carrying d) = CanAsk (asking_of d)

-- a cancel on the wire names one that was asked back, if one of its id waits ahead of it
abbrev pub IsAsked : ℕ → Entry → Type 0
IsAsked id e = (e.id == id) ≡ true → e.asked ≡ true

-- what stands ahead of a packet: the entries that are held, and of those that come one for each packet before it that
-- begins one
abbrev pub is_request : Asking → Bool
is_request (Asks f t) = true
is_request _ = false

abbrev pub begins : RedirPacket → Bool
begins (Plain (plain.SetConfiguration configuration)) = true
begins (Plain plain.GetConfiguration) = true
begins (Plain (plain.SetAlt interface alt)) = true
begins (Plain (plain.GetAlt interface)) = true
begins (Plain _) = false
begins (Carrying d) = is_request (asking_of d)

abbrev pub is_cancel : RedirPacket → Bool
is_cancel (Plain plain.Cancel) = true
is_cancel _ = false

abbrev pub moved : Bool → List Entry → List Entry → List Entry
moved false ahead cs = ahead
moved true ahead [] = ahead
moved true ahead (c ∷ cs) = ahead ++ c ∷ []

abbrev pub left : Bool → List Entry → List Entry
left false cs = cs
left true [] = []
left true (c ∷ cs) = cs

abbrev pub CancelsFit : List Entry → List (ℕ × RedirPacket) → List Entry → Type 0
CancelsFit ahead [] cs = Unit {0}
CancelsFit ahead (p ∷ ps) cs = (is_cancel p.1 ≡ true → AllByRecursion (IsAsked p.0) ahead) × CancelsFit (moved (begins p.1) ahead cs) ps (left (begins p.1) cs)

abbrev pub is_change : Entry → Bool
is_change e = changes e.load.verdict

abbrev pub any_change : List Entry → Bool
any_change es = list_any is_change es

-- behind a change only requests of endpoint 0 wait
abbrev pub Behind : List Entry → Type 0
Behind [] = Unit {0}
Behind (e ∷ es) = (is_change e ≡ true → AllByRecursion (λ (y : Entry). is_control (normal_of y.load).ep ≡ true) es) × Behind es
