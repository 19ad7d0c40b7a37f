-- What a packet on the wire to the host is, for the folds over it: each of these lemmas goes through all packets once.
use Rattle.std.proofs.Common.{◌≡◌, ℕ, ◌==◌, ◌⊎◌, inl, inr, Bool, true, false, cond, [], ◌∷◌, Option, Some, None, refl, ap}
use Rattle.std.specs.List.{list_any}
use Rattle.redir_wire.specs.declared.packet.RedirControl.TheVariants as plain
use Rattle.redir_data.specs.declared.packet.RedirPacket.{RedirPacket}
use Rattle.redir_data.specs.declared.packet.RedirPacket.TheVariants.{Plain, Carrying}
use Rattle.redir_host.specs.declared.state.request.Form.{Form}
use Rattle.redir_host.specs.declared.state.request.Form.TheVariants as form
use Rattle.redir_host.specs.guest.Line.{Waiting as InLine, Reset, Waits}
use Rattle.direct_proof.specs.Shared.{in_line}
use Rattle.direct_proof.specs.Stale.{asks, is_fence}
use Rattle.direct_proof.specs.Running.{runs_after, stream_endpoint, started_kind}
use Rattle.direct_proof.specs.StreamIds.{stream_id}
use Rattle.direct_proof.specs.Cancels.{begins, is_cancel}

-- ---- what stands in line

abbrev pub form_changes : Form → Bool
form_changes (form.SetConfiguration c) = true
form_changes (form.SetAlt i a) = true
form_changes _ = false

abbrev pub line_changes : InLine → Bool
line_changes Reset = true
line_changes (Waits place id f t) = form_changes f

no : false ≡ true → ⊥
no e = cc

-- what asks is a change that is put in line, or the fence's stop
pub asks-parts : (fence : Option ℕ) (q : ℕ × RedirPacket) → asks fence q ≡ true → (list_any line_changes (in_line q) ≡ true) ⊎ ((is_fence fence q.0 ≡ true) × (stream_id q ≡ q.0 ∷ []))
asks-parts fence (id, Plain plain.Reset) h = inl refl
asks-parts fence (id, Plain (plain.SetConfiguration c)) h = inl refl
asks-parts fence (id, Plain (plain.SetAlt i a)) h = inl refl
asks-parts fence (id, Plain (plain.StopIso e)) h = inr (h, refl)
asks-parts fence (id, Plain (plain.StopInterrupt e)) h = inr (h, refl)
asks-parts fence (id, Plain _) h = absurd (no h)
asks-parts fence (id, Carrying d) h = absurd (no h)

-- ---- starts and stops

-- a start or stop puts nothing in line, is no cancel, and asks as the fence's stop alone
pub record IsSwitch (q : ℕ × RedirPacket) : Type 0 where
  pub endpoint : ℕ
  pub at : stream_endpoint q.1 ≡ Some endpoint
  pub id : stream_id q ≡ q.0 ∷ []
  pub line : in_line q ≡ []
  pub first : begins q.1 ≡ false
  pub no_cancel : is_cancel q.1 ≡ false
  pub no_change : asks None q ≡ false

abbrev pub Switches_or : Option ℕ → ℕ × RedirPacket → Type 0
Switches_or None q = (stream_id q ≡ []) × (started_kind q.1 ≡ None)
Switches_or (Some e) q = IsSwitch q

pub is-switch : (q : ℕ × RedirPacket) → Switches_or (stream_endpoint q.1) q
is-switch (id, Plain (plain.StartIso e n k)) = record { endpoint = e; at = refl; id = refl; line = refl; first = refl; no_cancel = refl; no_change = refl }
is-switch (id, Plain (plain.StopIso e)) = record { endpoint = e; at = refl; id = refl; line = refl; first = refl; no_cancel = refl; no_change = refl }
is-switch (id, Plain (plain.StartInterrupt e)) = record { endpoint = e; at = refl; id = refl; line = refl; first = refl; no_cancel = refl; no_change = refl }
is-switch (id, Plain (plain.StopInterrupt e)) = record { endpoint = e; at = refl; id = refl; line = refl; first = refl; no_cancel = refl; no_change = refl }
is-switch (id, Plain _) = (refl, refl)
is-switch (id, Carrying d) = (refl, refl)

started : (b : Bool) → cond b true true ≡ false → cond b true false ≡ false
started true h = h
started false h = refl

stopped : (b : Bool) → cond b false false ≡ false
stopped true = refl
stopped false = refl

-- where a stream that runs doesn't run behind a packet, one that doesn't run doesn't either
pub runs-less : (ep : ℕ) (p : RedirPacket) → runs_after ep p true ≡ false → runs_after ep p false ≡ false
runs-less ep (Plain (plain.StartIso e n k)) h = started (e == ep) h
runs-less ep (Plain (plain.StartInterrupt e)) h = started (e == ep) h
runs-less ep (Plain (plain.StopIso e)) h = stopped (e == ep)
runs-less ep (Plain (plain.StopInterrupt e)) h = stopped (e == ep)
runs-less ep (Plain _) h = refl
runs-less ep (Carrying d) h = refl

-- a packet of another endpoint, or of none, leaves a stream as it is
abbrev pub is_for_endpoint : ℕ → Option ℕ → Bool
is_for_endpoint ep None = false
is_for_endpoint ep (Some e) = e == ep

pub runs-same : (ep : ℕ) (p : RedirPacket) (r : Bool) → is_for_endpoint ep (stream_endpoint p) ≡ false → runs_after ep p r ≡ r
runs-same ep (Plain (plain.StartIso e n k)) r h = ap (λ (b : Bool). cond b true r) h
runs-same ep (Plain (plain.StopIso e)) r h = ap (λ (b : Bool). cond b false r) h
runs-same ep (Plain (plain.StartInterrupt e)) r h = ap (λ (b : Bool). cond b true r) h
runs-same ep (Plain (plain.StopInterrupt e)) r h = ap (λ (b : Bool). cond b false r) h
runs-same ep _ r h = refl
