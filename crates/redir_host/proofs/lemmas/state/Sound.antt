-- What is known of a host stays known, whatever comes: performs, offers and the end keep it.
use Rattle.std.proofs.Common.{◌≡◌, ℕ, Bool, true, false, cond, List, [], ◌∷◌, Some, None, refl, sym, subst, ◌∙◌}
use Rattle.std.specs.Prelude.{Option, option_map}
use Rattle.std.specs.List.{find, AllByRecursion as Each}
use Rattle.redir_data.specs.declared.stream_kind.StreamKind.{StreamKind}
use Rattle.redir_host.proofs.lemmas.state.Each.{each_found}
use Rattle.usb_base.specs.Status.{is_success}
use Rattle.usb_base.specs.declared.endpoint.EpTable.{EpTable}
use Rattle.usb_base.specs.declared.transfer.Outcome.{Outcome}
use Rattle.usb_base.specs.declared.transfer.StreamPacket.{StreamPacket}
use Rattle.control_route.specs.declared.route.Route.{Route}
use Rattle.control_route.specs.declared.route.Route.TheVariants as route
use Rattle.model_device.specs.Meaning.{Meaning}
use Rattle.redir_host.specs.declared.state.host.Host.{Host}
use Rattle.redir_host.specs.declared.state.request.Form.{Form}
use Rattle.redir_host.specs.declared.state.request.Form.TheVariants as form
use Rattle.redir_host.specs.declared.state.request.Request.{Request}
use Rattle.redir_host.specs.declared.state.running.Running.{Running}
use Rattle.redir_host.specs.guest.Asking.{routed}
use Rattle.redir_host.specs.device.Changes.{change_of, changed}
use Rattle.redir_host.specs.step.Moves.{Move, quiet, behind}
use Rattle.redir_host.specs.device.Offering.{offer_move, offered_on, offered_by, unplug_move}
use Rattle.redir_host.specs.guest.Packets.{runs_at}
use Rattle.redir_host.specs.device.Performing.{done_by, does, performs, resets, performs_marked, performs_any, with_id, first_performed, performed, perform_move, perform_move_by}
use Rattle.usb_base.specs.Firsts.{without_first}
use Rattle.redir_host.specs.state.Queues.{is_at}
use Rattle.redir_host.specs.state.Sound.{IsGuestRequest, IsSound}
use Rattle.redir_host.proofs.lemmas.step.Makes.{changed_guest, cleared_sound}

-- the host after it reads as before, and is sound
pub record Keeps {S : Type 0} (h new : Host S) : Type 0 where
  pub guest : new.guest ≡ h.guest
  pub sound : IsSound new

abbrev KeepsIf : {S : Type 0} → Host S → Option (Move S) → Type 0
KeepsIf h None = Unit {0}
KeepsIf h (Some v) = Keeps h v.host

abbrev KeepsWith : {S : Type 0} → Host S → Option (ℕ × Move S) → Type 0
KeepsWith h None = Unit {0}
KeepsWith h (Some r) = Keeps h r.1.host

-- ---- performs

keeps-changed : {S : Type 0} (m : Meaning S) (r : Route) (t : EpTable) (success : Bool) (h : Host S) → IsSound h → Keeps h (changed m r t success h).host
keeps-changed m r t success h sound = record { guest = changed_guest m r t success h; sound = cleared_sound m r t success h sound }

keeps-done : {S : Type 0} (m : Meaning S) (t : EpTable) (h : Host S) (q : Request) (r : Option Route) (o : Outcome) → IsSound h → Keeps h (done_by m t h q r o).host
keeps-done m t h q None o sound = record { guest = refl; sound = sound }
keeps-done m t h q (Some r) o sound = keeps-changed m r t (is_success o.status) h sound

pub with-gadget : {S : Type 0} (h : Host S) (s : S) → IsSound h → IsSound (record h { gadget = s })
with-gadget h s sound = record { requests = sound.requests; streams = sound.streams }

keeps-does : {S : Type 0} (m : Meaning S) (h : Host S) (q : Request) (r : Option Route) (o : Option (S × Outcome)) → IsSound h → KeepsIf h (does m h q r o)
keeps-does m h q r None sound = tt
keeps-does {S = S} m h q r (Some done) sound =
    let g : Host S = record h { gadget = done.0 } in
    let k : Keeps g (done_by m (m.table h.gadget) g q r done.1).host = keeps-done m (m.table h.gadget) g q r done.1 (with-gadget h done.0 sound) in
    record { guest = k.guest; sound = k.sound }

keeps-follows : {S : Type 0} (h : Host S) (v : Move S) (o : Option (Move S)) → v.host.guest ≡ h.guest → KeepsIf v.host o → KeepsIf h (option_map (behind v) o)
keeps-follows h v None same k = tt
keeps-follows h v (Some w) same k = record { guest = k.guest ∙ same; sound = k.sound }

keeps-resets : {S : Type 0} (m : Meaning S) (h : Host S) (q : Request) (o : Option (S × Outcome)) → IsSound h → KeepsIf h (resets m h q o)
keeps-resets m h q None sound = tt
keeps-resets {S = S} m h q (Some done) sound =
    let g : Host S = record h { gadget = done.0 } in
    let v : Move S = changed m route.Reset (m.table h.gadget) (is_success done.1.status) g in
    let k : Keeps g v.host = keeps-changed m route.Reset (m.table h.gadget) (is_success done.1.status) g (with-gadget h done.0 sound) in
    keeps-follows h v (performs m v.host q) k.guest (keeps-does m v.host q (change_of q.form) (m.perform v.host.gadget q.transfer) k.sound)

keeps-marked : {S : Type 0} (m : Meaning S) (h : Host S) (q : Request) (f : Form) → IsSound h → KeepsIf h (performs_marked m h q f)
keeps-marked m h q (form.Control setup) sound = keeps-resets m h q (m.perform h.gadget (routed route.Reset)) sound
keeps-marked m h q (form.Bulk stream) sound = keeps-resets m h q (m.perform h.gadget (routed route.Reset)) sound
keeps-marked m h q form.Interrupt sound = keeps-resets m h q (m.perform h.gadget (routed route.Reset)) sound
keeps-marked m h q (form.SetConfiguration configuration) sound = keeps-resets m h q (m.perform h.gadget (routed route.Reset)) sound
keeps-marked m h q form.GetConfiguration sound = keeps-does m h q (Some route.Reset) (m.perform h.gadget (routed route.Reset)) sound
keeps-marked m h q (form.SetAlt interface alt) sound = keeps-resets m h q (m.perform h.gadget (routed route.Reset)) sound
keeps-marked m h q (form.GetAlt interface) sound = keeps-resets m h q (m.perform h.gadget (routed route.Reset)) sound

keeps-any : {S : Type 0} (m : Meaning S) (h : Host S) (q : Request) (b : Bool) → IsSound h → KeepsIf h (cond b (performs_marked m h q q.form) (performs m h q))
keeps-any m h q true sound = keeps-marked m h q q.form sound
keeps-any m h q false sound = keeps-does m h q (change_of q.form) (m.perform h.gadget q.transfer) sound

keeps-id : {S : Type 0} (h : Host S) (q : Request) (o : Option (Move S)) → KeepsIf h o → KeepsWith h (with_id q o)
keeps-id h q None k = tt
keeps-id h q (Some v) k = k

pub each-without : {A : Type 0} (P : A → Type 0) (test : A → Bool) (xs : List A) → Each P xs → Each P (without_first test xs)
each-without P test [] each = tt
each-without P test (x ∷ xs) each =
    elim (test x) as (λ (b : Bool). Each P (cond b xs (x ∷ without_first test xs))) [ true ↦ each.1 | false ↦ (each.0, each-without P test xs each.1) ]

-- without an endpoint's first request
-- what is known of a queue's first request
pub sound-first : {S : Type 0} (h : Host S) (ep : ℕ) (q : Request) → IsSound h → find (is_at ep) h.queue ≡ Some q → IsGuestRequest h.guest q
sound-first h ep q sound found = (each_found (IsGuestRequest h.guest) (is_at ep) h.queue q sound.requests found).0

pub sound-without : {S : Type 0} (h : Host S) (ep : ℕ) (rest : List Request) (s : S) → IsSound h → rest ≡ without_first (is_at ep) h.queue → IsSound (record h { queue = rest; gadget = s })
sound-without h ep rest s sound is = record {
  requests = subst (Each (IsGuestRequest h.guest)) (sym is) (each-without (IsGuestRequest h.guest) (is_at ep) h.queue sound.requests);
  streams = sound.streams;
}

keeps-first : {S : Type 0} (m : Meaning S) (h : Host S) (ep : ℕ) (o : Option Request) → IsSound h → KeepsWith h (first_performed m h ep o)
keeps-first m h ep None sound = tt
keeps-first {S = S} m h ep (Some q) sound =
    let g : Host S = record h { queue = without_first (is_at ep) h.queue } in
    keeps-id h q (performs_any m g q) (widened g (performs_any m g q) (keeps-any m g q q.reset (sound-without h ep g.queue h.gadget sound refl)) refl)
  where
    widened : (g : Host S) (o : Option (Move S)) → KeepsIf g o → g.guest ≡ h.guest → KeepsIf h o
    widened g None k same = tt
    widened g (Some v) k same = record { guest = k.guest ∙ same; sound = k.sound }

keeps-performed : {S : Type 0} (m : Meaning S) (h : Host S) (ep : ℕ) (b : Bool) → IsSound h → KeepsWith h (cond b None (first_performed m h ep (find (is_at ep) h.queue)))
keeps-performed m h ep true sound = tt
keeps-performed m h ep false sound = keeps-first m h ep (find (is_at ep) h.queue) sound

keeps-by : {S : Type 0} (h : Host S) (o : Option (ℕ × Move S)) → IsSound h → KeepsWith h o → Keeps h (perform_move_by h o).host
keeps-by h None sound k = record { guest = refl; sound = sound }
keeps-by h (Some r) sound k = k

pub keeps-perform : {S : Type 0} (m : Meaning S) (h : Host S) (ep : ℕ) → IsSound h → Keeps h (perform_move m h ep).host
keeps-perform m h ep sound = keeps-by h (performed m h ep) sound (keeps-performed m h ep h.unplugged sound)

-- ---- offers

keeps-given : {S : Type 0} (h : Host S) (ep : ℕ) (k : StreamKind) (o : Option (S × StreamPacket)) → IsSound h → Keeps h (offered_by h ep k o).host
keeps-given h ep k None sound = record { guest = refl; sound = sound }
keeps-given h ep k (Some sent) sound = record { guest = refl; sound = with-gadget h sent.0 sound }

keeps-offered : {S : Type 0} (m : Meaning S) (h : Host S) (ep : ℕ) (o : Option Running) → IsSound h → Keeps h (offered_on m h ep o).host
keeps-offered m h ep None sound = record { guest = refl; sound = sound }
keeps-offered m h ep (Some s) sound = keeps-given h ep s.kind (m.offer h.gadget ep) sound

pub keeps-offer : {S : Type 0} (m : Meaning S) (h : Host S) (ep : ℕ) → IsSound h → Keeps h (offer_move m h ep).host
keeps-offer {S = S} m h ep sound =
    elim h.unplugged as (λ (b : Bool). Keeps h (cond b (quiet h) (offered_on m h ep (find (runs_at ep) h.running))).host) [
      | true ↦ record { guest = refl; sound = sound }
      | false ↦ keeps-offered m h ep (find (runs_at ep) h.running) sound
    ]

-- ---- the end

abbrev pub unplugged-by : {S : Type 0} → Host S → Bool → Move S
unplugged-by h b = cond b (quiet h) (unplug_move (record h { unplugged = false }))

pub keeps-unplug : {S : Type 0} (h : Host S) → IsSound h → Keeps h (unplug_move h).host
keeps-unplug {S = S} h sound =
    elim h.unplugged as (λ (b : Bool). Keeps h (unplugged-by h b).host) [
      | true ↦ record { guest = refl; sound = sound }
      | false ↦ record { guest = refl; sound = record { requests = tt; streams = tt } }
    ]
