-- What the rows of requests say of their submits.
use Rattle.std.proofs.Common.{◌≡◌, ℕ, ◌&&◌, Bool, true, false, cond, List, [], ◌∷◌, ◌++◌, map, Option, refl, sym, ap, ◌∙◌}
use Rattle.std.specs.Prelude.{ℤ, is_none, filter}
use Rattle.usb_base.specs.declared.endpoint.EpRow.{EpRow}
use Rattle.control_route.specs.declared.route.Route.{Route}
use Rattle.gate_history.specs.declared.verdict.Pipe.{Pipe}
use Rattle.std.specs.List.{flat_map}
use Rattle.redir_wire.specs.declared.packet.Caps.{Caps}
use Rattle.redir_wire.specs.declared.packet.RedirControl.TheVariants as plain
use Rattle.redir_data.specs.declared.packet.RedirPacket.TheVariants.{Plain}
use Rattle.unlink_race.specs.declared.live.Live.{Live}
use Rattle.unlink_race.specs.Searches.{goes_by_id as is_answered_by_id}
use Rattle.gate_history.specs.step.Marks.{Submission}
use Rattle.gate_history.specs.client.Submits.{Pending}
use Rattle.gate_history.specs.declared.verdict.Verdict.{Verdict}
use Rattle.gate_history.specs.declared.verdict.Verdict.TheVariants.{Now, Wire, Routed, IsoOut, Stream}
use Rattle.gate_history.specs.client.Verdict.{is_wire, goes_by_id}
use Rattle.gate_history.specs.write.Output.{cancel}
use Rattle.redir_data.specs.Sent.{sent_packet_bytes}
use Rattle.gate_parts.specs.state.Rows.{is_wire_row, kind_of, row_of, row, unmarked, left_row, cancel_bytes}

-- what holds of each verdict
pub by-verdict : (P : Verdict → Type 0) → ((status : ℤ) → P (Now status)) → ((pipe : Pipe) → P (Wire pipe)) → ((r : Route) → P (Routed r)) → ((row : EpRow) → P (IsoOut row)) → ((row : EpRow) → P (Stream row)) →
    (v : Verdict) → P v
by-verdict P now wire routed iso stream (Now status) = now status
by-verdict P now wire routed iso stream (Wire pipe) = wire pipe
by-verdict P now wire routed iso stream (Routed r) = routed r
by-verdict P now wire routed iso stream (IsoOut row) = iso row
by-verdict P now wire routed iso stream (Stream row) = stream row

pub wire-row : (v : Verdict) (ep : ℕ) → is_wire_row (kind_of v ep) ≡ is_wire v
wire-row v ep = by-verdict (λ w. is_wire_row (kind_of w ep) ≡ is_wire w) (λ s. refl) (λ p. refl) (λ r. refl) (λ r. refl) (λ r. refl) v

pub by_id-row : (s : Submission) (by : Option ℕ) → is_answered_by_id (row_of s by) ≡ goes_by_id s.verdict
by_id-row s by =
    by-verdict (λ v. is_answered_by_id (row_of (record s { verdict = v }) by) ≡ goes_by_id v) (λ s. refl) (λ p. refl) (λ r. refl) (λ r. refl) (λ r. refl) s.verdict

-- what is left at the host
pub left-rows : (ps : List Pending) → map unmarked (filter is_answered_by_id (map row ps)) ≡ map left_row (filter (λ s. goes_by_id s.verdict) (map (λ (p : Pending). p.submit) ps))
left-rows [] = refl
left-rows (p ∷ ps) =
    ap (λ (b : Bool). map unmarked (cond b (row p ∷ filter is_answered_by_id (map row ps)) (filter is_answered_by_id (map row ps)))) (by_id-row p.submit p.unlinker)
    ∙ elim (goes_by_id p.submit.verdict) as (λ b. map unmarked (cond b (row p ∷ filter is_answered_by_id (map row ps)) (filter is_answered_by_id (map row ps)))
    ≡ map left_row (cond b (p.submit ∷ filter (λ s. goes_by_id s.verdict) (map (λ (q : Pending). q.submit) ps)) (filter (λ s. goes_by_id s.verdict) (map (λ (q : Pending). q.submit) ps)))) [
      | true ↦ ap (λ (ls : List Live). left_row p.submit ∷ ls) (left-rows ps)
      | false ↦ left-rows ps
    ]

-- the cancels
pub cancel-rows : (caps : Caps) (test : Pending → Bool) → ((p : Pending) → test p ≡ (is_wire p.submit.verdict && is_none p.unlinker)) → (ps : List Pending) →
    flat_map (cancel_bytes caps) (map row ps) ≡ flat_map (sent_packet_bytes caps) (map cancel (filter test ps))
cancel-rows caps test h [] = refl
cancel-rows caps test h (p ∷ ps) =
    (λ i. cond (wire-row p.submit.verdict p.submit.request.transfer.ep i && is_none p.unlinker) (sent_packet_bytes caps (p.submit.id, Plain plain.Cancel)) [] ++ cancel-rows caps test h ps i)
    ∙ ap (λ (b : Bool). cond b (sent_packet_bytes caps (p.submit.id, Plain plain.Cancel)) [] ++ flat_map (sent_packet_bytes caps) (map cancel (filter test ps))) (sym (h p))
    ∙ elim (test p) as (λ b. cond b (sent_packet_bytes caps (p.submit.id, Plain plain.Cancel)) [] ++ flat_map (sent_packet_bytes caps) (map cancel (filter test ps)) ≡ flat_map (sent_packet_bytes caps) (map cancel (cond b (p ∷ filter test ps) (filter test ps)))) [
      | true ↦ refl
      | false ↦ refl
    ]
