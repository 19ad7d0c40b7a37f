-- Which way the data of a transfer that goes by an id may move.
use Rattle.std.specs.Bool.{beq}
use Rattle.std.proofs.Common.{rules, w32, ◌≡◌, ◌⊎◌, ◌&&◌, ◌==◌, ℕ, Bool, true, false, cond, not, Option, Some, None, refl, sym, ap, ◌∙◌, inl, inr, List, [], ◌∷◌, arith}
use Rattle.std.specs.Prelude.{nat_lt, nat_le, FitsSigned}
use Rattle.unlink_race.specs.Searches.{is_stream}
use Rattle.std.specs.List.{find}
use Rattle.std.specs.Option.{option_map_or}
use Rattle.std.proofs.lemmas.Bool.{false≢true, eqb-true, not-false}
use Rattle.usb_base.specs.declared.setup.Setup.{Setup}
use Rattle.usb_base.specs.declared.endpoint.EpKind.{EpKind}
use Rattle.usb_base.specs.declared.endpoint.EpKind.TheVariants as kind
use Rattle.usb_base.specs.declared.endpoint.EpRow.{EpRow}
use Rattle.usb_base.specs.Endpoint.{is_in_endpoint, is_iso}
use Rattle.usbip_urb.specs.Buffers.{laid}
use Rattle.usbip_urb.specs.declared.code.TheConstants.{MAX_LIVE}
use Rattle.control_route.specs.declared.route.Route.{Route}
use Rattle.control_route.specs.declared.route.Route.TheVariants as route
use Rattle.control_route.specs.Routes.{RouteRow, has_no_data, is_byte, is_for, rows, route_of}
use Rattle.usb_base.specs.declared.errno.TheConstants.{ENOENT, EBUSY, EINVAL, EMSGSIZE, ESHUTDOWN}
use Rattle.gate_history.specs.declared.request.Request.{Request}
use Rattle.usb_base.specs.Setup.{is_in_setup}
use Rattle.usb_base.specs.Lists.{is_empty}
use Rattle.gate_history.specs.client.Requests.{address}
use Rattle.gate_history.specs.declared.verdict.Pipe.TheVariants.{InterruptOut}
use Rattle.gate_history.specs.declared.verdict.Situation.{Situation}
use Rattle.gate_history.specs.declared.verdict.TheConstants.{MAX_NARROW}
use Rattle.gate_history.specs.declared.verdict.Verdict.{Verdict}
use Rattle.gate_history.specs.declared.verdict.Verdict.TheVariants.{Now, Wire, Routed, IsoOut, Stream}
use Rattle.gate_history.specs.client.Verdict.{is_invalid, is_control, is_narrow, by_route, by_setup, by_kind, by_endpoint, by_transfer, verdict, goes_by_id}
use Rattle.gate_history.specs.host.Responses.{route_gets}
use Rattle.gate_parts.specs.state.Rows.{kind_of, IsRead}
use Rattle.gate_history.proofs.lemmas.Lists.{Each}
use Rattle.gate_history.proofs.lemmas.client.Carried.{address-way, no-length}

-- it moves no data, or reads only where the submit says so
abbrev pub Reads : Bool → ℕ → ℕ → Verdict → Type 0
Reads is_in ep wanted v = goes_by_id v ≡ true → (wanted ≡ 0) ⊎ IsRead is_in (kind_of v ep)

unless : (is_in b : Bool) (ep wanted : ℕ) (status : _) (v : Verdict) → (b ≡ false → Reads is_in ep wanted v) → Reads is_in ep wanted (cond b (Now status) v)
unless is_in true ep wanted status v h k = absurd (false≢true k)
unless is_in false ep wanted status v h k = h refl k

-- ---- endpoint 0

both-left : (a b : Bool) → (a && b) ≡ true → a ≡ true
both-left true b e = refl
both-left false b e = e

abbrev by_row : Setup → Option RouteRow → Route
by_row s row = option_map_or (λ (r : RouteRow). cond (r.good s) (r.route s) route.Bad) row route.Plain

-- the row that it has says so
reads-among : (s : Setup) (rs : List RouteRow) → Each (λ row. is_for s row ≡ true → route_gets (by_row s (Some row)) ≡ true → is_in_setup s ≡ true) rs →
    route_gets (by_row s (find (is_for s) rs)) ≡ true → is_in_setup s ≡ true
reads-among s [] h k = absurd (false≢true k)
reads-among s (row ∷ rs) h k = go (is_for s row) refl (λ g. reads-among s rs h.1 g) k
  where
    go : (b : Bool) → is_for s row ≡ b → (route_gets (by_row s (find (is_for s) rs)) ≡ true → is_in_setup s ≡ true) → route_gets (by_row s (cond b (Some row) (find (is_for s) rs))) ≡ true → is_in_setup s ≡ true
    go true e later g = h.0 e g
    go false e later g = later g

-- a row whose route asks for no value
asks-none : (s : Setup) (b : Bool) (x y : Route) → route_gets x ≡ false → route_gets y ≡ false → route_gets (cond b x y) ≡ true → is_in_setup s ≡ true
asks-none s true x y e f h = absurd (false≢true (sym e ∙ h))
asks-none s false x y e f h = absurd (false≢true (sym f ∙ h))

from-device : (s : Setup) (kind : ℕ) (b c : Bool) → not (nat_lt kind 128) ≡ true → ((s.kind == kind) && b && c) ≡ true → is_in_setup s ≡ true
from-device s kind b c high h = ap (λ (k : ℕ). not (nat_lt k 128)) (eqb-true s.kind kind (both-left _ _ (both-left _ _ h))) ∙ high

-- a route that asks for a value reads
route-reads : (s : Setup) → route_gets (route_of s) ≡ true → is_in_setup s ≡ true
unfolding route_of
route-reads s h =
    reads-among s rows (
      (λ b. asks-none s (has_no_data s) route.Local route.Bad refl refl),
      (
        (λ b. asks-none s (has_no_data s && is_byte s.value) (route.SetConfig s.value) route.Bad refl refl),
        (
          (λ b g. from-device s 128 (s.request == 8) true refl b),
          (
            (λ b. asks-none s (has_no_data s && is_byte s.index && is_byte s.value) (route.SetAlt s.index s.value) route.Bad refl refl),
            (
              (λ b g. from-device s 129 (s.request == 10) true refl b),
              ((λ b. asks-none s (has_no_data s) route.Reset route.Bad refl refl), tt),
            ),
          ),
        ),
      ),
    ) h

-- its directions are one, or it moves no data
one-way : (way is_in : Bool) (length : ℕ) → (not (length == 0) && not (beq way is_in)) ≡ false → (length ≡ 0) ⊎ (way ≡ is_in)
one-way true true length e = inr refl
one-way false false length e = inr refl
one-way true false length e = inl (no-length length e)
one-way false true length e = inl (no-length length e)

by_route-reads : (rt : Route) (way is_in : Bool) (ep wanted : ℕ) → (route_gets rt ≡ true → way ≡ true) → ep ≡ address way 0 → (wanted ≡ 0) ⊎ (way ≡ is_in) → Reads is_in ep wanted (by_route rt)
by_route-reads rt way is_in ep wanted gets at (inl none) k = inl none
by_route-reads route.Local way is_in ep wanted gets at (inr same) k = absurd (false≢true k)
by_route-reads (route.SetConfig configuration) way is_in ep wanted gets at (inr same) k = inr (λ e. absurd (false≢true e))
by_route-reads route.GetConfig way is_in ep wanted gets at (inr same) k = inr (λ e. sym same ∙ gets e)
by_route-reads (route.SetAlt interface alt) way is_in ep wanted gets at (inr same) k = inr (λ e. absurd (false≢true e))
by_route-reads (route.GetAlt interface) way is_in ep wanted gets at (inr same) k = inr (λ e. sym same ∙ gets e)
by_route-reads route.Reset way is_in ep wanted gets at (inr same) k = inr (λ e. absurd (false≢true e))
by_route-reads route.Plain way is_in ep wanted gets at (inr same) k = inr (ap is_in_endpoint at ∙ address-way way 0 (omega arith) ∙ same)
by_route-reads route.Bad way is_in ep wanted gets at (inr same) k = absurd (false≢true k)

pub by_setup-reads : (r : Request) (s : Setup) → r.transfer.ep ≡ address (is_in_setup s) 0 → Reads r.is_in r.transfer.ep r.transfer.wanted (by_setup r s)
by_setup-reads r s at =
    unless r.is_in (not (is_empty r.descs)) r.transfer.ep r.transfer.wanted EINVAL _ (λ none.
    unless r.is_in (not (s.length == 0) && not (beq (is_in_setup s) r.is_in)) r.transfer.ep r.transfer.wanted EINVAL _ (λ one.
    unless r.is_in (not (s.length == r.transfer.wanted)) r.transfer.ep r.transfer.wanted EINVAL _ (λ same.
    by_route-reads (route_of s) (is_in_setup s) r.is_in r.transfer.ep r.transfer.wanted (route-reads s) at
    (elim (one-way (is_in_setup s) r.is_in s.length one) [ inl zero ↦ inl (sym (eqb-true s.length r.transfer.wanted (not-false _ same)) ∙ zero) | inr way ↦ inr way ]))))

-- ---- its status is one of 32 bits

abbrev pub StatusFits : Verdict → Type 0
StatusFits (Now status) = FitsSigned w32 status
StatusFits (Wire pipe) = Unit {0}
StatusFits (Routed r) = Unit {0}
StatusFits (IsoOut row) = Unit {0}
StatusFits (Stream row) = Unit {0}

either-fits : (b : Bool) (v w : Verdict) → StatusFits v → StatusFits w → StatusFits (cond b v w)
either-fits true v w h k = h
either-fits false v w h k = k

by_route-fits : (r : Route) → StatusFits (by_route r)
by_route-fits route.Local = (search rules)
by_route-fits (route.SetConfig configuration) = tt
by_route-fits route.GetConfig = tt
by_route-fits (route.SetAlt interface alt) = tt
by_route-fits (route.GetAlt interface) = tt
by_route-fits route.Reset = tt
by_route-fits route.Plain = tt
by_route-fits route.Bad = (search rules)

by_kind-fits : (r : Request) (row : EpRow) (k : EpKind) → StatusFits (by_kind r row k)
by_kind-fits r row kind.Control = (search rules)
by_kind-fits r row kind.Iso = either-fits r.is_in (Stream row) (IsoOut row) tt tt
by_kind-fits r row kind.Bulk = tt
by_kind-fits r row kind.Interrupt = either-fits r.is_in (Stream row) (Wire InterruptOut) tt tt
by_kind-fits r row kind.Invalid = (search rules)

by_endpoint-fits : (here : Situation) (r : Request) → StatusFits (by_endpoint here r)
by_endpoint-fits here r =
    either-fits (is_invalid here.row.kind) (Now ENOENT) _ (search rules)
    (either-fits (is_control here.row.kind) (Now EINVAL) _ (search rules)
    (either-fits (beq (is_iso here.row.kind) (is_empty r.descs)) (Now EINVAL) _ (search rules)
    (either-fits (not (laid r.descs r.transfer.wanted)) (Now EINVAL) _ (search rules)
    (either-fits (is_narrow here r here.row.kind && nat_lt MAX_NARROW r.transfer.wanted) (Now EMSGSIZE) _ (search rules) (by_kind-fits r here.row here.row.kind)))))

by_setup-fits : (r : Request) (s : Setup) → StatusFits (by_setup r s)
by_setup-fits r s =
    either-fits (not (is_empty r.descs)) (Now EINVAL) _ (search rules)
    (either-fits (not (s.length == 0) && not (beq (is_in_setup s) r.is_in)) (Now EINVAL) _ (search rules)
    (either-fits (not (s.length == r.transfer.wanted)) (Now EINVAL) _ (search rules) (by_route-fits (route_of s))))

by_transfer-fits : (here : Situation) (r : Request) (o : Option Setup) → StatusFits (by_transfer here r o)
by_transfer-fits here r None = either-fits here.changing (Now ENOENT) _ (search rules) (by_endpoint-fits here r)
by_transfer-fits here r (Some s) = by_setup-fits r s

pub verdict-fits : (here : Situation) (r : Request) → StatusFits (verdict here r)
verdict-fits here r =
    either-fits here.lost (Now ESHUTDOWN) _ (search rules) (either-fits (nat_le MAX_LIVE here.live) (Now EBUSY) _ (search rules) (by_transfer-fits here r r.transfer.setup))

-- ---- and it goes as some packets, or waits for none

pub not-stream : (v : Verdict) (ep : ℕ) → goes_by_id v ≡ true → not (is_stream (kind_of v ep)) ≡ true
not-stream (Now status) ep h = absurd (false≢true h)
not-stream (Wire pipe) ep h = refl
not-stream (Routed r) ep h = refl
not-stream (IsoOut row) ep h = absurd (false≢true h)
not-stream (Stream row) ep h = absurd (false≢true h)
