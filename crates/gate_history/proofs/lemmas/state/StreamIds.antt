-- Ids that are drawn in turn for packets, and what is noted of those that start and stop streams.
use Rattle.usb_base.specs.Number.{part}
use Rattle.std.proofs.Common.{◌≡◌, ℕ, zero, suc, ◌+◌, ◌≤◌, Bool, true, false, cond, List, [], ◌∷◌, ◌++◌, length, map, set, Option, Some, None, refl, ap, ◌∙◌, arith, eqb}
use Rattle.std.specs.Prelude.{zip}
use Rattle.std.specs.List.{flat_map, last_or}
use Rattle.std.specs.Option.{option_to_list}
use Rattle.std.proofs.lemmas.Bool.Decides.{nat_tests}
use Rattle.std.proofs.lemmas.List.{length-append, length-set}
use Rattle.usb_base.specs.Endpoint.{endpoint_index, is_iso}
use Rattle.usb_base.specs.declared.endpoint.EpRow.{EpRow}
use Rattle.usb_base.specs.declared.transfer.Transfer.{Transfer}
use Rattle.usbip_urb.specs.declared.packet.IsoDesc.{IsoDesc}
use Rattle.redir_wire.specs.declared.packet.RedirControl.TheVariants as plain
use Rattle.redir_data.specs.declared.packet.RedirPacket.{RedirPacket}
use Rattle.redir_data.specs.declared.packet.RedirPacket.TheVariants.{Plain, Carrying}
use Rattle.control_route.specs.declared.route.Route.{Route}
use Rattle.control_route.specs.declared.route.Route.TheVariants as route
use Rattle.redir_data.specs.declared.packet.RedirData.TheVariants as data_packet
use Rattle.gate_history.specs.state.Ups.{Up}
use Rattle.gate_history.specs.state.StreamIds.{StreamIds, started, stopped, stream_ids_by, stream_ids_after, ids_of_streams}
use Rattle.gate_history.specs.state.Ids.{draw, draws, last_of, times}
use Rattle.gate_history.specs.declared.verdict.Pipe.{Pipe}
use Rattle.gate_history.specs.declared.verdict.Pipe.TheVariants.{Control, Bulk, InterruptOut}
use Rattle.gate_history.specs.declared.request.Request.{Request}
use Rattle.gate_history.specs.declared.sent.TheConstants.{PACKETS_PER_URB, STREAM_URBS}
use Rattle.gate_history.specs.write.Packets.{wire_packet, start_packet, starts, stop_packet, stop_of, stops, iso_packets, route_packets}
use Rattle.gate_history.proofs.lemmas.Lists.{Each}

-- ---- ids in turn

pub draws-append : {P : Type 0} (m : ℕ) (f : List ℕ) (last : ℕ) (ps qs : List P) →
    draws m f last (length (ps ++ qs)) ≡ draws m f last (length ps) ++ draws m f (last_of last (draws m f last (length ps))) (length qs)
draws-append m f last [] qs = refl
draws-append m f last (p ∷ ps) qs = ap (λ (ids : List ℕ). draw m f last ∷ ids) (draws-append m f (draw m f last) ps qs)

pub zip-append : {P : Type 0} (m : ℕ) (f : List ℕ) (last : ℕ) (ps qs : List P) →
    zip (draws m f last (length (ps ++ qs))) (ps ++ qs) ≡ zip (draws m f last (length ps)) ps ++ zip (draws m f (last_of last (draws m f last (length ps))) (length qs)) qs
zip-append m f last [] qs = refl
zip-append {P = P} m f last (p ∷ ps) qs = ap (λ (l : List (ℕ × P)). (draw m f last, p) ∷ l) (zip-append m f (draw m f last) ps qs)

pub last-append : (last : ℕ) (xs ys : List ℕ) → last_of last (xs ++ ys) ≡ last_of (last_of last xs) ys
last-append last [] ys = refl
last-append last (x ∷ xs) ys = last-append x xs ys

pub swap : (a b : ℕ) → eqb a b ≡ eqb b a
swap a b = grind (arith, nat_tests)

-- where some are there, what was before doesn't matter
pub last-any : (a b : ℕ) (ids : List ℕ) → 1 ≤ length ids → last_of a ids ≡ last_of b ids
last-any a b [] some = absurd (omega arith)
last-any a b (id ∷ ids) some = refl

pub last_or-append : (o : Option ℕ) (xs ys : List ℕ) → last_or o (xs ++ ys) ≡ last_or (last_or o xs) ys
last_or-append o [] ys = refl
last_or-append o (x ∷ xs) ys = last_or-append (Some x) xs ys

pub stream_ids_after-append : (xs ys : List (ℕ × RedirPacket)) (c : StreamIds) → stream_ids_after (xs ++ ys) c ≡ stream_ids_after ys (stream_ids_after xs c)
stream_ids_after-append [] ys c = refl
stream_ids_after-append (x ∷ xs) ys c = stream_ids_after-append xs ys (stream_ids_by x.0 x.1 c)

-- ---- packets that neither start nor stop a stream

abbrev pub IsSilent : RedirPacket → Type 0
IsSilent p = (id : ℕ) (c : StreamIds) → stream_ids_by id p c ≡ c

pub stream_ids_after-silent : (ids : List ℕ) (ps : List RedirPacket) (c : StreamIds) → Each IsSilent ps → stream_ids_after (zip ids ps) c ≡ c
stream_ids_after-silent [] ps c h = refl
stream_ids_after-silent (id ∷ ids) [] c h = refl
stream_ids_after-silent (id ∷ ids) (p ∷ ps) c h = ap (stream_ids_after (zip ids ps)) (h.0 id c) ∙ stream_ids_after-silent ids ps c h.1

pub wire-silent : (pipe : Pipe) (t : Transfer) → IsSilent (wire_packet pipe t)
wire-silent Control t id c = refl
wire-silent Bulk t id c = refl
wire-silent InterruptOut t id c = refl

pub route-silent : (r : Route) → Each IsSilent (route_packets r)
route-silent (route.SetConfig configuration) = (λ id c. refl, tt)
route-silent route.GetConfig = (λ id c. refl, tt)
route-silent (route.SetAlt interface alt) = (λ id c. refl, tt)
route-silent (route.GetAlt interface) = (λ id c. refl, tt)
route-silent route.Reset = (λ id c. refl, (λ id c. refl, tt))
route-silent route.Local = tt
route-silent route.Plain = tt
route-silent route.Bad = tt

isos-silent : (ep : ℕ) (body : List ℕ) (ds : List IsoDesc) → Each IsSilent (map (λ (d : IsoDesc). Carrying (data_packet.Iso ep 0 d.length (part d.offset d.length body))) ds)
isos-silent ep body [] = tt
isos-silent ep body (d ∷ ds) = (λ id c. refl, isos-silent ep body ds)

pub iso-silent : (r : Request) → Each IsSilent (iso_packets r)
iso-silent r = isos-silent r.transfer.ep r.transfer.body r.descs

-- ---- those that do

pub start-stream_ids : (id ep : ℕ) (row : EpRow) (c : StreamIds) → stream_ids_by id (start_packet ep row) c ≡ started ep id c
start-stream_ids id ep row c = elim (is_iso row.kind) as (λ b. stream_ids_by id (Plain (cond b (plain.StartIso ep PACKETS_PER_URB STREAM_URBS) (plain.StartInterrupt ep))) c ≡ started ep id c) [ true ↦ refl | false ↦ refl ]

pub stop-stream_ids : (id : ℕ) (up : Up) (c : StreamIds) → stream_ids_by id (stop_packet up) c ≡ stopped up.ep id c
stop-stream_ids id up c = elim (is_iso up.row.kind) as (λ b. stream_ids_by id (Plain (cond b (plain.StopIso up.ep) (plain.StopInterrupt up.ep))) c ≡ stopped up.ep id c) [ true ↦ refl | false ↦ refl ]

-- ---- how many there are

abbrev pub some : List (Option ℕ) → List ℕ
some ids = flat_map option_to_list ids

pub few-some : (l : List (Option ℕ)) → length (some l) ≤ length l
few-some [] = omega arith
few-some (None ∷ l) = omega (arith, few-some l)
few-some (Some x ∷ l) = omega (arith, few-some l)

pub record AreLong (c : StreamIds) : Type 0 where
  pub started : length c.started ≡ 32
  pub stopped : length c.stopped ≡ 32

pub few-ids : (c : StreamIds) → AreLong c → length (ids_of_streams c) ≤ 64
few-ids c long = omega (arith, length-append (some c.started) (some c.stopped), few-some c.started, few-some c.stopped, long.started, long.stopped)

long-started : (ep id : ℕ) (c : StreamIds) → AreLong c → AreLong (started ep id c)
long-started ep id c long = record { started = length-set c.started (endpoint_index ep) (Some id) ∙ long.started; stopped = length-set c.stopped (endpoint_index ep) None ∙ long.stopped }

long-stopped : (ep id : ℕ) (c : StreamIds) → AreLong c → AreLong (stopped ep id c)
long-stopped ep id c long = record { started = long.started; stopped = length-set c.stopped (endpoint_index ep) (Some id) ∙ long.stopped }

long-by : (id : ℕ) (p : RedirPacket) (c : StreamIds) → AreLong c → AreLong (stream_ids_by id p c)
long-by id (Plain (plain.StartIso endpoint pkts_per_urb no_urbs)) c long = long-started endpoint id c long
long-by id (Plain (plain.StartInterrupt endpoint)) c long = long-started endpoint id c long
long-by id (Plain (plain.StopIso endpoint)) c long = long-stopped endpoint id c long
long-by id (Plain (plain.StopInterrupt endpoint)) c long = long-stopped endpoint id c long
long-by id (Plain _) c long = long
long-by id (Carrying d) c long = long

pub long-stream_ids_after : (ps : List (ℕ × RedirPacket)) (c : StreamIds) → AreLong c → AreLong (stream_ids_after ps c)
long-stream_ids_after [] c long = long
long-stream_ids_after (p ∷ ps) c long = long-stream_ids_after ps (stream_ids_by p.0 p.1 c) (long-by p.0 p.1 c long)

few-stop_of : (test : Up → Bool) (o : Option Up) → length (stop_of test o) ≤ 1
few-stop_of test None = omega arith
few-stop_of test (Some up) = elim (test up) as (λ b. length (cond b (stop_packet up ∷ []) []) ≤ 1) [ true ↦ omega arith | false ↦ omega arith ]

pub few-stops : (test : Up → Bool) (ups : List (Option Up)) → length (stops test ups) ≤ length ups
few-stops test [] = omega arith
few-stops test (o ∷ ups) = omega (arith, few-stop_of test o, few-stops test ups, length-append (stop_of test o) (stops test ups))

pub few-starts : (o : Option Up) (ep : ℕ) (row : EpRow) → length (starts o ep row) ≤ 1
few-starts None ep row = omega arith
few-starts (Some up) ep row = omega arith

-- ---- how often an id is there

pub times-append : (q : ℕ) (xs ys : List ℕ) → times q (xs ++ ys) ≡ times q xs + times q ys
times-append q [] ys = omega arith
times-append q (x ∷ xs) ys = let rest = times-append q xs ys in omega arith

times-set : (q : ℕ) (l : List (Option ℕ)) (k : ℕ) (o : Option ℕ) → times q (some (set l k o)) ≤ times q (some l) + times q (option_to_list o)
times-set q [] k o = omega arith
times-set q (x ∷ l) zero o = omega (arith, times-append q (option_to_list o) (some l), times-append q (option_to_list x) (some l))
times-set q (x ∷ l) (suc k) o = omega (arith, times-set q l k o, times-append q (option_to_list x) (some (set l k o)), times-append q (option_to_list x) (some l))

times-started : (q ep id : ℕ) (c : StreamIds) → times q (ids_of_streams (started ep id c)) ≤ times q (ids_of_streams c) + times q (id ∷ [])
times-started q ep id c =
    let k = endpoint_index ep in
    omega (arith, times-append q (some (set c.started k (Some id))) (some (set c.stopped k None)), times-append q (some c.started) (some c.stopped), times-set q c.started k (Some id), times-set q c.stopped k None)

times-stopped : (q ep id : ℕ) (c : StreamIds) → times q (ids_of_streams (stopped ep id c)) ≤ times q (ids_of_streams c) + times q (id ∷ [])
times-stopped q ep id c =
    let k = endpoint_index ep in
    omega (arith, times-append q (some c.started) (some (set c.stopped k (Some id))), times-append q (some c.started) (some c.stopped), times-set q c.stopped k (Some id))

times-by : (q id : ℕ) (p : RedirPacket) (c : StreamIds) → times q (ids_of_streams (stream_ids_by id p c)) ≤ times q (ids_of_streams c) + times q (id ∷ [])
times-by q id (Plain (plain.StartIso endpoint pkts_per_urb no_urbs)) c = times-started q endpoint id c
times-by q id (Plain (plain.StartInterrupt endpoint)) c = times-started q endpoint id c
times-by q id (Plain (plain.StopIso endpoint)) c = times-stopped q endpoint id c
times-by q id (Plain (plain.StopInterrupt endpoint)) c = times-stopped q endpoint id c
times-by q id (Plain _) c = omega arith
times-by q id (Carrying d) c = omega arith

pub times-stream_ids_after : (q : ℕ) (ids : List ℕ) (ps : List RedirPacket) (c : StreamIds) → times q (ids_of_streams (stream_ids_after (zip ids ps) c)) ≤ times q (ids_of_streams c) + times q ids
times-stream_ids_after q [] ps c = omega arith
times-stream_ids_after q (id ∷ ids) [] c = omega arith
times-stream_ids_after q (id ∷ ids) (p ∷ ps) c = omega (arith, times-stream_ids_after q ids ps (stream_ids_by id p c), times-by q id p c)

pub times-last : (q before : ℕ) (ids : List ℕ) → 1 ≤ length ids → times q (last_of before ids ∷ []) ≤ times q ids
times-last q before [] some = absurd (omega arith)
times-last q before (id ∷ []) some = omega arith
times-last q before (id ∷ j ∷ ids) some = omega (arith, times-last q id (j ∷ ids) (omega arith))
