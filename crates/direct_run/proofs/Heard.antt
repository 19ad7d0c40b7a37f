-- How far the host has heard its guest: before the gateway's hello it sends nothing behind its own, and from then on it
-- spells and reads by the capabilities that both have. Lists of items have the latest first.
use Rattle.std.proofs.Common.{◌≡◌, ℕ, Bool, true, false, cond, ◌||◌, List, [], ◌∷◌, ◌++◌, Option, Some, None, refl, sym, ap, ◌∙◌, subst}
use Rattle.std.specs.List.{find, flat_map, list_any}
use Rattle.std.proofs.lemmas.List.Folds.{list_any-append}
use Rattle.std.proofs.lemmas.Grind.{flat_map-append}
use Rattle.redir_wire.specs.declared.packet.Way.TheVariants.{ToHost}
use Rattle.redir_wire.specs.declared.packet.RedirControl.TheVariants as plain
use Rattle.redir_wire.specs.declared.state.RedirState.{RedirState}
use Rattle.redir_wire.specs.State.{start, later}
use Rattle.redir_data.specs.declared.packet.RedirPacket.{RedirPacket}
use Rattle.redir_data.specs.declared.packet.RedirPacket.TheVariants.{Plain, Carrying}
use Rattle.redir_data.specs.Streams.{advanced}
use Rattle.model_device.specs.Meaning.{Meaning}
use Rattle.redir_host.specs.declared.state.host.Host.{Host}
use Rattle.redir_host.specs.declared.state.request.Asking.{Asking}
use Rattle.redir_host.specs.declared.state.request.Asking.TheVariants.{Nothing, Refuses, Asks}
use Rattle.redir_host.specs.declared.state.request.Request.{Request}
use Rattle.redir_host.specs.guest.Asking.{asking_of}
use Rattle.redir_host.specs.step.Items.{Item, Asked, Wrong, Performs, Offers, Unplugs}
use Rattle.redir_host.specs.step.Machine.{move, run, bytes_of, is_refusal, notes_of, all_given, given_by}
use Rattle.redir_host.specs.step.Makes.{IsTaken}
use Rattle.redir_host.specs.step.Moves.{Move, quiet}
use Rattle.redir_host.specs.device.Offering.{offer_move, offered_on}
use Rattle.redir_host.specs.guest.Packets.{runs_at, data_move, start_move, can_start, cancel_move, packet_move, packet_move_by}
use Rattle.redir_host.specs.device.Performing.{first_performed, perform_move, perform_move_by}
use Rattle.redir_host.specs.state.Queues.{is_at, is_cancelled_by}
use Rattle.redir_host.specs.state.Sound.{IsGuestRequest, IsRunning, IsSound}
use Rattle.gate_history.proofs.lemmas.Lists.{Each}
use Rattle.redir_host.proofs.lemmas.state.Sound.{Keeps, keeps-perform, keeps-offer, keeps-unplug, unplugged-by}
use Rattle.redir_host.proofs.lemmas.guest.Sound.{keeps-packet}
use Rattle.redir_host.proofs.lemmas.device.Silent.{perform-silent, offer-silent, unplug-silent}
use Rattle.gate_history.specs.write.Bytes.{gateway_hello}
use Rattle.redir_data.specs.Sent.{sent_header, CanBeRead, sent_packet_bytes}
use Rattle.redir_data.specs.declared.stream_kind.StreamKind.{StreamKind}
use Rattle.redir_data.specs.declared.stream_kind.StreamKind.TheVariants.{Iso, Interrupt}
use Rattle.direct_run.specs.Packets.{both_caps}
use Rattle.direct_run.proofs.Headed.{no-hello, unmoved}

-- what is done with the device
abbrev pub IsOwn : Item → Type 0
IsOwn (Asked id packet) = ⊥
IsOwn (Wrong place reason) = ⊥
IsOwn _ = Unit {0}

-- ---- nothing of the guest has come

pub record IsDeaf {S : Type 0} (h : Host S) : Type 0 where
  pub guest : h.guest ≡ start
  pub queue : h.queue ≡ []
  pub running : h.running ≡ []

record IsQuiet {S : Type 0} (v : Move S) : Type 0 where
  deaf : IsDeaf v.host
  none : v.sent ≡ []

perform-quiet : {S : Type 0} (m : Meaning S) (h : Host S) (ep : ℕ) → IsDeaf h → perform_move m h ep ≡ quiet h
perform-quiet m h ep d =
    (λ i. perform_move_by h (cond h.unplugged None (first_performed m h ep (find (is_at ep) (d.queue i)))))
    ∙ elim h.unplugged as (λ (b : Bool). perform_move_by h (cond b None None) ≡ quiet h) [ true ↦ refl | false ↦ refl ]

offer-quiet : {S : Type 0} (m : Meaning S) (h : Host S) (ep : ℕ) → IsDeaf h → offer_move m h ep ≡ quiet h
offer-quiet m h ep d =
    (λ i. cond h.unplugged (quiet h) (offered_on m h ep (find (runs_at ep) (d.running i))))
    ∙ elim h.unplugged as (λ (b : Bool). cond b (quiet h) (quiet h) ≡ quiet h) [ true ↦ refl | false ↦ refl ]

own-quiet : {S : Type 0} (m : Meaning S) (h : Host S) (x : Item) → IsOwn x → IsDeaf h → IsQuiet (move m h x)
own-quiet m h (Asked id packet) own d = absurd own
own-quiet m h (Wrong place reason) own d = absurd own
own-quiet {S = S} m h (Performs ep) own d = subst (λ (v : Move S). IsQuiet v) (sym (perform-quiet m h ep d)) (record { deaf = d; none = refl })
own-quiet {S = S} m h (Offers ep) own d = subst (λ (v : Move S). IsQuiet v) (sym (offer-quiet m h ep d)) (record { deaf = d; none = refl })
own-quiet {S = S} m h Unplugs own d =
    elim h.unplugged as (λ (b : Bool). IsQuiet (unplugged-by h b)) [
      | true ↦ record { deaf = d; none = refl }
      | false ↦ record { deaf = record { guest = d.guest; queue = refl; running = refl }; none = ap (λ (g : RedirState). cond g.first [] ((0, Plain plain.Disconnect) ∷ [])) d.guest }
    ]

-- ---- the hello has come

pub record Hears {S : Type 0} (h : Host S) : Type 0 where
  pub guest : h.guest ≡ later both_caps
  pub sound : IsSound h

own-hears : {S : Type 0} (m : Meaning S) (h : Host S) (x : Item) → IsOwn x → Hears h → Hears (move m h x).host
own-hears m h (Asked id packet) own k = absurd own
own-hears m h (Wrong place reason) own k = absurd own
own-hears m h (Performs ep) own k = let x = keeps-perform m h ep k.sound in record { guest = x.guest ∙ k.guest; sound = x.sound }
own-hears m h (Offers ep) own k = let x = keeps-offer m h ep k.sound in record { guest = x.guest ∙ k.guest; sound = x.sound }
own-hears m h Unplugs own k = let x = keeps-unplug h k.sound in record { guest = x.guest ∙ k.guest; sound = x.sound }

id-is : (p : ℕ × RedirPacket) → (sent_header both_caps p).id ≡ p.0
id-is (id, Plain p) = refl
id-is (id, Carrying d) = refl

packet-hears : {S : Type 0} (m : Meaning S) (h : Host S) (p : ℕ × RedirPacket) → CanBeRead ToHost both_caps p → Hears h → Hears (packet_move m h p.0 p.1).host
packet-hears {S = S} m h p fits k =
    let taken : IsTaken h.guest (sent_header both_caps p) p.1 = subst (λ (g : RedirState). IsTaken g (sent_header both_caps p) p.1) (sym k.guest) fits in
    let x : Keeps (record h { guest = advanced h.guest p.1 }) (packet_move m h p.0 p.1).host =
    subst (λ (id : ℕ). Keeps (record h { guest = advanced h.guest p.1 }) (packet_move m h id p.1).host) (id-is p) (keeps-packet m h (sent_header both_caps p) p.1 k.sound taken) in
    record { guest = x.guest ∙ unmoved h.guest p.1 (no-hello both_caps ToHost p fits) ∙ k.guest; sound = x.sound }

hello-hears : {S : Type 0} (m : Meaning S) (h : Host S) → IsDeaf h → Hears (packet_move m h 0 gateway_hello).host
hello-hears {S = S} m h d =
    let g : Host S = record h { guest = later both_caps } in
    let known : Hears g = record { guest = refl; sound = record { requests = subst (Each (IsGuestRequest (later both_caps))) (sym d.queue) tt; streams = subst (Each (IsRunning (later both_caps))) (sym d.running) tt } } in
    elim h.unplugged as (λ (b : Bool). Hears (cond b (quiet g) (packet_move_by m g 0 gateway_hello)).host) [ true ↦ known | false ↦ known ]

-- ---- what was sent

pub record IsSilent {S : Type 0} (m : Meaning S) (s : S) (xs : List Item) : Type 0 where
  pub deaf : IsDeaf (run m s xs)
  pub none : all_given (λ v. v.sent) m s xs ≡ []
  pub no_bytes : all_given bytes_of m s xs ≡ []

pub record HasHeard {S : Type 0} (m : Meaning S) (s : S) (xs : List Item) : Type 0 where
  pub hears : Hears (run m s xs)
  pub bytes : all_given bytes_of m s xs ≡ flat_map (sent_packet_bytes both_caps) (all_given (λ v. v.sent) m s xs)

pub silent-first : {S : Type 0} (m : Meaning S) (s : S) → IsSilent m s []
silent-first m s = record { deaf = record { guest = refl; queue = refl; running = refl }; none = refl; no_bytes = refl }

pub silent-own : {S : Type 0} (m : Meaning S) (s : S) (xs : List Item) (x : Item) → IsOwn x → IsSilent m s xs → IsSilent m s (x ∷ xs)
silent-own m s xs x own k =
    let v = move m (run m s xs) x in
    let q = own-quiet m (run m s xs) x own k.deaf in
    record { deaf = q.deaf; none = (λ i. k.none i ++ q.none i); no_bytes = (λ i. k.no_bytes i ++ flat_map (sent_packet_bytes v.host.guest.caps) (q.none i)) }

heard-by : {S : Type 0} (m : Meaning S) (s : S) (xs : List Item) (x : Item) → Hears (move m (run m s xs) x).host → all_given bytes_of m s xs ≡ flat_map (sent_packet_bytes both_caps) (all_given (λ v. v.sent) m s xs) → HasHeard m s (x ∷ xs)
heard-by m s xs x k before =
    let v = move m (run m s xs) x in
    record {
      hears = k;
      bytes = (λ i. before i ++ flat_map (sent_packet_bytes (k.guest i).caps) v.sent) ∙ sym (flat_map-append (sent_packet_bytes both_caps) (all_given (λ v. v.sent) m s xs) v.sent);
    }

pub heard-own : {S : Type 0} (m : Meaning S) (s : S) (xs : List Item) (x : Item) → IsOwn x → HasHeard m s xs → HasHeard m s (x ∷ xs)
heard-own m s xs x own k = heard-by m s xs x (own-hears m (run m s xs) x own k.hears) k.bytes

pub heard-packet : {S : Type 0} (m : Meaning S) (s : S) (xs : List Item) (p : ℕ × RedirPacket) → CanBeRead ToHost both_caps p → HasHeard m s xs → HasHeard m s (Asked p.0 p.1 ∷ xs)
heard-packet m s xs p fits k = heard-by m s xs (Asked p.0 p.1) (packet-hears m (run m s xs) p fits k.hears) k.bytes

pub heard-hello : {S : Type 0} (m : Meaning S) (s : S) (xs : List Item) → IsSilent m s xs → HasHeard m s (Asked 0 gateway_hello ∷ xs)
heard-hello m s xs k = heard-by m s xs (Asked 0 gateway_hello) (hello-hears m (run m s xs) k.deaf) (k.no_bytes ∙ ap (flat_map (sent_packet_bytes both_caps)) (sym k.none))

-- ---- a packet that is read is never refused

abbrev Accepts : {S : Type 0} → Move S → Type 0
Accepts v = list_any is_refusal v.notes ≡ false

either : {S : Type 0} (b : Bool) (v w : Move S) → Accepts v → Accepts w → Accepts (cond b v w)
either true v w h k = h
either false v w h k = k

accepts-data : {S : Type 0} (h : Host S) (id : ℕ) (a : Asking) → Accepts (data_move h id a)
accepts-data h id Nothing = refl
accepts-data h id (Refuses f ep) = refl
accepts-data h id (Asks f t) = refl

accepts-cancel : {S : Type 0} (h : Host S) (id : ℕ) (o : Option Request) → Accepts (cancel_move h id o)
accepts-cancel h id None = refl
accepts-cancel h id (Some q) = refl

accepts-start : {S : Type 0} (can : Bool) (h : Host S) (id : ℕ) (k : StreamKind) (ep : ℕ) → Accepts (start_move can h id k ep)
accepts-start true h id k ep = refl
accepts-start false h id k ep = refl

accepts-by : {S : Type 0} (m : Meaning S) (h : Host S) (id : ℕ) (p : RedirPacket) → Accepts (packet_move_by m h id p)
accepts-by m h id (Plain (plain.StartIso ep pkts_per_urb no_urbs)) = accepts-start (can_start (m.table h.gadget) Iso ep) h id Iso ep
accepts-by m h id (Plain (plain.StartInterrupt ep)) = accepts-start (can_start (m.table h.gadget) Interrupt ep) h id Interrupt ep
accepts-by m h id (Plain plain.Cancel) = accepts-cancel h id (find (is_cancelled_by id) h.queue)
accepts-by m h id (Plain p) = refl
accepts-by m h id (Carrying d) = accepts-data h id (asking_of d)

-- no wrong place
abbrev pub IsRight : Item → Type 0
IsRight (Wrong place reason) = ⊥
IsRight _ = Unit {0}

accepts : {S : Type 0} (m : Meaning S) (h : Host S) (x : Item) → IsRight x → list_any is_refusal (move m h x).notes ≡ false
accepts {S = S} m h (Asked id p) right =
    let g : Host S = record h { guest = advanced h.guest p } in
    either h.unplugged (quiet g) (packet_move_by m g id p) refl (accepts-by m g id p)
accepts m h (Wrong place why) right = absurd right
accepts m h (Performs ep) right = ap (list_any is_refusal) (perform-silent m h ep)
accepts m h (Offers ep) right = ap (list_any is_refusal) (offer-silent m h ep)
accepts m h Unplugs right = ap (list_any is_refusal) (unplug-silent h)

pub accepts-all : {S : Type 0} (m : Meaning S) (h : Host S) (xs : List Item) → Each IsRight xs → list_any is_refusal (given_by notes_of m h xs) ≡ false
accepts-all m h [] right = refl
accepts-all m h (x ∷ xs) right =
    list_any-append is_refusal (move m h x).notes (given_by notes_of m (move m h x).host xs)
    ∙ (λ i. accepts m h x right.0 i || accepts-all m (move m h x).host xs right.1 i)
