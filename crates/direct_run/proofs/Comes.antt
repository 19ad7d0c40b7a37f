-- The packets that a piece makes whole, on either wire: the hello is the first of all, and those behind it have the
-- headers that are spelled with the capabilities of both. So far have the sides met.
use Rattle.std.proofs.Common.{◌≡◌, ℕ, List, [], ◌∷◌, ◌++◌, drop, map, sym, ap, ◌∙◌, subst}
use Rattle.std.specs.Prelude.{zero, suc}
use Rattle.packet_stream.specs.Split.{Position, past}
use Rattle.packet_stream.specs.Items.{onto}
use Rattle.redir_wire.specs.declared.packet.Header.{Header}
use Rattle.redir_wire.specs.declared.state.RedirState.{RedirState}
use Rattle.redir_wire.specs.declared.packet.Way.{Way}
use Rattle.redir_wire.specs.declared.packet.Way.TheVariants.{ToGuest, ToHost}
use Rattle.redir_wire.specs.Capability.{no_caps}
use Rattle.redir_wire.specs.declared.packet.Caps.{Caps}
use Rattle.redir_data.specs.declared.packet.RedirPacket.{RedirPacket}
use Rattle.redir_data.specs.declared.packet.RedirPacket.TheVariants.{Plain}
use Rattle.redir_data.specs.Streams.{after, stream_format}
use Rattle.model_device.specs.Meaning.{Meaning}
use Rattle.redir_host.proofs.lemmas.guest.Pieces.{asked}
use Rattle.redir_host.specs.step.Items.{Item as HostItem, Asked}
use Rattle.redir_host.specs.write.Output.{host_hello}
use Rattle.gate_history.proofs.lemmas.Lists.{Each}
use Rattle.gate_history.specs.write.Bytes.{gateway_hello}
use Rattle.gate_history.specs.declared.item.Item.{Item}
use Rattle.gate_history.specs.declared.item.Item.TheVariants.{Told}
use Rattle.gate_history.specs.state.State.{State}
use Rattle.gate_history.specs.step.Machine.{step, run}
use Rattle.redir_data.specs.Sent.{sent_header, CanBeRead}
use Rattle.direct_run.specs.Packets.{both_caps, Found, bare}
use Rattle.packet_stream.proofs.Spelled.{placed}
use Rattle.direct_run.proofs.Headed.{headed, bare-headed, no-hello, on_wire}
use Rattle.direct_run.proofs.Meeting.{IsClients, IsUnmet, HasMet, unmet-more, met-more, met-hello, client-agreed, told-agreed}
use Rattle.direct_run.proofs.Heard.{IsSilent, HasHeard, heard-packet, heard-hello}

abbrev pub told_item : Found → Item
told_item i = Told i.0 i.1.0 i.1.1

-- ---- what comes

abbrev pub IsBehind : Way → Found → Type 0
IsBehind way i = (i.1 ≡ headed both_caps (bare i.1)) × CanBeRead way both_caps (bare i.1)

-- behind the old ones, of which the hello is the first
abbrev pub Comes : Way → RedirPacket → List Found → List Found → Type 0
Comes way hello [] [] = Unit {0}
Comes way hello [] (i ∷ is) = (i.1 ≡ headed no_caps (0, hello)) × Each (IsBehind way) is
Comes way hello (o ∷ os) is = Each (IsBehind way) is

pub each-front : {A : Type 0} (P : A → Type 0) (xs ys : List A) → Each P (xs ++ ys) → Each P xs
each-front P [] ys h = tt
each-front P (x ∷ xs) ys h = (h.0, each-front P xs ys h.1)

each-back : {A : Type 0} (P : A → Type 0) (xs ys : List A) → Each P (xs ++ ys) → Each P ys
each-back P [] ys h = h
each-back P (x ∷ xs) ys h = each-back P xs ys h.1

pub each-drop : {A : Type 0} (P : A → Type 0) (n : ℕ) (xs : List A) → Each P xs → Each P (drop n xs)
each-drop P zero xs h = h
each-drop P (suc n) [] h = tt
each-drop P (suc n) (x ∷ xs) h = each-drop P n xs h.1

behind-each : (way : Way) (a : Position RedirState) (ps : List (ℕ × RedirPacket)) → Each (CanBeRead way both_caps) ps → Each (IsBehind way) (placed (stream_format way) after a (map (headed both_caps) ps))
behind-each way a [] h = tt
behind-each way a (p ∷ ps) h =
    ((ap (headed both_caps) (sym (bare-headed both_caps p)), subst (CanBeRead way both_caps) (sym (bare-headed both_caps p)) h.0), behind-each way (past after a (headed both_caps p) _) ps h.1)

abbrev rest_of : List Found → List Found
rest_of [] = []
rest_of (i ∷ is) = is

abbrev first_of : Found → List Found → Found
first_of d [] = d
first_of d (i ∷ is) = i

pub comes : (way : Way) (hello : RedirPacket) (a : Position RedirState) (ps : List (ℕ × RedirPacket)) → Each (CanBeRead way both_caps) ps → (old fresh later : List Found) →
    placed (stream_format way) after a (on_wire hello ps) ≡ old ++ (fresh ++ later) → Comes way hello old fresh
comes way hello a ps h [] [] later e = tt
comes way hello a ps h [] (i ∷ is) later e = (
  sym (ap (λ (l : List Found). (first_of i l).1) e),
  each-front (IsBehind way) is later (subst (Each (IsBehind way)) (ap rest_of e) (behind-each way (past after a (headed no_caps (0, hello)) _) ps h)),
)
comes way hello a ps h (o ∷ os) is later e =
    each-front (IsBehind way) is later (each-back (IsBehind way) os (is ++ later) (subst (Each (IsBehind way)) (ap rest_of e) (behind-each way (past after a (headed no_caps (0, hello)) _) ps h)))

-- ---- the gateway

abbrev pub Meets : ℕ → List Found → List Item → Type 0
Meets first [] xs = IsUnmet first xs
Meets first (o ∷ os) xs = HasMet first xs

met-told : (first : ℕ) (is : List Found) (xs : List Item) → Each (IsBehind ToGuest) is → HasMet first xs → HasMet first (onto (map told_item is) xs)
met-told first [] xs h k = k
met-told first (i ∷ is) xs h k =
    met-told first is (told_item i ∷ xs) h.1 (met-more first xs (told_item i) (told-agreed first xs i.0 i.1.0 i.1.1 (no-hello both_caps ToGuest (bare i.1) h.0.1)) k)

hello-told : (first : ℕ) (i : Found) (xs : List Item) → i.1 ≡ headed no_caps (0, Plain host_hello) → IsUnmet first xs → HasMet first (told_item i ∷ xs)
hello-told first i xs e u = subst (λ (x : Header × RedirPacket). HasMet first (Told i.0 x.0 x.1 ∷ xs)) (sym e) (met-hello first xs i.0 (sent_header no_caps (0, Plain host_hello)) u)

pub meets-told : (first : ℕ) (old is : List Found) (xs : List Item) → Comes ToGuest (Plain host_hello) old is → Meets first old xs → Meets first (old ++ is) (onto (map told_item is) xs)
meets-told first [] [] xs h k = k
meets-told first [] (i ∷ is) xs h k = met-told first is (told_item i ∷ xs) h.1 (hello-told first i xs h.0 k)
meets-told first (o ∷ os) is xs h k = met-told first is xs h k

pub meets-client : (first : ℕ) (old : List Found) (ys xs : List Item) → Each IsClients ys → Meets first old xs → Meets first old (onto ys xs)
meets-client first old [] xs h k = k
meets-client first [] (y ∷ ys) xs h k = meets-client first [] ys (y ∷ xs) h.1 (unmet-more first xs y h.0 k)
meets-client first (o ∷ os) (y ∷ ys) xs h k = meets-client first (o ∷ os) ys (y ∷ xs) h.1 (met-more first xs y (client-agreed first xs y h.0) k)

-- each has the header that the gateway's move reads it with
abbrev pub Heads : State → List Found → Type 0
Heads st [] = Unit {0}
Heads st (i ∷ is) = (i.1.0 ≡ sent_header st.sides.agreed (bare i.1)) × Heads (step st (told_item i)) is

met-heads : (first : ℕ) (is : List Found) (xs : List Item) → Each (IsBehind ToGuest) is → HasMet first xs → Heads (run first xs) is
met-heads first [] xs h k = tt
met-heads first (i ∷ is) xs h k = (
  ap (λ (x : Header × RedirPacket). x.0) h.0.0 ∙ ap (λ (caps : Caps). sent_header caps (bare i.1)) (sym k.agreed),
  met-heads first is (told_item i ∷ xs) h.1 (met-more first xs (told_item i) (told-agreed first xs i.0 i.1.0 i.1.1 (no-hello both_caps ToGuest (bare i.1) h.0.1)) k),
)

pub heads : (first : ℕ) (old is : List Found) (xs : List Item) → Comes ToGuest (Plain host_hello) old is → Meets first old xs → Heads (run first xs) is
heads first [] [] xs h k = tt
heads first [] (i ∷ is) xs h k =
    (ap (λ (x : Header × RedirPacket). x.0) h.0 ∙ (λ j. sent_header (sym k.fresh.agreed j) (bare (sym h.0 j))), met-heads first is (told_item i ∷ xs) h.1 (hello-told first i xs h.0 k))
heads first (o ∷ os) is xs h k = met-heads first is xs h k

-- ---- the host

abbrev pub Listens : {S : Type 0} → Meaning S → S → List Found → List HostItem → Type 0
Listens m s [] xs = IsSilent m s xs
Listens m s (o ∷ os) xs = HasHeard m s xs

heard-asked : {S : Type 0} (m : Meaning S) (s : S) (is : List Found) (xs : List HostItem) → Each (IsBehind ToHost) is → HasHeard m s xs → HasHeard m s (onto (map asked is) xs)
heard-asked m s [] xs h k = k
heard-asked m s (i ∷ is) xs h k = heard-asked m s is (asked i ∷ xs) h.1 (heard-packet m s xs (bare i.1) h.0.1 k)

pub listens-asked : {S : Type 0} (m : Meaning S) (s : S) (old is : List Found) (xs : List HostItem) → Comes ToHost gateway_hello old is → Listens m s old xs → Listens m s (old ++ is) (onto (map asked is) xs)
listens-asked m s [] [] xs h k = k
listens-asked m s [] (i ∷ is) xs h k =
    heard-asked m s is (asked i ∷ xs) h.1 (subst (λ (x : Header × RedirPacket). HasHeard m s (Asked x.0.id x.1 ∷ xs)) (sym h.0) (heard-hello m s xs k))
listens-asked m s (o ∷ os) is xs h k = heard-asked m s is xs h k
