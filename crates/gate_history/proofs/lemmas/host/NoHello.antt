-- Before the host's hello nothing is told of a device, so that no client imports one, and nothing is sent to the host.
use Rattle.gate_history.specs.client.Replies.{is_exported}
use Rattle.std.proofs.Common.{◌≡◌, ◌&&◌, ℕ, Bool, true, false, cond, not, List, [], ◌++◌, length, map, Option, Some, None, refl, ap, ◌∙◌}
use Rattle.std.specs.Prelude.{◌||◌, filter, zip, is_none}
use Rattle.std.proofs.lemmas.Bool.{true≢false}
use Rattle.usb_base.specs.declared.refusal.Refusal.{Refusal}
use Rattle.usb_base.specs.declared.side.Side.{Side}
use Rattle.usb_base.specs.Lists.{is_empty}
use Rattle.usbip_op.specs.declared.packet.OpPacket.{OpPacket}
use Rattle.usbip_op.specs.declared.packet.OpPacket.TheVariants as op
use Rattle.usbip_urb.specs.declared.client.ClientPacket.{ClientPacket}
use Rattle.usbip_urb.specs.declared.client.ClientPacket.TheVariants.{Op, Urb}
use Rattle.usbip_urb.specs.declared.packet.UrbPacket.{UrbPacket}
use Rattle.usbip_urb.specs.declared.packet.UrbPacket.TheVariants as urb
use Rattle.redir_wire.specs.declared.packet.Caps.{Caps}
use Rattle.redir_wire.specs.declared.packet.Connect.{Connect}
use Rattle.gate_history.specs.state.Facts.{no_facts}
use Rattle.gate_history.specs.declared.item.Item.{Item}
use Rattle.gate_history.specs.declared.item.Item.TheVariants.{Asked, ClientWrong, ClientLeft, Told, HostWrong, HostLeft}
use Rattle.gate_history.specs.step.Machine.{ask, live_after, with_mark}
use Rattle.gate_history.specs.step.Marks.{Effect, Idle, Replies, Ends, Refuses}
use Rattle.gate_history.specs.step.Meaning.{importable, imported_as, asked_meaning, meaning, mark_as}
use Rattle.gate_history.specs.write.Output.{cancel, cancels, fresh, acknowledgements, to_host}
use Rattle.gate_history.specs.write.Packets.{stops, asked_packets}
use Rattle.gate_history.specs.state.Sides.{imports, leaves, is_loss}
use Rattle.gate_history.specs.state.State.{State, next_ids}
use Rattle.gate_history.specs.client.Submits.{opened}
use Rattle.gate_history.specs.client.Ends.{ends}
use Rattle.gate_history.specs.state.Ups.{Up, no_streams, moved_streams, is_ended}

pub record IsQuiet (st : State) : Type 0 where
  pub live : st.live ≡ []
  pub connect : st.facts.connect ≡ None
  pub imported : st.sides.imported ≡ false
  pub streams : st.streams ≡ no_streams

-- an effect that nobody waits for
record IsStill (e : Effect) : Type 0 where
  opens : opened e ≡ []
  asks : asked_packets no_streams e ≡ []
  acks : (caps : Caps) → acknowledgements caps e ≡ []
  imports-none : imports e ≡ false
  moves : moved_streams e no_streams ≡ no_streams

none-stop : (b : Bool) → cond b (stops (is_ended None) no_streams) [] ≡ []
none-stop true = refl
none-stop false = refl

idle : IsStill Idle
idle = record { opens = refl; asks = refl; acks = λ caps. refl; imports-none = refl; moves = refl }

replies : (p : OpPacket) → IsStill (Replies p)
replies p = record { opens = refl; asks = refl; acks = λ caps. refl; imports-none = refl; moves = refl }

refuses : (r : Refusal) → IsStill (Refuses r)
refuses r = record { opens = refl; asks = none-stop (leaves (Refuses r)); acks = λ caps. refl; imports-none = refl; moves = refl }

side-ends : (s : Side) → IsStill (Ends s)
side-ends s = record { opens = refl; asks = none-stop (leaves (Ends s)); acks = λ caps. refl; imports-none = refl; moves = refl }

-- ---- so is each item but one that the host tells

either : (b : Bool) (e f : Effect) → IsStill e → IsStill f → IsStill (cond b e f)
either true e f h k = h
either false e f h k = k

refused-first : (b : Bool) (e f : Effect) → b ≡ false → IsStill e → IsStill (cond (not b) e f)
refused-first true e f off h = absurd (true≢false off)
refused-first false e f off h = h

import-fails : (st : State) (o : Option Connect) → o ≡ None → IsStill (imported_as st o)
import-fails st None e = replies _
import-fails st (Some c) e = absurd (let no : Some c ≡ None = e in cc)

none-either : (b : Bool) (o : Option Connect) → o ≡ None → cond b o None ≡ None
none-either true o e = e
none-either false o e = refl

asks-op : (st : State) (place : ℕ) (p : OpPacket) → IsQuiet st → IsStill (asked_meaning st place (Op p))
asks-op st place (op.ReqDevlist status) q = either st.sides.imported _ _ (refuses _) (replies _)
asks-op st place (op.ReqImport status busid) q = either st.sides.imported _ _ (refuses _) (import-fails st (importable st busid) (none-either (is_exported busid && is_empty st.abandoned && is_none st.fence) st.facts.connect q.connect))
asks-op st place (op.RepDevlist status devices) q = idle
asks-op st place (op.RepImport status device) q = idle

asks-urb : (st : State) (place : ℕ) (p : UrbPacket) → IsQuiet st → IsStill (asked_meaning st place (Urb p))
asks-urb st place (urb.Submit s) q = refused-first st.sides.imported _ _ q.imported (refuses _)
asks-urb st place (urb.Unlink u) q = refused-first st.sides.imported _ _ q.imported (refuses _)
asks-urb st place (urb.RetSubmit r) q = idle
asks-urb st place (urb.RetUnlink r) q = idle

asks-any : (st : State) (place : ℕ) (p : ClientPacket) → IsQuiet st → IsStill (asked_meaning st place p)
asks-any st place (Op p) q = asks-op st place p q
asks-any st place (Urb p) q = asks-urb st place p q

-- the host tells nothing by it
abbrev pub IsUntold : Item → Type 0
IsUntold (Told place h p) = ⊥
IsUntold _ = Unit {0}

still : (st : State) (x : Item) → IsQuiet st → IsUntold x → IsStill (meaning st x)
still st (Asked place p) q un = asks-any st place p q
still st (ClientWrong place why) q un = refuses _
still st ClientLeft q un = side-ends _
still st (Told place h p) q un = absurd un
still st (HostWrong place why) q un = refuses _
still st HostLeft q un = side-ends _

-- ---- what it leaves, and sends

pub none-live : (st : State) (e : Effect) → st.live ≡ [] → opened e ≡ [] → live_after st e ≡ []
none-live st e live opens =
    (λ i. map (ask e) (filter (λ p. is_none (ends e p.submit)) (live i ++ map fresh (opens i))))

pub none-sent : (st : State) (e : Effect) → st.live ≡ [] → asked_packets st.streams e ≡ [] → acknowledgements st.sides.agreed e ≡ [] → to_host st (mark_as st e None) ≡ []
none-sent st e live asks acks =
    λ i. map cancel (filter (cancels e) (live i)) ++ zip (next_ids st (length (asks i))) (asks i) ++ acks i

turned-off : (a b before : Bool) → a ≡ false → before ≡ false → cond a true (cond b false before) ≡ false
turned-off true b before a e = absurd (true≢false a)
turned-off false true before a e = refl
turned-off false false before a e = e

record Stays (st : State) (e : Effect) : Type 0 where
  pub quiet : IsQuiet (with_mark st (mark_as st e None))
  pub sends : to_host st (mark_as st e None) ≡ []

stays : (st : State) (e : Effect) → IsQuiet st → IsStill e → Stays st e
stays st e q s = record {
  quiet = record {
    live = none-live st e q.live s.opens;
    connect = lost (is_loss e);
    imported = turned-off (imports e) (leaves e) st.sides.imported s.imports-none q.imported;
    streams = kept (leaves e) (is_loss e);
  };
  sends = none-sent st e q.live (ap (λ (ups : List (Option Up)). asked_packets ups e) q.streams ∙ s.asks) (s.acks st.sides.agreed);
}
  where
    lost : (b : Bool) → (cond b no_facts st.facts).connect ≡ None
    lost true = refl
    lost false = q.connect

    kept : (a b : Bool) → cond (a || b) no_streams (moved_streams e st.streams) ≡ no_streams
    kept true b = refl
    kept false true = refl
    kept false false = ap (moved_streams e) q.streams ∙ s.moves

pub stays-quiet : (st : State) (x : Item) → IsQuiet st → IsUntold x → IsQuiet (with_mark st (mark_as st (meaning st x) None))
stays-quiet st x q un = (stays st (meaning st x) q (still st x q un)).quiet

pub sends-none : (st : State) (x : Item) → IsQuiet st → IsUntold x → to_host st (mark_as st (meaning st x) None) ≡ []
sends-none st x q un = (stays st (meaning st x) q (still st x q un)).sends
