-- What the readers behind a header find.
use Rattle.std.proofs.Common.{◌≡◌, ℕ, ◌+◌, ◌-◌, ◌<◌, ◌≤◌, Bool, true, false, cond, List, [], ◌∷◌, length, take, drop, Option, Some, Err, refl, sym, ap, subst, ◌∙◌, arith}
use Rattle.std.specs.Prelude.{not, ◌==◌}
use Rattle.std.proofs.lemmas.Grind.{common_steps}
use Rattle.usb_base.specs.Number.{part}
use Rattle.usb_base.proofs.Numbers.{length-part}
use Rattle.usb_base.specs.declared.reason.Reason.{Reason}
use Rattle.packet_stream.specs.Format.{Check, fails, wrong_at, Found, Whole, Short, Wrong, reading}
use Rattle.packet_stream.specs.Reads.{WantsMemory, Answers}
use Rattle.packet_stream.specs.declared.read.ReadError.{ReadError}
use Rattle.packet_stream.specs.declared.read.ReadError.TheVariants as error
use Rattle.packet_stream.proofs.Formats.{wrong_parts}
use Rattle.redir_wire.specs.declared.packet.Caps.{Caps}
use Rattle.redir_wire.specs.declared.packet.Way.{Way}
use Rattle.redir_wire.specs.declared.packet.Header.{Header}
use Rattle.redir_wire.specs.declared.kind.DataKind.{DataKind}
use Rattle.redir_wire.specs.declared.kind.DataKind.TheVariants.{Control, Bulk, Iso, Interrupt}
use Rattle.redir_wire.specs.Table.{data_numbered}
use Rattle.redir_wire.specs.Bodies.{with_header, behind}
use Rattle.redir_wire.specs.Reads.{AnswersBehind}
use Rattle.redir_data.specs.declared.packet.RedirPacket.{RedirPacket}
use Rattle.redir_data.specs.Places.{fixed, told_length, fields_with, fields_at}
use Rattle.redir_data.specs.Carrying.{transfers, has_data}
use Rattle.redir_data.specs.inner.Past.{packet_past, error_past, IsNear, with_body}
use Rattle.redir_data.specs.sound.Checks.{announced, read_whole}
use Rattle.redir_data.specs.sound.Fields.{are_fields}

-- ---- a whole packet that moves data

pub whole_is : (caps : Caps) (k : DataKind) (b : List ℕ) (n f told count : ℕ) (body : List ℕ) → f ≡ fixed caps k → told ≡ told_length caps k b → n ≡ f + count → body ≡ take count (drop f b) →
    fields_with k b told body ≡ fields_at caps n k b
whole_is caps k b n f told count body is tells all body_is =
    let count_is : count ≡ n - fixed caps k = omega (arith, is, all) in
    let data_is : body ≡ part (fixed caps k) (n - fixed caps k) b = body_is ∙ (λ i. take (count_is i) (drop (is i) b)) in
    λ i. fields_with k b (tells i) (data_is i)

-- the data are put to the fields that were read before
pub with_body_is : (k : DataKind) (b : List ℕ) (told : ℕ) (old body : List ℕ) → with_body (fields_with k b told old) body ≡ fields_with k b told body
with_body_is Control b told old body = refl
with_body_is Bulk b told old body = refl
with_body_is Iso b told old body = refl
with_body_is Interrupt b told old body = refl

has_some : (n : ℕ) → 0 < n → not (n == 0) ≡ true
has_some n some = grind (arith, common_steps)

pub wants : (caps : Caps) (way : Way) (h : Header) (k : DataKind) (b : List ℕ) (f count : ℕ) → data_numbered h.kind ≡ Some k → h.length ≡ announced caps way k b → h.length ≤ length b → f ≡ fixed caps k → h.length ≡ f + count →
    0 < count → WantsMemory has_data (reading (behind (transfers caps way) h) b)
wants caps way h k b f count e agrees there is all some =
    let told = told_length caps k b in
    let body = part f count b in
    let long : length body ≡ count = length-part f count b (omega (arith, all, there)) in
    let d = whole_is caps k b h.length f told count body is refl all refl in
    let has : has_data (fields_at caps h.length k b) ≡ true = ap has_data (sym d) ∙ ap (λ (x : List ℕ). not (length x == 0)) (are_fields k b told body).body_is ∙ has_some (length body) (omega (arith, long, some)) in
    subst (WantsMemory has_data) (sym (read_whole caps way h k b e agrees there)) has

-- ---- places within the fixed fields

AreNear : List (Check Reason) → Type 0
AreNear [] = Unit {0}
AreNear (c ∷ cs) = (c.place ≤ 8) × AreNear cs

near_step : (t : Bool) (place : ℕ) (reason : Reason) (later : Option (ℕ × Reason)) (w : ℕ × Reason) → place ≤ 8 → (later ≡ Some w → w.0 ≤ 8) → cond t (Some (place, reason)) later ≡ Some w → w.0 ≤ 8
near_step true place reason later w near h e = let same : place ≡ w.0 = cc in omega arith
near_step false place reason later w near h e = h e

near_checks : (cs : List (Check Reason)) (b : List ℕ) (w : ℕ × Reason) → AreNear cs → wrong_at cs b ≡ Some w → w.0 ≤ 8
unfolding AreNear
near_checks [] b w near e = absurd cc
near_checks (c ∷ cs) b w near e = near_step (fails c b) c.place c.reason (wrong_at cs b) w near.0 (near_checks cs b w near.1) e

pub data_near : (caps : Caps) (way : Way) (h : Header) (b : List ℕ) (e : ReadError) → AnswersBehind h has_data (Err e) (reading (behind (transfers caps way) h) b) → IsNear e
unfolding AreNear
data_near caps way h b (error.Refused place reason) is =
    near_checks (with_header h (transfers caps way).checks) b (place, reason) (omega arith, (omega arith, (omega arith, (omega arith, tt)))) (wrong_parts (behind (transfers caps way) h) b place reason is)
data_near caps way h b (error.Memory memory) is = tt

-- ---- the same of the packet

wants_past : {P : Type 0} (takes : P → Bool) (all : Header × RedirPacket → Bool) (wrap : P → RedirPacket) (size : ℕ) (h : Header) (x : Found P Reason) → ((p : P) → all (h, wrap p) ≡ takes p) →
    WantsMemory takes x → WantsMemory all (packet_past wrap size h x)
wants_past takes all wrap size h (Whole p n) same e = same p ∙ e
wants_past takes all wrap size h Short same e = e
wants_past takes all wrap size h (Wrong place reason) same e = e

pub error_answers : {P : Type 0} (takes : P → Bool) (all : Header × RedirPacket → Bool) (wrap : P → RedirPacket) (size : ℕ) (h : Header) (x : Found P Reason) (e d : ReadError) → ((p : P) → all (h, wrap p) ≡ takes p) →
    d ≡ error_past size e → AnswersBehind h takes (Err e) x → Answers all (Err d) (packet_past wrap size h x)
error_answers takes all wrap size h x (error.Refused place reason) d same is a = subst (λ (y : ReadError). Answers all (Err y) (packet_past wrap size h x)) (sym is) (ap (packet_past wrap size h) a)
error_answers takes all wrap size h x (error.Memory memory) d same is a = subst (λ (y : ReadError). Answers all (Err y) (packet_past wrap size h x)) (sym is) (wants_past takes all wrap size h x same a)
