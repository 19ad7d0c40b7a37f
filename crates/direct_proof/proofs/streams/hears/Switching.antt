-- The host reads a start or a stop: its streams run as the packet says, and it tells of a success.
use Rattle.std.proofs.Common.{◌≡◌, ℕ, ◌==◌, ◌||◌, not, Bool, true, false, cond, List, [], ◌∷◌, ◌++◌, Option, Some, None, refl, sym, ap, ◌∙◌, arith}
use Rattle.std.specs.List.{list_any, AllByRecursion as Each}
use Rattle.std.proofs.Math.Bool.{or-false, or_assoc}
use Rattle.redir_wire.specs.declared.packet.RedirControl.TheVariants as plain
use Rattle.redir_data.specs.declared.packet.RedirPacket.{RedirPacket}
use Rattle.redir_data.specs.declared.packet.RedirPacket.TheVariants.{Plain, Carrying}
use Rattle.redir_data.specs.Streams.{advanced}
use Rattle.redir_data.specs.declared.stream_kind.StreamKind.{StreamKind}
use Rattle.redir_data.specs.declared.stream_kind.StreamKind.TheVariants.{Iso, Interrupt}
use Rattle.model_device.specs.Meaning.{Meaning}
use Rattle.redir_host.specs.declared.state.host.Host.{Host}
use Rattle.redir_host.specs.declared.state.running.Running.{Running}
use Rattle.redir_host.specs.step.Moves.{replies}
use Rattle.redir_host.specs.guest.Packets.{packet_move_by, runs_at, started, stopped, start_move}
use Rattle.gate_history.proofs.lemmas.Lists.{Each-append, Each-filter}
use Rattle.gate_history.specs.state.Ups.{Up, stream_of}
use Rattle.direct_proof.specs.Tagged.{Stated, on_wire}
use Rattle.direct_proof.specs.Kinds.{IsIn, OfKind, StartOfKind, StreamIsIn}
use Rattle.direct_proof.specs.Running.{CanStart, stream_endpoint, started_kind, runs_after}

-- ---- those that run

pub stopped-runs : (ep e : ℕ) (rs : List Running) → list_any (runs_at e) (stopped ep rs) ≡ cond (ep == e) false (list_any (runs_at e) rs)
stopped-runs ep e [] = none (ep == e)
  where
    none : (b : Bool) → false ≡ cond b false false
    none true = refl
    none false = refl
stopped-runs ep e (s ∷ rs) = go (s.ep == ep) refl (ep == e) refl (s.ep == e) refl (stopped-runs ep e rs)
  where
    go : (a : Bool) → (s.ep == ep) ≡ a → (b : Bool) → (ep == e) ≡ b → (c : Bool) → (s.ep == e) ≡ c → list_any (runs_at e) (stopped ep rs) ≡ cond (ep == e) false (list_any (runs_at e) rs) →
        list_any (runs_at e) (cond (not a) (s ∷ stopped ep rs) (stopped ep rs)) ≡ cond (ep == e) false ((s.ep == e) || list_any (runs_at e) rs)
    go true x true y c z rest = rest ∙ (λ i. cond (y i) false (list_any (runs_at e) rs)) ∙ (λ i. cond (sym y i) false ((s.ep == e) || list_any (runs_at e) rs))
    go true x false y true z rest = absurd (differ s.ep ep e x y z)
      where
        differ : (k l n : ℕ) → (k == l) ≡ true → (l == n) ≡ false → (k == n) ≡ true → ⊥
        differ k l n f g h = grind (arith, f, g, h)
    go true x false y false z rest = rest ∙ (λ i. cond (ep == e) false (sym z i || list_any (runs_at e) rs))
    go false x true y true z rest = absurd (differ s.ep ep e x y z)
      where
        differ : (k l n : ℕ) → (k == l) ≡ false → (l == n) ≡ true → (k == n) ≡ true → ⊥
        differ k l n f g h = grind (arith, f, g, h)
    go false x true y false z rest = (λ i. z i || (rest ∙ (λ t. cond (y t) false (list_any (runs_at e) rs))) i) ∙ (λ i. cond (sym y i) false ((s.ep == e) || list_any (runs_at e) rs))
    go false x false y c z rest = (λ i. (s.ep == e) || (rest ∙ (λ t. cond (y t) false (list_any (runs_at e) rs))) i) ∙ (λ i. cond (sym y i) false ((s.ep == e) || list_any (runs_at e) rs))

pub started-runs : (k : StreamKind) (ep e : ℕ) (rs : List Running) → list_any (runs_at e) (started k ep rs) ≡ cond (ep == e) true (list_any (runs_at e) rs)
started-runs k ep e rs = last (stopped ep rs) ∙ (λ i. stopped-runs ep e rs i || (ep == e)) ∙ by (ep == e) (list_any (runs_at e) rs)
  where
    last : (xs : List Running) → list_any (runs_at e) (xs ++ record { ep = ep; kind = k } ∷ []) ≡ (list_any (runs_at e) xs || (ep == e))
    last [] = or-false (ep == e)
    last (x ∷ xs) = ap (λ (b : Bool). (x.ep == e) || b) (last xs) ∙ sym (or_assoc (x.ep == e) (list_any (runs_at e) xs) (ep == e))

    by : (b r : Bool) → (cond b false r || b) ≡ cond b true r
    by true r = refl
    by false true = refl
    by false false = refl

-- ---- a start or a stop

pub record HostSwitches {S : Type 0} (m : Meaning S) (h : Host S) (ups : List (Option Up)) (q : ℕ × RedirPacket) : Type 0 where
  pub kind : StreamKind
  pub ep : ℕ
  pub running : List Running
  pub at : stream_endpoint q.1 ≡ Some ep
  pub is_in : IsIn ep
  pub moved : packet_move_by m h q.0 q.1 ≡ replies (record h { running = running }) (on_wire (Stated kind q.0 ep 0))
  pub same : advanced h.guest q.1 ≡ h.guest
  pub runs-are : (e : ℕ) → list_any (runs_at e) running ≡ runs_after e q.1 (list_any (runs_at e) h.running)
  pub kinds : Each (λ (s : Running). OfKind (stream_of ups s.ep) s.kind) running
  pub ins : Each (λ (s : Running). IsIn s.ep) running

none-some : (e : ℕ) → None ≡ Some e → ⊥
none-some e h = cc

module _ {S : Type 0} (m : Meaning S) (h : Host S) (ups : List (Option Up)) (kinds : Each (λ (s : Running). OfKind (stream_of ups s.ep) s.kind) h.running) (ins : Each (λ (s : Running). IsIn s.ep) h.running) where
  starting : (id ep : ℕ) (k : StreamKind) (p : RedirPacket) → stream_endpoint p ≡ Some ep → IsIn ep → OfKind (stream_of ups ep) k →
      packet_move_by m h id p ≡ replies (record h { running = started k ep h.running }) (on_wire (Stated k id ep 0)) → advanced h.guest p ≡ h.guest →
      ((e : ℕ) (r : Bool) → cond (ep == e) true r ≡ runs_after e p r) → HostSwitches m h ups (id, p)
  starting id ep k p at is_in kind moved same runs = record {
    kind = k;
    ep = ep;
    running = started k ep h.running;
    at = at;
    is_in = is_in;
    moved = moved;
    same = same;
    runs-are = λ e. started-runs k ep e h.running ∙ runs e (list_any (runs_at e) h.running);
    kinds = Each-append (λ (s : Running). OfKind (stream_of ups s.ep) s.kind) (stopped ep h.running) (record { ep = ep; kind = k } ∷ []) (Each-filter (λ (s : Running). OfKind (stream_of ups s.ep) s.kind) (λ s. not (runs_at ep s)) h.running kinds) (kind, tt);
    ins = Each-append (λ (s : Running). IsIn s.ep) (stopped ep h.running) (record { ep = ep; kind = k } ∷ []) (Each-filter (λ (s : Running). IsIn s.ep) (λ s. not (runs_at ep s)) h.running ins) (is_in, tt);
  }

  stopping : (id ep : ℕ) (k : StreamKind) (p : RedirPacket) → stream_endpoint p ≡ Some ep → IsIn ep →
      packet_move_by m h id p ≡ replies (record h { running = stopped ep h.running }) (on_wire (Stated k id ep 0)) → advanced h.guest p ≡ h.guest →
      ((e : ℕ) (r : Bool) → cond (ep == e) false r ≡ runs_after e p r) → HostSwitches m h ups (id, p)
  stopping id ep k p at is_in moved same runs = record {
    kind = k;
    ep = ep;
    running = stopped ep h.running;
    at = at;
    is_in = is_in;
    moved = moved;
    same = same;
    runs-are = λ e. stopped-runs ep e h.running ∙ runs e (list_any (runs_at e) h.running);
    kinds = Each-filter (λ (s : Running). OfKind (stream_of ups s.ep) s.kind) (λ s. not (runs_at ep s)) h.running kinds;
    ins = Each-filter (λ (s : Running). IsIn s.ep) (λ s. not (runs_at ep s)) h.running ins;
  }

  pub host-switches : (q : ℕ × RedirPacket) (x : ℕ) → stream_endpoint q.1 ≡ Some x → StreamIsIn (stream_endpoint q.1) → (changing : Bool) → CanStart (m.table h.gadget) changing (started_kind q.1) → StartOfKind ups (started_kind q.1) → HostSwitches m h ups q
  host-switches (id, Plain (plain.StartIso e n k)) x switched at changing can kind = starting id e Iso (Plain (plain.StartIso e n k)) refl at kind (ap (λ (b : Bool). start_move b h id Iso e) can.1) refl (λ y r. refl)
  host-switches (id, Plain (plain.StopIso e)) x switched at changing can kind = stopping id e Iso (Plain (plain.StopIso e)) refl at refl refl (λ y r. refl)
  host-switches (id, Plain (plain.StartInterrupt e)) x switched at changing can kind = starting id e Interrupt (Plain (plain.StartInterrupt e)) refl at kind (ap (λ (b : Bool). start_move b h id Interrupt e) can.1) refl (λ y r. refl)
  host-switches (id, Plain (plain.StopInterrupt e)) x switched at changing can kind = stopping id e Interrupt (Plain (plain.StopInterrupt e)) refl at refl refl (λ y r. refl)
  host-switches (id, Plain _) y switched at changing can kind = absurd (none-some y switched)
  host-switches (id, Carrying d) y switched at changing can kind = absurd (none-some y switched)
