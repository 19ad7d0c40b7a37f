-- Idle answers, counted over the parts of a round and over rounds.
use Rattle.std.proofs.Common.{◌≡◌, ◌⊎◌, ℕ, ◌+◌, ◌-◌, ◌<◌, ◌≤◌, not, Bool, true, false, Result, Ok, Err, refl, sym, ap, ◌∙◌, subst, inl, inr, arith}
use Rattle.std.proofs.lemmas.Bool.{false≢true}
use Rattle.gate_outside.specs.Faults.{one_more}
use Rattle.bridge_run.specs.declared.course.serve_end.ServeEnd.{ServeEnd}
use Rattle.bridge_run.specs.declared.course.serve_end.ServeEnd.TheVariants.{Ended, LinkFault, WriteFault, Idle, Spent, Memory}
use Rattle.bridge_run.specs.declared.course.rounds.Rounds.{Rounds}
use Rattle.bridge_run.specs.course.Outside.{Outside, RoseBy, HasReason}
use Rattle.bridge_run.specs.inner.Keeping.{chances_of, Wears, Agrees, IsLive, RestsBusy, Rests}
use Rattle.bridge_run.specs.inner.Follows.{IsCutEnd}
use Rattle.bridge_run.specs.inner.Idling.{NotIdle, IdledOnce, EndsWithin, QuietRound, AnyRound, RoundIdles}

one_more-up : (n : ℕ) → n ≤ one_more n
one_more-up n = omega arith

asked-up : (b : Bool) (k k' : Rounds) (old new : ℕ) → IdledOnce b k k' old new → old ≤ new
asked-up true k k' old new (inl x) = x.1
asked-up true k k' old new (inr x) = subst (λ (n : ℕ). old ≤ n) (sym x.1) (one_more-up old)
asked-up false k k' old new x = omega (arith, x.1)

-- a part that brought nothing
quiet-asked : (k k' : Rounds) (old new : ℕ) → k'.busy ≡ false → IdledOnce true k k' old new → (k' ≡ k) × (new ≡ one_more old)
quiet-asked k k' old new quiet (inl x) = absurd (false≢true (sym quiet ∙ x.0))
quiet-asked k k' old new quiet (inr x) = x

quiet-before : (k k' : Rounds) → Wears k k' → k'.busy ≡ false → k.busy ≡ false
quiet-before k k' w quiet = go w.fewer
  where
    go : (k'.busy ≡ true) × (chances_of k' < chances_of k) ⊎ (k'.busy ≡ k.busy) × (chances_of k' ≤ chances_of k) → k.busy ≡ false
    go (inl x) = absurd (false≢true (sym quiet ∙ x.0))
    go (inr x) = sym x.0 ∙ quiet

-- the client's side: by its door or by its link
client-quiet : (b : Bool) (k0 k1 k2 : Rounds) (i0 i1 i2 : ℕ) → k0.client_up ≡ b → k1.busy ≡ false → k2.busy ≡ false → IdledOnce (not b) k0 k1 i0 i1 → IdledOnce k1.client_up k1 k2 i1 i2 → (k1 ≡ k0) × (k2 ≡ k1) × (i2 ≡ one_more i0)
client-quiet true k0 k1 k2 i0 i1 i2 is q1 q2 a b =
    let up = ap (λ (k : Rounds). k.client_up) a.0 ∙ is in
    let x = quiet-asked k1 k2 i1 i2 q2 (subst (λ (u : Bool). IdledOnce u k1 k2 i1 i2) up b) in
    (a.0, x.0, x.1 ∙ ap one_more a.1)
client-quiet false k0 k1 k2 i0 i1 i2 is q1 q2 a b =
    let x = quiet-asked k0 k1 i0 i1 q1 a in
    let down = ap (λ (k : Rounds). k.client_up) x.0 ∙ is in
    let y : (k2 ≡ k1) × (i2 ≡ i1) = subst (λ (u : Bool). IdledOnce u k1 k2 i1 i2) down b in
    (x.0, y.0, y.1 ∙ x.1)

host-quiet : (k2 k3 : Rounds) (i2 i3 : ℕ) → k3.busy ≡ false → IdledOnce k2.host_up k2 k3 i2 i3 → k3.host_up ≡ true → (k3 ≡ k2) × (i3 ≡ one_more i2)
host-quiet k2 k3 i2 i3 quiet a up = go k2.host_up refl a
  where
    go : (b : Bool) → k2.host_up ≡ b → IdledOnce b k2 k3 i2 i3 → (k3 ≡ k2) × (i3 ≡ one_more i2)
    go true is a = quiet-asked k2 k3 i2 i3 quiet a
    go false is a = absurd (false≢true (sym is ∙ sym (ap (λ (k : Rounds). k.host_up) a.0) ∙ up))

-- what the three parts of a round have counted
pub record Parts (k0 k1 k2 k3 : Rounds) (w0 w1 w2 w3 : Outside) : Type 0 where
  pub door : IdledOnce (not k0.client_up) k0 k1 w0.client.idle w1.client.idle
  pub door_host : w1.host.idle ≡ w0.host.idle
  pub client : IdledOnce k1.client_up k1 k2 w1.client.idle w2.client.idle
  pub client_host : w2.host.idle ≡ w1.host.idle
  pub host : IdledOnce k2.host_up k2 k3 w2.host.idle w3.host.idle
  pub host_client : w3.client.idle ≡ w2.client.idle
  pub wears1 : Wears k0 k1
  pub wears2 : Wears k1 k2
  pub wears3 : Wears k2 k3
  pub before : Agrees k0 w0
  pub behind : Agrees k3 w3

parts-any : (k0 k1 k2 k3 : Rounds) (w0 w1 w2 w3 : Outside) → Parts k0 k1 k2 k3 w0 w1 w2 w3 → AnyRound w0 w3
parts-any k0 k1 k2 k3 w0 w1 w2 w3 p = record {
  client = omega (arith, asked-up (not k0.client_up) k0 k1 w0.client.idle w1.client.idle p.door, asked-up k1.client_up k1 k2 w1.client.idle w2.client.idle p.client, p.host_client);
  host = omega (arith, p.door_host, p.client_host, asked-up k2.host_up k2 k3 w2.host.idle w3.host.idle p.host);
}

parts-quiet : (k0 k1 k2 k3 : Rounds) (w0 w1 w2 w3 : Outside) → Parts k0 k1 k2 k3 w0 w1 w2 w3 → k3.busy ≡ false → QuietRound w0 w3
parts-quiet k0 k1 k2 k3 w0 w1 w2 w3 p quiet =
    let q2 = quiet-before k2 k3 p.wears3 quiet in
    let q1 = quiet-before k1 k2 p.wears2 q2 in
    let c = client-quiet k0.client_up k0 k1 k2 w0.client.idle w1.client.idle w2.client.idle refl q1 q2 p.door p.client in
    record {
      client = p.host_client ∙ c.2;
      host = λ up.
          let there : k3.host_up ≡ true = p.behind.host ∙ up in
          let h = host-quiet k2 k3 w2.host.idle w3.host.idle quiet p.host there in
          let same = h.0 ∙ c.1 ∙ c.0 in
          (sym p.before.host ∙ sym (ap (λ (k : Rounds). k.host_up) same) ∙ there, h.1 ∙ ap one_more (p.client_host ∙ p.door_host));
    }

round-ok : (b : Bool) (k0 k1 k2 k3 k4 : Rounds) (w0 w1 w2 w3 : Outside) → Parts k0 k1 k2 k3 w0 w1 w2 w3 → k3.busy ≡ b → RestsBusy b k3 k4 → RoundIdles (Ok tt) k0 k4 w0 w3
round-ok true k0 k1 k2 k3 k4 w0 w1 w2 w3 p is r =
    (parts-any k0 k1 k2 k3 w0 w1 w2 w3 p, inl (ap (λ (k : Rounds). k.waits) r ∙ p.wears3.idle ∙ p.wears2.idle ∙ p.wears1.idle))
round-ok false k0 k1 k2 k3 k4 w0 w1 w2 w3 p is r =
    (parts-any k0 k1 k2 k3 w0 w1 w2 w3 p, inr (ap (λ (k : Rounds). k.waits) r.0 ∙ ap (λ (n : ℕ). n - 1) (p.wears3.waits ∙ p.wears2.waits ∙ p.wears1.waits), parts-quiet k0 k1 k2 k3 w0 w1 w2 w3 p is))

pub round-idles : (result : Result (Unit {0}) ServeEnd) (k0 k1 k2 k3 k4 : Rounds) (w0 w1 w2 w3 : Outside) → IsLive k0 → Parts k0 k1 k2 k3 w0 w1 w2 w3 → Rests result k3 k4 → RoundIdles result k0 k4 w0 w3
round-idles (Ok x) k0 k1 k2 k3 k4 w0 w1 w2 w3 live p r = round-ok k3.busy k0 k1 k2 k3 k4 w0 w1 w2 w3 p refl r
round-idles (Err Idle) k0 k1 k2 k3 k4 w0 w1 w2 w3 live p r =
    (omega (arith, live.waits, p.wears1.waits, p.wears2.waits, p.wears3.waits, ap (λ (k : Rounds). k.waits) r.1, r.2), parts-quiet k0 k1 k2 k3 w0 w1 w2 w3 p r.0)
round-idles (Err (Ended refused)) k0 k1 k2 k3 k4 w0 w1 w2 w3 live p r = absurd r
round-idles (Err Spent) k0 k1 k2 k3 k4 w0 w1 w2 w3 live p r = tt
round-idles (Err (LinkFault side)) k0 k1 k2 k3 k4 w0 w1 w2 w3 live p r = tt
round-idles (Err WriteFault) k0 k1 k2 k3 k4 w0 w1 w2 w3 live p r = tt
round-idles (Err Memory) k0 k1 k2 k3 k4 w0 w1 w2 w3 live p r = tt

-- an end before the round's last step isn't `Idle`
pub cut-within : (e : ServeEnd) (w : Outside) → IsCutEnd e → EndsWithin {T = Unit {0}} (Err e) w
cut-within (Ended refused) w is = absurd is
cut-within Idle w is = absurd is
cut-within Spent w is = tt
cut-within (LinkFault side) w is = tt
cut-within WriteFault w is = tt
cut-within Memory w is = tt

pub ends-idles : (e : ServeEnd) (k k' : Rounds) (old new : Outside) → EndsWithin {T = Unit {0}} (Err e) new → RoundIdles (Err e) k k' old new
ends-idles (Ended refused) k k' old new d = d
ends-idles Idle k k' old new d = absurd d
ends-idles Spent k k' old new d = tt
ends-idles (LinkFault side) k k' old new d = tt
ends-idles WriteFault k k' old new d = tt
ends-idles Memory k k' old new d = tt

-- ---- over rounds

rose-none : (old new : ℕ) → old ≤ new → RoseBy 0 old new
rose-none old new h = omega arith

rose-more : (n old mid new : ℕ) → RoseBy n old mid → new ≡ one_more mid → RoseBy (n + 1) old new
rose-more n old mid new h e = omega arith

-- how idle it has been since the last round that brought something
pub record HasWaited (idle : ℕ) (k : Rounds) (old new : Outside) : Type 0 where
  pub any : AnyRound old new
  pub was : HasReason Idle (idle - k.waits) old new

pub waited-none : (idle : ℕ) (k : Rounds) (w : Outside) → k.waits ≡ idle → HasWaited idle k w w
waited-none idle k w is = record {
  any = record { client = omega arith; host = omega arith };
  was = (omega (arith, is), λ up. omega (arith, is));
}

waited-was : (idle : ℕ) (k k' : Rounds) (old mid new : Outside) → k.idle ≡ idle → IsLive k → HasWaited idle k old mid → AnyRound old new → (k'.waits ≡ k.idle) ⊎ (k'.waits ≡ k.waits - 1) × QuietRound mid new → HasReason Idle (idle - k'.waits) old new
waited-was idle k k' old mid new same live h any (inl x) =
    let none : idle - k'.waits ≡ 0 = omega (arith, x, same) in (
      subst (λ (n : ℕ). RoseBy n old.client.idle new.client.idle) (sym none) (rose-none old.client.idle new.client.idle any.client),
      λ up. subst (λ (n : ℕ). RoseBy n old.host.idle new.host.idle) (sym none) (rose-none old.host.idle new.host.idle any.host),
    )
waited-was idle k k' old mid new same live h any (inr x) =
    let more : idle - k'.waits ≡ idle - k.waits + 1 = omega (arith, x.0, same, live.waits, live.within) in (
      subst (λ (n : ℕ). RoseBy n old.client.idle new.client.idle) (sym more) (rose-more (idle - k.waits) old.client.idle mid.client.idle new.client.idle h.was.0 x.1.client),
      λ up. let q = x.1.host up in subst (λ (n : ℕ). RoseBy n old.host.idle new.host.idle) (sym more) (rose-more (idle - k.waits) old.host.idle mid.host.idle new.host.idle (h.was.1 q.0) q.1),
    )

pub waited-more : (idle : ℕ) (k k' : Rounds) (old mid new : Outside) → k.idle ≡ idle → IsLive k → HasWaited idle k old mid → RoundIdles (Ok tt) k k' mid new → HasWaited idle k' old new
waited-more idle k k' old mid new same live h r =
    let any : AnyRound old new = record { client = omega (arith, h.any.client, r.0.client); host = omega (arith, h.any.host, r.0.host) } in
    record { any = any; was = waited-was idle k k' old mid new same live h any r.1 }

pub waited-last : (idle : ℕ) (k k' : Rounds) (old mid new : Outside) → k.idle ≡ idle → IsLive k → HasWaited idle k old mid → QuietRound mid new → k.waits ≡ 1 → HasReason Idle idle old new
waited-last idle k k' old mid new same live h q one =
    let more : idle - k.waits + 1 ≡ idle = omega (arith, same, one, live.within) in (
      subst (λ (n : ℕ). RoseBy n old.client.idle new.client.idle) more (rose-more (idle - k.waits) old.client.idle mid.client.idle new.client.idle h.was.0 q.client),
      λ up. let r = q.host up in subst (λ (n : ℕ). RoseBy n old.host.idle new.host.idle) more (rose-more (idle - k.waits) old.host.idle mid.host.idle new.host.idle (h.was.1 r.0) r.1),
    )

pub reason : (e : ServeEnd) (idle : ℕ) (k k' : Rounds) (old mid new : Outside) → k.idle ≡ idle → IsLive k → HasWaited idle k old mid → RoundIdles (Err e) k k' mid new → HasReason e idle old new
reason (Ended refused) idle k k' old mid new same live h r = r
reason Idle idle k k' old mid new same live h r = waited-last idle k k' old mid new same live h r.1 r.0
reason Spent idle k k' old mid new same live h r = tt
reason (LinkFault side) idle k k' old mid new same live h r = tt
reason WriteFault idle k k' old mid new same live h r = tt
reason Memory idle k k' old mid new same live h r = tt

pub cut-reason : (e : ServeEnd) (idle : ℕ) (old new : Outside) → IsCutEnd e → HasReason e idle old new
cut-reason (Ended refused) idle old new is = absurd is
cut-reason Idle idle old new is = absurd is
cut-reason Spent idle old new is = tt
cut-reason (LinkFault side) idle old new is = tt
cut-reason WriteFault idle old new is = tt
cut-reason Memory idle old new is = tt

-- nothing was idle before
pub reason-from : (e : ServeEnd) (idle : ℕ) (old mid new : Outside) → NotIdle old mid → HasReason e idle mid new → HasReason e idle old new
reason-from (Ended refused) idle old mid new n r = r
reason-from Idle idle old mid new n r = (
  subst (λ (i : ℕ). RoseBy idle i new.client.idle) n.client r.0,
  λ up. subst (λ (i : ℕ). RoseBy idle i new.host.idle) n.host (r.1 up),
)
reason-from Spent idle old mid new n r = tt
reason-from (LinkFault side) idle old mid new n r = tt
reason-from WriteFault idle old mid new n r = tt
reason-from Memory idle old mid new n r = tt
