-- A loss of the device ends all that is live, with one answer each.
use Rattle.std.proofs.Common.{◌≡◌, ℕ, ◌≤◌, Bool, true, false, cond, List, [], ◌∷◌, ◌++◌, length, map, Some, refl, sym, ap, subst, ◌∙◌, arith}
use Rattle.std.specs.Prelude.{is_none}
use Rattle.std.specs.List.{flat_map}
use Rattle.std.proofs.lemmas.Bool.{false≢true, not-true}
use Rattle.std.proofs.lemmas.List.{append-nil}
use Rattle.std.proofs.lemmas.List.Concat.{flat_map_single}
use Rattle.usb_base.specs.declared.side.Side.TheVariants.{Client, Host}
use Rattle.usbip_urb.specs.declared.client.ClientPacket.TheVariants.{Urb}
use Rattle.gate_history.specs.declared.item.Item.{Item}
use Rattle.gate_history.specs.step.Marks.{Submission, Effect, Idle, Replies, Imports, Opens, Waits, Unlinks, Agrees, Answers, Arrives, StreamTold, Disconnects, Ends, Refuses, Mark}
use Rattle.gate_history.specs.state.Sides.{is_client, leaves, is_loss}
use Rattle.gate_history.specs.client.Submits.{opened, live}
use Rattle.gate_history.specs.client.Ends.{ByClient, ByLoss, own_end, ends, lost_answer, answers_at}
use Rattle.gate_history.specs.state.State.{State, state_of}
use Rattle.gate_history.specs.step.Meaning.{meaning, mark_of}
use Rattle.gate_history.specs.step.Past.{is_left_out, put, past}
use Rattle.gate_history.specs.write.Output.{fresh, answered, replies, to_client}
use Rattle.gate_history.specs.host.Losses.{Loses, EndsAll}
use Rattle.gate_history.proofs.lemmas.Lists.{Each, every, Each-weaker, Each-append, Each-filter, filter-same, filter-none, flat_map-same, map-map}
use Rattle.gate_history.proofs.lemmas.step.Steps.{IsWell, live-is}
use Rattle.gate_history.proofs.lemmas.step.Runs.{placed-meaning, well}

-- it isn't the client's leaving, opens nothing and replies nothing
record Quiet (st : State) (e : Effect) : Type 0 where
  stays : leaves e ≡ false
  opens : opened e ≡ []
  silent : replies st e ≡ []

quiet : (st : State) (e : Effect) → is_loss e ≡ true → Quiet st e
quiet st (Disconnects id) h = record { stays = refl; opens = refl; silent = refl }
quiet st (Ends Client) h = absurd (false≢true h)
quiet st (Ends Host) h = record { stays = refl; opens = refl; silent = refl }
quiet st (Refuses r) h = record { stays = not-true (is_client r.side) h; opens = refl; silent = refl }
quiet st Idle h = absurd (false≢true h)
quiet st (Replies reply) h = absurd (false≢true h)
quiet st (Imports reply) h = absurd (false≢true h)
quiet st (Opens s) h = absurd (false≢true h)
quiet st (Waits s fill) h = absurd (false≢true h)
quiet st (Unlinks by target) h = absurd (false≢true h)
quiet st (Agrees caps) h = absurd (false≢true h)
quiet st (Answers id outcome) h = absurd (false≢true h)
quiet st (Arrives ep fill) h = absurd (false≢true h)
quiet st (StreamTold id ep status) h = absurd (false≢true h)

-- so it ends each submit as lost
pub ends-lost : (st : State) (e : Effect) (s : Submission) → is_loss e ≡ true → ends e s ≡ Some ByLoss
ends-lost st e s h =
    ap (λ (b : Bool). cond b (Some ByClient) (cond (is_loss e) (Some ByLoss) (own_end e s))) (quiet st e h).stays
    ∙ ap (λ (b : Bool). cond b (Some ByLoss) (own_end e s)) h

none-live : (first : ℕ) (ms : List Mark) (m : Mark) → IsWell (m ∷ ms) → is_loss m.what ≡ true → live (m ∷ ms) ≡ []
none-live first ms m w h =
    live-is ms m w
    ∙ filter-same (λ s. is_none (ends m.what s)) (λ s. false) (live ms ++ opened m.what)
    (every (λ s. is_none (ends m.what s) ≡ false) (λ s. ap is_none (ends-lost (state_of first ms) m.what s h)) (live ms ++ opened m.what))
    ∙ filter-none (live ms ++ opened m.what)

pub all-lost : (st : State) (m : Mark) → is_loss m.what ≡ true → to_client st m ≡ map (λ p. Urb (lost_answer p.submit.request p.unlinker)) st.live
all-lost st m h =
    let q = quiet st m.what h in
    (λ i. q.silent i ++ answered st m.what)
    ∙ ap (map Urb)
    (ap (λ (os : List Submission). flat_map (λ p. answers_at p.submit p.unlinker (ends m.what p.submit)) (st.live ++ map fresh os)) q.opens
    ∙ ap (flat_map (λ p. answers_at p.submit p.unlinker (ends m.what p.submit))) (append-nil st.live)
    ∙ flat_map-same (λ p. answers_at p.submit p.unlinker (ends m.what p.submit)) (λ p. lost_answer p.submit.request p.unlinker ∷ []) st.live
    (every (λ p. answers_at p.submit p.unlinker (ends m.what p.submit) ≡ lost_answer p.submit.request p.unlinker ∷ []) (λ p. ap (answers_at p.submit p.unlinker) (ends-lost st m.what p.submit h)) st.live)
    ∙ flat_map_single (λ p. lost_answer p.submit.request p.unlinker) st.live)
    ∙ map-map Urb (λ p. lost_answer p.submit.request p.unlinker) st.live

-- ---- and later none comes back

abbrev From : ℕ → Submission → Type 0
From n s = n ≤ s.place

-- what is live stands behind a place, and so do the marks
record Behind (n : ℕ) (ms : List Mark) : Type 0 where
  long : n ≤ length ms
  live_ones : Each (From n) (live ms)

behind-put : (n first : ℕ) (ms : List Mark) (x : Item) → IsWell ms → Behind n ms → Behind n (put first ms x)
behind-put n first ms x w h =
    elim (is_left_out (state_of first ms) x) as (λ b. Behind n (cond b ms (mark_of (state_of first ms) x ∷ ms))) [
      | true ↦ h
      | false ↦ record {
        long = omega (arith, h.long);
        live_ones = subst (Each (From n)) (sym (live-is ms (mark_of (state_of first ms) x) (placed-meaning (state_of first ms) x, w)))
            (Each-filter (From n) (λ s. is_none (ends (meaning (state_of first ms) x) s)) (live ms ++ opened (meaning (state_of first ms) x))
            (Each-append (From n) (live ms) (opened (meaning (state_of first ms) x)) h.live_ones
            (Each-weaker (λ s. s.place ≡ length ms) (From n) (λ s p. omega (arith, p, h.long)) (opened (meaning (state_of first ms) x)) (placed-meaning (state_of first ms) x))));
      }
    ]

behind : (n first : ℕ) (more xs : List Item) → Behind n (past first xs) → Behind n (past first (more ++ xs))
behind n first [] xs h = h
behind n first (y ∷ more) xs h = behind-put n first (past first (more ++ xs)) y (well first (more ++ xs)) (behind n first more xs h)

-- ---- of one item that loses the device

come : (first : ℕ) (ms : List Mark) (x : Item) → is_left_out (state_of first ms) x ≡ false → put first ms x ≡ mark_of (state_of first ms) x ∷ ms
come first ms x h = ap (λ (b : Bool). cond b ms (mark_of (state_of first ms) x ∷ ms)) h

pub ends-all : (first : ℕ) (xs : List Item) (x : Item) → Loses (state_of first (past first xs)) x → EndsAll first xs x
ends-all first xs x l =
    record {
      none = gone;
      answers = all-lost (state_of first (past first xs)) m l.loses;
      later = λ more. (behind (length (past first (x ∷ xs))) first more (x ∷ xs) (record { long = omega arith; live_ones = subst (Each (From (length (past first (x ∷ xs))))) (sym gone) tt })).live_ones;
    }
  where
    m : Mark
    m = mark_of (state_of first (past first xs)) x

    gone : live (past first (x ∷ xs)) ≡ []
    gone = ap live (come first (past first xs) x l.comes) ∙ none-live first (past first xs) m (placed-meaning (state_of first (past first xs)) x, well first xs) l.loses
