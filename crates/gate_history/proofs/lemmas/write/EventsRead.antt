-- Of items that events of bytes bring: the host can read all that the gate sends it.
use Rattle.std.proofs.Common.{◌≡◌, ℕ, ◌==◌, Bool, true, false, cond, not, List, [], ◌∷◌, ◌++◌, Option, None, unwrap_or, refl, sym, ap, subst, ◌∙◌}
use Rattle.std.proofs.lemmas.Bool.{true≢false}
use Rattle.std.proofs.lemmas.List.{append-nil}
use Rattle.redir_wire.specs.declared.packet.Caps.{Caps}
use Rattle.redir_wire.specs.declared.state.RedirState.{RedirState}
use Rattle.redir_wire.specs.declared.packet.Header.{Header}
use Rattle.redir_wire.specs.declared.packet.RedirControl.{RedirControl}
use Rattle.redir_wire.specs.declared.packet.RedirControl.TheVariants as plain
use Rattle.redir_wire.specs.Capability.{agreed, announced, caps_of}
use Rattle.redir_wire.specs.State.{start as first_state}
use Rattle.redir_wire.specs.Spelling.{number_of}
use Rattle.redir_wire.proofs.Says.{header_says}
use Rattle.redir_wire.specs.declared.packet.Way.TheVariants.{ToGuest}
use Rattle.redir_data.specs.declared.packet.RedirData.{RedirData}
use Rattle.redir_data.specs.declared.packet.RedirData.TheVariants as moving
use Rattle.redir_data.specs.declared.packet.RedirPacket.{RedirPacket}
use Rattle.redir_data.specs.declared.packet.RedirPacket.TheVariants.{Plain, Carrying}
use Rattle.redir_data.specs.Spelling as carrying
use Rattle.redir_data.specs.Streams.{after as read_after, advanced, stream_format}
use Rattle.gate_history.specs.declared.item.Item.{Item}
use Rattle.gate_history.specs.declared.item.Item.TheVariants.{Asked, ClientWrong, ClientLeft, Told, HostWrong, HostLeft}
use Rattle.gate_history.specs.step.Machine.{with_mark, step, run, given, all_given, live_after}
use Rattle.gate_history.specs.step.Marks.{Effect, Agrees, Fact}
use Rattle.gate_history.specs.step.Meaning.{told_meaning, meaning, mark_as, told_by}
use Rattle.gate_history.specs.write.Output.{to_host}
use Rattle.gate_history.specs.step.Past.{past}
use Rattle.gate_history.specs.step.Came.{told}
use Rattle.gate_history.specs.state.State.{State, state_of}
use Rattle.gate_history.specs.state.Flight.{wide_ids}
use Rattle.gate_history.proofs.lemmas.step.Fits.{IsInStep, told_fits}
use Rattle.gate_history.proofs.lemmas.step.Capabilities.{states, states-more, in-step}
use Rattle.gate_history.proofs.lemmas.Lists.{Each, Each-append}
use Rattle.gate_history.proofs.lemmas.host.NoHello.{IsQuiet, IsUntold, stays-quiet, sends-none, none-live, none-sent}
use Rattle.gate_history.proofs.lemmas.step.Runs.{state-run}
use Rattle.gate_history.proofs.lemmas.write.ItemsRead.{AskedFits, IdsFit, IsReadable, Reads, is_greeting, live-fit, readable, sent-read, tells}

-- ---- items that can come

-- how the host's next packet is read
abbrev pub heard : List Item → RedirState
heard xs = states read_after first_state (told xs)

abbrev pub ComesNow : RedirState → Item → Type 0
ComesNow s (Asked place p) = AskedFits p
ComesNow s (Told place h p) = (stream_format ToGuest s).Fits (h, p)
ComesNow s _ = Unit {0}

abbrev pub CanCome : List Item → Type 0
CanCome [] = Unit {0}
CanCome (x ∷ xs) = ComesNow (heard xs) x × CanCome xs

-- the first packet is the hello, and no other is
plain-number : (q : RedirControl) → (number_of q == 0) ≡ is_greeting (Plain q)
plain-number (plain.Hello x) = refl
plain-number q = refl

data-number : (d : RedirData) → (carrying.number_of d == 0) ≡ false
data-number (moving.Control endpoint request kind status value index told body) = refl
data-number d = refl

in-turn : (first zero : Bool) → (cond first zero (not zero)) ≡ true → first ≡ zero
in-turn true true e = refl
in-turn true false e = absurd (true≢false (sym e))
in-turn false true e = absurd (true≢false (sym e))
in-turn false false e = refl

greets-first : (s : RedirState) (h : Header) (p : RedirPacket) → (stream_format ToGuest s).Fits (h, p) → s.first ≡ is_greeting p
greets-first s h (Plain q) fits = in-turn s.first (h.kind == 0) (header_says fits.header).in_turn ∙ ap (λ (n : ℕ). n == 0) fits.kind ∙ plain-number q
greets-first s h (Carrying d) fits = in-turn s.first (h.kind == 0) (header_says fits.header).in_turn ∙ ap (λ (n : ℕ). n == 0) fits.kind ∙ data-number d

advanced-first : (s : RedirState) (p : RedirPacket) → (advanced s p).first ≡ true → s.first ≡ true
advanced-first s (Plain (plain.Hello x)) e = absurd (true≢false (sym e))
advanced-first s (Plain q) e = e
advanced-first s (Carrying d) e = e

-- ---- what holds behind items

pub record Goes (s : RedirState) (st : State) (sent : List (ℕ × RedirPacket)) : Type 0 where
  -- before the hello nothing is sent
  pub quiet : s.first ≡ true → IsQuiet st × (sent ≡ [])
  pub ids : IdsFit (wide_ids st.sides.agreed) st.live
  pub read : Each (Reads st.sides.agreed) sent

abbrev Stays : State → Effect → Option Fact → Type 0
Stays st e fact = IsQuiet (with_mark st (mark_as st e fact)) × (to_host st (mark_as st e fact) ≡ [])

-- an item that is no hello
goes-on : (s z : RedirState) (st : State) (sent : List (ℕ × RedirPacket)) (e : Effect) (fact : Option Fact) (left : Bool) → Goes s st sent → (z.first ≡ true → s.first ≡ true) → (left ≡ false → IsReadable st e) → (z.first ≡ true → IsQuiet st → Stays st e fact) →
    Goes z (cond left st (with_mark st (mark_as st e fact))) (sent ++ cond left [] (to_host st (mark_as st e fact)))
goes-on s z st sent e fact true g before can stays = record {
  quiet = λ first. let q = g.quiet (before first) in (q.0, append-nil sent ∙ q.1);
  ids = g.ids;
  read = subst (Each (Reads st.sides.agreed)) (sym (append-nil sent)) g.read;
}
goes-on s z st sent e fact false g before can stays =
    let is = can refl in
    let m = mark_as st e fact in
    let same : (with_mark st m).sides.agreed ≡ st.sides.agreed = ap (λ (o : Option Caps). unwrap_or o st.sides.agreed) is.agrees-none in
    record {
      quiet = λ first. let q = g.quiet (before first) in let k = stays first q.0 in (k.0, λ i. q.1 i ++ k.1 i);
      ids = subst (λ (caps : Caps). IdsFit (wide_ids caps) (live_after st e)) (sym same) (live-fit st e g.ids is);
      read = subst (λ (caps : Caps). Each (Reads caps) (sent ++ to_host st m)) (sym same) (Each-append (Reads st.sides.agreed) sent (to_host st m) g.read (sent-read st e fact g.ids is));
    }

-- the hello
goes-greeted : (z : RedirState) (st : State) (sent : List (ℕ × RedirPacket)) (caps : Caps) (left : Bool) → z.first ≡ false → IsQuiet st → sent ≡ [] →
    Goes z (cond left st (with_mark st (mark_as st (Agrees caps) None))) (sent ++ cond left [] (to_host st (mark_as st (Agrees caps) None)))
goes-greeted z st sent caps true greeted q none = record {
  quiet = λ first. absurd (true≢false (sym first ∙ greeted));
  ids = subst (IdsFit (wide_ids st.sides.agreed)) (sym q.live) tt;
  read = subst (Each (Reads st.sides.agreed)) (sym (append-nil sent ∙ none)) tt;
}
goes-greeted z st sent caps false greeted q none = record {
  quiet = λ first. absurd (true≢false (sym first ∙ greeted));
  ids = subst (IdsFit (wide_ids caps)) (sym (none-live st (Agrees caps) q.live refl)) tt;
  read = subst (Each (Reads caps)) (λ i. sym none i ++ sym (none-sent st (Agrees caps) q.live refl refl) i) tt;
}

later-told : (s : RedirState) (st : State) (sent : List (ℕ × RedirPacket)) (place : ℕ) (h : Header) (p : RedirPacket) → is_greeting p ≡ false → Goes s st sent → (stream_format ToGuest s).Fits (h, p) → (st.sides.host_over ≡ false → IsInStep s st.sides.agreed) →
    Goes (advanced s p) (step st (Told place h p)) (sent ++ given to_host st (Told place h p))
later-told s st sent place h p other g fits steps =
    let greeted = greets-first s h p fits ∙ other in
    goes-on s (advanced s p) st sent (told_meaning st place h p) (told_by (Told place h p)) st.sides.host_over g (advanced-first s p)
    (λ going. tells st place h p other (told_fits s st.sides.agreed h p (steps going) fits).id_fits)
    (λ first q. absurd (true≢false (sym (advanced-first s p first) ∙ greeted)))

goes-told : (s : RedirState) (st : State) (sent : List (ℕ × RedirPacket)) (place : ℕ) (h : Header) (p : RedirPacket) → Goes s st sent → (stream_format ToGuest s).Fits (h, p) → (st.sides.host_over ≡ false → IsInStep s st.sides.agreed) →
    Goes (advanced s p) (step st (Told place h p)) (sent ++ given to_host st (Told place h p))
goes-told s st sent place h (Plain (plain.Hello x)) g fits steps =
    let q = g.quiet (greets-first s h (Plain (plain.Hello x)) fits) in
    goes-greeted (advanced s (Plain (plain.Hello x))) st sent (agreed (caps_of x) announced) st.sides.host_over refl q.0 q.1
goes-told s st sent place h (Plain q) g fits steps = later-told s st sent place h (Plain q) refl g fits steps
goes-told s st sent place h (Carrying d) g fits steps = later-told s st sent place h (Carrying d) refl g fits steps

goes-untold : (s : RedirState) (st : State) (sent : List (ℕ × RedirPacket)) (x : Item) (left : Bool) → IsUntold x → (left ≡ false → IsReadable st (meaning st x)) → Goes s st sent →
    Goes s (cond left st (with_mark st (mark_as st (meaning st x) None))) (sent ++ cond left [] (to_host st (mark_as st (meaning st x) None)))
goes-untold s st sent x left un can g = goes-on s s st sent (meaning st x) None left g (λ first. first) can (λ first q. (stays-quiet st x q un, sends-none st x q un))

-- ---- all items

pub goes : (first : ℕ) (xs : List Item) → CanCome xs → Goes (heard xs) (run first xs) (all_given to_host first xs)
goes first [] can = record { quiet = λ _. (record { live = refl; connect = refl; imported = refl; streams = refl }, refl); ids = tt; read = tt }
goes first (Asked place p ∷ xs) can =
    let st = run first xs in
    goes-untold (heard xs) st (all_given to_host first xs) (Asked place p) st.sides.client_over tt (λ _. readable st (Asked place p) can.0) (goes first xs can.1)
goes first (ClientWrong place why ∷ xs) can =
    let st = run first xs in
    goes-untold (heard xs) st (all_given to_host first xs) (ClientWrong place why) st.sides.client_over tt (λ _. readable st (ClientWrong place why) tt) (goes first xs can.1)
goes first (ClientLeft ∷ xs) can =
    let st = run first xs in
    goes-untold (heard xs) st (all_given to_host first xs) ClientLeft false tt (λ _. readable st ClientLeft tt) (goes first xs can.1)
goes first (Told place h p ∷ xs) can =
    let st = run first xs in
    let behind-it : heard (Told place h p ∷ xs) ≡ advanced (heard xs) p = states-more read_after first_state (told xs) (place, (h, p)) in
    let same : state_of first (past first xs) ≡ st = state-run first xs in
    let steps : st.sides.host_over ≡ false → IsInStep (heard xs) st.sides.agreed =
    λ going. subst (λ (x : State). IsInStep (heard xs) x.sides.agreed) same (in-step first xs (ap (λ (x : State). x.sides.host_over) same ∙ going)) in
    subst (λ (s : RedirState). Goes s (step st (Told place h p)) (all_given to_host first xs ++ given to_host st (Told place h p))) (sym behind-it)
    (goes-told (heard xs) st (all_given to_host first xs) place h p (goes first xs can.1) can.0 steps)
goes first (HostWrong place why ∷ xs) can =
    let st = run first xs in
    goes-untold (heard xs) st (all_given to_host first xs) (HostWrong place why) st.sides.host_over tt (λ _. readable st (HostWrong place why) tt) (goes first xs can.1)
goes first (HostLeft ∷ xs) can =
    let st = run first xs in
    goes-untold (heard xs) st (all_given to_host first xs) HostLeft st.sides.host_over tt (λ _. readable st HostLeft tt) (goes first xs can.1)
