-- The wire to the host: what its packets put in line, and the relations that are kept as it grows and is read.
use Rattle.std.proofs.Common.{◌≡◌, ℕ, Bool, true, false, cond, List, [], ◌∷◌, ◌++◌, refl, sym, ap, ◌∙◌, append_assoc}
use Rattle.usb_base.specs.declared.transfer.Transfer.{Transfer}
use Rattle.redir_wire.specs.declared.packet.RedirControl.TheVariants as plain
use Rattle.redir_data.specs.declared.packet.RedirPacket.{RedirPacket}
use Rattle.redir_data.specs.declared.packet.RedirPacket.TheVariants.{Plain, Carrying}
use Rattle.control_route.specs.declared.route.Route.TheVariants as route
use Rattle.redir_host.specs.declared.state.request.Asking.{Asking}
use Rattle.redir_host.specs.declared.state.request.Asking.TheVariants.{Nothing, Refuses, Asks}
use Rattle.redir_host.specs.declared.state.request.Form.{Form}
use Rattle.redir_host.specs.declared.state.request.Form.TheVariants as form
use Rattle.redir_host.specs.guest.Asking.{asking_of, routed}
use Rattle.redir_host.specs.guest.Line.{Waiting as InLine, Reset, Waits, asked_line}
use Rattle.direct_proof.specs.Requests.{Entry, at_host, form_of, queued_transfer, resets}
use Rattle.direct_proof.specs.Shared.{in_line, lines, half_line, at_hosts}
use Rattle.direct_proof.specs.Cancels.{begins, is_request}

-- what is gathered from each element of a list
pub gathers-append : {X Y : Type 0} (f : X → List Y) (all : List X → List Y) → all [] ≡ [] → ((x : X) (xs : List X) → all (x ∷ xs) ≡ f x ++ all xs) → (xs ys : List X) → all (xs ++ ys) ≡ all xs ++ all ys
gathers-append {Y = Y} f all none more [] ys = ap (λ (l : List Y). l ++ all ys) (sym none)
gathers-append {Y = Y} f all none more (x ∷ xs) ys =
    more x (xs ++ ys) ∙ ap (λ (l : List Y). f x ++ l) (gathers-append f all none more xs ys) ∙ sym (append_assoc (f x) (all xs) (all ys)) ∙ ap (λ (l : List Y). l ++ all ys) (sym (more x xs))

-- ---- what a packet puts in line

pub data Shape (p : ℕ × RedirPacket) : Type 0 where
  Silent : in_line p ≡ [] → begins p.1 ≡ false → Shape p
  Resets : p.1 ≡ Plain plain.Reset → in_line p ≡ Reset ∷ [] → begins p.1 ≡ false → Shape p
  Asking_for : (f : Form) (t : Transfer) → in_line p ≡ Waits 0 p.0 f t ∷ [] → begins p.1 ≡ true → Shape p

pub shape : (p : ℕ × RedirPacket) → Shape p
shape (id, Plain (plain.Hello x)) = Silent refl refl
shape (id, Plain (plain.Connect x)) = Silent refl refl
shape (id, Plain plain.Disconnect) = Silent refl refl
shape (id, Plain plain.Reset) = Resets refl refl refl
shape (id, Plain (plain.InterfaceInfo x)) = Silent refl refl
shape (id, Plain (plain.EpInfo x)) = Silent refl refl
shape (id, Plain (plain.SetConfiguration c)) = Asking_for (form.SetConfiguration c) (routed (route.SetConfig c)) refl refl
shape (id, Plain plain.GetConfiguration) = Asking_for form.GetConfiguration (routed route.GetConfig) refl refl
shape (id, Plain (plain.ConfigurationStatus s c)) = Silent refl refl
shape (id, Plain (plain.SetAlt i a)) = Asking_for (form.SetAlt i a) (routed (route.SetAlt i a)) refl refl
shape (id, Plain (plain.GetAlt i)) = Asking_for (form.GetAlt i) (routed (route.GetAlt i)) refl refl
shape (id, Plain (plain.AltStatus s i a)) = Silent refl refl
shape (id, Plain (plain.StartIso e n k)) = Silent refl refl
shape (id, Plain (plain.StopIso e)) = Silent refl refl
shape (id, Plain (plain.IsoStatus s e)) = Silent refl refl
shape (id, Plain (plain.StartInterrupt e)) = Silent refl refl
shape (id, Plain (plain.StopInterrupt e)) = Silent refl refl
shape (id, Plain (plain.InterruptStatus s e)) = Silent refl refl
shape (id, Plain plain.Cancel) = Silent refl refl
shape (id, Plain plain.DisconnectAck) = Silent refl refl
shape (id, Carrying d) = go (asking_of d) refl
  where
    go : (a : Asking) → asking_of d ≡ a → Shape (id, Carrying d)
    go Nothing e = Silent (ap (asked_line 0 id) e) (ap is_request e)
    go (Refuses f ep) e = Silent (ap (asked_line 0 id) e) (ap is_request e)
    go (Asks f t) e = Asking_for f t (ap (asked_line 0 id) e) (ap is_request e)

pub lines-append : (ps qs : List (ℕ × RedirPacket)) → lines (ps ++ qs) ≡ lines ps ++ lines qs
lines-append = gathers-append in_line lines refl (λ p ps. refl)

pub at_hosts-append : (cs ds : List Entry) → at_hosts (cs ++ ds) ≡ at_hosts cs ++ at_hosts ds
at_hosts-append = gathers-append at_host at_hosts refl (λ c cs. refl)

-- the first entry, where a request is the next in line
pub record Next (h : Bool) (id : ℕ) (f : Form) (t : Transfer) (ls : List InLine) (cs : List Entry) : Type 0 where
  pub entry : Entry
  pub rest : List Entry
  pub is : cs ≡ entry ∷ rest
  pub same_id : id ≡ entry.id
  pub same_form : f ≡ form_of entry.load
  pub same_transfer : t ≡ queued_transfer entry.load
  pub reset : resets entry.load.verdict ≡ h
  pub others : ls ≡ at_hosts rest

pub next-line : (h : Bool) (id : ℕ) (f : Form) (t : Transfer) (ls : List InLine) (cs : List Entry) → half_line h ++ Waits 0 id f t ∷ ls ≡ at_hosts cs → Next h id f t ls cs
next-line true id f t ls [] e = absurd (cc)
next-line false id f t ls [] e = absurd (cc)
next-line h id f t ls (c ∷ cs) e = go h (resets c.load.verdict) refl e
  where
    go : (a b : Bool) → resets c.load.verdict ≡ b → half_line a ++ Waits 0 id f t ∷ ls ≡ (cond b (Reset ∷ []) [] ++ Waits 0 c.id (form_of c.load) (queued_transfer c.load) ∷ []) ++ at_hosts cs → Next a id f t ls (c ∷ cs)
    go true true i z = record { entry = c; rest = cs; is = refl; same_id = cc; same_form = cc; same_transfer = cc; reset = i; others = cc }
    go true false i z = absurd (cc)
    go false true i z = absurd (cc)
    go false false i z = record { entry = c; rest = cs; is = refl; same_id = cc; same_form = cc; same_transfer = cc; reset = i; others = cc }

-- nothing is in line behind half a reset but the rest of it
pub none-half : (h : Bool) (cs : List Entry) → half_line h ++ [] ≡ at_hosts cs → cs ≡ []
none-half h [] e = refl
none-half h (c ∷ cs) e = go h (resets c.load.verdict) e
  where
    go : (a b : Bool) → half_line a ++ [] ≡ (cond b (Reset ∷ []) [] ++ Waits 0 c.id (form_of c.load) (queued_transfer c.load) ∷ []) ++ at_hosts cs → c ∷ cs ≡ []
    go true true z = absurd (cc)
    go true false z = absurd (cc)
    go false true z = absurd (cc)
    go false false z = absurd (cc)

pub no-second : (cs : List Entry) (ls : List InLine) → Reset ∷ Reset ∷ ls ≡ at_hosts cs → ⊥
no-second [] ls e = cc
no-second (c ∷ cs) ls e = go (resets c.load.verdict) e
  where
    go : (b : Bool) → Reset ∷ Reset ∷ ls ≡ (cond b (Reset ∷ []) [] ++ Waits 0 c.id (form_of c.load) (queued_transfer c.load) ∷ []) ++ at_hosts cs → ⊥
    go true z = cc
    go false z = cc
