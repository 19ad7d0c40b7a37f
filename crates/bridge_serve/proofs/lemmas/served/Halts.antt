-- Where memory runs out as a lent device's host is used, and what had been sent by then.
use Rattle.std.proofs.Common.{◌≡◌, ℕ, ◌||◌, not, Bool, true, false, cond, List, [], ◌∷◌, ◌++◌, Result, Ok, Err, refl, sym, ap, ◌∙◌, inl, inr, append-nil, append_assoc, fold}
use Rattle.std.specs.List.{flat_map, list_any}
use Rattle.std.specs.Result.{OnErr}
use Rattle.usb_base.specs.Writes.{Begins}
use Rattle.usb_base.specs.declared.side.Side.TheVariants.{Client}
use Rattle.usb_base.specs.declared.refusal.Refusal.{Refusal}
use Rattle.model_device.specs.Meaning.{Meaning}
use Rattle.redir_host.specs.state.Kept.{HostKept as Core}
use Rattle.redir_host.specs.declared.write.note.HostNote.{HostNote}
use Rattle.redir_host.specs.step.Acts.{Act, Piece}
use Rattle.redir_host.specs.step.Machine.{bytes_of, given_by, is_refusal, step, move}
use Rattle.redir_host.specs.write.Output.{host_of, host_out, act_bytes}
use Rattle.redir_host.specs.step.Stands.{StopsInAct, TakesAct}
use Rattle.packet_stream.proofs.Outputs.{outputs-append}
use Rattle.redir_host.proofs.lemmas.step.Acts.{act-out}
use Rattle.bridge_serve.specs.declared.served.lent.Lent.{Lent}
use Rattle.bridge_serve.specs.declared.served.lent.Use.{Use}
use Rattle.bridge_serve.specs.declared.served.lent.Use.TheVariants.{Perform, Offer}
use Rattle.bridge_run.specs.declared.events.sent.Sent.{Sent}
use Rattle.bridge_run.specs.events.Events.{PastLinkEvent, SidePiece}
use Rattle.bridge_run.specs.events.Prescribed.{gained}
use Rattle.usb_base.specs.Endpoint.{in_endpoints, out_endpoints}
use Rattle.usb_base.specs.Lists.{is_empty}
use Rattle.bridge_serve.specs.served.Lent.{each, used, refusal_in, acts_behind, acts_of, is_coming, has_come, lent_bytes, refused_by, lent_refusals, lent_sends}
use Rattle.bridge_serve.specs.served.LentStops.{ActsStop, LentStops}
use Rattle.bridge_run.specs.events.RanOut.{RanOutWithin}
use Rattle.bridge_run.specs.served.Sends.{SendsPart}
use Rattle.bridge_serve.specs.inner.Lending.{Acts, StopsIn, Halts, IsLent, act_of}
use Rattle.bridge_serve.proofs.lemmas.served.Acts.{Midway, one-act, any-refused, piece-refused, heard-refused, gained-is, handed-is}

-- ---- acts that are left

-- acts of some addresses stand before those that were done
each-more : (act : ℕ → Act) (eps : List ℕ) (acts : List Act) → (more : List Act) × (each act eps acts ≡ more ++ acts)
each-more act [] acts = ([], refl)
each-more act (ep ∷ eps) acts =
    let rest = each-more act eps (act ep ∷ acts) in
    (rest.0 ++ act ep ∷ [], rest.1 ∙ sym (append_assoc rest.0 (act ep ∷ []) acts))

more-on-more : (a b c : List Act) (x : List Act) → ((more : List Act) × (a ≡ more ++ b)) → ((more : List Act) × (b ≡ more ++ c)) → (more : List Act) × (a ≡ more ++ c)
more-on-more a b c x f g = (f.0 ++ g.0, f.1 ∙ ap (λ (l : List Act). f.0 ++ l) g.1 ∙ sym (append_assoc f.0 g.0 c))

-- memory ran out within some acts, and so within those and others behind them
pub stop-longer : {S : Type 0} (m : Meaning S) (s : S) (past acts all : List Act) (old new : List ℕ) → StopsIn m s past acts old new → ((more : List Act) × (all ≡ more ++ acts)) → StopsIn m s past all old new
stop-longer m s past acts all old new x longer = record {
  given = x.given;
  stops = record {
    done = x.stops.done;
    next = x.stops.next;
    later = longer.0 ++ x.stops.later;
    acts-are = longer.1 ∙ ap (λ (l : List Act). longer.0 ++ l) x.stops.acts-are ∙ sym (append_assoc longer.0 x.stops.later (x.stops.next ∷ x.stops.done));
    part = x.stops.part;
    stops = x.stops.stops;
    sent-is = x.stops.sent-is;
  };
  sent = x.sent;
}

-- some acts were done, and memory ran out within those that come behind
pub stop-then : {S : Type 0} (m : Meaning S) (s : S) (k : Core S) (past mid acts all : List Act) (old out new : List ℕ) → Acts m s k past mid old out → StopsIn m s mid acts out new → ((more : List Act) × (all ≡ more ++ acts)) → StopsIn m s past all old new
stop-then m s k past mid acts all old out new a x longer =
    stop-longer m s past acts all old new (record {
      given = a.given ++ x.given;
      stops = record {
        done = x.stops.done;
        next = x.stops.next;
        later = x.stops.later;
        acts-are = x.stops.acts-are;
        part = x.stops.part;
        stops = x.stops.stops;
        sent-is = x.stops.sent-is ∙ ap (λ (l : List ℕ). l ++ x.given) a.sends ∙ append_assoc (host_out m s past) a.given x.given;
      };
      sent = x.sent ∙ ap (λ (l : List ℕ). l ++ x.given) a.sent ∙ append_assoc old a.given x.given;
    }) longer

-- ---- each endpoint

pub stop-endpoint : {S : Type 0} (how : Use) (m : Meaning S) (s : S) (j : Core S) (past : List Act) (all left : List ℕ) (ep : ℕ) (rest old out new : List ℕ) → left ≡ ep ∷ rest → (x : Midway (act_of how) m s j past all left old out) → StopsInAct m s x.acts (act_of how ep) out new
    → StopsIn m s past (each (act_of how) all past) old new
stop-endpoint how m s j past all left ep rest old out new is x z =
    let later = each-more (act_of how) rest (act_of how ep ∷ x.acts) in
    let part = given_by bytes_of m (host_of m s x.acts) z.taken in
    record {
      given = x.done.given ++ part;
      stops = record {
        done = x.acts;
        next = act_of how ep;
        later = later.0;
        acts-are = sym x.same ∙ ap (λ (eps : List ℕ). each (act_of how) eps x.acts) is ∙ later.1;
        part = part;
        stops = record { taken = z.taken; later = z.later; parts = z.parts; wanted = z.wanted; sent-is = refl };
        sent-is = ap (λ (l : List ℕ). l ++ part) x.done.sends ∙ append_assoc (host_out m s past) x.done.given part;
      };
      sent = z.sent ∙ ap (λ (l : List ℕ). l ++ part) x.done.sent ∙ append_assoc old x.done.given part;
    }

-- ---- the whole device

pub performed-more : (acts : List Act) → (more : List Act) × (used acts ≡ more ++ each (act_of Perform) out_endpoints acts)
unfolding used
performed-more acts =
    let one = each (act_of Perform) out_endpoints acts in
    let two = each (act_of Perform) in_endpoints one in
    more-on-more (used acts) two one [] (each-more (act_of Offer) in_endpoints two) (each-more (act_of Perform) in_endpoints one)

pub used-more : (acts : List Act) → (more : List Act) × (used acts ≡ more ++ acts)
used-more acts =
    let one = each (act_of Perform) out_endpoints acts in
    more-on-more (used acts) one acts [] (performed-more acts) (each-more (act_of Perform) out_endpoints acts)

pub offered-more : (acts : List Act) → (more : List Act) × (used acts ≡ more ++ each (act_of Perform) in_endpoints (each (act_of Perform) out_endpoints acts))
unfolding used
offered-more acts = each-more (act_of Offer) in_endpoints (each (act_of Perform) in_endpoints (each (act_of Perform) out_endpoints acts))

-- ---- a piece

behind-more : (refused : Bool) (acts : List Act) → (more : List Act) × (cond refused acts (used acts) ≡ more ++ acts)
behind-more true acts = ([], refl)
behind-more false acts = used-more acts

-- memory ran out within the piece
pub stop-piece : {S : Type 0} (m : Meaning S) (s : S) (past : List Act) (b old new : List ℕ) (refusals : List Refusal) → StopsInAct m s past (Piece b) old new → Halts m s past (acts_behind m s past (SidePiece Client b)) refusals old new
stop-piece m s past b old new refusals x =
    let later = behind-more (not (is_empty (refused_by m s past (SidePiece Client b)))) (Piece b ∷ past) in
    inl (record {
      given = given_by bytes_of m (host_of m s past) x.taken;
      stops = record {
        done = past;
        next = Piece b;
        later = later.0;
        acts-are = later.1;
        part = given_by bytes_of m (host_of m s past) x.taken;
        stops = record { taken = x.taken; later = x.later; parts = x.parts; wanted = x.wanted; sent-is = refl };
        sent-is = refl;
      };
      sent = x.sent;
    })

-- it was taken, and its refusal couldn't be told
pub stop-refused : {S : Type 0} (m : Meaning S) (s : S) (k : Core S) (past : List Act) (b : List ℕ) (notes : List HostNote) (old new : List ℕ) → TakesAct m s k past (Piece b) old new [] notes → not (is_empty (flat_map refusal_in notes)) ≡ true
    → Halts m s past (acts_behind m s past (SidePiece Client b)) (refused_by m s past (SidePiece Client b)) old new
stop-refused m s k past b notes old new takes some =
    let a = heard-refused m s k past b notes old new takes (sym (any-refused notes) ∙ some) in
    inr (record { given = a.given; sends = a.sends; sent = a.sent; refuses = ap (λ (ns : List HostNote). not (is_empty (flat_map refusal_in ns))) (sym takes.told) ∙ some })

-- it was taken, and memory ran out as the device was used
pub stop-used : {S : Type 0} (m : Meaning S) (s : S) (j : Core S) (past : List Act) (b : List ℕ) (notes : List HostNote) (old out new : List ℕ) (refusals : List Refusal) → TakesAct m s j past (Piece b) old out [] notes → list_any is_refusal notes ≡ false
    → StopsIn m s (Piece b ∷ past) (used (Piece b ∷ past)) out new → Halts m s past (acts_behind m s past (SidePiece Client b)) refusals old new
stop-used m s j past b notes old out new refusals takes fine x =
    inl (stop-then m s j past (Piece b ∷ past) (used (Piece b ∷ past)) (acts_behind m s past (SidePiece Client b)) old out new (one-act m s j past (Piece b) old out takes.does) x
    ([], piece-refused m s j past b notes old out false takes fine))

pub on-err : {T E : Type 0} (r : Result T E) (P Q : Type 0) → (P → Q) → OnErr r P → OnErr r Q
on-err (Ok x) P Q f p = tt
on-err (Err e) P Q f p = f p

pub err-all : {T E : Type 0} (r : Result T E) (P : Type 0) → P → OnErr r P
err-all (Ok x) P p = tt
err-all (Err e) P p = p

-- ---- events

-- acts send more
out-more : {S : Type 0} (m : Meaning S) (s : S) (later acts : List Act) → (more : List ℕ) × (host_out m s (later ++ acts) ≡ host_out m s acts ++ more)
out-more m s [] acts = ([], sym (append-nil (host_out m s acts)))
out-more m s (a ∷ later) acts =
    let rest = out-more m s later acts in
    let bytes = act_bytes m s (later ++ acts) a in
    (rest.0 ++ bytes, act-out m s (later ++ acts) a ∙ ap (λ (l : List ℕ). l ++ bytes) rest.1 ∙ append_assoc (host_out m s acts) rest.0 bytes)

-- and all acts have sent more than those that were done
stopped-more : {S : Type 0} (m : Meaning S) (s : S) (past acts : List Act) (sent : List ℕ) → ActsStop m s past acts sent → (more : List ℕ) × (host_out m s acts ≡ host_out m s past ++ (sent ++ more))
stopped-more m s past acts sent x =
    let at = host_of m s x.done in
    let left = given_by bytes_of m (fold (step m) at x.stops.taken) x.stops.later in
    let rest = out-more m s x.later (x.next ∷ x.done) in
    let within : act_bytes m s x.done x.next ≡ x.part ++ left =
    ap (given_by bytes_of m at) x.stops.parts ∙ outputs-append (step m) (λ h y. bytes_of (move m h y)) at x.stops.taken x.stops.later ∙ ap (λ (l : List ℕ). l ++ left) (sym x.stops.sent-is) in (
      left ++ rest.0,
      ap (host_out m s) x.acts-are ∙ rest.1 ∙ ap (λ (l : List ℕ). l ++ rest.0) (act-out m s x.done x.next ∙ ap (λ (l : List ℕ). host_out m s x.done ++ l) within ∙ sym (append_assoc (host_out m s x.done) x.part left) ∙ ap (λ (l : List ℕ). l ++ left) x.sent-is)
          ∙ append_assoc (host_out m s past ++ sent) left rest.0 ∙ append_assoc (host_out m s past) sent (left ++ rest.0),
    )

-- what went to the guest, whether it had come or comes now
client-of : (came comes : Bool) (before given waiting client : List ℕ) → waiting ≡ cond came [] before → client ≡ cond (comes || came) (waiting ++ given) [] → cond (comes || came) (before ++ given) [] ≡ cond came before [] ++ client
client-of true true before given waiting client w is = ap (λ (l : List ℕ). before ++ l) (ap (λ (l : List ℕ). l ++ given) (sym w) ∙ sym is)
client-of true false before given waiting client w is = ap (λ (l : List ℕ). before ++ l) (ap (λ (l : List ℕ). l ++ given) (sym w) ∙ sym is)
client-of false true before given waiting client w is = ap (λ (l : List ℕ). l ++ given) (sym w) ∙ sym is
client-of false false before given waiting client w is = sym is

front-if : (b : Bool) (waiting given more client all : List ℕ) → client ≡ cond b (waiting ++ given) [] → cond b (waiting ++ (given ++ more)) [] ≡ all → Begins client all
front-if true waiting given more client all is alike = record { more = more; is = sym alike ∙ sym (append_assoc waiting given more) ∙ ap (λ (l : List ℕ). l ++ more) (sym is) }
front-if false waiting given more client all is alike = record { more = []; is = sym alike ∙ ap (λ (l : List ℕ). l ++ []) (sym is) }

-- memory ran out in an event
pub lent-part : {S : Type 0} (m : Meaning S) (s : S) (old mid : Lent S) (past : List PastLinkEvent) (e : PastLinkEvent) (sent sent' : Sent) → IsLent m s old past
    → Halts m s (acts_of m s past) (acts_behind m s (acts_of m s past) e) (refused_by m s (acts_of m s past) e) old.waiting mid.waiting → mid.has_come ≡ (is_coming e || old.has_come)
    → sent.to_client ≡ [] → sent'.to_client ≡ cond mid.has_come mid.waiting [] → sent'.to_host ≡ sent.to_host → SendsPart (LentStops m s) (lent_sends m s) past e sent sent'
lent-part m s old mid past e sent sent' lent halts came empty client host = go halts
  where
    acts : List Act
    acts = acts_of m s past

    behind : List Act
    behind = acts_behind m s acts e

    come : mid.has_come ≡ (is_coming e || has_come past)
    come = came ∙ ap (λ (b : Bool). is_coming e || b) lent.came

    handed : (given : List ℕ) → mid.waiting ≡ old.waiting ++ given → sent'.to_client ≡ cond (is_coming e || has_come past) (old.waiting ++ given) []
    handed given is = client ∙ ap (λ (l : List ℕ). cond mid.has_come l []) is ∙ ap (λ (b : Bool). cond b (old.waiting ++ given) []) come

    grown : sent'.to_client ≡ sent.to_client ++ sent'.to_client
    grown = ap (λ (l : List ℕ). l ++ sent'.to_client) (sym empty)

    sends : Begins sent'.to_client (gained (lent_bytes m s) past e) → RanOutWithin (LentStops m s) (lent_sends m s) past e sent'.to_client [] → SendsPart (LentStops m s) (lent_sends m s) past e sent sent'
    sends front ran_out = record {
      client = sent'.to_client;
      host = [];
      to_client = grown;
      to_host = host ∙ sym (append-nil sent.to_host);
      part = record { to_client = front; to_host = record { more = []; is = refl }; ran_out = ran_out };
    }

    go : Halts m s acts behind (refused_by m s acts e) old.waiting mid.waiting → SendsPart (LentStops m s) (lent_sends m s) past e sent sent'
    go (inl x) =
        let all = stopped-more m s acts behind x.given x.stops in
        let is = handed x.given x.sent in
        sends
        (front-if (is_coming e || has_come past) old.waiting x.given all.0 sent'.to_client (gained (lent_bytes m s) past e) is
        (handed-is (has_come past) (is_coming e) (host_out m s acts) (x.given ++ all.0) (host_out m s behind) old.waiting (old.waiting ++ (x.given ++ all.0)) all.1 lent.waiting refl))
        (inl (record { sent = x.given; stops = x.stops; client-is = client-of (has_come past) (is_coming e) (host_out m s acts) x.given old.waiting sent'.to_client lent.waiting is; host-is = refl }))
    go (inr x) =
        let is = handed x.given x.sent ∙ handed-is (has_come past) (is_coming e) (host_out m s acts) x.given (host_out m s behind) old.waiting (old.waiting ++ x.given) x.sends lent.waiting refl in
        let refused = gained-is (lent_refusals m s past) (refused_by m s acts e) (lent_refusals m s (e ∷ past)) refl in
        sends (record { more = []; is = sym is ∙ sym (append-nil sent'.to_client) }) (inr (record { client-is = is; host-is = refl; refuses = ap (λ (rs : List Refusal). not (is_empty rs)) refused ∙ x.refuses }))
