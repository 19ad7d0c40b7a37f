-- What is done with a lent device's host, act by act and event by event.
use Rattle.std.proofs.Common.{◌≡◌, ℕ, ◌||◌, not, Bool, true, false, cond, List, [], ◌∷◌, ◌++◌, length, drop, Result, Ok, Err, refl, sym, ap, ◌∙◌, subst, append-nil, append_assoc}
use Rattle.std.specs.List.{flat_map, list_any}
use Rattle.std.specs.Result.{OnOk}
use Rattle.std.proofs.Math.Seq.{drop-append_seam}
use Rattle.std.proofs.Math.Bool.{or-false}
use Rattle.usb_base.specs.declared.side.Side.TheVariants.{Client}
use Rattle.usb_base.specs.declared.refusal.Refusal.{Refusal}
use Rattle.usb_base.specs.Lists.{is_empty}
use Rattle.model_device.specs.Meaning.{Meaning}
use Rattle.redir_host.specs.state.Kept.{HostKept as Core}
use Rattle.redir_host.specs.declared.write.note.HostNote.{HostNote}
use Rattle.redir_host.specs.declared.write.note.HostNote.TheVariants as note
use Rattle.redir_host.specs.step.Acts.{Act, Piece}
use Rattle.redir_host.specs.step.Machine.{is_refusal}
use Rattle.redir_host.specs.write.Output.{host_out, act_bytes}
use Rattle.redir_host.specs.step.Stands.{HostStands, DoesAct, TakesAct}
use Rattle.redir_host.proofs.lemmas.step.Acts.{act-out}
use Rattle.bridge_serve.specs.declared.served.lent.Lent.{Lent}
use Rattle.bridge_run.specs.declared.events.sent.Sent.{Sent}
use Rattle.bridge_run.specs.events.Events.{PastLinkEvent, SidePiece}
use Rattle.bridge_serve.specs.served.Lent.{each, used, refusal_in, acts_behind, acts_of, is_coming, has_come, refused_by, lent_refusals, lent_sends}
use Rattle.bridge_run.specs.served.Sends.{SendsAll}
use Rattle.bridge_serve.specs.inner.Lending.{Acts, IsLent}

-- ---- acts

pub no-act : {S : Type 0} (m : Meaning S) (s : S) (k : Core S) (acts : List Act) (out : List ℕ) → HostStands m s k acts → Acts m s k acts acts out out
no-act m s k acts out stands = record { given = []; stands = stands; sends = sym (append-nil (host_out m s acts)); sent = sym (append-nil out) }

pub one-act : {S : Type 0} (m : Meaning S) (s : S) (k : Core S) (acts : List Act) (a : Act) (old new : List ℕ) → DoesAct m s k acts a old new → Acts m s k acts (a ∷ acts) old new
one-act m s k acts a old new does = record { given = act_bytes m s acts a; stands = does.stands; sends = act-out m s acts a; sent = does.sent }

pub acts-then : {S : Type 0} (m : Meaning S) (s : S) (j k : Core S) (past mid acts : List Act) (old out new : List ℕ) → Acts m s j past mid old out → Acts m s k mid acts out new → Acts m s k past acts old new
acts-then m s j k past mid acts old out new x y = record {
  given = x.given ++ y.given;
  stands = y.stands;
  sends = y.sends ∙ ap (λ (b : List ℕ). b ++ y.given) x.sends ∙ append_assoc (host_out m s past) x.given y.given;
  sent = y.sent ∙ ap (λ (b : List ℕ). b ++ y.given) x.sent ∙ append_assoc old x.given y.given;
}

-- some of the addresses have had their act, and these are left
pub record Midway {S : Type 0} (act : ℕ → Act) (m : Meaning S) (s : S) (k : Core S) (past : List Act) (all left : List ℕ) (old new : List ℕ) : Type 0 where
  pub acts : List Act
  pub done : Acts m s k past acts old new
  pub same : each act left acts ≡ each act all past

pub midway-none : {S : Type 0} (act : ℕ → Act) (m : Meaning S) (s : S) (k : Core S) (past : List Act) (all : List ℕ) (out : List ℕ) → HostStands m s k past → Midway act m s k past all all out out
midway-none act m s k past all out stands = record { acts = past; done = no-act m s k past out stands; same = refl }

pub midway-more : {S : Type 0} (act : ℕ → Act) (m : Meaning S) (s : S) (j k : Core S) (past : List Act) (all left : List ℕ) (ep : ℕ) (rest old out new : List ℕ) → left ≡ ep ∷ rest → (x : Midway act m s j past all left old out)
    → DoesAct m s k x.acts (act ep) out new → Midway act m s k past all rest old new
midway-more act m s j k past all left ep rest old out new is x does = record {
  acts = act ep ∷ x.acts;
  done = acts-then m s j k past x.acts (act ep ∷ x.acts) old out new x.done (one-act m s k x.acts (act ep) out new does);
  same = ap (λ (eps : List ℕ). each act eps x.acts) (sym is) ∙ x.same;
}

-- ---- a piece

pub any-refused : (notes : List HostNote) → not (is_empty (flat_map refusal_in notes)) ≡ list_any is_refusal notes
any-refused [] = refl
any-refused (note.Refused place reason ∷ notes) = refl
any-refused (note.Cancelled id ∷ notes) = any-refused notes

-- whether the piece is refused, by the notes of its being taken
pub piece-refused : {S : Type 0} (m : Meaning S) (s : S) (k : Core S) (past : List Act) (b : List ℕ) (notes : List HostNote) (old new : List ℕ) (refused : Bool) → TakesAct m s k past (Piece b) old new [] notes → list_any is_refusal notes ≡ refused
    → acts_behind m s past (SidePiece Client b) ≡ cond refused (Piece b ∷ past) (used (Piece b ∷ past))
piece-refused m s k past b notes old new refused takes is =
    ap (λ (x : Bool). cond x (Piece b ∷ past) (used (Piece b ∷ past))) (ap (λ (ns : List HostNote). not (is_empty (flat_map refusal_in ns))) (sym takes.told) ∙ any-refused notes ∙ is)

pub heard-refused : {S : Type 0} (m : Meaning S) (s : S) (k : Core S) (past : List Act) (b : List ℕ) (notes : List HostNote) (old new : List ℕ) → TakesAct m s k past (Piece b) old new [] notes → list_any is_refusal notes ≡ true
    → Acts m s k past (acts_behind m s past (SidePiece Client b)) old new
heard-refused m s k past b notes old new takes refused =
    subst (λ (acts : List Act). Acts m s k past acts old new) (sym (piece-refused m s k past b notes old new true takes refused))
    (one-act m s k past (Piece b) old new takes.does)

pub heard-used : {S : Type 0} (m : Meaning S) (s : S) (j k : Core S) (past : List Act) (b : List ℕ) (notes : List HostNote) (old out new : List ℕ) → TakesAct m s j past (Piece b) old out [] notes → list_any is_refusal notes ≡ false
    → Acts m s k (Piece b ∷ past) (used (Piece b ∷ past)) out new → Acts m s k past (acts_behind m s past (SidePiece Client b)) old new
heard-used m s j k past b notes old out new takes fine uses =
    subst (λ (acts : List Act). Acts m s k past acts old new) (sym (piece-refused m s j past b notes old out false takes fine))
    (acts-then m s j k past (Piece b ∷ past) (used (Piece b ∷ past)) old out new (one-act m s j past (Piece b) old out takes.does) uses)

pub on-ok : {T E : Type 0} (r : Result T E) (P Q : Type 0) → (P → Q) → OnOk r P → OnOk r Q
on-ok (Ok x) P Q f p = f p
on-ok (Err e) P Q f p = tt

pub on-both : {T E : Type 0} (r : Result T E) (P Q R : Type 0) → (P → Q → R) → OnOk r P → OnOk r Q → OnOk r R
on-both (Ok x) P Q R f p q = f p q
on-both (Err e) P Q R f p q = tt

-- ---- events

pub gained-is : {X : Type 0} (before more behind : List X) → behind ≡ before ++ more → drop (length before) behind ≡ more
gained-is before more behind is = ap (drop (length before)) is ∙ drop-append_seam before more

-- what goes to the guest, whether it had come or comes now
pub handed-is : (came comes : Bool) (before given behind waiting later : List ℕ) → behind ≡ before ++ given → waiting ≡ cond came [] before → later ≡ waiting ++ given
    → cond (comes || came) later [] ≡ drop (length (cond came before [])) (cond (comes || came) behind [])
handed-is true true before given behind waiting later is w l = l ∙ ap (λ (b : List ℕ). b ++ given) w ∙ sym (gained-is before given behind is)
handed-is true false before given behind waiting later is w l = l ∙ ap (λ (b : List ℕ). b ++ given) w ∙ sym (gained-is before given behind is)
handed-is false true before given behind waiting later is w l = l ∙ ap (λ (b : List ℕ). b ++ given) w ∙ sym is
handed-is false false before given behind waiting later is w l = refl

pub lent-sends : {S : Type 0} (m : Meaning S) (s : S) (old mid : Lent S) (past : List PastLinkEvent) (e : PastLinkEvent) (sent sent' : Sent) → IsLent m s old past
    → Acts m s mid.core (acts_of m s past) (acts_behind m s (acts_of m s past) e) old.waiting mid.waiting → mid.has_come ≡ (is_coming e || old.has_come)
    → sent'.to_client ≡ sent.to_client ++ cond mid.has_come mid.waiting [] → sent'.to_host ≡ sent.to_host → sent'.refusals ≡ sent.refusals ++ refused_by m s (acts_of m s past) e → sent'.lets_go ≡ sent.lets_go
    → SendsAll (lent_sends m s) past e sent sent'
lent-sends m s old mid past e sent sent' lent acts came client host refusals stays =
    let come = came ∙ ap (λ (b : Bool). is_coming e || b) lent.came in
    let refused = gained-is (lent_refusals m s past) (refused_by m s (acts_of m s past) e) (lent_refusals m s (e ∷ past)) refl in
    record {
      client = client ∙ ap (λ (b : List ℕ). sent.to_client ++ b) (ap (λ (b : Bool). cond b mid.waiting []) come
          ∙ handed-is (has_come past) (is_coming e) (host_out m s (acts_of m s past)) acts.given (host_out m s (acts_of m s (e ∷ past))) old.waiting mid.waiting acts.sends lent.waiting acts.sent);
      host = host ∙ sym (append-nil sent.to_host);
      refusals = refusals ∙ ap (λ (rs : List Refusal). sent.refusals ++ rs) (sym refused);
      lets_go = stays ∙ sym (or-false sent.lets_go);
      grows = ap (λ (rs : List Refusal). lent_refusals m s past ++ rs) (sym refused);
    }
