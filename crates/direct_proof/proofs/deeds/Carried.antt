-- The deeds of a move tell what its items tell, and carry the requests of the submits that are accepted.
use Rattle.std.proofs.Common.{◌≡◌, ℕ, ◌&&◌, not, Bool, true, false, List, [], ◌∷◌, ◌++◌, map, filter, refl, ap, ◌∙◌, append-nil}
use Rattle.std.specs.List.{flat_map}
use Rattle.std.proofs.lemmas.Grind.{flat_map-append}
use Rattle.redir_host.specs.declared.write.note.HostNote.{HostNote}
use Rattle.redir_host.specs.declared.write.note.HostNote.TheVariants as host_note
use Rattle.redir_host.specs.declared.write.note.Offered.{Offered}
use Rattle.redir_host.specs.declared.write.note.Offered.TheVariants as offered
use Rattle.redir_host.specs.declared.write.note.Performed.{Performed}
use Rattle.redir_host.specs.declared.write.note.Performed.TheVariants as performed
use Rattle.gate_history.specs.declared.request.Request.{Request}
use Rattle.gate_history.specs.step.Marks.{Submission, Effect, Imports, Unlinks, Arrives, Mark}
use Rattle.gate_history.specs.state.Sides.{leaves, is_loss}
use Rattle.gate_history.specs.client.Submits.{Pending, opened}
use Rattle.gate_history.specs.client.Ends.{ends}
use Rattle.gate_history.specs.state.State.{State}
use Rattle.gate_history.specs.write.Output.{present}
use Rattle.gate_history.specs.write.Notes.{is_by_answer}
use Rattle.direct_run.specs.declared.item.Item.{Item as Told}
use Rattle.direct_run.specs.declared.item.Item.TheVariants as item
use Rattle.direct_run.specs.declared.submitted.Submitted.{Submitted}
use Rattle.direct_run.specs.Noted.{item_of_host, performed_item, offered_item}
use Rattle.direct_device.specs.Acting.{Deed, Submit, Answer, Gone, ClientGone}
use Rattle.direct_device.specs.Legal.{item_of as deed_item, request_in}
use Rattle.direct_proof.specs.Deeds.{import_deeds, submit_deeds, unlink_deeds, arrive_deeds, answer_deeds, deeds_of, host_deed, when}

-- ---- at the host

pub host-items : (submits : List Submitted) (ns : List HostNote) → map deed_item (flat_map host_deed (flat_map (item_of_host submits) ns)) ≡ flat_map (item_of_host submits) ns
host-items submits [] = refl
host-items submits (host_note.Cancelled id ∷ ns) = ap (λ (l : List Told). item_of_host submits (host_note.Cancelled id) ++ l) (host-items submits ns)
host-items submits (host_note.Refused place why ∷ ns) = host-items submits ns

pub perform-items : (submits : List Submitted) (ep : ℕ) (p : Performed) → map deed_item (flat_map host_deed (performed_item submits ep p)) ≡ performed_item submits ep p
perform-items submits ep (performed.Done id) = refl
perform-items submits ep _ = refl

pub offer-items : (ep : ℕ) (o : Offered) → map deed_item (flat_map host_deed (offered_item ep o)) ≡ offered_item ep o
offer-items ep offered.Sent = refl
offer-items ep _ = refl

-- ---- requests

abbrev pub request : Submission → Request
request s = s.request

lacks-import : (e : Effect) → flat_map request_in (import_deeds e) ≡ []
lacks-import (Imports reply) = refl
lacks-import e = refl

lacks-unlink : (e : Effect) → flat_map request_in (unlink_deeds e) ≡ []
lacks-unlink (Unlinks by target) = refl
lacks-unlink e = refl

lacks-arrive : (e : Effect) → flat_map request_in (arrive_deeds e) ≡ []
lacks-arrive (Arrives ep fill) = refl
lacks-arrive e = refl

lacks-answer : (ps : List Pending) → flat_map request_in (map (λ (p : Pending). Answer p.submit.request.seqnum) ps) ≡ []
lacks-answer [] = refl
lacks-answer (p ∷ ps) = lacks-answer ps

lacks-gone : (b : Bool) → flat_map request_in (when b Gone) ≡ []
lacks-gone true = refl
lacks-gone false = refl

lacks-left : (b : Bool) → flat_map request_in (when b ClientGone) ≡ []
lacks-left true = refl
lacks-left false = refl

has-submits : (ss : List Submission) → flat_map request_in (map (λ (s : Submission). Submit s.request) ss) ≡ map request ss
has-submits [] = refl
has-submits (s ∷ ss) = ap (λ (l : List Request). s.request ∷ l) (has-submits ss)

-- none of the deeds behind these carries one
more-lack : (xs ys : List Deed) (rs : List Request) → flat_map request_in xs ≡ rs → flat_map request_in ys ≡ [] → flat_map request_in (xs ++ ys) ≡ rs
more-lack xs ys rs h k = flat_map-append request_in xs ys ∙ (λ i. h i ++ k i) ∙ append-nil rs

pub mark-requests : (st : State) (m : Mark) → flat_map request_in (deeds_of st m) ≡ map request (opened m.what)
mark-requests st m =
    let e = m.what in
    let lost : Bool = is_loss e && st.sides.imported && not st.sides.lost in
    let left : Bool = leaves e && not st.sides.client_over in
    let rs = map request (opened e) in
    let a : flat_map request_in (import_deeds e ++ submit_deeds e) ≡ rs = flat_map-append request_in (import_deeds e) (submit_deeds e) ∙ (λ i. lacks-import e i ++ has-submits (opened e) i) in
    let b = more-lack (import_deeds e ++ submit_deeds e) (unlink_deeds e) rs a (lacks-unlink e) in
    let c = more-lack (import_deeds e ++ submit_deeds e ++ unlink_deeds e) (arrive_deeds e) rs b (lacks-arrive e) in
    let d = more-lack (import_deeds e ++ submit_deeds e ++ unlink_deeds e ++ arrive_deeds e) (answer_deeds st e) rs c (lacks-answer (filter (λ (p : Pending). is_by_answer (ends e p.submit)) (present st e))) in
    let f = more-lack (import_deeds e ++ submit_deeds e ++ unlink_deeds e ++ arrive_deeds e ++ answer_deeds st e) (when lost Gone) rs d (lacks-gone lost) in
    more-lack (import_deeds e ++ submit_deeds e ++ unlink_deeds e ++ arrive_deeds e ++ answer_deeds st e ++ when lost Gone) (when left ClientGone) rs f (lacks-left left)

-- what is done at the host carries none
pub host-requests : (is : List Told) → flat_map request_in (flat_map host_deed is) ≡ []
host-requests [] = refl
host-requests (item.Perform ep seqnum ∷ is) = host-requests is
host-requests (item.Cancel seqnum ∷ is) = host-requests is
host-requests (item.Offer ep ∷ is) = host-requests is
host-requests (_ ∷ is) = host-requests is
