-- The answers of a trace behind its last import.
use Rattle.std.proofs.Common.{◌≡◌, ◌&&◌, not, Bool, true, false, List, [], ◌∷◌, ◌++◌, map, filter, refl, sym, ap, ◌∙◌, append-nil, append_assoc}
use Rattle.std.specs.List.{flat_map, AllByRecursion as Each}
use Rattle.usbip_urb.specs.declared.packet.UrbPacket.{UrbPacket}
use Rattle.model_device.specs.Meaning.{Meaning}
use Rattle.gate_history.proofs.lemmas.Lists.{Each-append}
use Rattle.gate_history.specs.step.Marks.{Submission, Effect, Imports, Unlinks, Arrives, Mark}
use Rattle.gate_history.specs.write.Notes.{is_by_answer}
use Rattle.gate_history.specs.write.Output.{present}
use Rattle.gate_history.specs.state.Sides.{imports, is_loss, leaves}
use Rattle.gate_history.specs.state.State.{State}
use Rattle.gate_history.specs.client.Submits.{Pending, opened}
use Rattle.gate_history.specs.client.Ends.{ends}
use Rattle.direct_run.specs.declared.item.Item.{Item}
use Rattle.direct_run.specs.declared.item.Item.TheVariants as item
use Rattle.direct_device.specs.Acting.{Deed, Import, Submit, Unlink, Perform, Cancel, Answer, Offer, Arrive, Gone, ClientGone, act, answers}
use Rattle.direct_device.specs.Direct.{Direct}
use Rattle.direct_device.specs.Legal.{acts, all_answers}
use Rattle.direct_proof.specs.Deeds.{answer_deeds, arrive_deeds, deeds_of, host_deed, import_deeds, submit_deeds, unlink_deeds, when}
use Rattle.direct_proof.specs.Simulates.{since_import}

abbrev pub IsPlain : Deed → Type 0
IsPlain Import = ⊥
IsPlain _ = Unit {0}

-- without an import all answers come behind those before
pub since-plain : {S : Type 0} (m : Meaning S) (d : Direct S) (said : List UrbPacket) (xs : List Deed) → Each IsPlain xs → since_import m d said xs ≡ said ++ all_answers m d xs
since-plain m d said [] k = sym (append-nil said)
since-plain m d said (Import ∷ xs) k = absurd k.0
since-plain m d said (Submit r ∷ xs) k = since-plain m (act m d (Submit r)) (said ++ answers m d (Submit r)) xs k.1 ∙ append_assoc said (answers m d (Submit r)) (all_answers m (act m d (Submit r)) xs)
since-plain m d said (Unlink by target ∷ xs) k = since-plain m (act m d (Unlink by target)) (said ++ answers m d (Unlink by target)) xs k.1 ∙ append_assoc said (answers m d (Unlink by target)) (all_answers m (act m d (Unlink by target)) xs)
since-plain m d said (Perform ep n ∷ xs) k = since-plain m (act m d (Perform ep n)) (said ++ []) xs k.1 ∙ append_assoc said [] (all_answers m (act m d (Perform ep n)) xs)
since-plain m d said (Cancel n ∷ xs) k = since-plain m (act m d (Cancel n)) (said ++ []) xs k.1 ∙ append_assoc said [] (all_answers m (act m d (Cancel n)) xs)
since-plain m d said (Answer n ∷ xs) k = since-plain m (act m d (Answer n)) (said ++ answers m d (Answer n)) xs k.1 ∙ append_assoc said (answers m d (Answer n)) (all_answers m (act m d (Answer n)) xs)
since-plain m d said (Offer ep ∷ xs) k = since-plain m (act m d (Offer ep)) (said ++ []) xs k.1 ∙ append_assoc said [] (all_answers m (act m d (Offer ep)) xs)
since-plain m d said (Arrive ep ∷ xs) k = since-plain m (act m d (Arrive ep)) (said ++ []) xs k.1 ∙ append_assoc said [] (all_answers m (act m d (Arrive ep)) xs)
since-plain m d said (Gone ∷ xs) k = since-plain m (act m d Gone) (said ++ answers m d Gone) xs k.1 ∙ append_assoc said (answers m d Gone) (all_answers m (act m d Gone) xs)
since-plain m d said (ClientGone ∷ xs) k = since-plain m (act m d ClientGone) (said ++ []) xs k.1 ∙ append_assoc said [] (all_answers m (act m d ClientGone) xs)

pub since-append : {S : Type 0} (m : Meaning S) (d : Direct S) (said : List UrbPacket) (xs ys : List Deed) → since_import m d said (xs ++ ys) ≡ since_import m (acts m d xs) (since_import m d said xs) ys
since-append m d said [] ys = refl
since-append m d said (Import ∷ xs) ys = since-append m (act m d Import) [] xs ys
since-append m d said (Submit r ∷ xs) ys = since-append m (act m d (Submit r)) (said ++ answers m d (Submit r)) xs ys
since-append m d said (Unlink by target ∷ xs) ys = since-append m (act m d (Unlink by target)) (said ++ answers m d (Unlink by target)) xs ys
since-append m d said (Perform ep n ∷ xs) ys = since-append m (act m d (Perform ep n)) (said ++ []) xs ys
since-append m d said (Cancel n ∷ xs) ys = since-append m (act m d (Cancel n)) (said ++ []) xs ys
since-append m d said (Answer n ∷ xs) ys = since-append m (act m d (Answer n)) (said ++ answers m d (Answer n)) xs ys
since-append m d said (Offer ep ∷ xs) ys = since-append m (act m d (Offer ep)) (said ++ []) xs ys
since-append m d said (Arrive ep ∷ xs) ys = since-append m (act m d (Arrive ep)) (said ++ []) xs ys
since-append m d said (Gone ∷ xs) ys = since-append m (act m d Gone) (said ++ answers m d Gone) xs ys
since-append m d said (ClientGone ∷ xs) ys = since-append m (act m d ClientGone) (said ++ []) xs ys

-- ---- of a move

pub host-plain : (is : List Item) → Each IsPlain (flat_map host_deed is)
host-plain [] = tt
host-plain (item.Perform ep seqnum ∷ is) = (tt, host-plain is)
host-plain (item.Cancel seqnum ∷ is) = (tt, host-plain is)
host-plain (item.Offer ep ∷ is) = (tt, host-plain is)
host-plain (_ ∷ is) = host-plain is

submits-plain : (ss : List Submission) → Each IsPlain (map (λ (s : Submission). Submit s.request) ss)
submits-plain [] = tt
submits-plain (s ∷ ss) = (tt, submits-plain ss)

answers-plain : (ps : List Pending) → Each IsPlain (map (λ (p : Pending). Answer p.submit.request.seqnum) ps)
answers-plain [] = tt
answers-plain (p ∷ ps) = (tt, answers-plain ps)

unlink-plain : (e : Effect) → Each IsPlain (unlink_deeds e)
unlink-plain (Unlinks by target) = (tt, tt)
unlink-plain e = tt

arrive-plain : (e : Effect) → Each IsPlain (arrive_deeds e)
arrive-plain (Arrives ep fill) = (tt, tt)
arrive-plain e = tt

gone-plain : (b : Bool) → Each IsPlain (when b Gone)
gone-plain true = (tt, tt)
gone-plain false = tt

left-plain : (b : Bool) → Each IsPlain (when b ClientGone)
left-plain true = (tt, tt)
left-plain false = tt

import-none : (e : Effect) → imports e ≡ false → import_deeds e ≡ []
import-none (Imports reply) h = absurd (cc)
import-none e h = refl

import-one : (e : Effect) → imports e ≡ true → import_deeds e ≡ Import ∷ []
import-one (Imports reply) h = refl
import-one e h = absurd (cc)

-- behind what comes first
module _ (st : State) (m : Mark) where
  more-plain : (first : List Deed) → Each IsPlain first →
      Each IsPlain (first ++ submit_deeds m.what ++ unlink_deeds m.what ++ arrive_deeds m.what ++ answer_deeds st m.what ++ when (is_loss m.what && st.sides.imported && not st.sides.lost) Gone ++ when (leaves m.what && not st.sides.client_over) ClientGone)
  more-plain first h =
      let a = Each-append IsPlain first (submit_deeds m.what) h (submits-plain (opened m.what)) in
      let b = Each-append IsPlain (first ++ submit_deeds m.what) (unlink_deeds m.what) a (unlink-plain m.what) in
      let c = Each-append IsPlain (first ++ submit_deeds m.what ++ unlink_deeds m.what) (arrive_deeds m.what) b (arrive-plain m.what) in
      let f = Each-append IsPlain (first ++ submit_deeds m.what ++ unlink_deeds m.what ++ arrive_deeds m.what) (answer_deeds st m.what) c (answers-plain (filter (λ (p : Pending). is_by_answer (ends m.what p.submit)) (present st m.what))) in
      let g = Each-append IsPlain (first ++ submit_deeds m.what ++ unlink_deeds m.what ++ arrive_deeds m.what ++ answer_deeds st m.what) (when (is_loss m.what && st.sides.imported && not st.sides.lost) Gone) f (gone-plain (is_loss m.what && st.sides.imported && not st.sides.lost)) in
      Each-append IsPlain (first ++ submit_deeds m.what ++ unlink_deeds m.what ++ arrive_deeds m.what ++ answer_deeds st m.what ++ when (is_loss m.what && st.sides.imported && not st.sides.lost) Gone) (when (leaves m.what && not st.sides.client_over) ClientGone) g (left-plain (leaves m.what && not st.sides.client_over))

  abbrev rest : List Deed → List Deed
  rest first = first ++ submit_deeds m.what ++ unlink_deeds m.what ++ arrive_deeds m.what ++ answer_deeds st m.what ++ when (is_loss m.what && st.sides.imported && not st.sides.lost) Gone ++ when (leaves m.what && not st.sides.client_over) ClientGone

  pub mark-since : {S : Type 0} (n : Meaning S) (d : Direct S) (said : List UrbPacket) → imports m.what ≡ false → since_import n d said (deeds_of st m) ≡ said ++ all_answers n d (deeds_of st m)
  mark-since n d said h =
      ap (λ (l : List Deed). since_import n d said (rest l)) (import-none m.what h)
      ∙ since-plain n d said (rest []) (more-plain [] tt)
      ∙ ap (λ (l : List Deed). said ++ all_answers n d (rest l)) (sym (import-none m.what h))

  pub mark-imports : {S : Type 0} (n : Meaning S) (d : Direct S) (said : List UrbPacket) → imports m.what ≡ true → since_import n d said (deeds_of st m) ≡ all_answers n d (deeds_of st m)
  mark-imports n d said h =
      ap (λ (l : List Deed). since_import n d said (rest l)) (import-one m.what h)
      ∙ since-plain n (act n d Import) [] (rest []) (more-plain [] tt)
      ∙ ap (λ (l : List Deed). all_answers n d (rest l)) (sym (import-one m.what h))
