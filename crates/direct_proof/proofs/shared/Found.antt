-- What is found in lists of requests, and the live ones stand before the next item.
use Rattle.std.proofs.Common.{◌≡◌, ℕ, ◌<◌, Bool, true, false, cond, List, [], ◌∷◌, ◌++◌, map, filter, Option, Some, None, refl, ap, ◌∙◌, arith, append-nil}
use Rattle.std.specs.List.{find, flat_map, AllByRecursion as Each}
use Rattle.usb_base.specs.declared.transfer.Outcome.{Outcome}
use Rattle.gate_history.specs.declared.note.Note.TheVariants as note
use Rattle.gate_history.specs.step.Marks.{Fact, Answers}
use Rattle.gate_history.specs.client.Submits.{Pending}
use Rattle.gate_history.specs.client.Ends.{ends}
use Rattle.gate_history.specs.state.State.{State}
use Rattle.gate_history.specs.state.Ups.{Up}
use Rattle.gate_history.specs.step.Meaning.{mark_as}
use Rattle.gate_history.specs.write.Notes.{notes_of, answer_notes, is_by_answer}
use Rattle.gate_history.specs.write.Output.{present}
use Rattle.gate_history.proofs.lemmas.Lists.{flat_map-map, flat_map-none}
use Rattle.direct_run.specs.Noted.{named}
use Rattle.direct_device.specs.Direct.{way_if}
use Rattle.direct_proof.specs.Tagged.{Tagged}
use Rattle.direct_proof.specs.Shared.{way_of}
use Rattle.direct_proof.proofs.submits.Submitting.{AreBefore}

-- ---- lists

pub unmap-each : {X Y : Type 0} (P : Y → Type 0) (f : X → Y) (xs : List X) → Each P (map f xs) → Each (λ x. P (f x)) xs
unmap-each P f [] h = tt
unmap-each P f (x ∷ xs) h = (h.0, unmap-each P f xs h.1)

-- the one element of a mapped list
pub one-mapped : {X Y : Type 0} (f : X → Y) (xs : List X) (y : Y) → map f xs ≡ y ∷ [] → (x : X) × (xs ≡ x ∷ []) × (f x ≡ y)
one-mapped f [] y h = absurd (cc)
one-mapped f (x ∷ []) y h = (x, refl, cc)
one-mapped f (x ∷ z ∷ xs) y h = absurd (cc)

pub find-only : {X : Type 0} (p : X → Bool) (xs : List X) (x : X) → filter p xs ≡ x ∷ [] → find p xs ≡ Some x
find-only p [] x h = absurd (cc)
find-only {X = X} p (y ∷ ys) x h = go (p y) h (find-only p ys x)
  where
    go : (b : Bool) → cond b (y ∷ filter p ys) (filter p ys) ≡ x ∷ [] → (filter p ys ≡ x ∷ [] → find p ys ≡ Some x) → cond b (Some y) (find p ys) ≡ Some x
    go true e rest = ap Some (heads e)
      where
        heads : y ∷ filter p ys ≡ x ∷ [] → y ≡ x
        heads z = cc
    go false e rest = rest e

pub none-named : (st : State) (id : ℕ) (o : Outcome) (fact : Option Fact) → flat_map named (notes_of st (mark_as st (Answers id o) fact)) ≡ []
none-named st id o fact =
    ap (flat_map named) (append-nil ((answer_notes st (Answers id o) ++ []) ++ []) ∙ append-nil (answer_notes st (Answers id o) ++ []) ∙ append-nil (answer_notes st (Answers id o)))
    ∙ flat_map-map named (λ (p : Pending). note.Answered p.submit.request.seqnum) (filter (λ (p : Pending). is_by_answer (ends (Answers id o) p.submit)) (present st (Answers id o)))
    ∙ flat_map-none (filter (λ (p : Pending). is_by_answer (ends (Answers id o) p.submit)) (present st (Answers id o)))

-- ---- a submit

pub way-again : (up : Option Up) (ep : ℕ) (bs : List Tagged) → way_if up (way_of up ep bs) ≡ way_of up ep bs
way-again None ep bs = refl
way-again (Some up) ep bs = refl

pub before : (n : ℕ) (ps : List Pending) → Each (λ (x : Pending). x.submit.place < n) ps → AreBefore n ps
before n [] h = tt
before n (x ∷ xs) h = (grind (arith, h.0), before n xs h.1)
