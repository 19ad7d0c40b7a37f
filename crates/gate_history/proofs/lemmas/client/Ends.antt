-- The submits that end at an item: some of those that were live, and of the one that it opens.
use Rattle.std.specs.Option.{option_or}
use Rattle.std.proofs.Common.{◌≡◌, suc, ◌&&◌, Bool, true, false, cond, not, leb, List, ◌∷◌, ◌++◌, length, Option, Some, None, refl, sym, ap, ◌∙◌, arith}
use Rattle.std.specs.Prelude.{filter, is_none, is_some}
use Rattle.std.proofs.lemmas.Bool.{false≢true}
use Rattle.std.proofs.lemmas.List.Elements.{filter-append}
use Rattle.gate_history.specs.step.Marks.{Submission, Effect, Mark}
use Rattle.gate_history.specs.client.Submits.{opened, accepted, end_of, is_live, live, ended}
use Rattle.gate_history.specs.client.Ends.{End, ends}
use Rattle.gate_history.proofs.lemmas.Lists.{Each, Each-weaker, filter-same, filter-twice, filter-all, both}
use Rattle.gate_history.proofs.lemmas.step.Steps.{IsPlaced, IsWell, Before, placed, within, unopened-end, is_none-or_else, Present}

is_none-none : {A : Type 0} (o : Option A) → is_none o ≡ true → o ≡ None
is_none-none None e = refl
is_none-none (Some a) e = absurd (false≢true e)

-- of one that is there, and hadn't ended
pub end-at : (ms : List Mark) (m : Mark) (s : Submission) → Present ms s → end_of (m ∷ ms) s ≡ ends m.what s
end-at ms m s p =
    ap (λ (e : Option End). option_or e (cond (leb s.place (length ms)) (ends m.what s) None)) (is_none-none (end_of ms s) p.live)
    ∙ ap (λ (b : Bool). cond b (ends m.what s) None) (within s.place (length ms) p.there)

-- the live ones and the new one are those without an end
pub live-all : (ms : List Mark) (e : Effect) → IsPlaced (length ms) e → filter (is_live ms) (accepted ms ++ opened e) ≡ live ms ++ opened e
live-all ms e h =
    filter-append (is_live ms) (accepted ms) (opened e)
    ∙ ap (λ (l : List Submission). live ms ++ l) (stay (opened e) (Each-weaker (λ s. s.place ≡ length ms) (λ s. is_live ms s ≡ true) (λ s p. ap is_none (unopened-end ms s (omega (arith, p)))) (opened e) h))
  where
    stay : (ss : List Submission) → Each (λ s. is_live ms s ≡ true) ss → filter (is_live ms) ss ≡ ss
    stay ss e = filter-same (is_live ms) (λ s. true) ss e ∙ filter-all ss

now-ended : (a : Bool) (e : Option End) → (a && not (both a (is_none e))) ≡ both a (is_some e)
now-ended true None = refl
now-ended true (Some e) = refl
now-ended false e = refl

pub ended-is : (ms : List Mark) (m : Mark) → IsWell (m ∷ ms) → ended ms m ≡ filter (λ s. is_some (ends m.what s)) (live ms ++ opened m.what)
ended-is ms m w =
    filter-same (λ s. is_live ms s && not (is_live (m ∷ ms) s)) (λ s. both (is_live ms s) (is_some (ends m.what s))) (accepted (m ∷ ms))
    (Each-weaker (Before (suc (length ms))) (λ s. (is_live ms s && not (is_live (m ∷ ms) s)) ≡ both (is_live ms s) (is_some (ends m.what s)))
    (λ s h.
    ap (λ (b : Bool). is_live ms s && not b) (ap (λ (b : Bool). is_none (option_or (end_of ms s) (cond b (ends m.what s) None))) (within s.place (length ms) h) ∙ is_none-or_else (end_of ms s) (ends m.what s))
    ∙ now-ended (is_live ms s) (ends m.what s))
    (accepted (m ∷ ms)) (placed (m ∷ ms) w))
    ∙ sym (filter-twice (λ s. is_some (ends m.what s)) (is_live ms) (accepted (m ∷ ms)))
    ∙ ap (filter (λ s. is_some (ends m.what s))) (live-all ms m.what w.0)
