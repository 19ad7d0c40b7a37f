-- Where a client has imported and no change of it is live, nothing is stale on the wires, and none is to come.
use Rattle.std.proofs.Common.{◌≡◌, ℕ, ◌||◌, Bool, true, false, List, [], ◌∷◌, ◌++◌, Option, None, refl, sym, ap, ◌∙◌, subst}
use Rattle.std.specs.List.{list_any, AllByRecursion as Each}
use Rattle.std.proofs.lemmas.List.Folds.{list_any-append}
use Rattle.std.proofs.lemmas.Bool.{both_ways, or_parts}
use Rattle.model_device.specs.Meaning.{Meaning}
use Rattle.redir_host.specs.guest.Line.{Reset}
use Rattle.gate_history.specs.state.State.{change_waits}
use Rattle.direct_run.specs.Moves.{World}
use Rattle.direct_proof.specs.StreamIds.{Fenced}
use Rattle.direct_proof.specs.Cancels.{any_change, is_change}
use Rattle.direct_proof.specs.Meets.{is_announced}
use Rattle.direct_proof.specs.Related.{Related}
use Rattle.direct_proof.specs.Requests.{Entry}
use Rattle.direct_proof.specs.Session.{Session, down_in}
use Rattle.direct_proof.specs.Shared.{Shared, half_line, at_hosts, lines}
use Rattle.direct_proof.specs.Stale.{is_stale, asks}
use Rattle.direct_proof.specs.Tagged.{told}
use Rattle.direct_proof.proofs.submits.Verdicts.{announced, calm-entries, nothing-stale, table-known}
use Rattle.direct_proof.proofs.streams.wires.Pending.{asked-pending, coming-changes}
use Rattle.direct_proof.proofs.streams.wires.Sorts.{line_changes}

pub record IsStill {S : Type 0} (m : Meaning S) (w : World S) (j : Shared) : Type 0 where
  pub there : w.gate.sides.lost ≡ false
  pub no_fence : w.gate.fence ≡ None
  pub known : is_announced w j ≡ true
  pub session : Session m w j
  pub fenced-is : j.fenced ≡ false
  pub entries : any_change (j.held ++ j.coming) ≡ false
  pub half-is : j.half ≡ false
  pub fresh : Each (λ b. is_stale (down_in w.gate.streams) b ≡ false) j.back
  pub none_asks : list_any (asks w.gate.fence) w.to_host ≡ false
  pub table : w.gate.facts.table ≡ (told w.gate.facts j.back).table

none-changes : (es : List Entry) → Each (λ (e : Entry). is_change e ≡ false) es → any_change es ≡ false
none-changes [] h = refl
none-changes (e ∷ es) h = λ i. h.0 i || none-changes es h.1 i

pub is-still : {S : Type 0} (m : Meaning S) (w : World S) (j : Shared) → Related m w j → w.gate.sides.imported ≡ true → w.gate.sides.lost ≡ false → change_waits w.gate ≡ false → IsStill m w j
is-still {S = S} m w j rel imported there calm = record {
  there = there;
  no_fence = no_fence;
  known = announced m w j rel imported there;
  session = s;
  fenced-is = none_fenced;
  entries = entries;
  half-is = no-half j.half refl;
  fresh = nothing-stale m w j rel imported there calm;
  none_asks = no-asks (list_any (asks w.gate.fence) w.to_host) refl;
  table = table-known m w j rel imported there calm ∙ sym s.table;
}
  where
    s : Session m w j
    s = rel.session there (announced m w j rel imported there)

    no_fence : w.gate.fence ≡ None
    no_fence = (rel.alone imported).1

    none_fenced : j.fenced ≡ false
    none_fenced = subst (λ (f : Option ℕ). Fenced f j.fenced w.to_host j.back) no_fence (rel.fenced there)

    entries : any_change (j.held ++ j.coming) ≡ false
    entries = none-changes (j.held ++ j.coming) (calm-entries m w j rel imported there calm)

    pending : (any_change (j.held ++ j.coming) || j.fenced) ≡ false
    pending = λ i. entries i || none_fenced i

    no-asks : (b : Bool) → list_any (asks w.gate.fence) w.to_host ≡ b → b ≡ false
    no-asks true h = absurd (both_ways (any_change (j.held ++ j.coming) || j.fenced) pending (asked-pending w.gate.fence j.fenced j.half w.to_host j.back j.held j.coming rel.line.coming (rel.fenced there) h))
    no-asks false h = refl

    no-half : (b : Bool) → j.half ≡ b → b ≡ false
    no-half false h = refl
    no-half true h =
        let line : Reset ∷ lines w.to_host ≡ at_hosts j.coming = ap (λ (b : Bool). half_line b ++ lines w.to_host) (sym h) ∙ rel.line.coming in
        let some : any_change j.coming ≡ true = coming-changes j.coming (sym (ap (list_any line_changes) line)) in
        absurd (both_ways (any_change j.coming) (or_parts (any_change j.held) (any_change j.coming) (sym (list_any-append is_change j.held j.coming) ∙ entries)).1 some)
