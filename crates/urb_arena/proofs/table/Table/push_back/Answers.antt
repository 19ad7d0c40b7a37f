use Rattle.std.proofs.Common.{sym, ap, refl, ◌∙◌, arith, [], ◌∷◌, ◌++◌, get_or, Some, None}
use lib.ListN.{set}
use Rattle.urb_arena.specs.declared.cells.Links.{Links}
use Rattle.urb_arena.specs.Inner.Turns.{moved}
use Rattle.urb_arena.specs.Lanes.{find_in}
use Rattle.urb_arena.specs.Inner.Tables.{lanes_of}
use Rattle.urb_arena.proofs.Views.{table_full, free_cell, table_pushed, table_len}
use Rattle.urb_arena.proofs.table.Table.push_back.Goals as goal

pub returns-then-place-self-clause-err : goal.returns-then-place-self-clause-err
returns-then-place-self-clause-err g c =
    let e = ap (λ (l : Links). l.prev) c.link-place.ensures.value in let at = c.if-place-self.true in
    (refl, table_full c.args.self.now c.requires.0 (sym e ∙ at), refl)

pub put-requires : goal.put-requires
put-requires g c =
    let t = c.args.self.now in let e = ap (λ (l : Links). l.prev) c.link-place.ensures.value in let ne = c.if-place-self.false in
    let free = free_cell t c.requires.0 (λ h. ne (e ∙ h)) in let long = c.requires.0.filled.long in let far = free.1 in
    (c.requires.0.block.0, omega (arith, e, far), omega (arith, e, far, long), ap (λ k. get_or t.block.values k None) e ∙ free.2)

pub returns-clause-table : goal.returns-clause-table
returns-clause-table g c =
    let t = c.args.self.now in let e = ap (λ (l : Links). l.prev) c.link-place.ensures.value in let ne = c.if-place-self.false in (
      (table_pushed t c.requires.0 (λ h. ne (e ∙ h)) c.args.lane c.requires.1 c.args.value c.shift.new.self (c.shift.ensures.rest.0 ∙ c.put.ensures.0)
          (c.shift.ensures.links ∙ (λ i. moved (c.put.ensures.1 i) (e i) c.args.lane)) (c.shift.ensures.rest.1 ∙ c.put.ensures.2 ∙ ap (λ k. set t.block.values k (Some c.args.value)) e)).0,
      refl,
      refl,
    )

pub returns-clause-ok : goal.returns-clause-ok
returns-clause-ok g c =
    let t = c.args.self.now in let e = ap (λ (l : Links). l.prev) c.link-place.ensures.value in let ne = c.if-place-self.false in
    let all = table_pushed t c.requires.0 (λ h. ne (e ∙ h)) c.args.lane c.requires.1 c.args.value c.shift.new.self (c.shift.ensures.rest.0 ∙ c.put.ensures.0)
    (c.shift.ensures.links ∙ (λ i. moved (c.put.ensures.1 i) (e i) c.args.lane)) (c.shift.ensures.rest.1 ∙ c.put.ensures.2 ∙ ap (λ k. set t.block.values k (Some c.args.value)) e) in
    let n = table_len t c.requires.0 in let room = all.3 in
    (omega (arith, n, room), ap (λ k. find_in k (lanes_of t)) e ∙ all.2, all.1 ∙ sym (ap (λ k. set (lanes_of t) c.args.lane (get_or (lanes_of t) c.args.lane [] ++ (k, c.args.value) ∷ [])) e))
