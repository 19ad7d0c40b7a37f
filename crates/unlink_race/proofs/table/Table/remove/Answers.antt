use Rattle.std.proofs.Common.{◌≡◌, ◌+◌, ap, sym, ◌∙◌, OnSome, subst}
use Rattle.std.specs.Option.{option_copied}
use Rattle.urb_arena.specs.Lanes.{count}
use Rattle.unlink_race.specs.Inner.Sound.{entry_of}
use Rattle.unlink_race.proofs.Tables.{found_at, read_at, key_at, removed, standing, indexed, indexed_by, rising}
use Rattle.unlink_race.proofs.Rising.{rises_removed}
use Rattle.unlink_race.proofs.Told.{there, lent}
use Rattle.unlink_race.proofs.Zipped.{distinct}
use Rattle.unlink_race.proofs.table.Table.remove.Goals as goal

pub unwrap-entry-requires : goal.unwrap-entry-requires
unwrap-entry-requires c =
    let found = found_at c.self.invariant.0 c.self.view_is c.args.place c.remove-key.result c.requires c.remove-key.ensures.value in
    lent c.get.result found.0 (c.get.ensures ∙ found.1)

pub forget-requires : goal.forget-requires
forget-requires c = (
  c.self.inside.keys,
  c.args.self.now,
  c.args.place,
  key_at c.self.invariant.0 c.self.view_is c.args.place c.remove-key.result c.requires c.remove-key.ensures.value,
  read_at c.self.invariant.0 c.self.view_is c.args.place c.remove-key.result c.unwrap-entry.result.now c.requires c.remove-key.ensures.value (sym c.get.ensures ∙ ap option_copied c.unwrap-entry.ensures),
  standing c.self.invariant.0 c.self.view_is,
  indexed c.self.view_is c.self.invariant.1,
)

pub unwrap-requires : goal.unwrap-requires
unwrap-requires c =
    let found = found_at c.self.invariant.0 c.self.view_is c.args.place c.remove-key.result c.requires c.remove-key.ensures.value in
    there c.remove.result found.0 (c.remove.ensures.value ∙ found.1)

pub invariant_of-self : goal.invariant_of-self
invariant_of-self c =
    let key = c.remove-key.ensures in
    let entry = c.remove.ensures in
    let less : count c.remove.new.self.lanes + 1 ≡ count c.self.inside.arena.lanes = subst (λ o. OnSome o (count c.remove.new.self.lanes + 1 ≡ count c.self.inside.arena.lanes)) c.unwrap.ensures entry.len in
    let left = removed c.self.invariant.0 c.self.view_is _ _ c.args.place c.remove-key.result c.requires key.value entry.lanes less key.rest in
    let its_key = key_at c.self.invariant.0 c.self.view_is c.args.place c.remove-key.result c.requires key.value in
    let was = read_at c.self.invariant.0 c.self.view_is c.args.place c.remove-key.result c.unwrap-entry.result.now c.requires key.value (sym c.get.ensures ∙ ap option_copied c.unwrap-entry.ensures) in
    let apart = distinct (entry_of c.self.inside.arena) c.self.inside.keys c.self.invariant.0.kept in
    let stand = standing c.self.invariant.0 c.self.view_is in (
      left.0,
      indexed_by key.rest (sym left.1) (c.forget.ensures c.self.inside.keys c.args.self.now c.args.place its_key was apart stand (indexed c.self.view_is c.self.invariant.1)),
      rising _ left.2 (rises_removed 0 _ c.args.place _ c.self.invariant.2),
    )

pub returns-clause-live : goal.returns-clause-live
returns-clause-live c =
    read_at c.self.invariant.0 c.self.view_is c.args.place c.remove-key.result c.unwrap.result c.requires c.remove-key.ensures.value (sym c.remove.ensures.value ∙ c.unwrap.ensures)

pub returns-clause-rest : goal.returns-clause-rest
returns-clause-rest c =
    let key = c.remove-key.ensures in
    let entry = c.remove.ensures in
    let less : count c.remove.new.self.lanes + 1 ≡ count c.self.inside.arena.lanes = subst (λ o. OnSome o (count c.remove.new.self.lanes + 1 ≡ count c.self.inside.arena.lanes)) c.unwrap.ensures entry.len in
    (removed c.self.invariant.0 c.self.view_is _ _ c.args.place c.remove-key.result c.requires key.value entry.lanes less key.rest).1
