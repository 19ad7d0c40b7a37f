use Rattle.std.proofs.Common.{◌≡◌, get_or, sym, refl, ◌∙◌, Some}
use Rattle.unlink_race.specs.Unlinking.{unlinked_by}
use Rattle.unlink_race.proofs.Tables.{found_at, read_at, changed, indexed, rising}
use Rattle.unlink_race.proofs.Indexes.{index_changed}
use Rattle.unlink_race.proofs.table.Table.mark.Goals as goal

pub mark-requires : goal.mark-requires
mark-requires c =
    let key = c.index-deref-place.result in
    let read : key ≡ get_or c.self.inside.keys c.args.place key = rw (← c.deref.ensures) c.index-deref-place.is in
    found_at c.self.invariant.0 c.self.view_is c.args.place key c.requires read

pub invariant_of-self : goal.invariant_of-self
invariant_of-self c =
    let key = c.index-deref-place.result in
    let read : key ≡ get_or c.self.inside.keys c.args.place key = rw (← c.deref.ensures) c.index-deref-place.is in
    let found = found_at c.self.invariant.0 c.self.view_is c.args.place key c.requires read in
    let marked = unlinked_by c.args.by found.0.1 in
    let made = changed c.self.invariant.0 c.self.view_is c.mark.new.arena c.args.place key found.0 marked c.requires read found.1 (c.mark.ensures found.0 found.1) refl in
    let was = read_at c.self.invariant.0 c.self.view_is c.args.place key found.0 c.requires read found.1 in (
      made.0,
      indexed (sym made.1) (index_changed (indexed c.self.view_is c.self.invariant.1) c.args.place found.0.1 marked was refl refl refl),
      rising _ made.2 c.self.invariant.2,
    )

pub returns : goal.returns
returns c =
    λ live is.
    let key = c.index-deref-place.result in
    let read : key ≡ get_or c.self.inside.keys c.args.place key = rw (← c.deref.ensures) c.index-deref-place.is in
    let found = found_at c.self.invariant.0 c.self.view_is c.args.place key c.requires read in
    let was = read_at c.self.invariant.0 c.self.view_is c.args.place key found.0 c.requires read found.1 in
    let same : Some live ≡ Some found.0.1 = sym is ∙ was in
    let one : live ≡ found.0.1 = cc in
    rw one (changed c.self.invariant.0 c.self.view_is c.mark.new.arena c.args.place key found.0 (unlinked_by c.args.by found.0.1) c.requires read found.1 (c.mark.ensures found.0 found.1) refl).1
