use Rattle.std.proofs.Common.{◌≡◌, ◌+◌, ◌-◌, cond, refl, arith}
use Rattle.std.specs.List.{zip}
use Rattle.unlink_race.specs.Searches.{changes}
use Rattle.unlink_race.proofs.Indexes.{index_removed, change_counted}
use Rattle.unlink_race.proofs.Zipped.{zip_at, distinct_zipped}
use Rattle.unlink_race.proofs.index.Index.forget.Goals as goal

pub take-requires : goal.take-requires
take-requires c =
    let r = c.requires in
    (zip r.0 r.1, r.2, r.5, r.6.seqnums, refl, zip_at r.0 r.1 r.2 c.args.key c.args.live.now r.3 r.4)

pub take_id-requires : goal.take_id-requires
take_id-requires c =
    let r = c.requires in
    (zip r.0 r.1, r.2, r.5, r.6.held, zip_at r.0 r.1 r.2 c.args.key c.args.live.now r.3 r.4)

pub overflow_sub-self : goal.overflow_sub-self
overflow_sub-self c =
    omega (arith, c.change_of.ensures, change_counted c.requires.6 c.requires.2 c.args.key c.args.live.now c.requires.3 c.requires.4)

pub returns : goal.returns
returns c =
    λ keys lives place key live apart stand indexed.
    let at = zip_at keys lives place c.args.key c.args.live.now key live in
    let apart_rows = distinct_zipped keys lives apart in
    let counted = change_counted indexed place c.args.key c.args.live.now key live in
    let fewer : (c.args.self.now.changes - c.change_of.result) + cond (changes c.args.live.now) 1 0 ≡ c.args.self.now.changes = omega (arith, c.change_of.ensures, counted) in
    index_removed indexed place c.args.key c.args.live.now key live _ (c.take.ensures (zip keys lives) place stand indexed.seqnums refl at apart_rows) (c.take_id.ensures (zip keys lives) place stand indexed.held at apart_rows) fewer
