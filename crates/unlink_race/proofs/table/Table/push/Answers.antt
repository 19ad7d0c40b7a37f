use Rattle.std.proofs.Common.{◌≡◌, ◌++◌, ◌∷◌, [], ℕ, Some, refl, ap, sym, ◌∙◌, arith}
use Rattle.std.specs.List.{zip}
use Rattle.std.specs.Option.{option_copied}
use Rattle.unlink_race.specs.declared.live.Live.{Live}
use Rattle.unlink_race.proofs.Dealing.{sound_dealt, dealt_by, rises_by}
use Rattle.unlink_race.proofs.Rising.{rises_pushed}
use Rattle.unlink_race.proofs.Tables.{pushed, pushed_there, standing, long, indexed, indexed_by, rising}
use Rattle.unlink_race.proofs.Reading.{stand_front}
use Rattle.unlink_race.proofs.Zipped.{zip_pushed}
use Rattle.unlink_race.proofs.Told.{no_error, told_ok, lent}
use Rattle.unlink_race.proofs.table.Table.push.Goals as goal

pub push_back-pushed-requires : goal.push_back-pushed-requires
push_back-pushed-requires c =
    let dealt = sound_dealt (dealt_by c.deref.ensures c.next_rank-rank.ensures.dealt) c.self.invariant.0 in
    omega (arith, c.lane.ensures.bound, dealt.lanes)

pub unwrap-key-requires : goal.unwrap-key-requires
unwrap-key-requires c =
    let free = c.requires in
    let all = long c.self.invariant.0 c.self.view_is in
    let dealt = sound_dealt (dealt_by c.deref.ensures c.next_rank-rank.ensures.dealt) c.self.invariant.0 in
    c.ok.ensures.variant ∙ no_error _ c.push_back-pushed.result c.push_back-pushed.ensures.err (λ v told. (let full = told.1 in omega (arith, free, all, full, dealt.all, dealt.capacity)))

pub unwrap-entry-requires : goal.unwrap-entry-requires
unwrap-entry-requires c =
    let told = told_ok _ c.push_back-pushed.result c.unwrap-key.result (sym c.ok.ensures.value ∙ c.unwrap-key.ensures) c.push_back-pushed.ensures.ok in
    let dealt = dealt_by c.deref.ensures c.next_rank-rank.ensures.dealt in
    lent c.get.result _ (c.get.ensures ∙ pushed_there (sound_dealt dealt c.self.invariant.0) (dealt.lives ∙ c.self.view_is) _ _ _ _ c.args.live c.lane.ensures.bound told.1 told.2)

pub note-requires : goal.note-requires
note-requires c = (c.self.inside.keys, c.args.self.now, c.requires, indexed c.self.view_is c.self.invariant.1)

pub push-requires : goal.push-requires
push-requires c = let all = long c.self.invariant.0 c.self.view_is in omega (arith, c.requires, all)

pub invariant_of-self : goal.invariant_of-self
invariant_of-self c =
    let told = told_ok _ c.push_back-pushed.result c.unwrap-key.result (sym c.ok.ensures.value ∙ c.unwrap-key.ensures) c.push_back-pushed.ensures.ok in
    let rank = c.next_rank-rank.ensures in
    let dealt = dealt_by c.deref.ensures rank.dealt in
    let sound = sound_dealt dealt c.self.invariant.0 in
    let view = dealt.lives ∙ c.self.view_is in
    let there = pushed_there sound view _ _ _ _ c.args.live c.lane.ensures.bound told.1 told.2 in
    let whole = pushed sound view _ _ _ _ c.args.live c.lane.ensures.bound told.1 told.2 _ c.requires c.lane.ensures.value c.push.ensures in
    let early = pushed sound view _ _ _ _ c.args.live c.lane.ensures.bound told.1 told.2 _ c.requires c.lane.ensures.value refl in
    let all_stand = standing early.0 early.1 in
    let stand = stand_front c.push_back-pushed.new.self.lanes (zip c.self.inside.keys c.args.self.now) (c.unwrap-key.result, c.args.live) (rw (← zip_pushed c.self.inside.keys c.args.self.now c.unwrap-key.result c.args.live (sym (long c.self.invariant.0 c.self.view_is))) all_stand) in
    let same : Some c.unwrap-entry.result.now ≡ Some (c.next_rank-rank.result, c.args.live) = sym (ap option_copied c.unwrap-entry.ensures) ∙ c.get.ensures ∙ there in
    let one : c.unwrap-entry.result.now ≡ (c.next_rank-rank.result, c.args.live) = cc in (
      whole.0,
      indexed_by c.push.ensures (ap (λ (e : ℕ × Live). c.args.self.now ++ e.1 ∷ []) one ∙ sym whole.1) (c.note.ensures c.self.inside.keys c.args.self.now (indexed c.self.view_is c.self.invariant.1) stand),
      rising _ whole.2 (rises_pushed 0 _ _ (rises_by c.next_rank-rank.new.arena c.next_rank-rank.result c.deref.ensures rank.rises)),
    )

pub returns : goal.returns
returns c =
    let told = told_ok _ c.push_back-pushed.result c.unwrap-key.result (sym c.ok.ensures.value ∙ c.unwrap-key.ensures) c.push_back-pushed.ensures.ok in
    let dealt = dealt_by c.deref.ensures c.next_rank-rank.ensures.dealt in
    (pushed (sound_dealt dealt c.self.invariant.0) (dealt.lives ∙ c.self.view_is) _ _ _ _ c.args.live c.lane.ensures.bound told.1 told.2 _ c.requires c.lane.ensures.value c.push.ensures).1
