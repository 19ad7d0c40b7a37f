use Rattle.std.proofs.Common.{◌==◌, drop, length, ap, sym, ◌∙◌, arith}
use Rattle.std.specs.List.{position}
use Rattle.unlink_race.proofs.Ordered.{from_place}
use Rattle.unlink_race.proofs.Reading.{key_there, place_in, order_left}
use Rattle.unlink_race.proofs.by_number.take.Goals as goal

pub unwrap-requires : goal.unwrap-requires
unwrap-requires c =
    let from = from_place c.deref-2.result.now c.start_of-start.result ∙ ap (λ ks. drop c.start_of-start.result ks) c.deref-2.ensures in
    rw (c.place_of-behind.ensures, from) (key_there c.requires.3 c.args.arena.now.lanes c.requires.2 c.requires.1 c.args.key c.args.live.now c.requires.5 c.requires.4 c.start_of-start.result c.of.result c.of.ensures (omega (arith, c.start_of-start.ensures.bound, ap length c.deref.ensures)) (λ pairs keys. c.start_of-start.ensures.before pairs (c.deref.ensures ∙ keys)))

pub remove-requires : goal.remove-requires
remove-requires c =
    let from = from_place c.deref-2.result.now c.start_of-start.result ∙ ap (λ ks. drop c.start_of-start.result ks) c.deref-2.ensures in
    place_in c.requires.3 c.args.arena.now.lanes c.requires.2 c.requires.1 c.args.key c.args.live.now c.requires.5 c.requires.4 c.start_of-start.result c.of.result c.of.ensures (omega (arith, c.start_of-start.ensures.bound, ap length c.deref.ensures)) (λ pairs keys. c.start_of-start.ensures.before pairs (c.deref.ensures ∙ keys)) c.unwrap.result (sym (ap (position (λ k. k == c.args.key)) from) ∙ sym c.place_of-behind.ensures ∙ c.unwrap.ensures)

pub returns : goal.returns
returns c =
    λ requests place stand order found at apart.
    let from = from_place c.deref-2.result.now c.start_of-start.result ∙ ap (λ ks. drop c.start_of-start.result ks) c.deref-2.ensures in
    rw c.remove.ensures.rest (order_left order c.args.arena.now.lanes stand place c.args.key c.args.live.now at found c.start_of-start.result c.of.result c.of.ensures (omega (arith, c.start_of-start.ensures.bound, ap length c.deref.ensures)) (λ pairs keys. c.start_of-start.ensures.before pairs (c.deref.ensures ∙ keys)) c.unwrap.result (sym (ap (position (λ k. k == c.args.key)) from) ∙ sym c.place_of-behind.ensures ∙ c.unwrap.ensures) apart)
