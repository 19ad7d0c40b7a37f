use Rattle.std.proofs.Common.{Ok, Err, Some, refl, ap, ◌∙◌}
use Rattle.packet_stream.specs.declared.read.ReadError.TheVariants.{Refused}
use Rattle.packet_stream.specs.Takers.{TakenStream, taken_by}
use Rattle.packet_stream.proofs.Takers.{took-answer}
use Rattle.packet_stream.proofs.taker.take_next.Goals.{in-Ok-Some+in_ok-take-in-Ok-Some, in-Err-Refused+in_ok-refuse-in-Err-Refused}
use Rattle.packet_stream.proofs.taker.take_next.Goals as goal

pub take-requires : goal.take-requires
take-requires g c =
    let some = c.in-Ok-Some in
    c.requires c.next.new.self (some.place, some.packet) (rw some.field-0-is at some.ensures.changes) (rw some.field-0-is at some.ensures.follows)

pub returns-in-Ok-None : goal.returns-in-Ok-None
returns-in-Ok-None g c =
    let none = c.in-Ok-None in
    record { changes = rw none.field-0-is at none.ensures.changes; nexts = rw none.field-0-is at none.ensures.follows; taker = refl {a = c.args.taker.now} }

pub returns : goal.returns
returns g c =
    let f = g.F.PacketFormat in
    let t = g.T.PacketTaker in
    let k = taken_by f.format f.after f.takes_memory t.Takes t.over_in in
    let old : TakenStream _ _ = record { stream = c.args.stream.now; taker = c.args.taker.now } in
    elim c.match-next.branch [
      | in-Ok-Some+in_ok-take-in-Ok-Some w ↦ record {
        answered = c.next.new.self;
        took = took-answer k (Ok tt) old c.next.new.self c.match-next.taker c.next.result (Ok (Some (w.in-Ok-Some.place, w.in-Ok-Some.packet)))
            (w.in-Ok-Some.is ∙ ap (λ o. Ok o) w.in-Ok-Some.field-0-is) c.next.ensures.changes c.next.ensures.follows (rw w.taker-is w.in_ok-take-in-Ok-Some.ensures);
        stream = c.close.ensures;
      }
      | in-Err-Refused+in_ok-refuse-in-Err-Refused w ↦ record {
        answered = c.next.new.self;
        took = took-answer k (Ok tt) old c.next.new.self c.match-next.taker c.next.result (Err (Refused w.in-Err-Refused.place w.in-Err-Refused.reason))
            (w.in-Err-Refused.is ∙ ap (λ e. Err e) w.in-Err-Refused.field-0-is) c.next.ensures.changes c.next.ensures.follows (rw w.taker-is w.in_ok-refuse-in-Err-Refused.ensures);
        stream = c.close.ensures;
      }
    ]
