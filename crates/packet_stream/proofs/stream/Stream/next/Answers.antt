use Rattle.std.proofs.Common.{◌≡◌, ◌<◌, ◌++◌, [], length, sym, refl, ap, ◌∙◌, drop, arith}
use Rattle.std.proofs.lemmas.List.{append-nil}
use Rattle.packet_stream.specs.Format.{Wrong, reading}
use Rattle.packet_stream.specs.Split.{reads}
use Rattle.packet_stream.specs.Streams.{StreamView}
use Rattle.packet_stream.proofs.Laws.{reads_steady}
use Rattle.packet_stream.proofs.Following.{follows-whole, follows-short, follows-wrong, follows-wants, shorter}
use Rattle.packet_stream.proofs.stream.Stream.next.Goals as goal

pub returns-in-Ok-Whole-clause-follows : goal.returns-in-Ok-Whole-clause-follows
returns-in-Ok-Whole-clause-follows g c start bytes given f =
    let own = c.self.inside in
    let w = c.in-Ok-Whole in
    let last = c.given_from.ensures in
    follows-whole (reads g.F.PacketFormat.format g.F.PacketFormat.after) (reads_steady g.F.PacketFormat.format g.F.PacketFormat.after g.met.F.PacketFormat.sound) start _ c.args.self.now _ bytes given w.packet w.len _ c.self.view_is c.if-self.false
    (rw w.field-0-is at w.ensures.exact)
    (λ t. record { state = c.next.ensures t; rest = (rw w.field-0-is at w.ensures.left) t; place = c.saturating_add-self-inside.ensures t; held = last.bytes t; at = last.place t; over = c.if-self.false t }) last.place f

pub returns-in-Ok-Whole-clause-changes : goal.returns-in-Ok-Whole-clause-changes
returns-in-Ok-Whole-clause-changes g c =
    let own = c.self.inside in
    let w = c.in-Ok-Whole in
    let whole = rw w.field-0-is at w.ensures.exact in
    let steady = reads_steady g.F.PacketFormat.format g.F.PacketFormat.after g.met.F.PacketFormat.sound in
    let some = steady.some own.state own.bytes w.packet w.len whole in
    let there = steady.there own.state own.bytes w.packet w.len whole in
    let left : c.take.new.bytes ≡ drop w.len own.bytes = rw w.field-0-is at w.ensures.left in
    let less : length c.take.new.bytes < length own.bytes = omega (arith, ap length left, shorter w.len own.bytes some there) in
    let given = c.given_from.ensures in
    let old : ◌≡◌ {A = StreamView g.row.F-State.Denot} c.args.self.now (record { state = own.state; rest = own.bytes; place = own.place; held = own.given.bytes.value; at = own.given.place; over = own.over }) = sym c.self.view_is in
    rw old (less, c.if-self.false, c.if-self.false, given.bytes, given.place, given.place)

pub returns-in-Ok-Short-clause-follows : goal.returns-in-Ok-Short-clause-follows
returns-in-Ok-Short-clause-follows g c start bytes given f runs =
    let own = c.self.inside in
    let w = c.in-Ok-Short in
    follows-short (reads g.F.PacketFormat.format g.F.PacketFormat.after) (reads_steady g.F.PacketFormat.format g.F.PacketFormat.after g.met.F.PacketFormat.sound) start _ c.args.self.now _ bytes given c.self.view_is c.if-self.false
    (rw w.field-0-is at w.ensures.exact)
    (λ t. record { state = own.state; rest = (rw w.field-0-is at w.ensures.left) t; place = own.place; held = c.given_from.ensures.bytes t; at = c.given_from.ensures.place t; over = own.over }) f

pub returns-in-Err-Refused-clause-follows : goal.returns-in-Err-Refused-clause-follows
returns-in-Err-Refused-clause-follows g c start bytes given f =
    let own = c.self.inside in
    let w = c.in-Err-Refused in
    follows-wrong (reads g.F.PacketFormat.format g.F.PacketFormat.after) (reads_steady g.F.PacketFormat.format g.F.PacketFormat.after g.met.F.PacketFormat.sound) start _ c.args.self.now bytes given _ c.saturating_add-place.result _ c.self.view_is c.if-self.false
    ((rw w.field-0-is at w.ensures.exact) ∙ sym (λ t. Wrong (w.place-is t) (w.reason-is t))) c.saturating_add-place.ensures f

pub returns-in-Err-Memory-clause-follows : goal.returns-in-Err-Memory-clause-follows
returns-in-Err-Memory-clause-follows g c start bytes given f =
    let own = c.self.inside in
    follows-wants (reads g.F.PacketFormat.format g.F.PacketFormat.after) (reads_steady g.F.PacketFormat.format g.F.PacketFormat.after g.met.F.PacketFormat.sound) g.F.PacketFormat.takes_memory start _ c.args.self.now bytes given (reading (g.F.PacketFormat.format own.state) own.bytes) c.self.view_is c.if-self.false refl
    (rw c.in-Err-Memory.field-0-is at c.in-Err-Memory.ensures.exact) f

pub returns-then-len-self-clause-follows : goal.returns-then-len-self-clause-follows
returns-then-len-self-clause-follows g c start bytes given f runs =
    let own = c.self.inside in
    let none = append-nil own.bytes in
    let less : length (own.bytes ++ []) < own.awaited = omega (arith, c.if-len-self.true, c.len.ensures, ap length none) in
    follows-short (reads g.F.PacketFormat.format g.F.PacketFormat.after) (reads_steady g.F.PacketFormat.format g.F.PacketFormat.after g.met.F.PacketFormat.sound) start _ c.args.self.now _ bytes given c.self.view_is c.if-self.false
    (ap (reading (g.F.PacketFormat.format own.state)) (sym none) ∙ c.self.invariant.2 [] less)
    (λ t. record { state = own.state; rest = own.bytes; place = own.place; held = c.given_from.ensures.bytes t; at = c.given_from.ensures.place t; over = own.over }) f
