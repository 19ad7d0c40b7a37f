use Rattle.std.proofs.Common.{true, false, length, ap, sym, ◌∙◌}
use Rattle.std.specs.Ordering.{is_eq}
use Rattle.std.proofs.lemmas.Bool.{ltb-true, ltb-false}
use Rattle.unlink_race.proofs.Reading.{first_key, no_key}
use Rattle.unlink_race.proofs.by_number.first.Goals as goal

pub returns-in_err-key : goal.returns-in_err-key
returns-in_err-key c = λ requests stand o. c.from_residual.ensures ∙ no_key o c.args.arena.now.lanes stand c.place_before.result c.args.number c.place_before.ensures.parted (ltb-false c.place_before.result (length c.args.keys.now) (sym c.in_err-key.ensures.lookup.0))

pub returns-then-is_eq : goal.returns-then-is_eq
returns-then-is_eq c =
    λ requests stand o.
    first_key o c.args.arena.now.lanes stand c.place_before.result c.args.number c.place_before.ensures.parted c.in_ok-key.field-0.now true (ltb-true c.place_before.result (length c.args.keys.now) (sym c.in_ok-key.ensures.lookup.0)) c.in_ok-key.ensures.lookup.1 (ap is_eq (sym c.compared.ensures) ∙ sym c.is_eq.ensures ∙ c.if-is_eq.true)

pub returns-else-is_eq : goal.returns-else-is_eq
returns-else-is_eq c =
    λ requests stand o.
    first_key o c.args.arena.now.lanes stand c.place_before.result c.args.number c.place_before.ensures.parted c.in_ok-key.field-0.now false (ltb-true c.place_before.result (length c.args.keys.now) (sym c.in_ok-key.ensures.lookup.0)) c.in_ok-key.ensures.lookup.1 (ap is_eq (sym c.compared.ensures) ∙ sym c.is_eq.ensures ∙ c.if-is_eq.false)
