use Rattle.std.proofs.Common.{None, sym, ◌∙◌}
use Rattle.packet_show.proofs.Numbers.{is_number_of, none_begins, none_utf8, read_digits}
use Rattle.packet_show.proofs.number.read_number.Goals as goal

pub returns-then-not-begins_a_number-clause-value : goal.returns-then-not-begins_a_number-clause-value
returns-then-not-begins_a_number-clause-value c = is_number_of _ None (none_begins c.args.text.now (sym c.begins_a_number.ensures ∙ c.if-not-begins_a_number.true))

pub returns-then-not-begins_a_number-clause-exact : goal.returns-then-not-begins_a_number-clause-exact
returns-then-not-begins_a_number-clause-exact c = none_begins c.args.text.now (sym c.begins_a_number.ensures ∙ c.if-not-begins_a_number.true)

pub returns-in_default-clause-value : goal.returns-in_default-clause-value
returns-in_default-clause-value c = is_number_of _ None (none_utf8 c.args.text.now c.in_default.ensures.cases.0)

pub returns-in_default-clause-exact : goal.returns-in_default-clause-exact
returns-in_default-clause-exact c = none_utf8 c.args.text.now c.in_default.ensures.cases.0

pub returns-clause-value : goal.returns-clause-value
returns-clause-value c = is_number_of _ _ (read_digits c.args.text.now _ _ _ c.in-Ok.ensures.cases.0 c.parse.ensures.value.0 c.ok.ensures.value (sym c.begins_a_number.ensures ∙ c.if-not-begins_a_number.false))

pub returns-clause-exact : goal.returns-clause-exact
returns-clause-exact c = read_digits c.args.text.now _ _ _ c.in-Ok.ensures.cases.0 c.parse.ensures.value.0 c.ok.ensures.value (sym c.begins_a_number.ensures ∙ c.if-not-begins_a_number.false)
