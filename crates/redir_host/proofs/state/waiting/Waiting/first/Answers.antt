use Rattle.std.proofs.Common.{◌∙◌, ap, sym}
use Rattle.std.specs.Option.{option_copied}
use Rattle.redir_host.specs.state.Queues.{is_at}
use Rattle.redir_host.proofs.lemmas.state.Indexed.{first_at}
use Rattle.redir_host.proofs.lemmas.state.Keyed.{none_value, some_value}
use Rattle.redir_host.proofs.state.waiting.Waiting.first.Goals as goal

pub returns-in_err-key : goal.returns-in_err-key
returns-in_err-key c =
    let w = c.args.self.now in
    let place = c.place_of.ensures in
    let first = first_at w c.args.ep c.place_of.result c.index-self-place_of.result c.requires place.endpoint place.value place.in_range in
    ap option_copied c.from_residual.ensures ∙ sym (none_value (is_at c.args.ep) w.requests w.order.entries (sym first ∙ sym c.first.ensures ∙ c.in_err-key.was))

pub returns : goal.returns
returns c =
    let w = c.args.self.now in
    let place = c.place_of.ensures in
    let first = first_at w c.args.ep c.place_of.result c.index-self-place_of.result c.requires place.endpoint place.value place.in_range in
    c.get.ensures ∙ sym (some_value (is_at c.args.ep) w.requests w.order.entries (c.in_ok-key.field-0-0, c.in_ok-key.key) (sym first ∙ sym c.first.ensures ∙ c.in_ok-key.was))
