use Rattle.std.proofs.Common.{◌∙◌, sym, ap}
use Rattle.std.specs.Option.{option_copied}
use Rattle.unlink_race.specs.Searches.{has_id}
use Rattle.gate_core.specs.inner.state.Holds.{IsRow}
use Rattle.gate_parts.specs.host.Responses.{response_view}
use Rattle.gate_core.proofs.lemmas.state.Held.{live-taken, left-taken, without-one, each-at}
use Rattle.gate_core.proofs.lemmas.host.Answer.{does-live, live-gives, does-late}
use Rattle.gate_core.proofs.lemmas.write.InTurn.{on-err}
use Rattle.gate_core.proofs.state.kept.Kept.complete.Goals as goal

pub returns-in_default-clause-ok : goal.returns-in_default-clause-ok
returns-in_default-clause-ok c st id is h sound =
    let k = c.requires.kept in
    let taken = left-taken (has_id id) c.args.self.now.lives c.args.at is (sym c.at.ensures ∙ ap option_copied c.in_default.is) in
    does-late st id (response_view c.args.response) sound c.args.self.now c.finish_at.new.self c.args.out.now h k.answered_fits k.unlinked_fits k.dropped_fits
    taken.0 (c.finish_at.ensures.rest ∙ taken.1)

pub write_completed-requires-clause-packets : goal.write_completed-requires-clause-packets
write_completed-requires-clause-packets c =
    let old = c.args.self.now in
    (each-at (IsRow old.sides.agreed) old.lives.live c.args.at c.in-Some.live.now c.requires.kept.rows (sym c.at.ensures ∙ ap option_copied c.in-Some.is)).fine.packets

pub write_completed-requires-clause-read : goal.write_completed-requires-clause-read
write_completed-requires-clause-read c =
    let old = c.args.self.now in
    (each-at (IsRow old.sides.agreed) old.lives.live c.args.at c.in-Some.live.now c.requires.kept.rows (sym c.at.ensures ∙ ap option_copied c.in-Some.is)).fine.read

pub count-requires : goal.count-requires
count-requires c =
    let k = c.requires.kept in
    record { kept = without-one c.args.self.now c.args.at c.finish_at-2.new.self c.args.self.now.answered c.args.self.now.unlinked k c.finish_at-2.ensures.rest k.answered_fits k.unlinked_fits }

pub returns-clause-ok : goal.returns-clause-ok
returns-clause-ok c st id is h sound =
    let old = c.args.self.now in
    let k = c.requires.kept in
    let taken = live-taken (has_id id) old.lives c.args.at is c.in-Some.live.now (sym c.at.ensures ∙ ap option_copied c.in-Some.is) in
    rw c.count.ensures.counted
    (does-live st id (response_view c.args.response) sound old c.finish_at-2.new.self c.in-Some.live.now c.in_ok-ending.ending c.args.out.now c.write_completed.new.out
    h k.answered_fits k.unlinked_fits k.dropped_fits taken.0 (c.finish_at-2.ensures.rest ∙ taken.1)
    c.in_ok-ending.ensures.ok c.in_ok-ending.ensures.counted)

pub returns-in_default-clause-kept : goal.returns-in_default-clause-kept
returns-in_default-clause-kept c =
    let k = c.requires.kept in
    without-one c.args.self.now c.args.at c.finish_at.new.self c.args.self.now.answered c.args.self.now.unlinked k c.finish_at.ensures.rest k.answered_fits k.unlinked_fits

pub returns-in_err-ending-clause-wants : goal.returns-in_err-ending-clause-wants
returns-in_err-ending-clause-wants c st id is h sound =
    let taken = live-taken (has_id id) c.args.self.now.lives c.args.at is c.in-Some.live.now (sym c.at.ensures ∙ ap option_copied c.in-Some.is) in
    on-err c.from_residual.result _ (live-gives st id (response_view c.args.response) sound c.args.self.now c.in-Some.live.now h taken.0)
