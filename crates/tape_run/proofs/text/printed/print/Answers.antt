use Rattle.tape_run.proofs.lemmas.runs.Unread.{wrote-text, wrote-front}
use Rattle.tape_run.proofs.text.printed.print.Goals as goal

pub returns-in-Ok-clause-leaves : goal.returns-in-Ok-clause-leaves
returns-in-Ok-clause-leaves g c = wrote-text g.K.Sink.write_gives g.K.Sink.contents c.args.status c.args.text.now c.args.out.now c.write_all.new.sink c.requires c.in-Ok.ensures.writes c.in-Ok.ensures.ok

pub returns-in-Err-clause-leaves : goal.returns-in-Err-clause-leaves
returns-in-Err-clause-leaves g c = wrote-front g.K.Sink.write_gives g.K.Sink.contents c.args.status c.args.text.now c.args.out.now c.write_all.new.sink c.in-Err.ensures.writes_front c.in-Err.ensures.err
