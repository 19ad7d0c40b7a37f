use Rattle.std.proofs.Common.{refl, inl, rules}
use Rattle.usbgate_commands.proofs.lemmas.links.Logs.{untold}
use Rattle.usbgate_commands.proofs.links.serve.serve.Goals as goal

pub returns-in-Err-clause-serves : goal.returns-in-Err-clause-serves
returns-in-Err-clause-serves g c = record {
  by_log = inl (record { recording = search rules; doors = refl; told = untold g.K.Sink.write_gives c.args.out.now });
  where_told = search rules;
}
