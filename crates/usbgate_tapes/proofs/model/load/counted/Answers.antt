use Rattle.usbgate_tapes.proofs.lemmas.model.Doing.{counts-loaded}
use Rattle.usbgate_tapes.proofs.lemmas.model.Simulated.{made-simulates}
use Rattle.usbgate_tapes.proofs.model.load.counted.Goals as goal

pub returns-clause-text : goal.returns-clause-text
returns-clause-text c =
    counts-loaded c.args.count c.in_ok-make.field-0 c.in_ok-system.system c.counts.result c.new-text.result c.push_counts.new.text c.in_ok-make.ensures c.read_again.ensures c.in_ok-system.ensures c.counts.ensures c.new-text.ensures
    c.in_ok-push_counts.ensures

pub returns-clause-simulates : goal.returns-clause-simulates
returns-clause-simulates c = made-simulates c.args.count c.in_ok-make.field-0 c.in_ok-system.system c.in_ok-make.ensures c.read_again.ensures c.systems_are_direct.ensures.simulates c.in_ok-system.ensures
