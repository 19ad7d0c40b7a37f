use Rattle.std.proofs.Common.{codes, ◌∙◌}
use Rattle.clap.specs.Words.{found_of}
use Rattle.clap.proofs.WalkLemmas.{first_value-rows}
use Rattle.usbgate_commands.proofs.words.given.Given.of.Goals as goal

pub returns : goal.returns
returns c =
    let found = found_of c.args.matches.now in
    record {
      command = c.get_str.ensures ∙ first_value-rows found (codes "command");
      number = c.get_str-2.ensures ∙ first_value-rows found (codes "number");
      device = c.get_str-3.ensures ∙ first_value-rows found (codes "device");
      side = c.get_str-4.ensures ∙ first_value-rows found (codes "side");
      host = c.get_str-5.ensures ∙ first_value-rows found (codes "host");
      listen = c.get_str-6.ensures ∙ first_value-rows found (codes "listen");
      idle = c.get_str-7.ensures ∙ first_value-rows found (codes "idle");
      first_id = c.get_str-8.ensures ∙ first_value-rows found (codes "first-id");
      after_loss = c.get_str-9.ensures ∙ first_value-rows found (codes "after-loss");
      recording = c.get_str-10.ensures ∙ first_value-rows found (codes "record");
    }
