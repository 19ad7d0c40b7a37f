use Rattle.std.proofs.Common.{rules, tests, ◌∙◌}
use Rattle.std.specs.Str.{bytes_eq}
use Rattle.std.proofs.lemmas.Iterator.{YieldsList-from_slice}
use Rattle.std.proofs.lemmas.Iterator.Search.{find_from_yields_List}
use Rattle.usbgate_commands.specs.declared.words.command_table.CommandRow.{CommandRow}
use Rattle.usbgate_commands.specs.declared.words.command_table.TheConstants.{ROWS}
use Rattle.usbgate_commands.specs.words.Words.{name_of}
use Rattle.usbgate_commands.proofs.words.command_table.CommandRow.named.Goals as goal

pub returns : goal.returns
returns c =
    c.copied.ensures
    ∙ find_from_yields_List (λ (row : CommandRow). bytes_eq (name_of row.verb) c.args.name.now) _ _ c.find.result c.find.ensures.ran (YieldsList-from_slice ROWS cc) (λ x b q k. search (rules, tests))
