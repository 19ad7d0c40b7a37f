use Rattle.std.proofs.Common.{◌∙◌, ap, sym, List, Option, option_map, option_and_then, unwrap_or}
use Rattle.clap.specs.Words.{Row, found_of, rows_of, first_of}
use Rattle.clap.specs.declared.parser.matches.ArgMatches.{ArgMatches}
use Rattle.usbgate_commands.specs.declared.words.command.Command.{Command}
use Rattle.usbgate_commands.specs.declared.words.command.Command.TheVariants.{Unknown}
use Rattle.usbgate_commands.specs.words.Words.{command_in}
use Rattle.usbgate_commands.proofs.words.command.Command.read.Goals as goal

abbrev rows : ArgMatches → List Row
rows m = rows_of (found_of m)

abbrev command_by : Option (List Row) → Command
command_by found = unwrap_or (option_and_then (λ it. command_in (λ name. first_of name it)) found) Unknown

pub returns-in-Some-clause-value : goal.returns-in-Some-clause-value
returns-in-Some-clause-value c =
    c.meant_by.ensures.value (λ name. first_of name (rows c.in-Some.matches)) c.of.ensures
    ∙ ap command_by (sym (ap (option_map rows) c.in-Some.is) ∙ c.in_ok-matches.ensures)
