-- What each command is to print that goes over a tape or over nothing, and how it is to end, where it meets no fault
-- and has memory.
use Rattle.std.specs.Prelude.{Option, Some, None}
use Rattle.usbgate_commands.specs.declared.words.command.Command.{Command}
use Rattle.usbgate_commands.specs.declared.words.command.Command.TheVariants.{Replay, Model, Show, Make, Load, Unknown}
use Rattle.tape_run.specs.Printout.{Printout, tape_printout, printed, usage}
use Rattle.tape_run.specs.tape.EventCommand.{over_events}
use Rattle.tape_run.specs.Replay.{replay}
use Rattle.tape_run.specs.model.Model.{model_of}
use Rattle.tape_run.specs.Show.{show}
use Rattle.tape_run.specs.model.Made.{made, loaded}

-- none where sockets are what it works on
abbrev pub printout_of : Command → Option Printout
printout_of (Replay first) = Some (tape_printout (over_events (replay first)))
printout_of (Model device) = Some (tape_printout (model_of device))
printout_of (Show side) = Some (tape_printout (over_events (show side)))
printout_of (Make count) = Some (printed (made count))
printout_of (Load count) = Some (printed (loaded count))
printout_of Unknown = Some usage
printout_of _ = None
