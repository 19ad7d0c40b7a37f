use Rattle.std.proofs.Common.{◌≡◌, ◌++◌, drop, map, string_bytes}
use Rattle.usbgate_commands.specs.words.Words.{texts}
use Rattle.usbgate_cli.proofs.words_behind_the_name.Given as goal

abbrev pub invariant-loop-arg : goal.invariant-loop-arg
invariant-loop-arg l = texts l.words.items ++ map string_bytes (drop l.arg-index l.others) ≡ map string_bytes l.others
