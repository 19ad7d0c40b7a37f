-- How the words are read, by the library of command lines: `COMMAND`, which must be there, `NUMBER`, and options with
-- one value each, in any order.
use Rattle.std.specs.Prelude.{true, if◌then◌else◌, List, [], ◌∷◌, map, fold, codes, Option, Some, None}
use Rattle.clap.specs.Words.{App, Row, Rule, Text, new_app, new_rule, with_rule, fault_of, matches_of}
use Rattle.usb_base.specs.Lists.{is_empty}

abbrev pub option_named : Text → Rule
option_named name = record (new_rule name) { long = Some name }

abbrev pub program : App
program = let a = new_app (codes "usbgate") in record a { top = record a.top { no_binary_name = true } }

-- the names of the options
abbrev pub options : List Text
options = codes "device" ∷ codes "side" ∷ codes "host" ∷ codes "listen" ∷ codes "idle" ∷ codes "first-id" ∷ codes "after-loss" ∷ codes "record" ∷ []

abbrev pub command_line : App
command_line = fold with_rule program (record (new_rule (codes "command")) { required = true } ∷ new_rule (codes "number") ∷ map option_named options)

-- what is found in the words, or none where they are refused
abbrev pub found : List Text → Option (List Row)
found words = if is_empty (fault_of command_line words) then Some (matches_of command_line words) else None
