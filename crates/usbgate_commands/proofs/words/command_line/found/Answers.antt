use Rattle.std.proofs.Common.{◌≡◌, ◌⊎◌, inl, inr, true, cond, List, [], ◌∷◌, Some, None, refl, sym, ap, ◌∙◌}
use Rattle.clap.specs.Words.{App, Row, Text, Kinds, IsAmong, fault_of, matches_of, is_simple, is_simple_and_free}
use Rattle.clap.specs.declared.error.ErrorKind.{ErrorKind}
use Rattle.clap.specs.declared.error.ErrorKind.TheVariants.{OutOfMemory}
use Rattle.usb_base.specs.Lists.{is_empty}
use Rattle.usbgate_commands.specs.words.CommandLine.{command_line, found}
use Rattle.usbgate_commands.specs.words.Words.{texts}
use Rattle.usbgate_commands.proofs.words.command_line.found.Goals as goal

simple : (line : App) → line ≡ command_line → is_simple line ≡ true
simple line e = ap is_simple e

free : (line : App) → line ≡ command_line → is_simple_and_free line ≡ true
free line e = ap is_simple_and_free e

accepted : (line : App) (words : List Text) (rows : List Row) → line ≡ command_line → fault_of line words ≡ [] → rows ≡ matches_of line words → Some rows ≡ found words
accepted line words rows e none is =
    ap (λ (x : List Row). Some x) (is ∙ ap (λ (a : App). matches_of a words) e)
    ∙ ap (λ (k : Kinds). cond (is_empty k) (Some (matches_of command_line words)) None) (sym none ∙ ap (λ (a : App). fault_of a words) e)

by_kinds : (k : ErrorKind) (kinds : Kinds) (rows : List Row) → (k ≡ OutOfMemory) ⊎ IsAmong k kinds → (k ≡ OutOfMemory → ⊥) → None ≡ cond (is_empty kinds) (Some rows) None
by_kinds k kinds rows (inl e) other = absurd (other e)
by_kinds k [] rows (inr among) other = absurd among
by_kinds k (x ∷ kinds) rows (inr among) other = refl

refused : (line : App) (words : List Text) (k : ErrorKind) → line ≡ command_line → (k ≡ OutOfMemory) ⊎ IsAmong k (fault_of line words) → (k ≡ OutOfMemory → ⊥) → None ≡ found words
refused line words k e has other = by_kinds k (fault_of line words) (matches_of command_line words) has other ∙ ap (λ (a : App). cond (is_empty (fault_of a words)) (Some (matches_of command_line words)) None) e

pub returns-in-Ok : goal.returns-in-Ok
returns-in-Ok c =
    let line = c.in_ok-command_line.ensures in
    accepted _ (texts c.args.words.now) _ line (c.in-Ok.ensures.kinds (free _ line)) (c.in-Ok.ensures.matches (simple _ line)).0

pub returns : goal.returns
returns c =
    let line = c.in_ok-command_line.ensures in
    refused _ (texts c.args.words.now) _ line (c.in-Err.ensures.kinds (free _ line)) (λ e. c.in_default.not-OutOfMemory (c.kind.ensures ∙ e))
