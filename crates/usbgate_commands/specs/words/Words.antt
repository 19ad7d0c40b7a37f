-- What the words ask for.
use Rattle.std.specs.Prelude.{ℕ, nat_le, ◌≤◌, ◌<◌, ◌^◌, not, Bool, true, if◌then◌else◌, List, [], ◌∷◌, map, zip, codes, find, Option, Some, None, is_some, option_map, option_and_then, unwrap_or}
use Rattle.std.specs.Borrow.{Bor}
use Rattle.std.specs.List.{list_all}
use Rattle.std.specs.Str.{bytes_eq}
use Rattle.clap.specs.Words.{Text, first_of}
use Rattle.packet_show.specs.Number.{number_of}
use Rattle.usb_base.specs.declared.side.Side.TheVariants.{Client, Host}
use Rattle.usbgate_commands.specs.declared.words.command.Command.{Command}
use Rattle.usbgate_commands.specs.declared.words.command.Command.TheVariants.{Replay, Model, Show, Serve, Host as HostLent, Make, Load, Unknown}
use Rattle.usbgate_commands.specs.declared.words.command_table.Need.{Need}
use Rattle.usbgate_commands.specs.declared.words.command_table.Need.TheVariants.{Must, May, MustNot}
use Rattle.usbgate_commands.specs.declared.words.command_table.Verb.{Verb}
use Rattle.usbgate_commands.specs.declared.words.command_table.Verb.TheVariants as verb
use Rattle.usbgate_commands.specs.declared.words.command_table.CommandRow.{CommandRow}
use Rattle.usbgate_commands.specs.declared.words.command_table.TheConstants.{ROWS}
use Rattle.usbgate_commands.specs.words.CommandLine.{options, found}
use Rattle.made_tape.specs.declared.made.TheConstants.{MOST_ROUNDS}
use Rattle.tape_run.specs.declared.model.device.Device.{Device}
use Rattle.tape_run.specs.model.Device.{named, device_of}
use Rattle.bridge_serve.specs.declared.served.after_loss.AfterLoss.{AfterLoss}
use Rattle.bridge_serve.specs.declared.served.after_loss.AfterLoss.TheVariants.{Keep, Close}
use Rattle.usbgate_commands.specs.words.Serving.{ServeSettings}
use Rattle.usbgate_commands.specs.words.Lending.{AskedLent}

-- the words as texts
abbrev pub texts : List (Bor (List ℕ)) → List (List ℕ)
texts words = map (λ (word : Bor (List ℕ)). word.now) words

-- ---- a command's row is met

abbrev pub admits : Need → Bool → Bool
admits Must given = given
admits May given = true
admits MustNot given = not given

-- whether the row admits what is given: of the number, and of each option in the order of `options`
abbrev pub is_met : CommandRow → (Text → Option Text) → Bool
is_met row given = list_all (λ (word : Need × Text). admits word.0 (is_some (given word.1))) (zip (row.number ∷ row.device ∷ row.side ∷ row.host ∷ row.listen ∷ row.idle ∷ row.first_id ∷ row.after_loss ∷ row.recording ∷ []) (codes "number" ∷ options))

abbrev pub name_of : Verb → Text
name_of verb.Replay = codes "replay"
name_of verb.Model = codes "model"
name_of verb.Show = codes "show"
name_of verb.Serve = codes "serve"
name_of verb.Host = codes "host"
name_of verb.Make = codes "make"
name_of verb.Load = codes "load"

abbrev pub row_named : Text → Option CommandRow
row_named name = find (λ row. bytes_eq (name_of row.verb) name) ROWS

-- ---- what the values say

-- without it the first id is 1
abbrev pub first_id_of : Option Text → Option ℕ
first_id_of text = unwrap_or (option_map number_of text) (Some 1)

-- without it the client is kept
abbrev pub after_loss_of : Option Text → Option AfterLoss
after_loss_of text = named ((codes "keep", Keep) ∷ (codes "close", Close) ∷ []) (unwrap_or text (codes "keep"))

abbrev pub serving_of : (host listen : Option Text) → (idle first_id : Option ℕ) → Option AfterLoss → (recording : Option Text) → Option ServeSettings
serving_of (Some host) (Some listen) (Some idle) (Some first_id) (Some after_loss) recording =
    Some (record { host = host; listen = listen; idle = idle; first_id = first_id; after_loss = after_loss; recording = recording })
serving_of _ _ _ _ _ recording = None

abbrev pub lending_of : Option Device → (listen : Option Text) → (idle : Option ℕ) → Option AskedLent
lending_of (Some device) (Some listen) (Some idle) = Some (record { device = device; listen = listen; idle = idle })
lending_of _ _ _ = None

-- how many rounds a made tape has
abbrev pub count_of : Option Text → Option ℕ
count_of text = option_and_then (λ n. if nat_le n MOST_ROUNDS then Some n else None) (option_and_then number_of text)

abbrev pub asked_by : Verb → (Text → Option Text) → Option Command
asked_by verb.Replay given = option_map Replay (first_id_of (given (codes "first-id")))
asked_by verb.Model given = option_map Model (option_and_then device_of (given (codes "device")))
asked_by verb.Show given = option_map Show (option_and_then (named ((codes "client", Client) ∷ (codes "host", Host) ∷ [])) (given (codes "side")))
asked_by verb.Serve given = option_map Serve (serving_of (given (codes "host")) (given (codes "listen")) (option_and_then number_of (given (codes "idle"))) (first_id_of (given (codes "first-id"))) (after_loss_of (given (codes "after-loss"))) (given (codes "record")))
asked_by verb.Host given = option_map HostLent (lending_of (option_and_then device_of (given (codes "device"))) (given (codes "listen")) (option_and_then number_of (given (codes "idle"))))
asked_by verb.Make given = option_map Make (count_of (given (codes "number")))
asked_by verb.Load given = option_map Load (count_of (given (codes "number")))

abbrev pub command_in : (Text → Option Text) → Option Command
command_in given = option_and_then (λ row. if is_met row given then asked_by row.verb given else None) (option_and_then row_named (given (codes "command")))

abbrev pub command_of : List Text → Command
command_of words = unwrap_or (option_and_then (λ rows. command_in (λ name. first_of name rows)) (found words)) Unknown

-- a first id isn't 0 and fits 32 bits, a number of idle rounds isn't 0, and a made tape's isn't more than there may be
-- rounds
abbrev pub HasNumbers : Command → Type 0
HasNumbers (Replay first) = (1 ≤ first) × (first < 2 ^ 32)
HasNumbers (Serve asked) = (1 ≤ asked.idle) × ((1 ≤ asked.first_id) × (asked.first_id < 2 ^ 32))
HasNumbers (HostLent asked) = 1 ≤ asked.idle
HasNumbers (Make count) = count ≤ MOST_ROUNDS
HasNumbers (Load count) = count ≤ MOST_ROUNDS
HasNumbers command = Unit {0}
