use Rattle.std.proofs.Common.{◌≡◌, ℕ, rules, tests, ◌∷◌, ◌∙◌, List, [], Bool, Option, Some, None, is_some, ap}
use Rattle.std.specs.Borrow.{Bor}
use Rattle.std.specs.List.{list_all}
use Rattle.std.proofs.lemmas.Iterator.{YieldsList-from_slice}
use Rattle.std.proofs.lemmas.Iterator.Search.{all_from_yields_List}
use Rattle.usbgate_commands.specs.declared.words.given.Given.{Given}
use Rattle.usbgate_commands.specs.declared.words.command_table.Need.{Need}
use Rattle.usbgate_commands.specs.declared.words.command_table.CommandRow.{CommandRow}
use Rattle.usbgate_commands.specs.words.Words.{admits, is_met}
use Rattle.usbgate_commands.specs.inner.Given.{text_of, IsGiven}
use Rattle.usbgate_commands.proofs.words.command_table.CommandRow.is_met.Goals as goal

abbrev Word : Type 0
Word = Need × Option (Bor (List ℕ))

abbrev words_of : CommandRow → Given → List Word
words_of row g =
    (row.number, g.number) ∷ (row.device, g.device) ∷ (row.side, g.side) ∷ (row.host, g.host) ∷ (row.listen, g.listen) ∷ (row.idle, g.idle) ∷ (row.first_id, g.first_id) ∷ (row.after_loss, g.after_loss) ∷ (row.recording, g.recording) ∷ []

abbrev passes : Word → Bool
passes word = admits word.0 (is_some word.1)

given-some : (word : Option (Bor (List ℕ))) (text : Option (List ℕ)) → text_of word ≡ text → is_some word ≡ is_some text
given-some None text e = ap is_some e
given-some (Some w) text e = ap is_some e

met : (row : CommandRow) (g : Given) (given : List ℕ → Option (List ℕ)) → IsGiven g given → list_all passes (words_of row g) ≡ is_met row given
met row g given h =
    let number = given-some g.number _ h.number in
    let device = given-some g.device _ h.device in
    let side = given-some g.side _ h.side in
    let host = given-some g.host _ h.host in
    let listen = given-some g.listen _ h.listen in
    let idle = given-some g.idle _ h.idle in
    let first_id = given-some g.first_id _ h.first_id in
    let after_loss = given-some g.after_loss _ h.after_loss in
    let recording = given-some g.recording _ h.recording in cc

pub returns : goal.returns
returns c = λ given h.
    all_from_yields_List passes _ _ c.all.result c.all.ensures.ran (YieldsList-from_slice (words_of c.args.self.now c.args.given.now) cc) (λ x b q k. search (rules, tests))
    ∙ met c.args.self.now c.args.given.now given h
