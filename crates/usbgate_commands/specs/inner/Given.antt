-- What the code keeps of the words, tied to the definitions.
use Rattle.std.specs.Prelude.{◌≡◌, ℕ, List, Option, option_map, codes}
use Rattle.std.specs.Borrow.{Bor}
use Rattle.usbgate_commands.specs.declared.words.given.Given.{Given}

abbrev pub text_of : Option (Bor (List ℕ)) → Option (List ℕ)
text_of word = option_map (λ (w : Bor (List ℕ)). w.now) word

-- these are the values that the words give
pub record IsGiven (g : Given) (given : List ℕ → Option (List ℕ)) : Type 0 where
  pub command : text_of g.command ≡ given (codes "command")
  pub number : text_of g.number ≡ given (codes "number")
  pub device : text_of g.device ≡ given (codes "device")
  pub side : text_of g.side ≡ given (codes "side")
  pub host : text_of g.host ≡ given (codes "host")
  pub listen : text_of g.listen ≡ given (codes "listen")
  pub idle : text_of g.idle ≡ given (codes "idle")
  pub first_id : text_of g.first_id ≡ given (codes "first-id")
  pub after_loss : text_of g.after_loss ≡ given (codes "after-loss")
  pub recording : text_of g.recording ≡ given (codes "record")
