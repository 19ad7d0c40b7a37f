-- Where memory ran out as an event of a lent device was taken, and what of that had been sent to the guest by then.
use Rattle.std.specs.Prelude.{◌≡◌, ◌⊎◌, ℕ, if◌then◌else◌, List, [], ◌∷◌, ◌++◌, fold}
use Rattle.model_device.specs.Meaning.{Meaning}
use Rattle.redir_host.specs.step.Acts.{Act}
use Rattle.redir_host.specs.step.History.{brought}
use Rattle.redir_host.specs.step.Items.{Item}
use Rattle.redir_host.specs.step.Machine.{bytes_of, given_by, step}
use Rattle.redir_host.specs.step.Wants.{FirstWants, IsHeld}
use Rattle.redir_host.specs.write.Output.{host_of, host_out}
use Rattle.bridge_run.specs.events.Events.{PastLinkEvent}
use Rattle.bridge_serve.specs.served.Lent.{acts_of, acts_behind, has_come, lent_bytes}

-- behind these acts memory ran out within the next one: the first of its items were taken, and have sent this. Memory
-- was wanted to hold the bytes of a piece, or for the first of the items that are left
pub record ActStops {S : Type 0} (m : Meaning S) (s : S) (acts : List Act) (a : Act) (sent : List ℕ) : Type 0 where
  pub taken : List Item
  pub later : List Item
  pub parts : brought acts a ≡ taken ++ later
  pub wanted : ((taken ≡ []) × IsHeld acts a) ⊎ FirstWants m (fold (step m) (host_of m s acts) taken) later
  pub sent-is : sent ≡ given_by bytes_of m (host_of m s acts) taken

-- of these acts, the latest first, some were done, and memory ran out within the next one, by when this had been sent
pub record ActsStop {S : Type 0} (m : Meaning S) (s : S) (past acts : List Act) (sent : List ℕ) : Type 0 where
  pub done : List Act
  pub next : Act
  pub later : List Act
  pub acts-are : acts ≡ later ++ (next ∷ done)
  pub part : List ℕ
  pub stops : ActStops m s done next part
  pub sent-is : host_out m s done ++ part ≡ host_out m s past ++ sent

-- the guest has been sent that once it has come, with what waited for it
pub record LentStops {S : Type 0} (m : Meaning S) (s : S) (events : List PastLinkEvent) (e : PastLinkEvent) (client host : List ℕ) : Type 0 where
  pub sent : List ℕ
  pub stops : ActsStop m s (acts_of m s events) (acts_behind m s (acts_of m s events) e) sent
  pub client-is : (if has_come (e ∷ events) then host_out m s (acts_of m s events) ++ sent else []) ≡ lent_bytes m s events ++ client
  pub host-is : host ≡ []
