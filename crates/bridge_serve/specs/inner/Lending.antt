-- What acts make of a lent device's host and of its output, and what is kept of the events.
use Rattle.std.specs.Prelude.{◌≡◌, ◌⊎◌, ℕ, not, true, if◌then◌else◌, List, [], ◌++◌}
use Rattle.usb_base.specs.declared.refusal.Refusal.{Refusal}
use Rattle.usb_base.specs.Lists.{is_empty}
use Rattle.model_device.specs.Meaning.{Meaning}
use Rattle.redir_host.specs.state.Kept.{HostKept as Core}
use Rattle.redir_host.specs.step.Acts.{Act}
use Rattle.redir_host.specs.step.Acts as act
use Rattle.redir_host.specs.write.Output.{host_out}
use Rattle.redir_host.specs.step.Stands.{HostStands}
use Rattle.bridge_serve.specs.declared.served.lent.Lent.{Lent}
use Rattle.bridge_serve.specs.declared.served.lent.Use.{Use}
use Rattle.bridge_serve.specs.declared.served.lent.Use.TheVariants.{Perform, Offer}
use Rattle.bridge_run.specs.events.Events.{PastLinkEvent}
use Rattle.bridge_serve.specs.served.Lent.{acts_of, has_come}
use Rattle.bridge_serve.specs.served.LentStops.{ActsStop}

abbrev pub act_of : Use → ℕ → Act
act_of Perform ep = act.Perform ep
act_of Offer ep = act.Offer ep

-- the core stands for these acts, and the output gained what they sent that those before them hadn't
pub record Acts {S : Type 0} (m : Meaning S) (s : S) (new : Core S) (past acts : List Act) (old_out new_out : List ℕ) : Type 0 where
  pub given : List ℕ
  pub stands : HostStands m s new acts
  pub sends : host_out m s acts ≡ host_out m s past ++ given
  pub sent : new_out ≡ old_out ++ given

-- of the acts, which begin with those of the past, some were done, and memory ran out within the next one
pub record StopsIn {S : Type 0} (m : Meaning S) (s : S) (past acts : List Act) (old_out new_out : List ℕ) : Type 0 where
  pub given : List ℕ
  pub stops : ActsStop m s past acts given
  pub sent : new_out ≡ old_out ++ given

-- all of them were done, and what they refuse couldn't be told
pub record StopsBehind {S : Type 0} (m : Meaning S) (s : S) (past acts : List Act) (refusals : List Refusal) (old_out new_out : List ℕ) : Type 0 where
  pub given : List ℕ
  pub sends : host_out m s acts ≡ host_out m s past ++ given
  pub sent : new_out ≡ old_out ++ given
  pub refuses : not (is_empty refusals) ≡ true

abbrev pub Halts : {S : Type 0} → Meaning S → S → List Act → List Act → List Refusal → List ℕ → List ℕ → Type 0
Halts m s past acts refusals old_out new_out = StopsIn m s past acts old_out new_out ⊎ StopsBehind m s past acts refusals old_out new_out

-- the core stands for the acts of these events, and what it has sent waits until the guest comes
pub record IsLent {S : Type 0} (m : Meaning S) (s : S) (lent : Lent S) (events : List PastLinkEvent) : Type 0 where
  pub stands : HostStands m s lent.core (acts_of m s events)
  pub came : lent.has_come ≡ has_come events
  pub waiting : lent.waiting ≡ (if has_come events then [] else host_out m s (acts_of m s events))
