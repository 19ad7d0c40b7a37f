use Rattle.bridge_run.proofs.lemmas.written.Gather.{reached-few, sent-none, quiet-none, ended-waiting}
use Rattle.bridge_run.proofs.laws.few_lines_wait.Goals as goal

pub returns : goal.returns
returns c = record { few = reached-few; sent = sent-none; quiet = quiet-none; ends = ended-waiting }
