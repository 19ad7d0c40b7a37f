use Rattle.std.specs.List.{zip}
use Rattle.unlink_race.proofs.index.Index.first.Goals as goal

pub returns-in-Seqnum : goal.returns-in-Seqnum
returns-in-Seqnum c = λ keys lives indexed stand. rw c.in-Seqnum.is (c.first.ensures (zip keys lives) stand (rw c.deref.ensures indexed.seqnums))

pub returns-in-Id : goal.returns-in-Id
returns-in-Id c = λ keys lives indexed stand. rw c.in-Id.is (c.first-in-Id.ensures (zip keys lives) stand (rw c.deref-in-Id.ensures indexed.held))
