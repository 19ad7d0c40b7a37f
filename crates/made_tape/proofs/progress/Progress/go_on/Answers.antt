use Rattle.std.proofs.Common.{◌≡◌, [], length, sym, ◌∙◌}
use Rattle.std.proofs.lemmas.Bool.{eqb-true}
use Rattle.std.proofs.lemmas.List.{nil_from_length}
use Rattle.made_tape.proofs.Rounds.{goes-on, some-tasks}
use Rattle.made_tape.proofs.progress.Progress.go_on.Goals as goal

pub returns-then-self-clause-same : goal.returns-then-self-clause-same
returns-then-self-clause-same c =
    let none : c.args.self.now.tasks.now ≡ [] = nil_from_length c.args.self.now.tasks.now (eqb-true (length c.args.self.now.tasks.now) 0 (sym c.is_empty.ensures ∙ c.if-is_empty.true)) in
    goes-on c.args.self.now.tasks.now c.tasks-self.result.now c.args.self.now.round c.args.self.now.number c.next_number-self.result c.args.self.now.count none c.if-self.true c.next_number-self.ensures c.tasks-self.ensures

pub returns-then-self-clause-done : goal.returns-then-self-clause-done
returns-then-self-clause-done c = λ none. some-tasks c.tasks-self.result.now c.next_number-self.result c.tasks-self.ensures none
