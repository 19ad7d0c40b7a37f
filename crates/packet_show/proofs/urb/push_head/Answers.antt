use Rattle.std.proofs.Common.{◌++◌, List, ℕ, ap, ◌∙◌}
use Rattle.packet_show.specs.Line.{decimal}
use Rattle.packet_show.proofs.Words.{one_word, then_words}
use Rattle.packet_show.proofs.urb.push_head.Goals as goal

pub returns : goal.returns
returns c =
    let old = c.args.out.now in
    let place = decimal c.args.place in
    let name = c.in_ok-push_begin.ensures ∙ ap (λ (word : List ℕ). old ++ (place ++ word)) (one_word _) in
    let head = then_words old place _ _ _ _ name c.in_ok-push_numbers.ensures in
    then_words old place _ _ _ _ head c.in_ok-push_numbers-2.ensures
