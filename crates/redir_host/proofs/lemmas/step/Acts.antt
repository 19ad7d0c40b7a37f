-- One act more is its items, one after another.
use Rattle.std.proofs.Common.{◌≡◌, List, ◌∷◌, ◌++◌, sym, ap, ◌∙◌, append_assoc, fold}
use Rattle.model_device.specs.Meaning.{Meaning}
use Rattle.redir_host.specs.step.Acts.{Act}
use Rattle.redir_host.specs.step.History.{brought, history}
use Rattle.redir_host.specs.step.Machine.{first_host, move, step, bytes_of, all_given, given_by}
use Rattle.redir_host.specs.step.Moves.{Move}
use Rattle.packet_stream.proofs.Outputs.{fold-onto, outputs-onto}
use Rattle.redir_host.specs.write.Output.{hello_bytes, host_of, host_out, act_bytes}

pub act-host : {S : Type 0} (m : Meaning S) (s : S) (acts : List Act) (a : Act) → host_of m s (a ∷ acts) ≡ fold (step m) (host_of m s acts) (brought acts a)
act-host m s acts a = fold-onto (step m) (first_host s) (brought acts a) (history acts)

pub act-gives : {S A : Type 0} (gives : Move S → List A) (m : Meaning S) (s : S) (acts : List Act) (a : Act) →
    all_given gives m s (history (a ∷ acts)) ≡ all_given gives m s (history acts) ++ given_by gives m (host_of m s acts) (brought acts a)
act-gives gives m s acts a = outputs-onto (step m) (λ h x. gives (move m h x)) (first_host s) (brought acts a) (history acts)

pub act-out : {S : Type 0} (m : Meaning S) (s : S) (acts : List Act) (a : Act) → host_out m s (a ∷ acts) ≡ host_out m s acts ++ act_bytes m s acts a
act-out m s acts a =
    ap (λ bs. hello_bytes ++ bs) (act-gives bytes_of m s acts a)
    ∙ sym (append_assoc hello_bytes (all_given bytes_of m s (history acts)) (act_bytes m s acts a))
