use Rattle.std.proofs.Common.{List, ◌∷◌, ◌+◌, ◌∙◌, not, [], drop, refl, sym, ap}
use Rattle.std.specs.List.{flat_map}
use Rattle.std.proofs.lemmas.List.{drop_more}
use Rattle.usb_base.specs.Lists.{is_empty}
use Rattle.redir_host.specs.declared.write.note.HostNote.{HostNote}
use Rattle.bridge_serve.specs.served.Lent.{refusal_in}
use Rattle.bridge_serve.proofs.lemmas.served.NonEmpty.{any-made-at}
use Rattle.bridge_serve.proofs.lemmas.served.Halts.{err-all}
use Rattle.bridge_serve.proofs.served.lent.push_refusals.Goals as goal

pub returns-in_err-push-clause-wants : goal.returns-in_err-push-clause-wants
returns-in_err-push-clause-wants c =
    let xs = c.as_slice-note-items.result.now in
    let i = c.loop-note.note-index in
    err-all c.from_residual.result _
    (ap (λ (l : List HostNote). not (is_empty (flat_map refusal_in l))) (sym c.as_slice-note-items.ensures)
    ∙ any-made-at refusal_in xs i _ (drop (i + 1) xs) _ [] (drop_more xs i _ c.loop-note-test.true ∙ ap (λ (n : HostNote). n ∷ drop (i + 1) xs) c.in-Refused.is) refl)
