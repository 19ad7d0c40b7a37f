use Rattle.std.proofs.Common.{◌≡◌, ◌∙◌, [], None, ap, false, get_or, is_some, subst, sym, true, rules}
use Rattle.usb_base.specs.declared.endpoint.TheConstants.{ENDPOINTS}
use Rattle.redir_host.specs.inner.Waiting.{Differ, keys_at, place_of}
use Rattle.redir_host.proofs.lemmas.state.Keyed.{Held}
use Rattle.redir_host.proofs.lemmas.state.Numbered.{Below}
use Rattle.redir_host.proofs.lemmas.state.Places.{no_keys}
use Rattle.redir_host.proofs.state.waiting.Waiting.new.Goals as goal

pub returns-clause-indexed : goal.returns-clause-indexed
returns-clause-indexed c =
    let none = sym c.new-2.ensures.empty in
    record {
      ordered = c.new-2.ensures.ordered;
      below = subst (Below 0) none tt;
      room = search rules;
      differ = subst Differ none tt;
      held = subst (Held c.new.result) none tt;
      only = λ key is. let no : false ≡ true = sym (ap (λ l. is_some (get_or l key None)) c.new.ensures.empty) ∙ is in absurd cc;
      places = c.from_fn.ensures.items.long;
      queues = λ ep is. no_keys c.from_fn.result ENDPOINTS c.from_fn.ensures.items.long (λ i within. let made = (c.from_fn.ensures.items.at i [] within).2.met in search (rules, made)) (place_of ep)
          ∙ sym (ap (keys_at ep c.new.result) c.new-2.ensures.empty);
    }
