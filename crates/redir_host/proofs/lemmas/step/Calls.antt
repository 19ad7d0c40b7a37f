-- What a call of a core leaves that hands on what its host did.
use Rattle.std.proofs.Common.{◌≡◌, ◌∙◌, ℕ, List, ◌∷◌, sym, subst}
use Rattle.std.specs.Prelude.{Result, Ok, Err, OnOk, OnErr}
use Rattle.std.proofs.lemmas.Bool.{true≢false}
use Rattle.model_device.specs.Meaning.{Meaning}
use Rattle.redir_host.specs.state.Kept.{HostKept}
use Rattle.redir_host.specs.step.Acts.{Act}
use Rattle.redir_host.specs.step.Stands.{Does, HostHasFailed, HasPast, HostStands, IsReady}
use Rattle.redir_host.proofs.lemmas.step.Wanted.{on_ok_given}

-- it stands for one act more, or works no more
ready-after : {S T E : Type 0} (m : Meaning S) (a : Act) (old mid new : HostKept S) (given : Result T E) (o0 o1 : List ℕ) → HasPast m old → OnOk given (Does m a old mid o0 o1) → OnOk given (new ≡ mid) → OnErr given (HostHasFailed new) → IsReady m new
ready-after {S = S} m a old mid new (Ok v) o0 o1 past does same failed works =
    let acts = past.1.0 in
    let Says : HostKept S → Type 0 = λ k. HostStands m past.0 k (a ∷ acts) in
    (past.0, (a ∷ acts, subst Says (sym same) (does past.0 acts past.1.1).stands))
ready-after m a old mid new (Err e) o0 o1 past does same failed works = absurd (true≢false (sym failed ∙ works))

-- and it did for its caller what its host did
pub after-call : {S T E : Type 0} (m : Meaning S) (a : Act) (seen old mid new : HostKept S) (result given : Result T E) (o0 o1 : List ℕ) → old ≡ seen → result ≡ given → HasPast m old → OnOk given (Does m a old mid o0 o1) → OnOk given (new ≡ mid) → OnErr given (HostHasFailed new)
    → IsReady m new × OnOk result (Does m a seen new o0 o1)
after-call {S = S} m a seen old mid new result given o0 o1 is handed past does same failed =
    let Says : HostKept S → Type 0 = λ k. Does m a k new o0 o1 in
    let Made : HostKept S → Type 0 = λ k. Does m a old k o0 o1 in
    (ready-after m a old mid new given o0 o1 past does same failed, on_ok_given result given handed (λ did e. subst Says is (subst Made (sym e) did)) does same)
