-- What doesn't wait for a stream's packets is accepted as it is.
use Rattle.std.proofs.Common.{◌≡◌, false, Option, Some, None, refl, ap}
use Rattle.std.proofs.lemmas.Bool.{true≢false}
use Rattle.gate_history.specs.state.Ups.{Up, stream_at}
use Rattle.gate_history.specs.declared.verdict.Verdict.{Verdict}
use Rattle.gate_history.specs.declared.verdict.Verdict.TheVariants.{Stream}
use Rattle.gate_history.specs.client.Ends.{is_waiting}
use Rattle.gate_history.specs.step.Marks.{Opens}
use Rattle.gate_history.specs.declared.request.Request.{Request}
use Rattle.gate_history.specs.state.State.{State}
use Rattle.gate_history.specs.step.Meaning.{drawn_for, submission, by_stream, accepted_as, accepts}

-- a stream that is up is nothing to it
own : (up : Option Up) (v : Verdict) → is_waiting v ≡ false → v ≡ by_stream up v
own None v h = refl
own (Some up) (Stream row) h = absurd (true≢false h)
own (Some up) v h = refl

pub opens : (st : State) (r : Request) (v : Verdict) → is_waiting v ≡ false → Opens (submission st r v (drawn_for st r v)) ≡ accepts st r v
opens st r (Stream row) h = absurd (true≢false h)
opens st r v h = ap (λ (kept : Verdict). accepted_as st (submission st r kept (drawn_for st r kept)) kept) (own (stream_at st.streams r.transfer.ep) v h)
