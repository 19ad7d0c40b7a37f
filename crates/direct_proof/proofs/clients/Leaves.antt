-- An effect with which the client is gone, and that does nothing else.
use Rattle.std.proofs.Common.{◌≡◌, ℕ, true, false, [], ◌++◌, None, refl}
use Rattle.std.specs.List.{flat_map}
use Rattle.usb_base.specs.declared.reason.Reason.{Reason}
use Rattle.usb_base.specs.declared.side.Side.TheVariants.{Client}
use Rattle.gate_history.specs.step.Marks.{Effect, Ends}
use Rattle.gate_history.specs.step.Meaning.{refused}
use Rattle.gate_history.specs.write.Notes.{came_notes, submit_notes, refusal_notes}
use Rattle.gate_history.specs.write.Output.{replies, acknowledgements}
use Rattle.gate_history.specs.write.Packets.{asked_packets, stops}
use Rattle.gate_history.specs.state.Sides.{refused_at, leaves, is_loss, closes_host, imports, agrees}
use Rattle.gate_history.specs.state.State.{State}
use Rattle.gate_history.specs.state.Ups.{is_ended}
use Rattle.direct_run.specs.Noted.{named}
use Rattle.direct_proof.specs.Deeds.{import_deeds, submit_deeds, unlink_deeds, arrive_deeds}

-- with this the client is gone, and nothing else is done
pub record ClientGoes (st : State) (e : Effect) : Type 0 where
  pub gone : leaves e ≡ true
  pub keeps : is_loss e ≡ false
  pub open_host : closes_host e ≡ false
  pub no_caps : agrees e ≡ None
  pub no_import : imports e ≡ false
  pub silent : replies st e ≡ []
  pub asked : asked_packets st.streams e ≡ stops (is_ended None) st.streams
  pub no_word : acknowledgements st.sides.agreed e ≡ []
  pub no_deed : import_deeds e ++ submit_deeds e ++ unlink_deeds e ++ arrive_deeds e ≡ []
  pub no_note : flat_map named (came_notes e ++ submit_notes e) ≡ []
  pub unnamed : flat_map named (refusal_notes (refused_at e)) ≡ []

pub end-leaves : (st : State) → ClientGoes st (Ends Client)
end-leaves st = record { gone = refl; keeps = refl; open_host = refl; no_caps = refl; no_import = refl; silent = refl; asked = refl; no_word = refl; no_deed = refl; no_note = refl; unnamed = refl }

pub refusal-leaves : (st : State) (place : ℕ) (why : Reason) → ClientGoes st (refused Client place why)
refusal-leaves st place why = record { gone = refl; keeps = refl; open_host = refl; no_caps = refl; no_import = refl; silent = refl; asked = refl; no_word = refl; no_deed = refl; no_note = refl; unnamed = refl }
