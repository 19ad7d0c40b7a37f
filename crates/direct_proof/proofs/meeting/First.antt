-- In the first world, where nothing but the two hellos is on a wire, the two stand for the device attached directly.
use Rattle.std.proofs.Common.{◌≡◌, ℕ, zero, suc, ◌%◌, nat_lt, Bool, true, false, cond, [], ◌∷◌, get_or, Option, None, refl, sym, subst, arith, inl, true≢false}
use Rattle.std.specs.Prelude.{replicate}
use Rattle.usb_base.specs.Endpoint.{endpoint_index}
use Rattle.model_device.specs.Meaning.{Meaning}
use Rattle.gate_history.specs.state.Ups.{Up, stream_of, stream_at, no_streams}
use Rattle.direct_run.specs.Moves.{first_world}
use Rattle.direct_proof.specs.Shared.{Shared}
use Rattle.direct_proof.specs.Tagged.{Greeted}
use Rattle.direct_proof.specs.Related.{Related}
use Rattle.direct_proof.specs.Kinds.{UpsFit, UpFits}

abbrev pub first_shared : Shared
first_shared = record { held = []; half = false; coming = []; back = Greeted ∷ []; debts = []; fenced = false; gone = false }

abbrev nothing : Option Up
nothing = None

none-up : (n i : ℕ) → get_or (replicate n nothing) i nothing ≡ nothing
none-up zero i = refl
none-up (suc n) zero = refl
none-up (suc n) (suc i) = none-up n i

pub none-ups : UpsFit no_streams
none-ups = record { count_is = refl; each = λ i. subst (UpFits i) (sym (none-up 32 i)) tt }

pub all-down : (ep : ℕ) → stream_of no_streams ep ≡ None
all-down ep = go (nat_lt (ep % 128) 16)
  where
    go : (b : Bool) → cond b (stream_at no_streams ep) None ≡ None
    go true = none-up 32 (endpoint_index ep)
    go false = refl

pub first-related : {S : Type 0} (m : Meaning S) (s : S) → Related m (first_world s) first_shared
first-related m s = record {
  line = record {
    held = refl;
    half = λ h. refl;
    coming = refl;
    loads = tt;
    streams_in = (tt, tt);
    cancels = ((λ h. absurd (true≢false (sym h))), tt);
    behind = tt;
  };
  answers = refl;
  tagged = (tt, tt);
  ids = record { balance = λ test. refl; one_id = λ id. omega arith; one_number = λ n. omega arith; named = tt; entries_agree = tt; ran_agrees = tt };
  real = tt;
  runs_at_in = tt;
  before = λ h. record { back = inl refl; wire = refl; held = refl; half = refl; running = refl };
  asked = λ h. absurd (true≢false h);
  meets = record {
    host = λ h. absurd (true≢false h);
    gate = λ h. absurd (true≢false h);
    announced = λ h k. absurd (true≢false h);
    behind = λ h. absurd (true≢false (sym h));
    once = ((λ h. absurd (true≢false (sym h))), tt);
    plugged = λ h. absurd (true≢false (sym h));
    no_session = λ h k. absurd (true≢false (sym h));
  };
  debts = λ h. refl;
  controls = λ h. record { once = λ id. omega arith; stream_ids_kept = (tt, tt); statuses_kept = (tt, tt) };
  fenced = λ h. refl;
  alone = λ h. absurd (true≢false (sym h));
  session = λ h a. absurd (true≢false (sym a));
  ups = record { count_is = refl; each = λ i. subst (UpFits i) (sym (none-up 32 i)) tt };
  down = λ h. refl;
  lost = λ h. absurd (true≢false (sym h));
  sides = record {
    reads = refl;
    refused = λ h. absurd (true≢false (sym h));
    gone = λ h. absurd (true≢false (sym h));
    seen = λ h. absurd (true≢false (sym h));
  };
  farewell = record {
    still = λ h. absurd (true≢false (sym h));
    bye = λ h. refl;
    bye_last = ((λ h. absurd (true≢false (sym h))), tt);
  };
}
