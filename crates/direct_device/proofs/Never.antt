-- None of the four devices ends a transfer as cancelled by itself.
use Rattle.std.proofs.Common.{◌≡◌, ℕ, ◌+◌, Bool, true, false, cond, List, [], ◌++◌, length, take, drop, Option, Some, None, is_some, refl, subst}
use Rattle.std.specs.Prelude.{◌==◌, ◌&&◌, not, nat_lt, IfSome}
use Rattle.std.specs.Option.{option_map_or}
use Rattle.usb_base.specs.Endpoint.{is_in_endpoint}
use Rattle.usb_base.specs.declared.setup.Setup.{Setup}
use Rattle.usb_base.specs.declared.status.UsbStatus.TheVariants.{Success}
use Rattle.usb_base.specs.declared.transfer.Transfer.{Transfer}
use Rattle.usb_base.specs.declared.transfer.Outcome.{Outcome}
use Rattle.chapter9.specs.declared.part.Part.{Part}
use Rattle.chapter9.specs.declared.state.DevState.{DevState}
use Rattle.chapter9.specs.declared.standard_requests.DescriptorSet.{DescriptorSet}
use Rattle.chapter9.specs.declared.requests.Request.{Request}
use Rattle.chapter9.specs.declared.requests.Request.TheVariants.{Read, Write}
use Rattle.chapter9.specs.Requests.{request_of}
use Rattle.chapter9.specs.Standard.{given_by, changed_by, read_outcome, write_outcome, outcome_by, stall, success}
use Rattle.model_device.specs.Device.{Device, control, device_parts, is_running, with_kept, perform, meaning_of}
use Rattle.model_device.specs.Keyboard.{keyboard}
use Rattle.model_device.specs.declared.loopback.TheConstants.{MOST_HELD}
use Rattle.model_device.specs.Loopback.{loopback, taken_in, given_back}
use Rattle.model_device.specs.Tone.{tone}
use Rattle.disk_gadget.specs.declared.class_request.ClassRequest.{ClassRequest}
use Rattle.disk_gadget.specs.declared.class_request.ClassRequest.TheVariants.{Reset, MaxLun}
use Rattle.disk_gadget.specs.declared.sense.Sense.{Sense}
use Rattle.disk_gadget.specs.declared.stage.Answer.TheVariants.{Text, Blocks}
use Rattle.disk_gadget.specs.declared.stage.Stage.{Stage}
use Rattle.disk_gadget.specs.declared.stage.Stage.TheVariants.{Waits, Gathers, Gives, Reports}
use Rattle.disk_gadget.specs.declared.wrapper.Wrapper.{Wrapper}
use Rattle.disk_gadget.specs.Accesses.{count_of}
use Rattle.disk_gadget.specs.Descriptors.{described}
use Rattle.disk_gadget.specs.DiskStep.{bulk_turn, class_request, disk, disk_step, on_blocks, outcome_in, no_access, setup_done, step_by, turned}
use Rattle.disk_gadget.specs.Reports.{status_bytes}
use Rattle.disk_gadget.specs.Turns as turns
use Rattle.disk_gadget.specs.Turns.{Turn}
use Rattle.disk_gadget.specs.Wrappers.{wrapper_of}
use Rattle.gate_history.specs.client.Ends.{is_cancelled}
use Rattle.direct_device.specs.Performed.{NeverCancels}

abbrev IsDone : Outcome → Type 0
IsDone o = is_cancelled o.status ≡ false

abbrev AllDone : {S : Type 0} → Option (S × Outcome) → Type 0
AllDone o = IfSome o (λ done. IsDone done.1)

by-done : {S : Type 0} (o : Option (S × Outcome)) → AllDone o → (done : S × Outcome) → o ≡ Some done → IsDone done.1
by-done None h done e = absurd (cc)
by-done (Some r) h done e = let same : r.1 ≡ done.1 = cc in subst IsDone same h

-- ---- endpoint 0

control-done : (set : DescriptorSet) (parts : List Part) (s : DevState) (wanted : ℕ) (setup : Option Setup) → IsDone (option_map_or (λ r. outcome_by set parts s r wanted (request_of r)) setup stall)
control-done set parts s wanted None = refl
control-done set parts s wanted (Some r) = go (request_of r)
  where
    read : (given : Option (List ℕ)) → IsDone (read_outcome r.length wanted given)
    read None = refl
    read (Some bytes) = refl

    write : (new : Option DevState) → IsDone (write_outcome new)
    write None = refl
    write (Some new) = refl

    go : (q : Option Request) → IsDone (outcome_by set parts s r wanted q)
    go None = refl
    go (Some (Read q)) = read (given_by set parts s r q)
    go (Some (Write q)) = write (changed_by parts s r q)

-- ---- a device that answers endpoint 0 by its descriptors, by its own transfers

never-by : {X : Type 0} (d : Device X) → ((x : X) (t : Transfer) → AllDone (d.transfer x t)) → NeverCancels (meaning_of d)
never-by {X = X} d own s t done is = by-done (perform d s t) (go (is_some t.setup)) done is
  where
    kept : (o : Option (X × Outcome)) → AllDone o → AllDone (with_kept s.device o)
    kept None h = tt
    kept (Some r) h = h

    runs : (b : Bool) → AllDone (cond b (with_kept s.device (d.transfer s.kept t)) (Some (s, stall)))
    runs true = kept (d.transfer s.kept t) (own s.kept t)
    runs false = refl

    go : (b : Bool) → AllDone (cond b (Some (control d s t)) (cond (is_running (device_parts d) s.device t.ep) (with_kept s.device (d.transfer s.kept t)) (Some (s, stall))))
    go true = control-done d.set (device_parts d) s.device t.wanted t.setup
    go false = runs (is_running (device_parts d) s.device t.ep)

pub keyboard-never : NeverCancels (meaning_of keyboard)
unfolding keyboard
keyboard-never = never-by keyboard (λ x t. refl)

pub tone-never : NeverCancels (meaning_of tone)
unfolding tone
tone-never = never-by tone (λ x t. refl)

taken-done : (held body : List ℕ) → AllDone (taken_in held body)
taken-done held body = go (nat_lt MOST_HELD (length body)) (nat_lt MOST_HELD (length held + length body))
  where
    go : (a b : Bool) → AllDone (cond a (Some (held, stall)) (cond b None (Some (held ++ body, record { status = Success; done = length body; body = [] }))))
    go true b = refl
    go false true = tt
    go false false = refl

given-done : (held : List ℕ) (wanted : ℕ) → AllDone (given_back held wanted)
given-done held wanted = go (length held == 0 && not (wanted == 0))
  where
    go : (b : Bool) → AllDone (cond b None (Some (drop wanted held, success (take wanted held))))
    go true = tt
    go false = refl

pub loopback-never : NeverCancels (meaning_of loopback)
unfolding loopback
loopback-never = never-by loopback (λ held t. go held t (is_in_endpoint t.ep))
  where
    go : (held : List ℕ) (t : Transfer) (b : Bool) → AllDone (cond b (given_back held t.wanted) (taken_in held t.body))
    go held t true = given-done held t.wanted
    go held t false = taken-done held t.body

-- ---- the disk

abbrev TurnDone : List ℕ → Option Turn → Type 0
TurnDone blocks o = IfSome o (λ turn. IsDone (outcome_in blocks turn.reply))

given-turn : (blocks : List ℕ) (sense : Option Sense) (wanted : ℕ) (stage : Stage) → TurnDone blocks (turns.given_by sense wanted stage)
given-turn blocks sense wanted Waits = tt
given-turn blocks sense wanted (Gathers w bytes) = tt
given-turn blocks sense wanted (Gives (Text rest) r) = refl
given-turn blocks sense wanted (Gives (Blocks block given left) r) = refl
given-turn blocks sense wanted (Reports r) = go (nat_lt wanted 13)
  where
    go : (b : Bool) → IsDone (outcome_in blocks (cond b (turns.refused (record { stage = Reports r; sense = sense })) (record { course = record { stage = Waits; sense = sense }; halts = false; reply = turns.Plain (success (status_bytes r)); access = None })).reply)
    go true = refl
    go false = refl

taken-turn : (blocks : List ℕ) (n : ℕ) (sense : Option Sense) (body : List ℕ) (stage : Stage) → TurnDone blocks (turns.taken_by n sense body stage)
taken-turn blocks n sense body Waits = begins (wrapper_of body)
  where
    begins : (w : Option Wrapper) → IsDone (outcome_in blocks (turns.begun n sense body w).reply)
    begins None = refl
    begins (Some w) = go (w.length == 0) w.is_in
      where
        go : (a b : Bool) → IsDone (outcome_in blocks (cond a (turns.acted n sense w [] body) (cond b (turns.answering n sense w body) (turns.gathering sense w [] body))).reply)
        go true b = refl
        go false true = refl
        go false false = refl
taken-turn blocks n sense body (Gathers w bytes) = go (nat_lt w.length (length bytes + length body)) (length bytes + length body == w.length)
  where
    go : (a b : Bool) → IsDone (outcome_in blocks (cond a (turns.refused (record { stage = Gathers w bytes; sense = sense })) (cond b (turns.acted n sense w (bytes ++ body) body) (turns.gathering sense w (bytes ++ body) body))).reply)
    go true b = refl
    go false true = refl
    go false false = refl
taken-turn blocks n sense body (Gives answer r) = tt
taken-turn blocks n sense body (Reports r) = tt

pub disk-never : NeverCancels disk
disk-never d t done is = by-done (disk_step d t) (go t.setup) done is
  where
    asked : (r : Setup) (c : Option ClassRequest) → IsDone (setup_done d.state t r c).1
    asked r None = control-done described.set (device_parts described) d.state.device t.wanted t.setup
    asked r (Some Reset) = refl
    asked r (Some MaxLun) = refl

    turn : (o : Option Turn) → TurnDone d.blocks o → AllDone (on_blocks d.blocks (turned d.state.device o))
    turn None h = tt
    turn (Some one) h = h

    by-way : (b : Bool) → TurnDone d.blocks (cond b (turns.given_by d.state.kept.sense t.wanted d.state.kept.stage) (turns.taken_by (count_of d.blocks) d.state.kept.sense t.body d.state.kept.stage))
    by-way true = given-turn d.blocks d.state.kept.sense t.wanted d.state.kept.stage
    by-way false = taken-turn d.blocks (count_of d.blocks) d.state.kept.sense t.body d.state.kept.stage

    runs : (b : Bool) → AllDone (on_blocks d.blocks (cond b (turned d.state.device (bulk_turn (count_of d.blocks) d.state.kept t)) (Some (no_access (d.state, stall)))))
    runs true = turn (bulk_turn (count_of d.blocks) d.state.kept t) (by-way (is_in_endpoint t.ep))
    runs false = refl

    go : (setup : Option Setup) → AllDone (on_blocks d.blocks (step_by (count_of d.blocks) d.state t setup))
    go (Some r) = asked r (class_request r)
    go None = runs (is_running (device_parts described) d.state.device t.ep)
