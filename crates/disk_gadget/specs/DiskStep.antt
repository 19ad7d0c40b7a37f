-- What the disk does: a transfer's outcome and the state after it.
use Rattle.std.specs.Prelude.{ℕ, ◌+◌, ◌*◌, ◌==◌, ◌&&◌, min, List, [], ◌∷◌, take, replicate, Option, Some, None, option_map, if◌then◌else◌}
use Rattle.usb_base.specs.Endpoint.{is_in_endpoint}
use Rattle.usb_base.specs.Number.{part}
use Rattle.usb_base.specs.declared.setup.Setup.{Setup}
use Rattle.usb_base.specs.declared.transfer.Transfer.{Transfer}
use Rattle.usb_base.specs.declared.transfer.Outcome.{Outcome}
use Rattle.chapter9.specs.declared.state.DevState.{DevState}
use Rattle.chapter9.specs.Requests.{is_request}
use Rattle.chapter9.specs.State.{unconfigured, with_halt}
use Rattle.chapter9.specs.Standard.{stall, success}
use Rattle.chapter9.specs.Table.{table_of}
use Rattle.model_device.specs.Device.{State, control, device_parts, identity_of, interfaces_of, is_running}
use Rattle.model_device.specs.Meaning.{Meaning}
use Rattle.disk_gadget.specs.declared.class_request.ClassRequest.{ClassRequest}
use Rattle.disk_gadget.specs.declared.class_request.ClassRequest.TheVariants.{Reset, MaxLun}
use Rattle.disk_gadget.specs.declared.stage.Course.{Course}
use Rattle.disk_gadget.specs.declared.stage.Stage.TheVariants.{Waits}
use Rattle.disk_gadget.specs.declared.medium.TheConstants.{BLOCK_SIZE}
use Rattle.disk_gadget.specs.Accesses.{Access, blocks_after, count_of}
use Rattle.disk_gadget.specs.Descriptors.{described, fresh}
use Rattle.disk_gadget.specs.Turns.{Reply, Plain, OfBlocks, Turn, given_by, taken_by}

-- ---- all but the bytes of the blocks; `blocks` is how many blocks there are

pub record Step : Type 0 where
  pub state : State Course
  pub reply : Reply
  pub access : Option Access

-- the requests of the class (Bulk-Only Transport, 3.1 and 3.2)
abbrev pub class_request : Setup → Option ClassRequest
class_request r =
    if is_request r 0x21 0xFF && r.length == 0 then Some Reset
    else if is_request r 0xA1 0xFE then Some MaxLun
    else None

-- a reset has a wrapper due, and leaves halts and sense; unit 0 is the greatest
abbrev pub setup_done : State Course → Transfer → Setup → Option ClassRequest → State Course × Outcome
setup_done s t r (Some Reset) = (record { device = s.device; kept = record { stage = Waits; sense = s.kept.sense } }, success [])
setup_done s t r (Some MaxLun) = (s, success (take (min t.wanted r.length) (0 ∷ [])))
setup_done s t r None = control described s t

abbrev pub no_access : State Course × Outcome → Step
no_access done = record { state = done.0; reply = Plain done.1; access = None }

abbrev pub both_halted : DevState → DevState
both_halted device = with_halt (with_halt device 0x01) 0x81

abbrev pub bulk_turn : ℕ → Course → Transfer → Option Turn
bulk_turn blocks c t = if is_in_endpoint t.ep then given_by c.sense t.wanted c.stage else taken_by blocks c.sense t.body c.stage

abbrev pub turned : DevState → Option Turn → Option Step
turned device made = option_map (λ turn. record { state = record { device = if turn.halts then both_halted device else device; kept = turn.course }; reply = turn.reply; access = turn.access }) made

abbrev pub step_by : ℕ → State Course → Transfer → Option Setup → Option Step
step_by blocks s t (Some r) = Some (no_access (setup_done s t r (class_request r)))
step_by blocks s t None =
    if is_running (device_parts described) s.device t.ep
    then turned s.device (bulk_turn blocks s.kept t)
    else Some (no_access (s, stall))

abbrev pub step : ℕ → State Course → Transfer → Option Step
step blocks s t = step_by blocks s t t.setup

-- ---- and with the bytes of the blocks

pub record DiskState : Type 0 where
  pub state : State Course
  pub blocks : List ℕ

abbrev pub outcome_in : List ℕ → Reply → Outcome
outcome_in blocks (Plain outcome) = outcome
outcome_in blocks (OfBlocks block given count) = success (part (BLOCK_SIZE * block + given) count blocks)

abbrev pub on_blocks : List ℕ → Option Step → Option (DiskState × Outcome)
on_blocks blocks done = option_map (λ s. (record { state = s.state; blocks = blocks_after blocks s.access }, outcome_in blocks s.reply)) done

abbrev pub disk_step : DiskState → Transfer → Option (DiskState × Outcome)
disk_step d t = on_blocks d.blocks (step (count_of d.blocks) d.state t)

abbrev pub disk : Meaning DiskState
disk = record {
  identity = identity_of described.speed described.set;
  configuration = λ d. d.state.device.configuration;
  interfaces = λ d. interfaces_of (device_parts described) d.state.device;
  table = λ d. table_of (device_parts described) d.state.device;
  perform = disk_step;
  offer = λ d ep. None;
}

-- plugged in, with so many blocks of zeros
unfoldable pub first_disk : ℕ → DiskState
first_disk blocks = record { state = record { device = unconfigured; kept = fresh }; blocks = replicate (BLOCK_SIZE * blocks) 0 }
