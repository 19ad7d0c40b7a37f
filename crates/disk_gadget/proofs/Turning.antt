-- A transfer of a bulk endpoint is a turn.
use Rattle.std.proofs.Common.{◌≡◌, ℕ, Bool, true, false, nat_lt, List, Option, Some, None, refl, sym, ap, subst, ◌∙◌}
use Rattle.std.specs.Prelude.{Result, Ok, Err, IfOk, OnOk}
use Rattle.usb_base.specs.Endpoint.{is_in_endpoint}
use Rattle.usb_base.specs.declared.memory.Memory.{Memory}
use Rattle.usb_base.specs.declared.transfer.Outcome.{Outcome}
use Rattle.usb_base.specs.declared.transfer.Transfer.{Transfer}
use Rattle.chapter9.specs.declared.state.DevState.{DevState}
use Rattle.model_device.specs.Device.{device_parts, is_running}
use Rattle.model_device.specs.Meaning.{given_in, state_in}
use Rattle.disk_gadget.specs.declared.sense.Sense.{Sense}
use Rattle.disk_gadget.specs.declared.stage.Course.{Course}
use Rattle.disk_gadget.specs.declared.stage.Stage.{Stage}
use Rattle.disk_gadget.specs.declared.stage.Stage.TheVariants.{Waits, Gathers, Gives, Reports}
use Rattle.disk_gadget.specs.Accesses.{count_of}
use Rattle.disk_gadget.specs.Descriptors.{described}
use Rattle.disk_gadget.specs.DiskStep.{DiskState, disk_step, on_blocks, turned}
use Rattle.disk_gadget.specs.Inside.{turn_blocks, turn_course, turn_device, turn_outcome}
use Rattle.disk_gadget.specs.Turns.{Turn, given_by, reported, taken_by}

abbrev pub disk_of : DevState → Course → List ℕ → DiskState
disk_of device course blocks = record { state = record { device = device; kept = course }; blocks = blocks }

abbrev pub turn_in : DiskState → Transfer → Option Turn
turn_in d t = given_by d.state.kept.sense t.wanted d.state.kept.stage

abbrev pub turn_out : DiskState → Transfer → Option Turn
turn_out d t = taken_by (count_of d.blocks) d.state.kept.sense t.body d.state.kept.stage

pub step_in : (d : DiskState) (t : Transfer) → t.setup ≡ None → is_running (device_parts described) d.state.device t.ep ≡ true → is_in_endpoint t.ep ≡ true → disk_step d t ≡ on_blocks d.blocks (turned d.state.device (turn_in d t))
step_in d t s r i = rw (s, r, i) refl

pub step_out : (d : DiskState) (t : Transfer) → t.setup ≡ None → is_running (device_parts described) d.state.device t.ep ≡ true → is_in_endpoint t.ep ≡ false → disk_step d t ≡ on_blocks d.blocks (turned d.state.device (turn_out d t))
step_out d t s r i = rw (s, r, i) refl

outcome_turned : (blocks : List ℕ) (device : DevState) (o : Option Turn) → given_in (on_blocks blocks (turned device o)) ≡ turn_outcome blocks o
outcome_turned blocks device None = refl
outcome_turned blocks device (Some turn) = refl

state_turned : (d : DiskState) (o : Option Turn) → state_in d (on_blocks d.blocks (turned d.state.device o)) ≡ record { state = record { device = turn_device d.state.device o; kept = turn_course d.state.kept o }; blocks = turn_blocks d.blocks o }
state_turned d None = refl
state_turned d (Some turn) = refl

-- all parts of it together
together : {X Y : Type 0} (r : Result X Y) (device device2 : DevState) (course course2 : Course) (blocks blocks2 : List ℕ) → OnOk r (device ≡ device2) → OnOk r (course ≡ course2) → OnOk r (blocks ≡ blocks2) → OnOk r (disk_of device course blocks ≡ disk_of device2 course2 blocks2)
together (Ok x) device device2 course course2 blocks blocks2 a b c = λ i. disk_of (a i) (b i) (c i)
together (Err e) device device2 course course2 blocks blocks2 a b c = tt

-- what a transfer that is a turn gives, and how the device stands then
-- of a disk that is seen so
pub outcome-of_turn : {d seen : DiskState} (t : Transfer) (o : Option Turn) (r : Result (Option Outcome) Memory) → d ≡ seen → disk_step d t ≡ on_blocks d.blocks (turned d.state.device o) → IfOk r (λ outcome. outcome ≡ turn_outcome d.blocks o)
    → IfOk r (λ outcome. outcome ≡ given_in (disk_step seen t))
outcome-of_turn {d = d} t o r seen is gives =
    subst (λ (s : DiskState). IfOk r (λ outcome. outcome ≡ given_in (disk_step s t))) seen (subst (λ x. IfOk r (λ outcome. outcome ≡ x)) (sym (ap given_in is ∙ outcome_turned d.blocks d.state.device o)) gives)

pub state-of_turn : {X Y : Type 0} {d seen : DiskState} (t : Transfer) (o : Option Turn) (r : Result X Y) (device : DevState) (course : Course) (blocks : List ℕ) → d ≡ seen → disk_step d t ≡ on_blocks d.blocks (turned d.state.device o)
    → OnOk r (device ≡ turn_device d.state.device o) → OnOk r (course ≡ turn_course d.state.kept o) → OnOk r (blocks ≡ turn_blocks d.blocks o) → OnOk r (disk_of device course blocks ≡ state_in seen (disk_step seen t))
state-of_turn {d = d} t o r device course blocks seen is a b c =
    subst (λ (s : DiskState). OnOk r (disk_of device course blocks ≡ state_in s (disk_step s t))) seen (subst (λ x. OnOk r (disk_of device course blocks ≡ x)) (sym (ap (state_in d) is ∙ state_turned d o)) (together r device (turn_device d.state.device o) course (turn_course d.state.kept o) blocks (turn_blocks d.blocks o) a b c))

-- a turn from the device neither halts it nor writes a block
pub gives-apart : (device : DevState) (blocks : List ℕ) (sense : Option Sense) (wanted : ℕ) (stage : Stage) → (device ≡ turn_device device (given_by sense wanted stage)) × (blocks ≡ turn_blocks blocks (given_by sense wanted stage))
gives-apart device blocks sense wanted Waits = (refl, refl)
gives-apart device blocks sense wanted (Gathers w bytes) = (refl, refl)
gives-apart device blocks sense wanted (Gives answer r) = (refl, refl)
gives-apart device blocks sense wanted (Reports r) = go (nat_lt wanted 13) refl
  where
    go : (short : Bool) → nat_lt wanted 13 ≡ short → (device ≡ turn_device device (Some (reported sense wanted r))) × (blocks ≡ turn_blocks blocks (Some (reported sense wanted r)))
    go true e = rw e (refl, refl)
    go false e = rw e (refl, refl)

pub when-ok : {X Y P : Type 0} (r : Result X Y) → P → OnOk r P
when-ok (Ok x) p = p
when-ok (Err e) p = tt
