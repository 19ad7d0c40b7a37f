-- What a transfer of the bulk endpoints does at each stage of a command (Bulk-Only Transport, 5.3). No byte of the
-- blocks is asked for: what a read gives is told by the place where it stands.
use Rattle.std.specs.Prelude.{ℕ, ◌+◌, ◌-◌, ◌==◌, ◌||◌, ◌++◌, nat_lt, min, Bool, true, false, List, [], length, take, drop, Option, Some, None, if◌then◌else◌}
use Rattle.usb_base.specs.declared.transfer.Outcome.{Outcome}
use Rattle.chapter9.specs.Standard.{stall, success, taken}
use Rattle.disk_gadget.specs.declared.wrapper.Wrapper.{Wrapper}
use Rattle.disk_gadget.specs.declared.report.Report.{Report}
use Rattle.disk_gadget.specs.declared.report.Status.{Status}
use Rattle.disk_gadget.specs.declared.report.Status.TheVariants.{Passed}
use Rattle.disk_gadget.specs.declared.sense.Sense.{Sense}
use Rattle.disk_gadget.specs.declared.stage.Answer.{Answer}
use Rattle.disk_gadget.specs.declared.stage.Answer.TheVariants.{Text, Blocks}
use Rattle.disk_gadget.specs.declared.stage.Stage.{Stage}
use Rattle.disk_gadget.specs.declared.stage.Stage.TheVariants.{Waits, Gathers, Gives, Reports}
use Rattle.disk_gadget.specs.declared.stage.Course.{Course}
use Rattle.disk_gadget.specs.Accesses.{Access}
use Rattle.disk_gadget.specs.Acts.{act_of}
use Rattle.disk_gadget.specs.Reports.{status_bytes, status_size}
use Rattle.disk_gadget.specs.Wrappers.{wrapper_of}

pub data Reply : Type 0 where
  Plain : Outcome → Reply
  -- the bytes that a read of the blocks from `block` on gives, `count` of them behind the first `given`
  OfBlocks : (block given count : ℕ) → Reply

pub record Turn : Type 0 where
  pub course : Course
  -- both bulk endpoints are halted
  pub halts : Bool
  pub reply : Reply
  -- the read or write that passes here
  pub access : Option Access

-- nothing is halted, read or written
abbrev pub turn_to : Course → Reply → Turn
turn_to course reply = record { course = course; halts = false; reply = reply; access = None }

-- nothing changes but the stall
abbrev pub refused : Course → Turn
refused c = turn_to c (Plain stall)

-- ---- answers

abbrev pub left_of : Answer → ℕ
left_of (Text rest) = length rest
left_of (Blocks block given left) = left

abbrev pub cut_answer : ℕ → Answer → Answer
cut_answer len (Text rest) = Text (take len rest)
cut_answer len (Blocks block given left) = Blocks block given (min left len)

abbrev pub rest_of : ℕ → Answer → Answer
rest_of n (Text rest) = Text (drop n rest)
rest_of n (Blocks block given left) = Blocks block (given + n) (left - n)

abbrev pub given_of : ℕ → Answer → Reply
given_of n (Text rest) = Plain (success (take n rest))
given_of n (Blocks block given left) = OfBlocks block given n

-- ---- a command begins, and acts

-- what didn't come, or wasn't used
abbrev pub residue_of : Status → ℕ → ℕ
residue_of Passed len = 0
residue_of _ len = len

abbrev pub report_of : Wrapper → Status → Report
report_of w status = record { tag = w.tag; residue = residue_of status w.length; status = status }

-- with all of its data, it acts, and its status is due
abbrev pub acted : ℕ → Option Sense → Wrapper → List ℕ → List ℕ → Turn
acted blocks sense w bytes body =
    let act = act_of blocks sense w bytes in
    record (turn_to (record { stage = Reports (report_of w act.status); sense = act.sense }) (Plain (taken (length body)))) { access = act.access }

-- the answer is cut to the wrapper's length, of which nothing is given yet
abbrev pub answering : ℕ → Option Sense → Wrapper → List ℕ → Turn
answering blocks sense w body =
    let act = act_of blocks sense w [] in
    let report : Report = record { tag = w.tag; residue = w.length; status = act.status } in
    record (turn_to (record { stage = Gives (cut_answer w.length act.answer) report; sense = act.sense }) (Plain (taken (length body)))) { access = act.access }

abbrev pub gathering : Option Sense → Wrapper → List ℕ → List ℕ → Turn
gathering sense w bytes body = turn_to (record { stage = Gathers w bytes; sense = sense }) (Plain (taken (length body)))

abbrev pub begun : ℕ → Option Sense → List ℕ → Option Wrapper → Turn
begun blocks sense body None = record (refused (record { stage = Waits; sense = sense })) { halts = true }
begun blocks sense body (Some w) =
    if w.length == 0 then acted blocks sense w [] body
    else if w.is_in then answering blocks sense w body
    else gathering sense w [] body

-- ---- a transfer to the device

abbrev pub gathered : ℕ → Option Sense → Wrapper → List ℕ → List ℕ → Turn
gathered blocks sense w bytes body =
    if nat_lt w.length (length bytes + length body) then refused (record { stage = Gathers w bytes; sense = sense })
    else if length bytes + length body == w.length then acted blocks sense w (bytes ++ body) body
    else gathering sense w (bytes ++ body) body

abbrev pub taken_by : ℕ → Option Sense → List ℕ → Stage → Option Turn
taken_by blocks sense body Waits = Some (begun blocks sense body (wrapper_of body))
taken_by blocks sense body (Gathers w bytes) = Some (gathered blocks sense w bytes body)
taken_by blocks sense body _ = None

-- ---- a transfer from the device

abbrev pub less : ℕ → Report → Report
less n r = record r { residue = r.residue - n }

-- the answer ends with a transfer that wanted more than was left, and once as many bytes as the wrapper's length are
-- given
abbrev pub gave : Option Sense → ℕ → Answer → Report → Turn
gave sense wanted answer r =
    let n = min wanted (left_of answer) in
    let stage : Stage = if nat_lt n wanted || r.residue - n == 0 then Reports (less n r) else Gives (rest_of n answer) (less n r) in
    turn_to (record { stage = stage; sense = sense }) (given_of n answer)

-- a status isn't cut
abbrev pub reported : Option Sense → ℕ → Report → Turn
reported sense wanted r =
    if nat_lt wanted status_size then refused (record { stage = Reports r; sense = sense })
    else turn_to (record { stage = Waits; sense = sense }) (Plain (success (status_bytes r)))

abbrev pub given_by : Option Sense → ℕ → Stage → Option Turn
given_by sense wanted (Gives answer r) = Some (gave sense wanted answer r)
given_by sense wanted (Reports r) = Some (reported sense wanted r)
given_by sense wanted _ = None
