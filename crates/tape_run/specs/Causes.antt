-- Why a command ended so.
use Rattle.std.specs.Prelude.{◌≡◌, ◌≢◌, ℕ}
use Rattle.gate_outside.specs.Faults.{Rose}
use Rattle.tape_run.specs.declared.status.Status.{Status}
use Rattle.tape_run.specs.declared.status.Status.TheVariants.{ReadFault, WriteFault, LinkFault, Idle, Spent}

-- how a command can end that opens no link
abbrev pub OpensNoLink : Status → Type 0
OpensNoLink (LinkFault side) = ⊥
OpensNoLink Idle = ⊥
OpensNoLink Spent = ⊥
OpensNoLink status = Unit {0}

-- it ends in a fault of its tape or its sink exactly where the count of its faults rose
pub record HasCauses (status : Status) (tape_old tape_new out_old out_new : ℕ) : Type 0 where
  pub read_fault : status ≡ ReadFault → Rose tape_old tape_new
  pub write_fault : status ≡ WriteFault → Rose out_old out_new
  pub reads_stand : status ≢ ReadFault → tape_new ≡ tape_old
  pub writes_stand : status ≢ WriteFault → out_new ≡ out_old
  pub no_links : OpensNoLink status
