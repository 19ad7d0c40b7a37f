-- What a run leaves is of what the words ask for.
use Rattle.std.proofs.Common.{◌≡◌, ℕ, true, false, List, Option, Some, IfSome, Result, sym, ap, subst, ◌∙◌}
use Rattle.std.proofs.lemmas.Option.{same_Some}
use Rattle.gate_outside.specs.declared.fault.Failed.{Failed}
use Rattle.gate_outside.specs.Calls.{Call}
use Rattle.tape_run.specs.declared.status.Status.{Status}
use Rattle.tape_run.specs.Printout.{Printout}
use Rattle.tape_run.specs.Logs.{RunLeaves, RunWrites}
use Rattle.tape_run.proofs.lemmas.runs.Unread.{leaves-unread}
use Rattle.usbgate_commands.specs.declared.words.command.Command.{Command}
use Rattle.usbgate_commands.specs.declared.words.command.Command.TheVariants.{Serve, Host}
use Rattle.usbgate_commands.specs.words.Lending.{AskedLent}
use Rattle.usbgate_commands.specs.links.Logs.{RunServes, RunLends}
use Rattle.usbgate_commands.specs.links.Serves.{Known}
use Rattle.usbgate_commands.specs.words.Serving.{ServeSettings}
use Rattle.usbgate.specs.Printouts.{printout_of}

-- a command that reads a tape isn't one of those that don't
pub reads-tape : {A : Type 0} (x y : Command) (p : Printout) → x ≡ y → printout_of x ≡ Some p → p.taped ≡ true → IfSome (printout_of y) (λ q. q.taped ≡ false) → A
reads-tape x y p same of taped untaped =
    let not_taped : p.taped ≡ false = subst (λ (o : Option Printout). IfSome o (λ q. q.taped ≡ false)) (sym (ap printout_of same) ∙ of) untaped in
    let e : true ≡ false = sym taped ∙ not_taped in cc

pub leaves-asked : {S K : Type 0} {read_gives : S → List ℕ → Result ℕ Failed → S → Type 0} {write_gives : K → List ℕ → Result ℕ Failed → K → Type 0} {remaining : S → Option (List ℕ)} {contents : K → Option (List ℕ)} {status : Status} {tape tape' : S} {out out' : K} (x y : Command) (p q : Printout) → x ≡ y → printout_of x ≡ Some p → printout_of y ≡ Some q
    → RunLeaves read_gives write_gives remaining contents status p tape tape' out out' → RunLeaves read_gives write_gives remaining contents status q tape tape' out out'
leaves-asked {read_gives = read_gives} {write_gives = write_gives} {remaining = remaining} {contents = contents} {status = status} {tape = tape} {tape' = tape'} {out = out} {out' = out'} x y p q same of is leaves =
    subst (λ (r : Printout). RunLeaves read_gives write_gives remaining contents status r tape tape' out out') (same_Some p q (sym of ∙ ap printout_of same ∙ is)) leaves

-- of a run that reads no tape
pub writes-asked : {S K : Type 0} {read_gives : S → List ℕ → Result ℕ Failed → S → Type 0} {write_gives : K → List ℕ → Result ℕ Failed → K → Type 0} {remaining : S → Option (List ℕ)} {contents : K → Option (List ℕ)} {status : Status} {tape : S} {out out' : K} (x y : Command) (p q : Printout) → x ≡ y → printout_of x ≡ Some p → printout_of y ≡ Some q
    → RunWrites write_gives contents status p out out' → RunLeaves read_gives write_gives remaining contents status q tape tape out out'
writes-asked {read_gives = read_gives} {write_gives = write_gives} {remaining = remaining} {contents = contents} {status = status} {tape = tape} {out = out} {out' = out'} x y p q same of is writes =
    leaves-asked x y p q same of is (leaves-unread read_gives write_gives remaining contents status p tape out out' writes)

same-served : (x y : ServeSettings) → Serve x ≡ Serve y → x ≡ y
same-served x y same = cc

pub serves-asked : {D : Type 0} {gives : D → Call → D → Type 0} {tells : List ℕ → Type 0} {status : Status} {old new : D} {before after : Known} (x y : ServeSettings) → Serve x ≡ Serve y
    → RunServes gives tells status x old new before after → RunServes gives tells status y old new before after
serves-asked {gives = gives} {tells = tells} {status = status} {old = old} {new = new} {before = before} {after = after} x y same serves =
    subst (λ (asked : ServeSettings). RunServes gives tells status asked old new before after) (same-served x y same) serves

same-lent : (x y : AskedLent) → Host x ≡ Host y → x ≡ y
same-lent x y same = cc

pub lends-asked : {D : Type 0} {gives : D → Call → D → Type 0} {tells : List ℕ → Type 0} {status : Status} {old new : D} {before after : Known} (x y : AskedLent) → Host x ≡ Host y
    → RunLends gives tells status x old new before after → RunLends gives tells status y old new before after
lends-asked {gives = gives} {tells = tells} {status = status} {old = old} {new = new} {before = before} {after = after} x y same lends =
    subst (λ (asked : AskedLent). RunLends gives tells status asked old new before after) (same-lent x y same) lends
