use Rattle.std.proofs.Common.{◌≡◌, ◌++◌, ◌∷◌, List, [], Option, Some, drop, ℕ, length, sym, ap, ◌∙◌, subst, refl, arith, rules}
use Rattle.std.specs.Prelude.{IsSome}
use Rattle.std.proofs.lemmas.List.{append-nil}
use Rattle.std.specs.List.{AllByRecursion}
use Rattle.stream_buffers.specs.Cuts.{Cut}
use Rattle.gate_history.specs.host.Fillings.{Given}
use Rattle.gate_history.specs.declared.note.Note.TheVariants as note
use Rattle.gate_parts.specs.declared.host.fill.Filled.{Filled}
use Rattle.gate_history.specs.state.Ups.{Up}
use Rattle.gate_parts.specs.host.Fill.{row_cut, cut_bytes, HasTaken, waiting_rows}
use Rattle.gate_parts.specs.declared.write.outputs.Outputs.{Outputs}
use Rattle.gate_parts.specs.write.Outputs.{with_answers}
use Rattle.stream_buffers.proofs.Joining.{on-err}
use Rattle.gate_parts.proofs.lemmas.host.FillLoop.{CanFill, all-waiting, at-first, none-left, none-held, stopped, taken, moved, some-filled, cut-some}
use Rattle.gate_parts.proofs.lemmas.write.Outputs.{extended, some-none}
use Rattle.gate_parts.proofs.host.fill.write_fillings.Goals as goal

pub loop-live-init : goal.loop-live-init
loop-live-init c =
    let rows = waiting_rows c.args.ep c.args.lives.now.live in
    let is : c.into_iter-live-iterator.result ≡ rows = c.into_iter-live-iterator.ensures.into_iter_gives ∙ c.waiting-live-items.ensures.waits in
    record {
      can = tt;
      ends = tt;
      same = refl;
      fine = subst (AllByRecursion CanFill) (sym is) (all-waiting c.requires.0 c.args.ep c.args.lives.now.live c.requires.1);
      so_far = at-first rows c.into_iter-live-iterator.result is;
      many = omega (arith, ap length c.into_iter-live-iterator.ensures.into_iter_gives, c.waiting-live-items.ensures.bound);
      some = some-none c.args.out.now;
    }

pub returns-then-filled-held : goal.returns-then-filled-held
returns-then-filled-held c =
    let all = none-held c.loop-live.invariant.so_far (c.if-filled-held.true ∙ c.len-held.ensures.len) in
    record { same = c.loop-live.invariant.same; filled = record { requests = all.requests; few = all.few; left = all.left }; sent = all.gives; err = tt; wants = tt }

pub write_filling-requires-clause-packets : goal.write_filling-requires-clause-packets
write_filling-requires-clause-packets c =
    let is : c.loop-live.live-iterator ≡ c.in-Some.live.now ∷ c.next.new.self = search rules in
    (subst (AllByRecursion CanFill) is c.loop-live.invariant.fine).0.packets

pub write_filling-requires-clause-few_bytes : goal.write_filling-requires-clause-few_bytes
write_filling-requires-clause-few_bytes c =
    let is : c.loop-live.live-iterator ≡ c.in-Some.live.now ∷ c.next.new.self = search rules in
    (subst (AllByRecursion CanFill) is c.loop-live.invariant.fine).0.few_bytes

pub write_filling-requires-clause-lies : goal.write_filling-requires-clause-lies
write_filling-requires-clause-lies c =
    let is : c.loop-live.live-iterator ≡ c.in-Some.live.now ∷ c.next.new.self = search rules in
    (subst (AllByRecursion CanFill) is c.loop-live.invariant.fine).0.lies

-- the next isn't filled
pub returns-in_default : goal.returns-in_default
returns-in_default c =
    let is : c.loop-live.live-iterator ≡ c.in-Some.live.now ∷ c.next.new.self = search rules in
    let l = c.in-Some.live.now in
    let same = c.loop-live.invariant.same in
    let cut-at = λ (u : Up). row_cut u.row.max_packet l (drop c.loop-live.filled.packets u.held) in
    let none = subst (λ t. HasTaken t (drop c.loop-live.filled.packets c.loop-live.up.held) (cut-at c.loop-live.up)) c.in_default.is c.in_ok-taken.ensures.taken in
    let all = stopped c.loop-live.invariant.so_far l is (sym (ap cut-at same) ∙ none) in
    let sent = c.in_ok-taken.ensures.sent ∙ ap (λ (k : Option (Cut Given)). c.loop-live.out.to_client ++ cut_bytes l k) none ∙ append-nil c.loop-live.out.to_client in
    record {
      same = c.write_filling.ensures.same ∙ same;
      filled = record { requests = all.requests; few = all.few; left = all.left };
      sent = ap (λ (bs : List ℕ). record c.loop-live.out { to_client = bs }) sent ∙ all.gives;
      err = tt;
      wants = tt;
    }

pub loop-live-preserved : goal.loop-live-preserved
loop-live-preserved c =
    let is : c.loop-live.live-iterator ≡ c.in-Some.live.now ∷ c.next.new.self = search rules in
    let l = c.in-Some.live.now in
    let k = c.loop-live.filled.packets in
    let inv = c.loop-live.invariant in
    let cut-at = λ (u : Up). row_cut u.row.max_packet l (drop k u.held) in
    let got = subst (λ t. HasTaken t (drop k c.loop-live.up.held) (cut-at c.loop-live.up)) c.in-Some-2.is c.in_ok-taken.ensures.taken in
    let took = subst (λ (u : Up). HasTaken (Some c.in-Some-2.taken) (drop k u.held) (cut-at u)) inv.same got in
    let sent = c.in_ok-taken.ensures.sent ∙ ap (λ (u : Up). c.loop-live.out.to_client ++ cut_bytes l (cut-at u)) inv.same in
    let gives : ◌≡◌ {A = Outputs} (record { to_client = c.write_filling.new.out; to_host = c.loop-live.out.to_host; notes = c.push.new.self }) (with_answers c.loop-live.out (cut_bytes l (cut-at c.args.up.now)) (note.Answered l.seqnum ∷ [])) = λ i. record c.loop-live.out { to_client = sent i; notes = c.in_ok-push.ensures.ok i } in
    record {
      can = tt;
      ends = tt;
      same = c.write_filling.ensures.same ∙ inv.same;
      fine = (subst (AllByRecursion CanFill) is inv.fine).1;
      so_far = moved (taken inv.so_far l is c.in-Some-2.taken took) c.and-filled.ensures gives;
      many = omega (arith, inv.many, ap length is, ap (λ (f : Filled). f.requests) c.and-filled.ensures);
      some = extended inv.some (cut_bytes l (cut-at c.args.up.now)) (note.Answered l.seqnum ∷ []) gives;
    }

-- all were gone over
pub returns : goal.returns
returns c =
    let all = none-left c.loop-live.invariant.so_far c.in-None.ensures.steps.0 in
    record { same = c.loop-live.invariant.same; filled = record { requests = all.requests; few = all.few; left = all.left }; sent = all.gives; err = tt; wants = tt }

-- memory ran out for one that is filled
pub returns-in_err-taken-clause-wants : goal.returns-in_err-taken-clause-wants
returns-in_err-taken-clause-wants c =
    let is : c.loop-live.live-iterator ≡ c.in-Some.live.now ∷ c.next.new.self = search rules in
    let l = c.in-Some.live.now in
    let k = c.loop-live.filled.packets in
    let cut-at = λ (u : Up). row_cut u.row.max_packet l (drop k u.held) in
    on-err c.from_residual.result _ (some-filled c.loop-live.invariant.so_far l is (subst (λ (u : Up). IsSome (cut-at u)) c.loop-live.invariant.same c.in_err-taken.ensures.wants))

pub returns-in_err-push-clause-wants : goal.returns-in_err-push-clause-wants
returns-in_err-push-clause-wants c =
    let is : c.loop-live.live-iterator ≡ c.in-Some.live.now ∷ c.next.new.self = search rules in
    let l = c.in-Some.live.now in
    let k = c.loop-live.filled.packets in
    let cut-at = λ (u : Up). row_cut u.row.max_packet l (drop k u.held) in
    let got = subst (λ t. HasTaken t (drop k c.loop-live.up.held) (cut-at c.loop-live.up)) c.in-Some-2.is c.in_ok-taken.ensures.taken in
    let some = cut-some c.in-Some-2.taken (drop k c.loop-live.up.held) (cut-at c.loop-live.up) got in
    on-err c.from_residual-in_err-push.result _ (some-filled c.loop-live.invariant.so_far l is (subst (λ (u : Up). IsSome (cut-at u)) c.loop-live.invariant.same some))
