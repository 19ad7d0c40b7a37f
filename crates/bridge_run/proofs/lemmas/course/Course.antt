-- Calls one after another.
use Rattle.std.proofs.Common.{◌≡◌, ℕ, zero, suc, ◌+◌, List, Result, Ok, Err, refl, sym, ap, ◌∙◌, subst, add-zero, add-suc}
use Rattle.std.specs.Result.{IsErrAnd}
use Rattle.bridge_run.specs.events.Events.{PastLinkEvent}
use Rattle.bridge_run.specs.declared.course.serve_end.ServeEnd.{ServeEnd}
use Rattle.bridge_run.specs.declared.course.serve_end.ServeEnd.TheVariants.{Ended, LinkFault, WriteFault, Idle, Spent, Memory}
use Rattle.bridge_run.specs.declared.course.rounds.Rounds.{Rounds}
use Rattle.bridge_run.specs.course.Course.{Setting, Course, Next}
use Rattle.bridge_run.specs.course.Calls.{Outcome, Goes, Stops, call, calls, and_then, course_of}
use Rattle.bridge_run.specs.course.Outside.{Outside, Cut, Written, Faults, HasCause}
use Rattle.bridge_run.specs.course.Serves.{Reaches, EndsSo, MayRunOut, CutShort, Leaves}
use Rattle.bridge_run.specs.inner.Follows.{IsCutEnd, HasFaults, RunsOn}

calls-more : (s : Setting) (m n : ℕ) (o : Outcome) → calls s (m + n) o ≡ calls s n (calls s m o)
calls-more s m zero o = ap (λ (k : ℕ). calls s k o) (add-zero m)
calls-more s m (suc n) o = ap (λ (k : ℕ). calls s k o) (add-suc m n) ∙ ap (λ (x : Outcome). and_then x (call s)) (calls-more s m n o)

-- no call yet
pub reaches-none : (s : Setting) (o : Outcome) → Reaches s o o
reaches-none s o = record { count = 0; is = refl }

-- one call more
pub reaches-call : (s : Setting) (from : Outcome) (next : Next) (c : Course) (to : Outcome) → Reaches s from (Goes next c) → call s next c ≡ to → Reaches s from to
reaches-call s from next c to r e = record { count = suc r.count; is = ap (λ (x : Outcome). and_then x (call s)) r.is ∙ e }

pub reaches-then : (s : Setting) (from : Outcome) (next : Next) (c : Course) (to : Outcome) → Reaches s from (Goes next c) → Reaches s (Goes next c) to → Reaches s from to
reaches-then s from next c to a b = record { count = a.count + b.count; is = calls-more s a.count b.count from ∙ ap (λ (x : Outcome). calls s b.count x) a.is ∙ b.is }

ends-then : (s : Setting) (from : Outcome) (next : Next) (c : Course) (e : ServeEnd) (w : Outside) (out : Written) → Reaches s from (Goes next c) → EndsSo s (Goes next c) e w out → EndsSo s from e w out
ends-then s from next c e w out r x = record { course = x.course; reaches = reaches-then s from next c (Stops e x.course) r x.reaches; tells = x.tells }

cut-then : {e : ServeEnd} {runs_out : List PastLinkEvent → PastLinkEvent → List ℕ → List ℕ → Type 0} → (s : Setting) (from : Outcome) (next : Next) (c : Course) (w : Outside) (out : Written) → Reaches s from (Goes next c) → CutShort e runs_out s (Goes next c) w out → CutShort e runs_out s from w out
cut-then s from next c w out r x = record { next = x.next; course = x.course; reaches = reaches-then s from next c (Goes x.next x.course) r x.reaches; cut = x.cut }

pub leaves-then : (e : ServeEnd) (runs_out : List PastLinkEvent → PastLinkEvent → List ℕ → List ℕ → Type 0) (s : Setting) (from : Outcome) (next : Next) (c : Course) (w : Outside) (out : Written) → Reaches s from (Goes next c) → Leaves e runs_out s (Goes next c) w out → Leaves e runs_out s from w out
leaves-then (Ended refused) runs_out s from next c w out r x = ends-then s from next c (Ended refused) w out r x
leaves-then Idle runs_out s from next c w out r x = ends-then s from next c Idle w out r x
leaves-then Spent runs_out s from next c w out r x = ends-then s from next c Spent w out r x
leaves-then (LinkFault side) runs_out s from next c w out r x = cut-then s from next c w out r x
leaves-then WriteFault runs_out s from next c w out r x = cut-then s from next c w out r x
leaves-then Memory runs_out s from next c w out r x = cut-then s from next c w out r x

pub runs-then : {T : Type 0} → (result : Result T ServeEnd) (stands : List PastLinkEvent → Type 0) (runs_out : List PastLinkEvent → PastLinkEvent → List ℕ → List ℕ → Type 0) (s : Setting) (k : Rounds) (w : Outside) (out : Written) (from : Outcome) (next : Next) (c : Course) (to : Next)
    → Reaches s from (Goes next c) → RunsOn result stands runs_out s k w out (Goes next c) to → RunsOn result stands runs_out s k w out from to
runs-then (Ok x) stands runs_out s k w out from next c to r runs = record { course = runs.course; reaches = reaches-then s from next c (Goes to runs.course) r runs.reaches; follows = runs.follows }
runs-then (Err e) stands runs_out s k w out from next c to r runs = leaves-then e runs_out s from next c w out r runs

-- a call that was cut
pub cut-leaves : (e : ServeEnd) (runs_out : List PastLinkEvent → PastLinkEvent → List ℕ → List ℕ → Type 0) (s : Setting) (from : Outcome) (w : Outside) (out : Written) → IsCutEnd e → CutShort e runs_out s from w out → Leaves e runs_out s from w out
cut-leaves (Ended refused) runs_out s from w out is x = absurd is
cut-leaves Idle runs_out s from w out is x = absurd is
cut-leaves Spent runs_out s from w out is x = absurd is
cut-leaves (LinkFault side) runs_out s from w out is x = x
cut-leaves WriteFault runs_out s from w out is x = x
cut-leaves Memory runs_out s from w out is x = x

-- the next call was cut
pub cut-next : {e : ServeEnd} {runs_out : List PastLinkEvent → PastLinkEvent → List ℕ → List ℕ → Type 0} → (s : Setting) (from : Outcome) (next : Next) (c d : Course) (w : Outside) (out : Written) → Reaches s from (Goes next c) → course_of (call s next c) ≡ d → Cut (MayRunOut e runs_out s.served) w out c d → CutShort e runs_out s from w out
cut-next {e = e} {runs_out = runs_out} s from next c d w out r is x = record { next = next; course = c; reaches = r; cut = subst (λ (b : Course). Cut (MayRunOut e runs_out s.served) w out c b) (sym is) x }

-- what a `?` hands on
pub is-err : {T : Type 0} → (result : Result T ServeEnd) (e : ServeEnd) → IsErrAnd result (λ x. x ≡ e) → result ≡ Err e
is-err (Ok x) e is = absurd is
is-err (Err x) e is = ap Err is

pub err-runs : {T : Type 0} → (result : Result T ServeEnd) (e : ServeEnd) → IsErrAnd result (λ x. x ≡ e) → (stands : List PastLinkEvent → Type 0) (runs_out : List PastLinkEvent → PastLinkEvent → List ℕ → List ℕ → Type 0) (s : Setting) (k : Rounds) (w : Outside) (out : Written) (from : Outcome) (to : Next)
    → Leaves e runs_out s from w out → RunsOn result stands runs_out s k w out from to
err-runs {T = T} result e is stands runs_out s k w out from to leaves = subst (λ (r : Result T ServeEnd). RunsOn r stands runs_out s k w out from to) (sym (is-err result e is)) leaves

pub err-faults : {T : Type 0} → (result : Result T ServeEnd) (e : ServeEnd) → IsErrAnd result (λ x. x ≡ e) → (old new : Outside) (sink_old sink_new : Faults) → HasCause e old new sink_old sink_new → HasFaults result old new sink_old sink_new
err-faults {T = T} result e is old new sink_old sink_new cause = subst (λ (r : Result T ServeEnd). HasFaults r old new sink_old sink_new) (sym (is-err result e is)) cause
