-- A made tape read again, round by round; and the rounds that are left.
use Rattle.std.proofs.Common.{◌≡◌, ℕ, zero, suc, ◌+◌, ◌-◌, ◌*◌, ◌/◌, ◌%◌, ◌<◌, ◌≤◌, Bool, true, false, cond, List, [], ◌∷◌, ◌++◌, length, map, nat_eq, refl, sym, ap, ◌∙◌, arith}
use Rattle.std.proofs.lemmas.List.{length-append}
use Rattle.std.proofs.lemmas.Grind.{flat_map-append}
use Rattle.packet_show.specs.declared.tape.ModelLine.{ModelLine}
use Rattle.packet_show.specs.Number.{IsNumber}
use Rattle.made_tape.specs.declared.made.TheConstants.{MOST_ROUNDS}
use Rattle.made_tape.specs.declared.task.TheConstants.{ALL, MOST_MOVED}
use Rattle.made_tape.specs.declared.task.Task.{Task}
use Rattle.made_tape.specs.declared.task.Task.TheVariants.{Import, Configure, Send, Ask, TakeBack, OneToHost, AllToHost, OneToGate, AllToGate, PerformControl, PerformOut, PerformIn}
use Rattle.made_tape.specs.Lines.{line_of, tape_text}
use Rattle.made_tape.specs.Rounds.{said, size_of, opening, ordered, tasks_of, next_number, rounds, made_lines}
use Rattle.made_tape.specs.Again.{AreReadAgain, TapeAgain}
use Rattle.made_tape.proofs.Bytes.{import-piece, configure-piece, send-piece, ask-piece, take_back-piece}
use Rattle.made_tape.proofs.Lines.{IsLine, client-line, perform-line, to_host-line, to_gate-line}

-- ---- a task

one : IsNumber 1
one = record { positive = omega arith; fits = omega arith }

all : IsNumber ALL
all = record { positive = omega arith; fits = omega arith }

task-line : (round x : ℕ) (task : Task) → IsLine (said round x task)
task-line round x Import = client-line _ import-piece
task-line round x Configure = client-line _ configure-piece
task-line round x Send = client-line _ (send-piece round (size_of x) (omega arith))
task-line round x Ask = client-line _ (ask-piece round (size_of x))
task-line round x TakeBack = client-line _ (take_back-piece round)
task-line round x OneToHost = to_host-line 1 one
task-line round x AllToHost = to_host-line ALL all
task-line round x OneToGate = to_gate-line 1 one
task-line round x AllToGate = to_gate-line ALL all
task-line round x PerformControl = perform-line 0x00 (omega arith) refl
task-line round x PerformOut = perform-line 0x01 (omega arith) refl
task-line round x PerformIn = perform-line 0x81 (omega arith) refl

-- ---- lines

-- they are read again, and each has at most 1,123 bytes
record AreLines (lines : List ModelLine) (count : ℕ) : Type 0 where
  again : AreReadAgain lines
  short : length (tape_text lines) ≤ 1123 * count

AreLines-nil : (count : ℕ) → AreLines [] count
AreLines-nil count = record { again = tt; short = omega arith }

AreReadAgain-append : (xs ys : List ModelLine) → AreReadAgain xs → AreReadAgain ys → AreReadAgain (xs ++ ys)
AreReadAgain-append [] ys p q = q
AreReadAgain-append (x ∷ xs) ys p q = (p.0, AreReadAgain-append xs ys p.1 q)

AreLines-append : (xs ys : List ModelLine) (m n : ℕ) → AreLines xs m → AreLines ys n → AreLines (xs ++ ys) (m + n)
AreLines-append xs ys m n p q = record {
  again = AreReadAgain-append xs ys p.again q.again;
  short = omega (arith, p.short, q.short, length-append (tape_text xs) (tape_text ys), ap length (flat_map-append line_of xs ys));
}

tasks-lines : (round x : ℕ) (tasks : List Task) → AreLines (map (said round x) tasks) (length tasks)
tasks-lines round x [] = AreLines-nil 0
tasks-lines round x (task ∷ tasks) =
    let first = task-line round x task in
    let others = tasks-lines round x tasks in record {
      again = (first.again, others.again);
      short = omega (arith, first.short, others.short, length-append (line_of (said round x task)) (tape_text (map (said round x) tasks)));
    }

-- ---- rounds

by_order : (a b c : Bool) (p q r s : List Task) → length p ≤ 6 → length q ≤ 6 → length r ≤ 6 → length s ≤ 6 → length (cond a p (cond b q (cond c r s))) ≤ 6
by_order true b c p q r s hp hq hr hs = hp
by_order false true c p q r s hp hq hr hs = hq
by_order false false true p q r s hp hq hr hs = hr
by_order false false false p q r s hp hq hr hs = hs

few-ordered : (way : ℕ) → length (ordered way) ≤ 6
few-ordered way =
    by_order (nat_eq way 0) (nat_eq way 1) (nat_eq way 2) (AllToHost ∷ PerformOut ∷ PerformIn ∷ AllToGate ∷ []) (AllToHost ∷ PerformOut ∷ TakeBack ∷ PerformIn ∷ AllToHost ∷ AllToGate ∷ [])
    (AllToHost ∷ PerformOut ∷ TakeBack ∷ AllToHost ∷ PerformIn ∷ AllToGate ∷ []) (OneToHost ∷ AllToHost ∷ PerformOut ∷ PerformIn ∷ OneToGate ∷ AllToGate ∷ [])
    (omega arith) (omega arith) (omega arith) (omega arith)

few-tasks : (x : ℕ) → length (tasks_of x) ≤ 8
unfolding tasks_of
few-tasks x = omega (arith, few-ordered (x / MOST_MOVED % 4))

more-room : (lines : List ModelLine) (m n : ℕ) → m ≤ n → AreLines lines m → AreLines lines n
more-room lines m n le p = record { again = p.again; short = omega (arith, p.short) }

rounds-lines : (more round x : ℕ) → AreLines (rounds more round x) (8 * more)
rounds-lines zero round x = AreLines-nil 0
rounds-lines (suc more) round x =
    let first = tasks-lines (round + 1) (next_number x) (tasks_of (next_number x)) in
    more-room _ _ _ (omega (arith, few-tasks (next_number x)))
    (AreLines-append (map (said (round + 1) (next_number x)) (tasks_of (next_number x))) (rounds more (round + 1) (next_number x)) _ _ first (rounds-lines more (round + 1) (next_number x)))

pub tape-again : (count : ℕ) → count ≤ MOST_ROUNDS → TapeAgain (made_lines count)
tape-again count few =
    let whole = AreLines-append (map (said 0 count) opening) (rounds count 0 count) _ _ (tasks-lines 0 count opening) (rounds-lines count 0 count) in record {
      each = whole.again;
      short = omega (arith, whole.short);
    }

-- ---- what is left

-- the next round begins
pub goes-on : (tasks next : List Task) (round x y count : ℕ) → tasks ≡ [] → round < count → y ≡ next_number x → next ≡ tasks_of y →
    map (said (round + 1) y) next ++ rounds (count - (round + 1)) (round + 1) y ≡ map (said round x) tasks ++ rounds (count - round) round x
goes-on tasks next round x y count none more number-is next-is =
    let left : suc (count - (round + 1)) ≡ count - round = omega arith in
    ap (λ (ts : List Task). map (said (round + 1) y) ts ++ rounds (count - (round + 1)) (round + 1) y) next-is
    ∙ ap (λ (n : ℕ). map (said (round + 1) n) (tasks_of n) ++ rounds (count - (round + 1)) (round + 1) n) number-is
    ∙ ap (λ (n : ℕ). rounds n round x) left ∙ ap (λ (ts : List Task). map (said round x) ts ++ rounds (count - round) round x) (sym none)

-- none is left
pub none-left : (tasks : List Task) (round x count : ℕ) → tasks ≡ [] → count ≤ round → map (said round x) tasks ++ rounds (count - round) round x ≡ []
none-left tasks round x count none last =
    let left : count - round ≡ 0 = omega arith in
    ap (λ (ts : List Task). map (said round x) ts ++ rounds (count - round) round x) none ∙ ap (λ (n : ℕ). rounds n round x) left

pub some-tasks : {A : Type 0} (next : List Task) (x : ℕ) → next ≡ tasks_of x → next ≡ [] → A
unfolding tasks_of
some-tasks next x is none = let e : (Send ∷ Ask ∷ ordered (x / MOST_MOVED % 4)) ≡ [] = sym is ∙ none in cc
