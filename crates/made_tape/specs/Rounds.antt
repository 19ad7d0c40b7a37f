-- The lines of the tape that a number stands for. Each round has a number, made of the one before it, which says how
-- many bytes it moves, and in which of four orders.
use Rattle.std.specs.Prelude.{ℕ, zero, suc, ◌+◌, ◌*◌, ◌/◌, ◌%◌, ◌^◌, ◌==◌, if◌then◌else◌, List, [], ◌∷◌, ◌++◌, map}
use Rattle.packet_show.specs.declared.tape.ModelLine.{ModelLine}
use Rattle.packet_show.specs.declared.tape.ModelLine.TheVariants.{Client, ToHost, ToGate, Perform}
use Rattle.made_tape.specs.declared.task.TheConstants.{ALL, MOST_MOVED}
use Rattle.made_tape.specs.declared.task.Task.{Task}
use Rattle.made_tape.specs.declared.task.Task.TheVariants.{Import, Configure, Send, Ask, TakeBack, OneToHost, AllToHost, OneToGate, AllToGate, PerformControl, PerformOut, PerformIn}
use Rattle.made_tape.specs.Packets.{import_bytes, configure_bytes, send_bytes, ask_bytes, take_back_bytes}

-- the number of the round behind one with this number
unfoldable pub next_number : ℕ → ℕ
next_number x = (1103515245 * x + 12345) % 2 ^ 31

-- how many bytes a round with this number moves
abbrev pub size_of : ℕ → ℕ
size_of x = 1 + x % MOST_MOVED

-- the line of a task in a round with this number
abbrev pub said : (round x : ℕ) → Task → ModelLine
said round x Import = Client import_bytes
said round x Configure = Client configure_bytes
said round x Send = Client (send_bytes round (size_of x))
said round x Ask = Client (ask_bytes round (size_of x))
said round x TakeBack = Client (take_back_bytes round)
said round x OneToHost = ToHost 1
said round x AllToHost = ToHost ALL
said round x OneToGate = ToGate 1
said round x AllToGate = ToGate ALL
said round x PerformControl = Perform 0x00
said round x PerformOut = Perform 0x01
said round x PerformIn = Perform 0x81

-- before the first round
abbrev pub opening : List Task
opening = AllToHost ∷ AllToGate ∷ Import ∷ Configure ∷ AllToHost ∷ PerformControl ∷ AllToGate ∷ []

-- in a round of each order
abbrev pub ordered : ℕ → List Task
ordered way =
    if way == 0 then AllToHost ∷ PerformOut ∷ PerformIn ∷ AllToGate ∷ []
    else if way == 1 then AllToHost ∷ PerformOut ∷ TakeBack ∷ PerformIn ∷ AllToHost ∷ AllToGate ∷ []
    else if way == 2 then AllToHost ∷ PerformOut ∷ TakeBack ∷ AllToHost ∷ PerformIn ∷ AllToGate ∷ []
    else OneToHost ∷ AllToHost ∷ PerformOut ∷ PerformIn ∷ OneToGate ∷ AllToGate ∷ []

-- in a round with this number
unfoldable pub tasks_of : ℕ → List Task
tasks_of x = Send ∷ Ask ∷ ordered (x / MOST_MOVED % 4)

-- so many rounds more behind a round with this number
abbrev pub rounds : (more round x : ℕ) → List ModelLine
rounds zero round x = []
rounds (suc more) round x = map (said (round + 1) (next_number x)) (tasks_of (next_number x)) ++ rounds more (round + 1) (next_number x)

-- the number of the rounds is also that from which their numbers are made
abbrev pub made_lines : ℕ → List ModelLine
made_lines count = map (said 0 count) opening ++ rounds count 0 count
