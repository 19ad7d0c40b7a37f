-- What dialling, making the door and letting a client in ask of the system.
use Rattle.std.specs.Prelude.{◌≡◌, ◌⊎◌, ℕ, Bool, true, false, List, Some, Result, Ok, Err}
use Rattle.std.specs.declared.io.Error.{Error}
use Rattle.gate_sockets.specs.State.{States, opened, faulted, idled}

-- a client was let in: the one that the door gave
abbrev pub LetIn : {S D : Type 0} → (D → Result S Error → D → Type 0) → (S → Bool → S → Type 0) → States S D → States S D → Type 0
LetIn {S = S} {D = D} gives sets old new =
    (door : D) × ((door_new : D) × ((given : S) × ((stream : S) × ((old.door ≡ Some door) × gives door (Ok given) door_new × sets given true stream
    × (new ≡ record old { door = Some door_new; client = opened stream old.client })))))

-- the door gave no client, or one who can't be set up, and who is let go
abbrev pub NotSetUp : {S : Type 0} → (S → Bool → S → Type 0) → Result S Error → Type 0
NotSetUp {S = S} sets (Ok given) = (stream : S) × sets given false stream
NotSetUp sets (Err error) = Unit {0}

abbrev pub NobodyLetIn : {S D : Type 0} → (D → Result S Error → D → Type 0) → (S → Bool → S → Type 0) → States S D → States S D → Type 0
NobodyLetIn {S = S} {D = D} gives sets old new =
    (door : D) × ((door_new : D) × ((answer : Result S Error) × ((old.door ≡ Some door) × gives door answer door_new × NotSetUp sets answer
    × (new ≡ record old { door = Some door_new }))))

abbrev pub CameOnce : {S D : Type 0} → (D → Result S Error → D → Type 0) → (S → Bool → S → Type 0) → Bool → States S D → States S D → Type 0
CameOnce gives sets true old new = LetIn gives sets old new
CameOnce gives sets false old new = NobodyLetIn gives sets old new

-- at the first look, or at a second one
abbrev pub Came : {S D : Type 0} → (D → Result S Error → D → Type 0) → (S → Bool → S → Type 0) → Bool → States S D → States S D → Type 0
Came {S = S} {D = D} gives sets came old new =
    CameOnce gives sets came old new ⊎ ((mid : States S D) × (NobodyLetIn gives sets old mid × CameOnce gives sets came mid new))

-- where nobody came, the client's side was idle once
abbrev pub rested_by : {S D : Type 0} → Bool → States S D → States S D
rested_by true states = states
rested_by false states = record states { client = idled states.client }

abbrev pub IsAccepted : {S D : Type 0} → (D → Result S Error → D → Type 0) → (S → Bool → S → Type 0) → Bool → States S D → States S D → Type 0
IsAccepted {S = S} {D = D} gives sets came old new = (over : States S D) × (Came gives sets came old over × (new ≡ rested_by came over))

-- the host was dialled at this address, and the connection that this gave is set up
abbrev pub Dialled : {S D : Type 0} → (List ℕ → Result S Error → Type 0) → (S → Bool → S → Type 0) → List ℕ → States S D → States S D → Type 0
Dialled {S = S} gives sets addr old new =
    (given : S) × ((stream : S) × (gives addr (Ok given) × sets given true stream × (new ≡ record old { host = opened stream old.host })))

abbrev pub NotDialled : {S D : Type 0} → (List ℕ → Result S Error → Type 0) → (S → Bool → S → Type 0) → List ℕ → States S D → States S D → Type 0
NotDialled {S = S} gives sets addr old new = (answer : Result S Error) × (gives addr answer × NotSetUp sets answer × (new ≡ old))

abbrev pub DialledBy : {S D : Type 0} → (List ℕ → Result S Error → Type 0) → (S → Bool → S → Type 0) → List ℕ → Bool → States S D → States S D → Type 0
DialledBy gives sets addr true old new = Dialled gives sets addr old new
DialledBy gives sets addr false old new = NotDialled gives sets addr old new

-- one fault more of the host's side where it can't be dialled
abbrev pub host_faulted_by : {S D : Type 0} → Bool → States S D → States S D
host_faulted_by true states = states
host_faulted_by false states = record states { host = faulted states.host }

abbrev pub Dials : {S D : Type 0} → (List ℕ → Result S Error → Type 0) → (S → Bool → S → Type 0) → List ℕ → Bool → States S D → States S D → Type 0
Dials {S = S} {D = D} gives sets addr done old new = (over : States S D) × (DialledBy gives sets addr done old over × (new ≡ host_faulted_by done over))

-- the door that the system gave at this address
abbrev pub MadeBy : {S D : Type 0} → (List ℕ → Result D Error → Type 0) → List ℕ → Bool → States S D → States S D → Type 0
MadeBy {D = D} gives addr true old new = (door : D) × (gives addr (Ok door) × (new ≡ record old { door = Some door }))
MadeBy gives addr false old new = (error : Error) × (gives addr (Err error) × (new ≡ old))

abbrev pub client_faulted_by : {S D : Type 0} → Bool → States S D → States S D
client_faulted_by true states = states
client_faulted_by false states = record states { client = faulted states.client }

abbrev pub Makes : {S D : Type 0} → (List ℕ → Result D Error → Type 0) → List ℕ → Bool → States S D → States S D → Type 0
Makes {S = S} {D = D} gives addr done old new = (over : States S D) × (MadeBy gives addr done old over × (new ≡ client_faulted_by done over))
