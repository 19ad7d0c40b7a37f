-- Small runs of the calls, worked out by hand: what is served sends each piece of a client back to it.
use Rattle.std.proofs.Common.{◌≡◌, ℕ, true, false, List, [], ◌∷◌, ◌++◌, None, refl}
use Rattle.usb_base.specs.declared.side.Side.TheVariants.{Client, Host}
use Rattle.gate_outside.specs.declared.turn.Turn.{Turn}
use Rattle.gate_outside.specs.declared.turn.Turn.TheVariants.{Piece, Wait}
use Rattle.bridge_run.specs.events.Events.{PastLinkEvent, ClientComes, ClientQuiet, SidePiece, SideEnd}
use Rattle.bridge_run.specs.declared.course.serve_end.ServeEnd.TheVariants.{Ended}
use Rattle.bridge_run.specs.course.Course.{Setting, Course, Making}
use Rattle.bridge_run.specs.written.Recorded.{lines_of}
use Rattle.bridge_run.specs.course.Calls.{Goes, Stops, calls}

abbrev echo : List PastLinkEvent → List ℕ
echo [] = []
echo (ClientComes ∷ events) = echo events
echo (ClientQuiet ∷ events) = echo events
echo (SidePiece side b ∷ events) = echo events ++ b
echo (SideEnd side ∷ events) = echo events

abbrev toy : ℕ → Setting
toy idle = record { served = record { to_client = echo; to_host = λ events. 9 ∷ []; refusals = λ events. []; lets_go = λ events. false }; idle = idle }

abbrev start : ℕ → List (List Turn) → List Turn → Course
start idle clients host = record {
  events = [];
  client_up = false;
  host_up = false;
  client = [];
  clients = clients;
  host = host;
  busy = false;
  waits = idle;
  left = 99;
  to_client = [];
  to_host = [];
  told = [];
  recorded = [];
  waiting = [];
}

-- an event's lines are put behind those before it
abbrev behind : List ℕ → PastLinkEvent → List ℕ
behind lines e = lines ++ lines_of e []

-- A host's three pieces and its end, and a client's one, behind which it waits once. Each piece is sent to the client,
-- and so is recorded at once; a client's end waits for the next.
toy-ended : calls (toy 5) 24 (Goes Making (start 5 ((Piece (7 ∷ []) ∷ Wait ∷ []) ∷ []) (Piece (1 ∷ []) ∷ Piece (2 ∷ []) ∷ Piece (3 ∷ []) ∷ [])))
    ≡ Stops (Ended None) (record {
      events = SideEnd Host ∷ SidePiece Host (3 ∷ []) ∷ SideEnd Client ∷ SidePiece Host (2 ∷ []) ∷ ClientQuiet ∷ SidePiece Host (1 ∷ []) ∷ SidePiece Client (7 ∷ []) ∷ ClientComes ∷ [];
      client_up = false;
      host_up = false;
      client = [];
      clients = [];
      host = [];
      busy = true;
      waits = 5;
      left = 94;
      to_client = 7 ∷ 1 ∷ 2 ∷ [];
      to_host = 9 ∷ [];
      told = [];
      recorded = behind ((behind (behind (behind (behind (behind [] ClientComes) (SidePiece Client (7 ∷ []))) (SidePiece Host (1 ∷ []))) ClientQuiet) (SidePiece Host (2 ∷ [])) ++ []) ++ (lines_of (SideEnd Client) [] ++ lines_of (SidePiece Host (3 ∷ [])) [])) (SideEnd Host);
      waiting = [];
    })
toy-ended = refl
