-- What a taker makes of a stream: one answer of it, and all steps from where a piece has come.
use Rattle.std.proofs.Common.{◌≡◌, ◌+◌, ℕ, zero, suc, inl, inr, if◌then◌else◌, List, length, Option, Some, None, Result, Ok, Err, sym, subst}
use Rattle.std.specs.Result.{IsErrAnd}
use Rattle.usb_base.specs.declared.memory.Memory.{Memory as NoMemory}
use Rattle.usb_base.specs.declared.reason.Reason.{Reason}
use Rattle.packet_stream.specs.declared.read.ReadError.{ReadError}
use Rattle.packet_stream.specs.declared.read.ReadError.TheVariants.{Refused, Memory}
use Rattle.packet_stream.specs.Streams.{StreamView, after_piece, Nexts, Puts, Changes}
use Rattle.packet_stream.specs.Takers.{Taking, TakenStream, TakesAnswer, Took, TakesOne, TakesMany, CanTakeWhole, CanTakePiece, TakesWhole, Reaches, TakesPiece}

-- how much is left to be read
abbrev pub left_of : {S : Type 0} → StreamView S → ℕ
left_of kept = if kept.over then 0 else length kept.rest + 1

pub took-answer : {S P T : Type 0} (k : Taking S P T) (result : Result (Unit {0}) NoMemory) (old : TakenStream S T) (answered : StreamView S) (taker : T) (given answer : Result (Option (ℕ × P)) ReadError) → given ≡ answer →
    Changes given old.stream answered → Nexts k.reader k.takes_memory given old.stream answered → TakesAnswer k answer result old.taker taker → Took k result old answered taker
took-answer {P = P} k result old answered taker given answer is changes nexts takes = record {
  answer = given;
  changes = changes;
  nexts = nexts;
  takes = subst (λ (x : Result (Option (ℕ × P)) ReadError). TakesAnswer k x result old.taker taker) (sym is) takes;
}

-- memory ran out for what came next
pub stops-there : {S P T : Type 0} {memory : NoMemory} (k : Taking S P T) (result : Result (Unit {0}) NoMemory) (n : ℕ) (old last new : TakenStream S T) → IsErrAnd result (λ y. y ≡ memory) →
    TakesMany k n old last → Took k (Err memory) last new.stream new.taker → TakesWhole k result old new
stops-there k (Ok v) n old last new is many took = absurd is
stops-there k (Err y) n old last new is many took = (n, (last, (many, subst (λ (m : NoMemory). Took k (Err m) last new.stream new.taker) (sym is) took)))

-- ---- a piece has come

-- with it each packet that is whole can be taken
pub can-take-whole : {S P T : Type 0} (k : Taking S P T) (CanTake : T → ℕ → P → Type 0) (old : TakenStream S T) (stream : StreamView S) (piece : List ℕ) → stream ≡ after_piece old.stream piece → Puts k.reader piece old.stream stream →
    CanTakePiece k CanTake old piece → CanTakeWhole k CanTake (record { stream = stream; taker = old.taker })
can-take-whole k CanTake old stream piece is puts can n now many = can now (record { stream = stream; is = is; puts = puts; count = n; takes = many })

-- all that are whole with it were taken, or memory ran out for what was next
pub takes-piece : {S P T : Type 0} (k : Taking S P T) (result : Result (Unit {0}) NoMemory) (old : TakenStream S T) (stream : StreamView S) (new : TakenStream S T) (piece : List ℕ) → stream ≡ after_piece old.stream piece → Puts k.reader piece old.stream stream →
    TakesWhole k result (record { stream = stream; taker = old.taker }) new → TakesPiece k result old piece new
takes-piece k (Ok v) old stream new piece is puts w = (w.1.0, (record { stream = stream; is = is; puts = puts; count = w.0; takes = w.1.1.0 }, w.1.1.1))
takes-piece k (Err memory) old stream new piece is puts w = inr (w.1.0, (record { stream = stream; is = is; puts = puts; count = w.0; takes = w.1.1.0 }, w.1.1.1))

-- ---- what holds within a piece

many-keep : {S P T : Type 0} (k : Taking S P T) (Holds : TakenStream S T → Type 0) → ((old new : TakenStream S T) → Holds old → TakesOne k old new → Holds new) →
    (n : ℕ) (old new : TakenStream S T) → Holds old → TakesMany k n old new → Holds new
many-keep k Holds keeps zero old new first takes = subst Holds (sym takes) first
many-keep k Holds keeps (suc n) old new first takes = keeps takes.0 new (many-keep k Holds keeps n old takes.0 first takes.1.0) takes.1.1

-- what holds where the piece has come, and is kept with all that is taken, holds at each packet of it
pub reaches-keeps : {S P T : Type 0} (k : Taking S P T) (Holds : TakenStream S T → Type 0) (old new : TakenStream S T) (piece : List ℕ) →
    ((stream : StreamView S) → stream ≡ after_piece old.stream piece → Puts k.reader piece old.stream stream → Holds (record { stream = stream; taker = old.taker })) →
    ((old new : TakenStream S T) → Holds old → TakesOne k old new → Holds new) → Reaches k old piece new → Holds new
reaches-keeps k Holds old new piece first keeps r = many-keep k Holds keeps r.count _ new (first r.stream r.is r.puts) r.takes

-- ---- what a taker keeps, whatever comes

answer-keeps : {S P T : Type 0} (k : Taking S P T) (Keeps : T → T → Type 0) → ((t : T) → Keeps t t) → ((place : ℕ) (found : Result P Reason) (r : Result (Unit {0}) NoMemory) (t u : T) → k.Takes place found r t u → Keeps t u) →
    (r : Result (Unit {0}) NoMemory) (t u : T) (answer : Result (Option (ℕ × P)) ReadError) → TakesAnswer k answer r t u → Keeps t u
answer-keeps k Keeps same keeps r t u (Ok None) takes = absurd takes
answer-keeps k Keeps same keeps r t u (Ok (Some i)) takes = keeps i.0 (Ok i.1) r t u takes
answer-keeps k Keeps same keeps r t u (Err (Refused place reason)) takes = keeps place (Err reason) r t u takes
answer-keeps k Keeps same keeps r t u (Err (Memory memory)) takes = subst (Keeps t) (sym takes.1) (same t)

ends-kept : {S P T : Type 0} (k : Taking S P T) (Keeps : T → T → Type 0) → ((t : T) → Keeps t t) → ((t u v : T) → Keeps t u → Keeps u v → Keeps t v) →
    ((place : ℕ) (found : Result P Reason) (r : Result (Unit {0}) NoMemory) (t u : T) → k.Takes place found r t u → Keeps t u) →
    (r : Result (Unit {0}) NoMemory) (old : TakenStream S T) (piece : List ℕ) (new : TakenStream S T) → ((now : TakenStream S T) → Reaches k old piece now → Keeps old.taker now.taker) → TakesPiece k r old piece new → Keeps old.taker new.taker
ends-kept k Keeps same joined keeps (Ok v) old piece new still takes = subst (Keeps old.taker) (sym takes.1.1.taker) (still takes.0 takes.1.0)
ends-kept k Keeps same joined keeps (Err memory) old piece new still (inl unput) = subst (Keeps old.taker) (sym unput.taker) (same old.taker)
ends-kept k Keeps same joined keeps (Err memory) old piece new still (inr w) =
    joined old.taker w.0.taker new.taker (still w.0 w.1.0) (answer-keeps k Keeps same keeps (Err memory) w.0.taker new.taker w.1.1.answer w.1.1.takes)

pub piece-keeps : {S P T : Type 0} (k : Taking S P T) (Keeps : T → T → Type 0) → ((t : T) → Keeps t t) → ((t u v : T) → Keeps t u → Keeps u v → Keeps t v) →
    ((place : ℕ) (found : Result P Reason) (r : Result (Unit {0}) NoMemory) (t u : T) → k.Takes place found r t u → Keeps t u) →
    (r : Result (Unit {0}) NoMemory) (old : TakenStream S T) (piece : List ℕ) (new : TakenStream S T) → TakesPiece k r old piece new → Keeps old.taker new.taker
piece-keeps {S = S} {T = T} k Keeps same joined keeps r old piece new takes =
    let still : (now : TakenStream S T) → Reaches k old piece now → Keeps old.taker now.taker =
    λ now reaches. reaches-keeps k (λ (x : TakenStream S T). Keeps old.taker x.taker) old now piece (λ stream is puts. same old.taker)
    (λ a b kept one. joined old.taker a.taker b.taker kept (answer-keeps k Keeps same keeps (Ok tt) a.taker b.taker one.took.answer one.took.takes)) reaches in
    ends-kept k Keeps same joined keeps r old piece new still takes
