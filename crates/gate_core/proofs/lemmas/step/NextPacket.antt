-- A packet that is next in a stream fits its format.
use Rattle.std.proofs.Common.{◌≡◌, ℕ, Bool, false, List, [], ◌∷◌, Option, Some, Result, Ok, refl, sym, subst}
use Rattle.usb_base.specs.Number.{AreBytes}
use Rattle.usb_base.specs.declared.reason.Reason.{Reason}
use Rattle.packet_stream.specs.Format.{Format, IsSound}
use Rattle.packet_stream.specs.Split.{Position, Spells, reads, split}
use Rattle.packet_stream.specs.declared.read.ReadError.{ReadError}
use Rattle.packet_stream.specs.Streams.{StreamView, Left, FollowsBy, Follows, GivesNext, Answered, Nexts, Changes, capped}
use Rattle.packet_stream.proofs.Following.{changed_to, follows-front}
use Rattle.packet_stream.proofs.Splits.{is_splitting}

-- the bytes of a stream are bytes, and its place is one
abbrev pub IsReadable : {S : Type 0} → StreamView S → Type 0
IsReadable kept = kept.over ≡ false → AreBytes kept.rest × (kept.place ≡ capped kept.place)

first-fits : {S P : Type 0} (format : S → Format P Reason) (next : S → P → S) (a z : Position S) (bytes rest : List ℕ) (ps left : List (ℕ × P)) (i : ℕ × P) → ps ≡ i ∷ left →
    Spells format next a bytes ps z rest → (format a.state).Fits i.1
first-fits {P = P} format next a z bytes rest ps left i is spelled =
    let first : Spells format next a bytes (i ∷ left) z rest = subst (λ (l : List (ℕ × P)). Spells format next a bytes l z rest) is spelled in
    first.2

pub fits-next : {S P : Type 0} (format : S → Format P Reason) (next : S → P → S) → ((s : S) → IsSound (format s)) → (takes : P → Bool) (old new : StreamView S) (result : Result (Option (ℕ × P)) ReadError) (i : ℕ × P) →
    IsReadable old → Changes result old new → Nexts (reads format next) takes result old new → result ≡ Ok (Some i) → (format old.state).Fits i.1
fits-next {S = S} {P = P} format next sound takes old new result i readable changes nexts is =
    let r = reads format next in
    let start : Position S = record { state = old.state; place = old.place } in
    let x = split r start old.rest in
    let going = (changed_to old new result (Ok (Some i)) changes is).1 in
    let can = readable going in
    let left : Left r old x [] = record { at = start; parts = refl; place = can.1; state = refl; fits = can.0 } in
    let first : Follows r start old old.rest [] = record { fits = can.0; follows = subst (FollowsBy r old x []) (sym going) left } in
    let gives : GivesNext r start new old.rest [] i.0 i.1 = subst (λ (y : Result (Option (ℕ × P)) ReadError). Answered r takes start y new old.rest []) is (nexts start old.rest [] first) in
    let front = follows-front r start new old.rest ((gives.at, i.1) ∷ []) gives.follows in
    let found = is_splitting format next sound start old.rest can.0 in
    first-fits format next start x.position old.rest found.left x.packets front.0 (gives.at, i.1) front.1 found.spelled
