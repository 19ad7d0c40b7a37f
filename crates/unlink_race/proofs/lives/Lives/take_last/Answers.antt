use Rattle.std.proofs.Common.{◌≡◌, ℕ, suc, ◌-◌, ◌<◌, ◌++◌, Bool, false, true, List, length, take, ap, ◌∙◌, arith}
use Rattle.std.proofs.lemmas.List.{append-nil}
use Rattle.std.proofs.Math.ListN.{drop_of_length-le}
use Rattle.std.specs.List.{remove}
use Rattle.unlink_race.specs.declared.live.Live.{Live}
use Rattle.unlink_race.specs.Requests.{Requests}
use Rattle.unlink_race.specs.Inner.Sound.{requests_of}
use Rattle.unlink_race.proofs.lives.Lives.take_last.Goals as goal

last_removed : {X : Type 0} (xs : List X) (i : ℕ) → i ≡ length xs - 1 → 0 < length xs → remove xs i ≡ take (length xs - 1) xs
last_removed {X = X} xs i is some =
    ap (λ (l : List X). take i xs ++ l) (drop_of_length-le xs {i = suc i} (omega (arith, is, some))) ∙ append-nil (take i xs) ∙ ap (λ (n : ℕ). take n xs) is

without_last : (old : Requests) (gone : Bool) (table new : List Live) (i : ℕ) → requests_of gone table ≡ old → gone ≡ false → i ≡ length table - 1 → 0 < length table → new ≡ remove table i →
    requests_of gone new ≡ record old { live = take (length old.live - 1) old.live }
without_last old true table new i view e is some rest = absurd cc
without_last old false table new i view e is some rest =
    ap (requests_of false) (rest ∙ last_removed table i is some) ∙ ap (λ (r : Requests). record r { live = take (length r.live - 1) r.live }) view

pub returns-clause-rest : goal.returns-clause-rest
returns-clause-rest c =
    without_last c.args.self.now c.self.inside.client_gone c.self.inside.table c.remove.new.self (c.len-2.result - 1) c.self.view_is c.if-self.false
    (omega (arith, c.len-2.ensures.len)) (omega (arith, c.len.ensures.len, c.if-len-eq0.false)) c.remove.ensures.rest
