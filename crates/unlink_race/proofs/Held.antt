-- The one list of a table is that of all requests in flight.
use Rattle.std.proofs.Common.{◌≡◌, ℕ, ◌-◌, ◌<◌, Bool, true, false, List, length, refl, ap, sym, ◌∙◌, arith, inl, inr}
use Rattle.std.specs.List.{remove}
use Rattle.std.proofs.lemmas.Bool.{lt-ltb, le-ltb}
use Rattle.std.proofs.lemmas.List.{append-nil}
use Rattle.unlink_race.specs.declared.live.Live.{Live}
use Rattle.unlink_race.specs.Requests.{Requests, OneIsEmpty, in_flight, without_at}
use Rattle.unlink_race.specs.Inner.Sound.{requests_of}

of_table : (gone : Bool) (table : List Live) → in_flight (requests_of gone table) ≡ table
of_table true table = refl
of_table false table = append-nil table

pub one_empty : (gone : Bool) (table : List Live) → OneIsEmpty (requests_of gone table)
one_empty true table = inl refl
one_empty false table = inr refl

pub held : (old : Requests) (gone : Bool) (table : List Live) → requests_of gone table ≡ old → table ≡ in_flight old
held old gone table view = sym (of_table gone table) ∙ ap in_flight view

of_table_without : (gone : Bool) (table : List Live) (place : ℕ) → place < length table → requests_of gone (remove table place) ≡ without_at place (requests_of gone table)
of_table_without true table place within =
    let e : place - 0 ≡ place = omega arith in
    rw (le-ltb place 0 (omega arith), e) refl
of_table_without false table place within = rw (lt-ltb place (length table) within) refl

-- a table without the request at a place
pub held_without : (old : Requests) (gone : Bool) (table left : List Live) (place : ℕ) → requests_of gone table ≡ old → place < length table → left ≡ remove table place → requests_of gone left ≡ without_at place old
held_without old gone table left place view within is = ap (requests_of gone) is ∙ of_table_without gone table place within ∙ ap (without_at place) view
