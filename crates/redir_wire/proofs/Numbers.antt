-- The types of packets and their numbers.
use Rattle.std.proofs.Common.{◌≡◌, ℕ, ◌<◌, ◌^◌, Bool, true, false, cond, List, [], ◌∷◌, Option, Some, None, refl, sym, ap, ◌∙◌, arith}
use Rattle.std.specs.Prelude.{find, not, ◌&&◌, ◌||◌, ◌==◌, is_some}
use Rattle.std.proofs.lemmas.Bool.{and_from, eqb-true, not_from_false}
use Rattle.redir_wire.specs.declared.packet.Caps.{Caps}
use Rattle.redir_wire.specs.declared.kind.PlainKind.{PlainKind}
use Rattle.redir_wire.specs.declared.kind.PlainKind.TheVariants as plain
use Rattle.redir_wire.specs.declared.kind.DataKind.{DataKind}
use Rattle.redir_wire.specs.declared.kind.DataKind.TheVariants as moving
use Rattle.redir_wire.specs.declared.kind.Kind.{Kind}
use Rattle.redir_wire.specs.declared.kind.Kind.TheVariants.{Plain, Carrying}
use Rattle.redir_wire.specs.declared.kind.TypeRow.{TypeRow}
use Rattle.redir_wire.specs.Table.{plain_row, data_row, row_of, plain_kinds, data_kinds, plain_numbered, data_numbered, kind_numbered, is_left_out}
use Rattle.redir_wire.specs.Header.{row_says}

-- ---- a number that was found is its type's

found_step : {X : Type 0} (test : X → Bool) (x y : X) (t : Bool) (later : Option X) → test x ≡ t → (later ≡ Some y → test y ≡ true) → cond t (Some x) later ≡ Some y → test y ≡ true
found_step test x y true later e h is = let same : x ≡ y = cc in ap test (sym same) ∙ e
found_step test x y false later e h is = h is

found_passes : {X : Type 0} (test : X → Bool) (xs : List X) (y : X) → find test xs ≡ Some y → test y ≡ true
found_passes test [] y e = absurd cc
found_passes test (x ∷ xs) y e = found_step test x y (test x) (find test xs) refl (found_passes test xs y) e

pub plain_number : (n : ℕ) (k : PlainKind) → plain_numbered n ≡ Some k → n ≡ (plain_row k).number
unfolding plain_numbered
plain_number n k e = sym (eqb-true (plain_row k).number n (found_passes (λ x. (plain_row x).number == n) plain_kinds k e))

pub data_number : (n : ℕ) (k : DataKind) → data_numbered n ≡ Some k → n ≡ (data_row k).number
unfolding data_numbered
data_number n k e = sym (eqb-true (data_row k).number n (found_passes (λ x. (data_row x).number == n) data_kinds k e))

-- ---- a type's number finds it

pub plain_again : (k : PlainKind) → plain_numbered (plain_row k).number ≡ Some k
unfolding plain_numbered
plain_again plain.Hello = refl
plain_again k = refl

data_only : (k : DataKind) → plain_numbered (data_row k).number ≡ None
unfolding plain_numbered
data_only moving.Control = refl
data_only k = refl

pub data_again : (k : DataKind) → data_numbered (data_row k).number ≡ Some k
unfolding data_numbered
data_again moving.Control = refl
data_again k = refl

pub kind_again : (k : Kind) → kind_numbered (row_of k).number ≡ Some k
kind_again (Plain k) = rw (plain_again k) refl
kind_again (Carrying k) = rw (data_only k, data_again k) refl

-- ---- what the checks of a header say of it

pub says : (test : TypeRow → Bool) (k : Kind) → row_says test (row_of k).number ≡ test (row_of k)
says test k = rw (kind_again k) refl

or_some : (t : Bool) (o : Option Kind) (k : Kind) → o ≡ Some k → (t || is_some o) ≡ true
or_some true o k e = refl
or_some false o k e = rw e refl

pub known : (k : Kind) → (is_left_out (row_of k).number || is_some (kind_numbered (row_of k).number)) ≡ true
known k = or_some (is_left_out (row_of k).number) (kind_numbered (row_of k).number) k (kind_again k)

not_left_out : (k : Kind) → is_left_out (row_of k).number ≡ false
not_left_out (Plain plain.Hello) = refl
not_left_out (Plain k) = refl
not_left_out (Carrying moving.Control) = refl
not_left_out (Carrying k) = refl

pub number_fits : (k : Kind) → (row_of k).number < 2 ^ 32
number_fits (Plain plain.Hello) = omega arith
number_fits (Plain k) = omega arith
number_fits (Carrying moving.Control) = omega arith
number_fits (Carrying k) = omega arith

pub agreed_by : (caps : Caps) (k : Kind) (test : TypeRow → Bool) → test (row_of k) ≡ true → (not (is_left_out (row_of k).number) && row_says test (row_of k).number) ≡ true
agreed_by caps k test e = and_from (not (is_left_out (row_of k).number)) (row_says test (row_of k).number) (not_from_false (is_left_out (row_of k).number) (not_left_out k)) (says test k ∙ e)
