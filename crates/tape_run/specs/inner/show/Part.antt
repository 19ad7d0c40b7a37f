-- What an event makes of a side's bytes.
use Rattle.std.specs.Prelude.{◌≡◌, ℕ, List, [], ◌++◌}
use Rattle.tape_run.specs.declared.show.format.Part.{Part}
use Rattle.tape_run.specs.declared.show.format.Part.TheVariants.{Piece, End, Other}

abbrev pub IsPart : Part → List ℕ → List ℕ → Type 0
IsPart (Piece piece) old new = new ≡ old ++ piece.now
IsPart End old new = new ≡ []
IsPart Other old new = new ≡ old
