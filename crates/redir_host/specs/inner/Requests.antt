-- The requests of a slab, in the order of keys beside it.
use Rattle.std.specs.Prelude.{ℕ, List, [], ◌∷◌, Option, Some, None}
use Rattle.slab.specs.Slab.{Slab, get}
use Rattle.redir_host.specs.declared.state.request.Request.{Request}

-- the requests of these keys, each under its number
abbrev pub under : ℕ → Option Request → List (ℕ × Request) → List (ℕ × Request)
under number None es = es
under number (Some q) es = (number, q) ∷ es

abbrev pub requests_of : Slab Request → List (ℕ × ℕ) → List (ℕ × Request)
requests_of slab [] = []
requests_of slab (e ∷ es) = under e.0 (get slab e.1) (requests_of slab es)
