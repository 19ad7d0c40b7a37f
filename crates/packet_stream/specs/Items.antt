-- The items that a stream brings to a history: its packets and its wrong place, in their order.
use Rattle.std.specs.Prelude.{ℕ, List, ◌∷◌, ◌++◌, length, map, drop, fold, option_to_list}
use Rattle.packet_stream.specs.Split.{Splitting}

-- of a splitting, by what a packet and the wrong place become at their places
abbrev pub items_of : {S P R I : Type 0} → (ℕ → P → I) → (ℕ → R → I) → Splitting S P R → List I
items_of packet wrong x = map (λ p. packet p.0 p.1) x.packets ++ map (λ w. wrong w.0 w.1) (option_to_list x.wrong)

-- those that a stream has with a piece, and without it hasn't
abbrev pub added : {I : Type 0} → (List ℕ → List I) → List ℕ → List ℕ → List I
added items stream piece = drop (length (items stream)) (items (stream ++ piece))

-- items that came one after another, put on those before them, the latest first
abbrev pub onto : {I : Type 0} → List I → List I → List I
onto xs before = fold (λ above x. x ∷ above) before xs
