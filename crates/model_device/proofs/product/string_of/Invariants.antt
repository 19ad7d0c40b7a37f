use Rattle.std.proofs.Common.{◌≡◌, ◌++◌, ◌∷◌, [], drop}
use Rattle.std.specs.List.{flat_map}
use Rattle.model_device.specs.Device.{string_of}
use Rattle.model_device.proofs.product.string_of.Given as goal

abbrev pub invariant-loop-letter : goal.invariant-loop-letter
invariant-loop-letter l = string_of l.text ≡ l.string ++ flat_map (λ letter. letter ∷ 0 ∷ []) (drop l.letter-index l.text)
