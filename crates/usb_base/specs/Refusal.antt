-- The line that tells a refusal.
use Rattle.std.specs.Prelude.{ℕ, List, [], ◌∷◌, ◌++◌, codes, Option, Some, None}
use Rattle.std.specs.Fmt.{decimal}
use Rattle.usb_base.specs.declared.side.Side.{Side}
use Rattle.usb_base.specs.declared.side.Side.TheVariants.{Client, Host}
use Rattle.usb_base.specs.declared.refusal.Refusal.{Refusal}
use Rattle.usb_base.specs.Reason.{number_of, name_of}

abbrev pub side_name : Side → List ℕ
side_name Client = codes "client"
side_name Host = codes "host"

-- the two values that some refusals keep
abbrev pub kept_text : Option (ℕ × ℕ) → List ℕ
kept_text None = []
kept_text (Some kept) = codes " " ++ decimal kept.0 ++ codes " " ++ decimal kept.1

-- `! SIDE PLACE NUMBER NAME`, the kept values, and LF
abbrev pub refusal_line : Refusal → List ℕ
refusal_line r =
    codes "! " ++ side_name r.side ++ codes " " ++ decimal r.place ++ codes " " ++ decimal (number_of r.reason) ++ codes " " ++ name_of r.reason ++ kept_text r.kept ++ 10 ∷ []
