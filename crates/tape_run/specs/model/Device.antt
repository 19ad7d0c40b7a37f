-- The modelled devices: by their names, and each as it is plugged in.
use Rattle.std.specs.Prelude.{ℕ, List, [], ◌∷◌, codes, find, Option, option_map}
use Rattle.std.specs.Str.{bytes_eq}
use Rattle.model_device.specs.Meaning.{Meaning}
use Rattle.model_device.specs.Device.{first_state, meaning_of}
use Rattle.model_device.specs.Keyboard.{keyboard}
use Rattle.model_device.specs.Loopback.{loopback}
use Rattle.model_device.specs.Tone.{tone}
use Rattle.disk_gadget.specs.DiskStep.{disk, first_disk}
use Rattle.tape_run.specs.declared.model.device.TheConstants.{BLOCKS}
use Rattle.tape_run.specs.declared.model.device.Device.{Device}
use Rattle.tape_run.specs.declared.model.device.Device.TheVariants.{Keyboard, Loopback, Tone, Disk}

-- what a table has beside this name
abbrev pub named : {A : Type 0} → List (List ℕ × A) → List ℕ → Option A
named rows name = option_map (λ row. row.1) (find (λ row. bytes_eq name row.0) rows)

abbrev pub device_of : List ℕ → Option Device
device_of name = named ((codes "keyboard", Keyboard) ∷ (codes "loop", Loopback) ∷ (codes "tone", Tone) ∷ (codes "disk", Disk) ∷ []) name

-- what f says of a device: of what it means, and of its state as it is plugged in
abbrev pub as_plugged {ℓ} : {R : Type ℓ} → ((S : Type 0) → Meaning S → S → R) → Device → R
as_plugged f Keyboard = f _ (meaning_of keyboard) (first_state keyboard)
as_plugged f Loopback = f _ (meaning_of loopback) (first_state loopback)
as_plugged f Tone = f _ (meaning_of tone) (first_state tone)
as_plugged f Disk = f _ disk (first_disk BLOCKS)
