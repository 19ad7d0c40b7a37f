-- Bytes that are written to a link one after another.
use Rattle.std.proofs.Common.{◌≡◌, ℕ, List, [], ◌++◌, Option, Some, None, refl, ap, append_assoc, append-nil}
use Rattle.std.specs.Io.KnownBytes.{append_known}
use Rattle.gate_outside.specs.Link.{Link}
use Rattle.bridge_run.specs.inner.Links.{wrote}

pub append_known-nil : (known : Option (List ℕ)) → append_known known [] ≡ known
append_known-nil None = refl
append_known-nil (Some xs) = ap Some (append-nil xs)

append_known-twice : (known : Option (List ℕ)) (a b : List ℕ) → append_known (append_known known a) b ≡ append_known known (a ++ b)
append_known-twice None a b = refl
append_known-twice (Some xs) a b = ap Some (append_assoc xs a b)

pub wrote-nil : (link : Link) → wrote [] link ≡ link
wrote-nil link = ap (λ (w : Option (List ℕ)). record link { written = w }) (append_known-nil link.written)

pub wrote-twice : (a b : List ℕ) (link : Link) → wrote b (wrote a link) ≡ wrote (a ++ b) link
wrote-twice a b link = ap (λ (w : Option (List ℕ)). record link { written = w }) (append_known-twice link.written a b)
