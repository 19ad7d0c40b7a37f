-- A stream that is cut anywhere: where nothing of it is wrong, a front of it has a front of its packets.
use Rattle.std.proofs.Common.{◌≡◌, ℕ, List, ◌++◌, Option, Some, None, refl, sym, ap, ◌∙◌, subst}
use Rattle.usb_base.specs.Number.{AreBytes}
use Rattle.packet_stream.specs.Format.{Format}
use Rattle.packet_stream.specs.Split.{Reader, Position, Splitting, reads, split, further_by, SplitsWell}

-- nothing of the front is wrong, and its packets are the first ones of the whole
pub record IsFront {S P R : Type 0} (front whole : Splitting S P R) : Type 0 where
  pub right : front.wrong ≡ None
  pub later : List (ℕ × P)
  pub packets-are : whole.packets ≡ front.packets ++ later

pub front-of : {S P R : Type 0} (format : S → Format P R) (next : S → P → S) (start : Position S) → SplitsWell format next start → (stream more : List ℕ) → AreBytes stream →
    (split (reads format next) start (stream ++ more)).wrong ≡ None → IsFront (split (reads format next) start stream) (split (reads format next) start (stream ++ more))
front-of {S = S} {P = P} {R = R} format next start laws stream more bytes right =
    subst (IsFront x) (sym (laws.more stream more bytes)) (go x.wrong refl (ap (λ (y : Splitting S P R). y.wrong) (sym (laws.more stream more bytes)) ∙ right))
  where
    r : Reader S P R
    r = reads format next

    x : Splitting S P R
    x = split r start stream

    go : (o : Option (ℕ × R)) → x.wrong ≡ o → (further_by r x more o).wrong ≡ None → IsFront x (further_by r x more o)
    go None is h = record { right = is; later = (split r x.position (x.rest ++ more)).packets; packets-are = refl }
    go (Some w) is h = absurd (some-none w (sym is ∙ h))
      where
        some-none : (v : ℕ × R) → Some v ≡ None → ⊥
        some-none v e = cc
