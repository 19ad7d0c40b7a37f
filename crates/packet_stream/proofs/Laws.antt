-- Laws of splittings: one step of it, and bytes that come later keep the packets that were there.
use Rattle.std.proofs.Common.{◌≡◌, ℕ, zero, suc, ◌≤◌, ◌<◌, List, [], ◌∷◌, ◌++◌, length, drop, Option, Some, None, refl, sym, ap, ◌∙◌, arith, append_assoc}
use Rattle.std.proofs.lemmas.List.{drop-append-le, length-drop}
use Rattle.usb_base.specs.Number.{AreBytes}
use Rattle.packet_stream.specs.Format.{Format, Found, Whole, Short, Wrong, IsSound}
use Rattle.packet_stream.specs.Split.{Reader, Position, past, Splitting, reads, with_packets, go_on, split_by, split, further, further_by}
use Rattle.usb_base.proofs.Numbers.{AreBytes-drop}
use Rattle.packet_stream.proofs.Formats.{whole_parts, wrong_parts, wrong_reading, whole_more}

-- what has been read stays as it was read, whatever comes after it
pub record IsSteady {S P R : Type 0} (r : Reader S P R) : Type 0 where
  pub some : (s : S) (b : List ℕ) (p : P) (n : ℕ) → r.read s b ≡ Whole p n → 0 < n
  pub there : (s : S) (b : List ℕ) (p : P) (n : ℕ) → r.read s b ≡ Whole p n → n ≤ length b
  pub whole : (s : S) (b more : List ℕ) (p : P) (n : ℕ) → AreBytes b → r.read s b ≡ Whole p n → r.read s (b ++ more) ≡ Whole p n
  pub wrong : (s : S) (b more : List ℕ) (at : ℕ) (why : R) → r.read s b ≡ Wrong at why → r.read s (b ++ more) ≡ Wrong at why

-- formats that are sound are read steadily
pub reads_steady : {S P R : Type 0} (format : S → Format P R) (next : S → P → S) → ((s : S) → IsSound (format s)) → IsSteady (reads format next)
reads_steady format next sound = record {
  some = λ s b p n e. let h = whole_parts (format s) b p n e in let some = (sound s).some b in omega arith;
  there = λ s b p n e. let h = whole_parts (format s) b p n e in omega arith;
  whole = λ s b more p n bytes e. whole_more (format s) (sound s) b more n p bytes e;
  wrong = λ s b more at why e. wrong_reading (format s) (b ++ more) (at, why) ((sound s).steady b more (at, why) (wrong_parts (format s) b at why e));
}

-- more steps than bytes change nothing
go_on-same : {S P R : Type 0} (r : Reader S P R) → IsSteady r → (a : Position S) (bytes : List ℕ) (l m : Position S → List ℕ → Splitting S P R) →
    ((z : Position S) (rest : List ℕ) → length rest < length bytes → l z rest ≡ m z rest) → (x : Found P R) → r.read a.state bytes ≡ x → go_on r a bytes l x ≡ go_on r a bytes m x
go_on-same r steady a bytes l m e (Whole p n) h =
    let some = steady.some a.state bytes p n h in
    let there = steady.there a.state bytes p n h in
    ap (with_packets ((a.place, p) ∷ [])) (e (past r.next a p n) (drop n bytes) (omega (arith, length-drop n bytes)))
go_on-same r steady a bytes l m e Short h = refl
go_on-same r steady a bytes l m e (Wrong at why) h = refl

split_by-fuel : {S P R : Type 0} (r : Reader S P R) → IsSteady r → (f g : ℕ) (a : Position S) (bytes : List ℕ) → length bytes < f → length bytes < g → split_by r f a bytes ≡ split_by r g a bytes
split_by-fuel r steady zero g a bytes h k = absurd (omega arith)
split_by-fuel r steady (suc f) zero a bytes h k = absurd (omega arith)
split_by-fuel r steady (suc f) (suc g) a bytes h k =
    go_on-same r steady a bytes (λ z rest. split_by r f z rest) (λ z rest. split_by r g z rest) (λ z rest less. split_by-fuel r steady f g z rest (omega arith) (omega arith)) (r.read a.state bytes) refl

-- one step of it
pub split-is : {S P R : Type 0} (r : Reader S P R) → IsSteady r → (a : Position S) (bytes : List ℕ) (x : Found P R) → r.read a.state bytes ≡ x → split r a bytes ≡ go_on r a bytes (split r) x
unfolding split
split-is r steady a bytes x e =
    rw e (go_on-same r steady a bytes (λ z rest. split_by r (length bytes) z rest) (λ z rest. split_by r (suc (length rest)) z rest) (λ z rest less. split_by-fuel r steady (length bytes) (suc (length rest)) z rest less (omega arith)) x e)

-- going on from packets and a splitting is going on from that splitting
pub further-with : {S P R : Type 0} (r : Reader S P R) (front : List (ℕ × P)) (x : Splitting S P R) (more : List ℕ) (w : Option (ℕ × R)) →
    further_by r (with_packets front x) more w ≡ with_packets front (further_by r x more w)
further-with {P = P} r front x more None =
    ap (λ (l : List (ℕ × P)). record (split r x.position (x.rest ++ more)) { packets = l }) (append_assoc front x.packets (split r x.position (x.rest ++ more)).packets)
further-with r front x more (Some w) = refl

split-more_by : {S P R : Type 0} (r : Reader S P R) → IsSteady r → (n : ℕ) (a : Position S) (bytes more : List ℕ) → AreBytes bytes → length bytes < n → (x : Found P R) → r.read a.state bytes ≡ x →
    split r a (bytes ++ more) ≡ further r (go_on r a bytes (split r) x) more
split-more_by r steady zero a bytes more fits h x e = absurd (omega arith)
split-more_by {S = S} {P = P} {R = R} r steady (suc n) a bytes more fits h (Whole p k) e =
    let some = steady.some a.state bytes p k e in
    let there = steady.there a.state bytes p k e in
    let front : List (ℕ × P) = (a.place, p) ∷ [] in
    let z = past r.next a p k in
    let rest = drop k bytes in
    let later : split r z (rest ++ more) ≡ further r (split r z rest) more =
    split-more_by r steady n z rest more (AreBytes-drop k bytes fits) (omega (arith, length-drop k bytes)) (r.read z.state rest) refl
    ∙ ap (λ (y : Splitting S P R). further r y more) (sym (split-is r steady z rest (r.read z.state rest) refl)) in
    split-is r steady a (bytes ++ more) (Whole p k) (steady.whole a.state bytes more p k fits e)
    ∙ ap (λ (b : List ℕ). with_packets front (split r z b)) (drop-append-le k bytes more there)
    ∙ ap (with_packets front) later
    ∙ sym (further-with r front (split r z rest) more (split r z rest).wrong)
split-more_by r steady (suc n) a bytes more fits h Short e = refl
split-more_by r steady (suc n) a bytes more fits h (Wrong at why) e = split-is r steady a (bytes ++ more) (Wrong at why) (steady.wrong a.state bytes more at why e)

-- splitting more bytes is splitting further from where those before them left off
pub split-more : {S P R : Type 0} (r : Reader S P R) → IsSteady r → (a : Position S) (bytes more : List ℕ) → AreBytes bytes → split r a (bytes ++ more) ≡ further r (split r a bytes) more
split-more {S = S} {P = P} {R = R} r steady a bytes more fits =
    split-more_by r steady (suc (length bytes)) a bytes more fits (omega arith) (r.read a.state bytes) refl
    ∙ ap (λ (y : Splitting S P R). further r y more) (sym (split-is r steady a bytes (r.read a.state bytes) refl))
