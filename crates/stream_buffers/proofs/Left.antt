-- What a loop has left: of descriptors with their packets, of packets alone, and of what it is to put.
use Rattle.std.proofs.Common.{◌≡◌, ℕ, zero, suc, ◌+◌, ◌<◌, ◌≤◌, get_or, drop, inl, inr, ◌⊎◌, List, [], ◌∷◌, ◌++◌, length, None, Iter, refl, ap, sym, ◌∙◌, arith}
use Rattle.std.proofs.lemmas.List.{append-nil, append_assoc, length-append, length-drop}
use Rattle.std.specs.List.{zip}
use Rattle.std.specs.Slice.Iter.{iter_rest, iter_steps}
use Rattle.std.specs.VecDeque.Iter.{deque_iter_rest, deque_iter_steps}
use Rattle.std.specs.Iterator.Adapters.{zip_first, zip_second, zip_steps}
use Rattle.std.specs.declared.iter.Zip.{Zip}
use Rattle.std.specs.declared.collections.vec_deque.Iter.{Iter as DequeIter}
use Rattle.usb_base.specs.declared.transfer.StreamPacket.{StreamPacket}
use Rattle.usbip_urb.specs.declared.packet.IsoDesc.{IsoDesc}
use Rattle.usb_base.specs.Writes.{Begins}

abbrev pub Both : Type 0
Both = Zip (Iter IsoDesc) (DequeIter StreamPacket)

abbrev pub left : Both → List (IsoDesc × StreamPacket)
left both = zip (iter_rest (zip_first both)) (deque_iter_rest (zip_second both))

none_where : {X Y : Type 0} (xs : List X) (ys : List Y) → (length xs ≡ 0) ⊎ (length ys ≡ 0) → zip xs ys ≡ []
none_where [] ys over = refl
none_where (x ∷ xs) [] over = refl
none_where (x ∷ xs) (y ∷ ys) (inl over) = absurd (omega (arith, over))
none_where (x ∷ xs) (y ∷ ys) (inr over) = absurd (omega (arith, over))

-- it ends where none is left
pub none_left : (s t : Both) → zip_steps iter_steps deque_iter_steps s None t → left s ≡ []
none_left s t (inl e) = none_where _ _ (inl e.1.0)
none_left s t (inr e) = none_where _ _ (inr e.1.0)

-- ---- packets behind the first so many

-- the next, and those behind it
pub record Next (packets : List StreamPacket) (n : ℕ) (p : StreamPacket) (behind : List StreamPacket) : Type 0 where
  pub there : n < length packets
  pub is : p ≡ get_or packets n p
  pub rest : behind ≡ drop (n + 1) packets

pub next_of : (packets : List StreamPacket) (n : ℕ) (p : StreamPacket) (rest : List StreamPacket) → drop n packets ≡ p ∷ rest → Next packets n p rest
next_of [] zero p rest is = absurd (omega (arith, ap length is))
next_of [] (suc n) p rest is = absurd (omega (arith, ap length is))
next_of (q ∷ packets) zero p rest is = record { there = omega arith; is = cc; rest = cc }
next_of (q ∷ packets) (suc n) p rest is =
    let later = next_of packets n p rest is in
    let one : suc (n + 1) ≡ suc n + 1 = omega arith in
    record { there = omega (arith, later.there); is = later.is; rest = later.rest ∙ ap (λ (k : ℕ). drop k (q ∷ packets)) one }

-- where none is left, all of them
pub all_of : (packets : List StreamPacket) (n : ℕ) → length (drop n packets) ≡ 0 → n ≤ length packets → n ≡ length packets
all_of packets n none within = omega (arith, none, length-drop n packets, within)

-- ---- what is put

-- more is there behind what began so
pub begins_on : {A : Type 0} (old now new piece : List A) → Begins old now → new ≡ now ++ piece → Begins old new
begins_on {A = A} old now new piece front is = record { more = front.more ++ piece; is = is ∙ ap (λ (l : List A). l ++ piece) front.is ∙ append_assoc old front.more piece }

-- what is next is put, and what is left behind it is to be put
pub one_put : {A : Type 0} (now new all before piece after : List A) → now ++ before ≡ all → before ≡ piece ++ after → new ≡ now ++ piece → new ++ after ≡ all
one_put {A = A} now new all before piece after sent is more = ap (λ (l : List A). l ++ after) more ∙ append_assoc now piece after ∙ ap (λ (l : List A). now ++ l) (sym is) ∙ sent

-- where nothing is left, all was put
pub all_put : {A : Type 0} (now all before : List A) → now ++ before ≡ all → before ≡ [] → now ≡ all
all_put {A = A} now all before sent none = sym (append-nil now) ∙ ap (λ (l : List A). now ++ l) (sym none) ∙ sent

-- all has an item where what is next has one
pub some_of_all : {A : Type 0} (old now all before piece after : List A) → Begins old now → now ++ before ≡ old ++ all → before ≡ piece ++ after → 0 < length piece → 0 < length all
some_of_all old now all before piece after front sent is some =
    let long = ap length front.is ∙ length-append old front.more in
    let same = sym (length-append now before) ∙ ap length sent ∙ length-append old all in
    omega (arith, long, same, ap length is, length-append piece after, some)
