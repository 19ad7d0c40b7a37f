-- The bytes of a made tape's packets: that they are bytes, and how many there are.
use Rattle.std.proofs.Common.{◌≡◌, ℕ, zero, suc, ◌+◌, ◌*◌, ◌%◌, ◌<◌, ◌≤◌, List, [], ◌∷◌, ◌++◌, length, replicate, refl, arith, inl, inr, lit<}
use Rattle.std.specs.Int.{w16, w32}
use Rattle.std.proofs.lemmas.Bool.{cases_lt}
use Rattle.std.proofs.lemmas.List.{length-append, length-replicate, get_or-replicate, get_or_past}
use Rattle.usb_base.specs.Number.{be, AreBytes}
use Rattle.usb_base.proofs.Numbers.{AreBytes-append, AreBytes-be, length-be}
use Rattle.usbip_urb.specs.Spelling.{words}
use Rattle.made_tape.specs.declared.packet.TheConstants.{UNLINKS}
use Rattle.made_tape.specs.declared.task.TheConstants.{MOST_MOVED}
use Rattle.made_tape.specs.Packets.{import_bytes, configure_bytes, send_bytes, ask_bytes, take_back_bytes}

-- ---- bytes

AreBytes-nil : AreBytes []
AreBytes-nil i = omega arith

AreBytes-cons : (b : ℕ) (bs : List ℕ) → b < 256 → AreBytes bs → AreBytes (b ∷ bs)
AreBytes-cons b bs below are zero = below
AreBytes-cons b bs below are (suc i) = are i

AreBytes-replicate : (n b : ℕ) → b < 256 → AreBytes (replicate n b)
AreBytes-replicate n b below i =
    elim (cases_lt i n) [
      | inl lt ↦ rw (get_or-replicate n i b 0 lt) below
      | inr le ↦ rw (get_or_past (replicate n b) i 0 (omega (arith, length-replicate n b))) (omega arith)
    ]

AreBytes-words : (ns : List ℕ) → AreBytes (words ns)
AreBytes-words [] = AreBytes-nil
AreBytes-words (n ∷ ns) = AreBytes-append (be w32 n) (words ns) (AreBytes-be w32 n) (AreBytes-words ns)

length-words : (ns : List ℕ) → length (words ns) ≡ length ns * 4
length-words [] = refl
length-words (n ∷ ns) = omega (arith, length-append (be w32 n) (words ns), length-be w32 n, length-words ns)

-- ---- packets

-- numbers, some bytes, a body, and no descriptors
AreBytes-packet : (ns setup body : List ℕ) → AreBytes setup → AreBytes body → AreBytes (((words ns ++ setup) ++ body) ++ [])
AreBytes-packet ns setup body s b =
    AreBytes-append ((words ns ++ setup) ++ body) [] (AreBytes-append (words ns ++ setup) body (AreBytes-append (words ns) setup (AreBytes-words ns) s) b) AreBytes-nil

length-packet : (ns setup body : List ℕ) → length (((words ns ++ setup) ++ body) ++ []) ≡ length ns * 4 + length setup + length body
length-packet ns setup body =
    omega (arith, length-append ((words ns ++ setup) ++ body) [], length-append (words ns ++ setup) body, length-append (words ns) setup, length-words ns)

-- these are bytes, one at least, and at most 560
pub record ArePiece (bytes : List ℕ) : Type 0 where
  pub are : AreBytes bytes
  pub some : 0 < length bytes
  pub few : length bytes ≤ 560

packet-piece : (ns setup body : List ℕ) → 0 < length ns → length ns * 4 + length setup + length body ≤ 560 → AreBytes setup → AreBytes body → ArePiece (((words ns ++ setup) ++ body) ++ [])
packet-piece ns setup body some few s b = record {
  are = AreBytes-packet ns setup body s b;
  some = omega (arith, length-packet ns setup body);
  few = omega (arith, length-packet ns setup body);
}

words-piece : (ns pad : List ℕ) → 0 < length ns → length ns * 4 + length pad ≤ 560 → AreBytes pad → ArePiece (words ns ++ pad)
words-piece ns pad some few p = record {
  are = AreBytes-append (words ns) pad (AreBytes-words ns) p;
  some = omega (arith, length-append (words ns) pad, length-words ns);
  few = omega (arith, length-append (words ns) pad, length-words ns);
}

zeros : (n : ℕ) → AreBytes (replicate n 0)
zeros n = AreBytes-replicate n 0 (omega arith)

pub import-piece : ArePiece import_bytes
import-piece =
    let rest : List ℕ = replicate 29 0 in
    let busid_are : AreBytes (49 ∷ 45 ∷ 49 ∷ rest) =
    AreBytes-cons 49 (45 ∷ 49 ∷ rest) (lit< tt) (AreBytes-cons 45 (49 ∷ rest) (lit< tt) (AreBytes-cons 49 rest (lit< tt) (zeros 29))) in
    import-parts (be w16 0x0111) (be w16 0x8003) (be w32 0) (49 ∷ 45 ∷ 49 ∷ rest) (AreBytes-be w16 0x0111) (AreBytes-be w16 0x8003) (AreBytes-be w32 0) busid_are
    (length-be w16 0x0111) (length-be w16 0x8003) (length-be w32 0) (omega (arith, length-replicate {A = ℕ} 29 0))
  where
    import-parts : (version code status busid : List ℕ) → AreBytes version → AreBytes code → AreBytes status → AreBytes busid → length version ≡ 2 → length code ≡ 2 → length status ≡ 4 → length busid ≡ 32
        → ArePiece (((version ++ code) ++ status) ++ busid)
    import-parts version code status busid v c s b lv lc ls lb =
        let long : length (((version ++ code) ++ status) ++ busid) ≡ 40 =
        omega (arith, length-append ((version ++ code) ++ status) busid, length-append (version ++ code) status, length-append version code) in
        record {
          are = AreBytes-append ((version ++ code) ++ status) busid (AreBytes-append (version ++ code) status (AreBytes-append version code v c) s) b;
          some = omega (arith, long);
          few = omega (arith, long);
        }

-- the numbers that a submit begins with
abbrev numbers_of : (seqnum direction ep size : ℕ) → List ℕ
numbers_of seqnum direction ep size = 1 ∷ seqnum ∷ 65538 ∷ direction ∷ ep ∷ 0 ∷ size ∷ 0 ∷ 0 ∷ 0 ∷ []

pub configure-piece : ArePiece configure_bytes
configure-piece =
    packet-piece (numbers_of 1 0 0 0) (0 ∷ 9 ∷ 1 ∷ 0 ∷ 0 ∷ 0 ∷ 0 ∷ 0 ∷ []) [] (omega arith) (omega arith)
    (AreBytes-cons 0 (9 ∷ 1 ∷ 0 ∷ 0 ∷ 0 ∷ 0 ∷ 0 ∷ []) (lit< tt) (AreBytes-cons 9 (1 ∷ 0 ∷ 0 ∷ 0 ∷ 0 ∷ 0 ∷ []) (lit< tt) (AreBytes-cons 1 (0 ∷ 0 ∷ 0 ∷ 0 ∷ 0 ∷ []) (lit< tt) (zeros 5)))) AreBytes-nil

pub send-piece : (round size : ℕ) → size ≤ MOST_MOVED → ArePiece (send_bytes round size)
send-piece round size few =
    packet-piece (numbers_of (2 * round) 0 1 size) (replicate 8 0) (replicate size (round % 256)) (omega arith) (omega (arith, length-replicate size (round % 256))) (zeros 8)
    (AreBytes-replicate size (round % 256) (omega arith))

pub ask-piece : (round size : ℕ) → ArePiece (ask_bytes round size)
ask-piece round size = packet-piece (numbers_of (2 * round + 1) 1 1 size) (replicate 8 0) [] (omega arith) (omega arith) (zeros 8) AreBytes-nil

pub take_back-piece : (round : ℕ) → ArePiece (take_back_bytes round)
take_back-piece round = words-piece (2 ∷ (UNLINKS + round) ∷ 65538 ∷ 0 ∷ 0 ∷ (2 * round + 1) ∷ []) (replicate 24 0) (omega arith) (omega arith) (zeros 24)
