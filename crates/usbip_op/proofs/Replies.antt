-- What is read as a reply is spelled so, and what is spelled so is read.
use Rattle.std.proofs.Common.{◌≡◌, ℕ, zero, suc, ◌+◌, ◌^◌, ◌<◌, ◌≤◌, ◌==◌, ◌||◌, ◌⊎◌, inl, inr, Bool, true, false, List, [], ◌∷◌, ◌++◌, length, take, drop, refl, sym, ap, subst, ◌∙◌, append_assoc, arith, Option, Some, None, length-append, cond, flat_map, rules}
use Rattle.std.specs.Prelude.{nat_le, nat_lt, not, ◌&&◌}
use Rattle.std.specs.Int.{w16, w32}
use Rattle.std.proofs.lemmas.Grind.{common_steps}
use Rattle.std.proofs.lemmas.Bool.{leb-true, le-leb, le-ltb}
use Rattle.std.proofs.lemmas.List.{drop_at, append-nil, length-drop}
use Rattle.usb_base.specs.Number.{be, be_at, part, AreBytes}
use Rattle.packet_stream.specs.Format.{IsSound, Whole, wrong_at, reading}
use Rattle.usb_base.proofs.Numbers.{AreBytes-drop, then, join, length-be, be_spelled_32, be_found_32, be_at-append_16, be_at-append_32, be_at-below_32}
use Rattle.packet_stream.proofs.Formats.{IsSeen, none_first, none_later, none_from}
use Rattle.usbip_op.specs.declared.packet.DeviceRow.{DeviceRow}
use Rattle.usbip_op.specs.declared.packet.Listed.{Listed}
use Rattle.usbip_op.specs.declared.packet.OpPacket.{OpPacket}
use Rattle.usbip_op.specs.declared.packet.OpPacket.TheVariants.{ReqDevlist, ReqImport, RepDevlist, RepImport}
use Rattle.usbip_op.specs.Spelling.{spelling, head_bytes, device_bytes, listed_bytes, devices_bytes}
use Rattle.usbip_op.proofs.Fitting.{IsReply, IsListReply, IsImportReply, reply_fits, fits_reply}
use Rattle.usbip_op.specs.Rows.{rows_size, rows_at}
use Rattle.usbip_op.specs.Devices.{device_at, listed_form}
use Rattle.usbip_op.specs.Requests.{version_check, code_check}
use Rattle.usbip_op.specs.Replies.{has_count, count_check, reply_checks, reply_size_by, reply_size, reply_by, replies}
use Rattle.usbip_op.proofs.Heads.{head_spelled, length-head, version_again, code_again, status_again, head_right, head_steady, is_version, is_code}
use Rattle.usbip_op.proofs.Rows.{rows_found, rows_again, size_again}
use Rattle.usbip_op.proofs.Devices.{device_found, device_again, device_long, listed_sound}

-- ---- what is read is spelled so

-- a list reply that succeeds, by its code and status
abbrev pub counts : ℕ → ℕ → Bool
counts code status = (code == 0x0005) && (status == 0)

-- which tells no more devices than a list has
abbrev IsFew : ℕ → ℕ → ℕ → Type 0
IsFew code status count = counts code status ≡ true → nat_le count 1024 ≡ true

-- a status other than 0
other : (s : ℕ) → (suc s == 0) ≡ false
other s = grind (arith, common_steps)

other_few : (s n : ℕ) → IsFew 0x0005 (suc s) n
other_few s n e = let no = sym (other s) ∙ e in absurd cc

other_size : (code s : ℕ) (b : List ℕ) → reply_size_by code (suc s) b ≡ 8
other_size code s b = ap (λ (t : Bool). cond (not t) 8 (cond (code == 0x0005) (12 + rows_size listed_form (be_at w32 8 b) (drop 12 b)) 320)) (other s)

other_list : (s : ℕ) (b : List ℕ) → reply_by 0x0005 (suc s) b ≡ RepDevlist (suc s) []
other_list s b = ap (λ (t : Bool). RepDevlist (suc s) (cond t (rows_at listed_form (be_at w32 8 b) (drop 12 b)) [])) (other s)

other_import : (s : ℕ) (b : List ℕ) → reply_by 0x0003 (suc s) b ≡ RepImport (suc s) None
other_import s b = ap (λ (t : Bool). RepImport (suc s) (cond t (Some (device_at (drop 8 b))) None)) (other s)

other_bytes : (s : ℕ) (devices : List Listed) → head_bytes 0x0005 (suc s) ++ devices_bytes (suc s) devices ≡ head_bytes 0x0005 (suc s)
other_bytes s devices = ap (λ (t : Bool). head_bytes 0x0005 (suc s) ++ cond t (be w32 (length devices) ++ flat_map listed_bytes devices) []) (other s) ∙ append-nil (head_bytes 0x0005 (suc s))

abbrev IsSpelled : List ℕ → OpPacket → ℕ → Type 0
IsSpelled b p n = (spelling p ≡ take n b) × IsReply p

abbrev IsFound : List ℕ → ℕ → ℕ → Type 0
IsFound b code status = (spelling (reply_by code status b) ≡ take (reply_size_by code status b) b) × IsReply (reply_by code status b)

-- a head with the status that was read
head_found : (b : List ℕ) (code status : ℕ) → AreBytes b → 8 ≤ length b → be_at w16 0 b ≡ 0x0111 → be_at w16 2 b ≡ code → be_at w32 4 b ≡ status → head_bytes code status ≡ take 8 b
head_found b code status are long version is told = ap (head_bytes code) (sym told) ∙ head_spelled b code are long version is

list_found : (b : List ℕ) (status : ℕ) → AreBytes b → be_at w16 0 b ≡ 0x0111 → be_at w16 2 b ≡ 0x0005 → be_at w32 4 b ≡ status → (12 ≤ length b → IsFew 0x0005 status (be_at w32 8 b)) → reply_size_by 0x0005 status b ≤ length b → IsFound b 0x0005 status
list_found b zero are version code told few there =
    let n = be_at w32 8 b in
    let behind = drop 12 b in
    let size = rows_size listed_form n behind in
    let head = head_found b 0x0005 0 are (omega (arith, there)) version code told in
    let rows = rows_found listed_form listed_sound n behind (AreBytes-drop 12 b are) (omega (arith, there, length-drop 12 b)) in
    let count : be w32 (length (rows_at listed_form n behind)) ≡ part 8 4 b = ap (be w32) rows.1 ∙ be_spelled_32 8 b are (omega (arith, there)) in
    let at_most : n ≤ 1024 = leb-true n 1024 (few (omega (arith, there)) refl) in
    let sum : 8 + (4 + size) ≡ 12 + size = omega arith in (
      then 8 (4 + size) b _ _ head (join 8 4 size b _ _ count rows.0) ∙ ap (λ (k : ℕ). take k b) sum,
      record {
        status_fits = omega arith;
        few = rw rows.1 at_most;
        none = λ no. absurd (no refl);
        each = rows.2;
      },
    )
list_found b (suc s) are version code told few there =
    let long : 8 ≤ length b = rw (sym (other_size 0x0005 s b)) there in
    let spelled : IsSpelled b (RepDevlist (suc s) []) 8 = (
      other_bytes s [] ∙ head_found b 0x0005 (suc s) are long version code told,
      record {
        status_fits = rw (sym told) (be_at-below_32 4 b are);
        few = omega arith;
        none = λ no. refl;
        each = λ k d lt. absurd (omega arith);
      },
    ) in
    subst (λ (n : ℕ). IsSpelled b (reply_by 0x0005 (suc s) b) n) (sym (other_size 0x0005 s b)) (subst (λ (p : OpPacket). IsSpelled b p 8) (sym (other_list s b)) spelled)

import_found : (b : List ℕ) (status : ℕ) → AreBytes b → be_at w16 0 b ≡ 0x0111 → be_at w16 2 b ≡ 0x0003 → be_at w32 4 b ≡ status → reply_size_by 0x0003 status b ≤ length b → IsFound b 0x0003 status
import_found b zero are version code told there =
    let device = device_found (drop 8 b) (AreBytes-drop 8 b are) (omega (arith, there, length-drop 8 b)) in
    (then 8 312 b _ _ (head_found b 0x0003 0 are (omega (arith, there)) version code told) device.0, (refl, device.1))
import_found b (suc s) are version code told there =
    let long : 8 ≤ length b = rw (sym (other_size 0x0003 s b)) there in
    let spelled : IsSpelled b (RepImport (suc s) None) 8 = (
      append-nil (head_bytes 0x0003 (suc s)) ∙ head_found b 0x0003 (suc s) are long version code told,
      (rw (sym told) (be_at-below_32 4 b are), λ e. omega (arith, e)),
    ) in
    subst (λ (n : ℕ). IsSpelled b (reply_by 0x0003 (suc s) b) n) (sym (other_size 0x0003 s b)) (subst (λ (p : OpPacket). IsSpelled b p 8) (sym (other_import s b)) spelled)

found_at : (b : List ℕ) (code : ℕ) → AreBytes b → be_at w16 0 b ≡ 0x0111 → be_at w16 2 b ≡ code → (12 ≤ length b → IsFew code (be_at w32 4 b) (be_at w32 8 b)) → reply_size_by code (be_at w32 4 b) b ≤ length b → (code ≡ 0x0005) ⊎ (code ≡ 0x0003) → IsFound b code (be_at w32 4 b)
found_at b code are version is few there (inl e) =
    let s = be_at w32 4 b in
    subst (λ (k : ℕ). IsFound b k s) (sym e) (list_found b s are version (is ∙ e) refl (subst (λ (k : ℕ). 12 ≤ length b → IsFew k s (be_at w32 8 b)) e few) (subst (λ (k : ℕ). reply_size_by k s b ≤ length b) e there))
found_at b code are version is few there (inr e) =
    let s = be_at w32 4 b in
    subst (λ (k : ℕ). IsFound b k s) (sym e) (import_found b s are version (is ∙ e) refl (subst (λ (k : ℕ). reply_size_by k s b ≤ length b) e there))

pub least : (s t : Bool) (n : ℕ) → 8 ≤ cond (not s) 8 (cond t (12 + n) 320)
least false t n = omega arith
least true true n = omega arith
least true false n = omega arith

pub size_least : (b : List ℕ) → 8 ≤ reply_size_by (be_at w16 2 b) (be_at w32 4 b) b
size_least b = least (be_at w32 4 b == 0) (be_at w16 2 b == 0x0005) (rows_size listed_form (be_at w32 8 b) (drop 12 b))

-- with its head
pub headed_count : (b : List ℕ) → 8 ≤ length b → has_count b ≡ counts (be_at w16 2 b) (be_at w32 4 b)
headed_count b there = rw (le-leb 8 (length b) there) refl

pub size_headed : (b : List ℕ) → 8 ≤ length b → reply_size b ≡ reply_size_by (be_at w16 2 b) (be_at w32 4 b) b
size_headed b long = rw (le-ltb (length b) 8 long) refl

long_by : (t : Bool) (n m : ℕ) → 8 ≤ n → cond t 8 n ≤ m → 8 ≤ m
long_by true n m least there = there
long_by false n m least there = omega (arith, least, there)

some_by : (t : Bool) (n : ℕ) → 8 ≤ n → 8 ≤ cond t 8 n
some_by true n least = omega arith
some_by false n least = least

pub reply_long : (b : List ℕ) → 8 ≤ reply_size b
reply_long b = some_by (nat_lt (length b) 8) (reply_size_by (be_at w16 2 b) (be_at w32 4 b) b) (size_least b)

found : (b : List ℕ) → AreBytes b → wrong_at reply_checks b ≡ None → reply_size_by (be_at w16 2 b) (be_at w32 4 b) b ≤ length b → IsFound b (be_at w16 2 b) (be_at w32 4 b)
found b are none there =
    let long : 8 ≤ length b = let h = least (be_at w32 4 b == 0) (be_at w16 2 b == 0x0005) (rows_size listed_form (be_at w32 8 b) (drop 12 b)) in omega (arith, h, there) in
    let later = none_later version_check (code_check 0x0005 0x0003 ∷ count_check ∷ []) b none in
    let version : be_at w16 0 b ≡ 0x0111 = is_version _ (none_first version_check (code_check 0x0005 0x0003 ∷ count_check ∷ []) b none refl (omega (arith, long))) in
    let code = is_code 0x0005 0x0003 _ (none_first (code_check 0x0005 0x0003) (count_check ∷ []) b later refl (omega (arith, long))) in
    let few = none_first count_check [] b (none_later (code_check 0x0005 0x0003) (count_check ∷ []) b later) in
    found_at b (be_at w16 2 b) are version refl (λ enough e. few (headed_count b long ∙ e) enough) there code

-- an import reply that is all there
pub import_whole : (b : List ℕ) (status : ℕ) (d : DeviceRow) → be_at w16 0 b ≡ 0x0111 → be_at w16 2 b ≡ 0x0003 → status ≡ be_at w32 4 b → status ≡ 0 → 320 ≤ length b → d ≡ device_at (drop 8 b) →
    Whole (RepImport status (Some d)) 320 ≡ reading replies b
import_whole b status d version code told none there device = search rules

-- ---- what is spelled so is read

record IsAgain (p : OpPacket) (x : List ℕ) : Type 0 where
  version : be_at w16 0 x ≡ 0x0111
  code : ((be_at w16 2 x == 0x0005) || (be_at w16 2 x == 0x0003)) ≡ true
  few : IsFew (be_at w16 2 x) (be_at w32 4 x) (be_at w32 8 x)
  size : reply_size_by (be_at w16 2 x) (be_at w32 4 x) x ≡ length (spelling p)
  packet : reply_by (be_at w16 2 x) (be_at w32 4 x) x ≡ p

-- what holds of the code and the status that were written holds of those that are read
headed : (p : OpPacket) (code status : ℕ) (rest : List ℕ) → code < 2 ^ 16 → status < 2 ^ 32 → ((code == 0x0005) || (code == 0x0003)) ≡ true →
    IsFew code status (be_at w32 8 (head_bytes code status ++ rest)) →
    reply_size_by code status (head_bytes code status ++ rest) ≡ length (spelling p) →
    reply_by code status (head_bytes code status ++ rest) ≡ p →
    IsAgain p (head_bytes code status ++ rest)
headed p code status rest code_fits status_fits right few size packet =
    let x = head_bytes code status ++ rest in
    let c = code_again code status rest code_fits in
    let s = status_again code status rest status_fits in
    record {
      version = version_again code status rest;
      code = ap (λ (k : ℕ). (k == 0x0005) || (k == 0x0003)) c ∙ right;
      few = λ e. few (sym (λ i. counts (c i) (s i)) ∙ e);
      size = ap (λ (k : ℕ). reply_size_by k (be_at w32 4 x) x) c ∙ ap (λ (n : ℕ). reply_size_by code n x) s ∙ size;
      packet = ap (λ (k : ℕ). reply_by k (be_at w32 4 x) x) c ∙ ap (λ (n : ℕ). reply_by code n x) s ∙ packet;
    }

-- a reply that ends after its head
head_alone : (code status : ℕ) (more : List ℕ) → head_bytes code status ++ [] ++ more ≡ head_bytes code status ++ more
head_alone code status more = ap (λ (xs : List ℕ). xs ++ more) (append-nil (head_bytes code status))

alone_long : (code status : ℕ) → 8 ≡ length (head_bytes code status ++ [])
alone_long code status = sym (ap length (append-nil (head_bytes code status)) ∙ length-head code status)

import_again : (status : ℕ) (device : Option DeviceRow) (more : List ℕ) → IsImportReply status device → IsAgain (RepImport status device) (spelling (RepImport status device) ++ more)
import_again zero None more fits = absurd (fits.1 refl)
import_again (suc s) None more fits =
    let h = headed (RepImport (suc s) None) 0x0003 (suc s) more (omega arith) fits.0 refl (λ e. absurd cc) (other_size 0x0003 s (head_bytes 0x0003 (suc s) ++ more) ∙ alone_long 0x0003 (suc s)) (other_import s (head_bytes 0x0003 (suc s) ++ more)) in
    subst (IsAgain (RepImport (suc s) None)) (sym (head_alone 0x0003 (suc s) more)) h
import_again zero (Some d) more fits =
    let head = head_bytes 0x0003 0 in
    let rest = device_bytes d ++ more in
    let device : device_at (drop 8 (head ++ rest)) ≡ d = ap device_at (drop_at head rest 8 (length-head 0x0003 0)) ∙ device_again d more fits.1 in
    let size : 320 ≡ length (head ++ device_bytes d) = omega (arith, length-append head (device_bytes d), length-head 0x0003 0, device_long d fits.1) in
    let h = headed (RepImport 0 (Some d)) 0x0003 0 rest (omega arith) (omega arith) refl (λ e. absurd cc) size (ap (λ (y : DeviceRow). RepImport 0 (Some y)) device) in
    subst (IsAgain (RepImport 0 (Some d))) (sym (append_assoc head (device_bytes d) more)) h
import_again (suc s) (Some d) more fits = let no = fits.0 in absurd (omega (arith, no))

list_again : (status : ℕ) (devices : List Listed) (more : List ℕ) → IsListReply status devices → IsAgain (RepDevlist status devices) (spelling (RepDevlist status devices) ++ more)
list_again zero devices more fits =
    let head = head_bytes 0x0005 0 in
    let n = length devices in
    let rows = flat_map listed_bytes devices in
    let rest = be w32 n ++ rows ++ more in
    let x = head ++ rest in
    let front : length (head ++ be w32 n) ≡ 12 = omega (arith, length-append head (be w32 n), length-head 0x0005 0, length-be w32 n) in
    let counted : x ≡ head ++ be w32 n ++ (rows ++ more) = ap (λ (xs : List ℕ). head ++ xs) (append_assoc (be w32 n) rows more) ∙ sym (append_assoc head (be w32 n) (rows ++ more)) in
    let count : be_at w32 8 x ≡ n = ap (be_at w32 8) counted ∙ be_found_32 8 n head (rows ++ more) (length-head 0x0005 0) (omega (arith, fits.few)) in
    let behind : drop 12 x ≡ rows ++ more = ap (drop 12) counted ∙ drop_at (head ++ be w32 n) (rows ++ more) 12 front in
    let few : nat_le (be_at w32 8 x) 1024 ≡ true = ap (λ (k : ℕ). nat_le k 1024) count ∙ le-leb n 1024 fits.few in
    let rows_long : rows_size listed_form (be_at w32 8 x) (drop 12 x) ≡ length rows =
    ap (λ (k : ℕ). rows_size listed_form k (drop 12 x)) count ∙ ap (rows_size listed_form n) behind ∙ size_again listed_form listed_sound devices more fits.each in
    let size : 12 + rows_size listed_form (be_at w32 8 x) (drop 12 x) ≡ length (head ++ (be w32 n ++ rows)) =
    omega (arith, rows_long, length-append head (be w32 n ++ rows), length-append (be w32 n) rows, length-head 0x0005 0, length-be w32 n) in
    let read : rows_at listed_form (be_at w32 8 x) (drop 12 x) ≡ devices =
    ap (λ (k : ℕ). rows_at listed_form k (drop 12 x)) count ∙ ap (rows_at listed_form n) behind ∙ rows_again listed_form listed_sound devices more fits.each in
    let h = headed (RepDevlist 0 devices) 0x0005 0 rest (omega arith) (omega arith) refl (λ _. few) size (ap (RepDevlist 0) read) in
    subst (IsAgain (RepDevlist 0 devices)) (sym (append_assoc head (be w32 n ++ rows) more)) h
list_again (suc s) devices more fits =
    let none : devices ≡ [] = fits.none (λ e. omega (arith, e)) in
    let h = headed (RepDevlist (suc s) devices) 0x0005 (suc s) more (omega arith) fits.status_fits refl (other_few s (be_at w32 8 (head_bytes 0x0005 (suc s) ++ more))) (other_size 0x0005 s (head_bytes 0x0005 (suc s) ++ more) ∙ sym (ap length (other_bytes s devices) ∙ length-head 0x0005 (suc s))) (other_list s (head_bytes 0x0005 (suc s) ++ more) ∙ ap (RepDevlist (suc s)) (sym none)) in
    subst (IsAgain (RepDevlist (suc s) devices)) (sym (ap (λ (xs : List ℕ). xs ++ more) (other_bytes s devices))) h

again : (p : OpPacket) (more : List ℕ) → IsReply p → IsAgain p (spelling p ++ more)
again (ReqDevlist status) more fits = absurd fits
again (ReqImport status busid) more fits = absurd fits
again (RepDevlist status devices) more fits = list_again status devices more fits
again (RepImport status device) more fits = import_again status device more fits

right : (p : OpPacket) (more : List ℕ) → IsReply p → wrong_at reply_checks (spelling p ++ more) ≡ None
right p more fits =
    let h = again p more fits in
    let x = spelling p ++ more in
    head_right 0x0005 0x0003 (count_check ∷ []) x h.version h.code (none_from count_check [] x (λ tried there. h.few (sym (headed_count x (omega (arith, there))) ∙ tried)) refl)

-- ---- the law

-- whether there is a count is seen in the head
pub same_count : (b more : List ℕ) → 8 ≤ length b → has_count (b ++ more) ≡ has_count b
same_count b more there =
    let code = be_at-append_16 2 b more (omega (arith, there)) in
    let status = be_at-append_32 4 b more there in
    headed_count (b ++ more) (omega (arith, there, length-append b more)) ∙ (λ i. counts (code i) (status i)) ∙ sym (headed_count b there)

pub count_steady : IsSeen count_check
count_steady b more there = (same_count b more (omega (arith, there)), ap (λ (n : ℕ). nat_le n 1024) (be_at-append_32 8 b more there))

pub replies_sound : IsSound replies
replies_sound = record {
  found = λ b are none there.
      let size = size_headed b (long_by (nat_lt (length b) 8) (reply_size_by (be_at w16 2 b) (be_at w32 4 b) b) (length b) (size_least b) there) in
      let h = found b are none (subst (λ (n : ℕ). n ≤ length b) size there) in
      (h.0 ∙ ap (λ (n : ℕ). take n b) (sym size), fits_reply (reply_by (be_at w16 2 b) (be_at w32 4 b) b) h.1);
  right = λ p more fits. right p more (reply_fits p fits);
  size = λ p more fits.
      let x = spelling p ++ more in
      let size = (again p more (reply_fits p fits)).size in
      size_headed x (omega (arith, length-append (spelling p) more, size, size_least x)) ∙ size;
  packet = λ p more fits. (again p more (reply_fits p fits)).packet;
  some = λ b. let h = reply_long b in omega (arith, h);
  steady = head_steady 0x0005 0x0003 (count_check ∷ []) (omega arith, count_steady, tt);
}
