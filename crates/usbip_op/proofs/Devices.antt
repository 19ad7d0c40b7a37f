-- Devices and interfaces, spelled again and read again.
use Rattle.std.proofs.Common.{◌≡◌, ℕ, zero, suc, ◌+◌, ◌*◌, ◌<◌, ◌≤◌, List, [], ◌∷◌, ◌++◌, length, take, drop, refl, sym, ap, ◌∙◌, append_assoc, arith, length-append, length-drop, drop-cons, flat_map, map}
use Rattle.std.specs.Simd.{first_chunks}
use Rattle.std.specs.Int.{w16, w32}
use Rattle.std.proofs.lemmas.List.{take_at, drop_at, get_or-append-add}
use Rattle.usb_base.specs.Number.{be, be_at, byte_at, part, AreBytes}
use Rattle.usb_base.proofs.Numbers.{AreBytes-drop, then, join, length-part, part_found, length-be, be_spelled_16, be_spelled_32, be_found_16, be_found_32, be_at-below_16, be_at-below_32}
use Rattle.usbip_op.specs.declared.packet.DeviceRow.{DeviceRow}
use Rattle.usbip_op.specs.declared.packet.IfaceRow.{IfaceRow}
use Rattle.usbip_op.specs.declared.packet.Listed.{Listed}
use Rattle.usbip_op.specs.Spelling.{device_bytes, numbers_bytes, classes_bytes, interface_bytes, listed_bytes}
use Rattle.usbip_op.specs.Ranges.{IsDevice, IsListed}
use Rattle.usbip_op.specs.Rows.{IsSoundRow, rows_at, rows_size}
use Rattle.usbip_op.specs.Devices.{device_at, interface_at, interface_form, listed_at, listed_form}
use Rattle.usbip_op.proofs.Rows.{rows_found, rows_again}

-- ---- single bytes

abbrev cells : ℕ → ℕ → List ℕ → List ℕ
cells zero p b = []
cells (suc n) p b = byte_at p b ∷ cells n (suc p) b

cells_found : (n p : ℕ) (b : List ℕ) → p + n ≤ length b → cells n p b ≡ part p n b
cells_found zero p b there = refl
cells_found (suc n) p b there =
    let lt : p < length b = omega arith in
    ap (λ (xs : List ℕ). byte_at p b ∷ xs) (cells_found n (suc p) b (omega arith)) ∙ sym (ap (take (suc n)) (drop-cons b p 0 lt))

byte_past : (k p : ℕ) (xs ys : List ℕ) → length xs ≡ k → byte_at (k + p) (xs ++ ys) ≡ byte_at p ys
byte_past k p xs ys e = ap (λ (n : ℕ). byte_at (n + p) (xs ++ ys)) (sym e) ∙ get_or-append-add xs ys p 0

-- ---- a device spelled again

numbers_found : (b : List ℕ) → AreBytes b → 312 ≤ length b → numbers_bytes (device_at b) ≡ part 288 18 b
numbers_found b are long =
    join 288 16 2 b _ _
    (join 288 14 2 b _ _
    (join 288 12 2 b _ _
    (join 288 8 4 b _ _
    (join 288 4 4 b _ _ (be_spelled_32 288 b are (omega arith)) (be_spelled_32 292 b are (omega arith)))
    (be_spelled_32 296 b are (omega arith)))
    (be_spelled_16 300 b are (omega arith)))
    (be_spelled_16 302 b are (omega arith)))
    (be_spelled_16 304 b are (omega arith))

pub device_found : (b : List ℕ) → AreBytes b → 312 ≤ length b → (device_bytes (device_at b) ≡ take 312 b) × IsDevice (device_at b)
device_found b are long = (
  then 306 6 b _ _ (then 288 18 b _ _ (then 256 32 b _ _ refl refl) (numbers_found b are long)) (cells_found 6 306 b (omega arith)),
  record {
    path_length = length-part 0 256 b (omega arith);
    busid_length = length-part 256 32 b (omega arith);
    busnum_fits = be_at-below_32 288 b are;
    devnum_fits = be_at-below_32 292 b are;
    speed_fits = be_at-below_32 296 b are;
    vendor_fits = be_at-below_16 300 b are;
    product_fits = be_at-below_16 302 b are;
    version_fits = be_at-below_16 304 b are;
  },
)

-- ---- a device read again

longer : (n m : ℕ) (xs ys : List ℕ) → length xs ≡ n → length ys ≡ m → length (xs ++ ys) ≡ n + m
longer n m xs ys e f = omega (arith, length-append xs ys, e, f)

-- a device's bytes as its fields in turn
fields : (d : DeviceRow) (more : List ℕ) → device_bytes d ++ more ≡ d.path ++ (d.busid ++ (be w32 d.busnum ++ (be w32 d.devnum ++ (be w32 d.speed ++ (be w16 d.vendor ++ (be w16 d.product ++ (be w16 d.version ++ (classes_bytes d ++ more))))))))
fields d more = simp append_assoc refl

-- the bytes before a field, the field, and what comes after
at_busid : (d : DeviceRow) (more : List ℕ) → device_bytes d ++ more ≡ d.path ++ d.busid ++ (numbers_bytes d ++ (classes_bytes d ++ more))
at_busid d more = simp append_assoc refl

at_busnum : (d : DeviceRow) (more : List ℕ) → device_bytes d ++ more ≡ d.path ++ d.busid ++ be w32 d.busnum ++ (be w32 d.devnum ++ (be w32 d.speed ++ (be w16 d.vendor ++ (be w16 d.product ++ (be w16 d.version ++ (classes_bytes d ++ more))))))
at_busnum d more = simp append_assoc refl

at_devnum : (d : DeviceRow) (more : List ℕ) → device_bytes d ++ more ≡ d.path ++ d.busid ++ be w32 d.busnum ++ be w32 d.devnum ++ (be w32 d.speed ++ (be w16 d.vendor ++ (be w16 d.product ++ (be w16 d.version ++ (classes_bytes d ++ more)))))
at_devnum d more = simp append_assoc refl

at_speed : (d : DeviceRow) (more : List ℕ) → device_bytes d ++ more ≡ d.path ++ d.busid ++ be w32 d.busnum ++ be w32 d.devnum ++ be w32 d.speed ++ (be w16 d.vendor ++ (be w16 d.product ++ (be w16 d.version ++ (classes_bytes d ++ more))))
at_speed d more = simp append_assoc refl

at_vendor : (d : DeviceRow) (more : List ℕ) → device_bytes d ++ more ≡ d.path ++ d.busid ++ be w32 d.busnum ++ be w32 d.devnum ++ be w32 d.speed ++ be w16 d.vendor ++ (be w16 d.product ++ (be w16 d.version ++ (classes_bytes d ++ more)))
at_vendor d more = simp append_assoc refl

at_product : (d : DeviceRow) (more : List ℕ) → device_bytes d ++ more ≡ d.path ++ d.busid ++ be w32 d.busnum ++ be w32 d.devnum ++ be w32 d.speed ++ be w16 d.vendor ++ be w16 d.product ++ (be w16 d.version ++ (classes_bytes d ++ more))
at_product d more = simp append_assoc refl

at_version : (d : DeviceRow) (more : List ℕ) → device_bytes d ++ more ≡ d.path ++ d.busid ++ be w32 d.busnum ++ be w32 d.devnum ++ be w32 d.speed ++ be w16 d.vendor ++ be w16 d.product ++ be w16 d.version ++ (classes_bytes d ++ more)
at_version d more = simp append_assoc refl

numbers_long : (d : DeviceRow) → length (numbers_bytes d) ≡ 18
numbers_long d =
    longer 16 2 _ _ (longer 14 2 _ _ (longer 12 2 _ _ (longer 8 4 _ _ (longer 4 4 _ _ (length-be w32 d.busnum) (length-be w32 d.devnum)) (length-be w32 d.speed)) (length-be w16 d.vendor)) (length-be w16 d.product)) (length-be w16 d.version)

pub device_long : (d : DeviceRow) → IsDevice d → length (device_bytes d) ≡ 312
device_long d fits = longer 306 6 _ _ (longer 288 18 _ _ (longer 256 32 _ _ fits.path_length fits.busid_length) (numbers_long d)) refl

pub device_again : (d : DeviceRow) (more : List ℕ) → IsDevice d → device_at (device_bytes d ++ more) ≡ d
device_again d more fits =
    let c = classes_bytes d ++ more in
    let f288 = longer 256 32 d.path d.busid fits.path_length fits.busid_length in
    let f292 = longer 288 4 _ (be w32 d.busnum) f288 (length-be w32 d.busnum) in
    let f296 = longer 292 4 _ (be w32 d.devnum) f292 (length-be w32 d.devnum) in
    let f300 = longer 296 4 _ (be w32 d.speed) f296 (length-be w32 d.speed) in
    let f302 = longer 300 2 _ (be w16 d.vendor) f300 (length-be w16 d.vendor) in
    let f304 = longer 302 2 _ (be w16 d.product) f302 (length-be w16 d.product) in
    let f306 = longer 288 18 (d.path ++ d.busid) (numbers_bytes d) f288 (numbers_long d) in
    let front = d.path ++ d.busid ++ numbers_bytes d in
    let x = device_bytes d ++ more in
    let classes : x ≡ front ++ c = append_assoc front (classes_bytes d) more in
    let byte : (k : ℕ) → byte_at (306 + k) x ≡ byte_at k c = λ k. ap (byte_at (306 + k)) classes ∙ byte_past 306 k front c f306 in
    let path : part 0 256 x ≡ d.path = ap (part 0 256) (fields d more) ∙ take_at d.path _ 256 fits.path_length in
    let busid : part 256 32 x ≡ d.busid = ap (part 256 32) (at_busid d more) ∙ part_found 256 32 d.path d.busid (numbers_bytes d ++ c) fits.path_length fits.busid_length in
    let busnum : be_at w32 288 x ≡ d.busnum = ap (be_at w32 288) (at_busnum d more) ∙ be_found_32 288 d.busnum _ _ f288 fits.busnum_fits in
    let devnum : be_at w32 292 x ≡ d.devnum = ap (be_at w32 292) (at_devnum d more) ∙ be_found_32 292 d.devnum _ _ f292 fits.devnum_fits in
    let speed : be_at w32 296 x ≡ d.speed = ap (be_at w32 296) (at_speed d more) ∙ be_found_32 296 d.speed _ _ f296 fits.speed_fits in
    let vendor : be_at w16 300 x ≡ d.vendor = ap (be_at w16 300) (at_vendor d more) ∙ be_found_16 300 d.vendor _ _ f300 fits.vendor_fits in
    let product : be_at w16 302 x ≡ d.product = ap (be_at w16 302) (at_product d more) ∙ be_found_16 302 d.product _ _ f302 fits.product_fits in
    let version : be_at w16 304 x ≡ d.version = ap (be_at w16 304) (at_version d more) ∙ be_found_16 304 d.version _ _ f304 fits.version_fits in
    λ i. record {
      path = path i;
      busid = busid i;
      busnum = busnum i;
      devnum = devnum i;
      speed = speed i;
      vendor = vendor i;
      product = product i;
      version = version i;
      class = byte 0 i;
      subclass = byte 1 i;
      protocol = byte 2 i;
      configuration = byte 3 i;
      configurations = byte 4 i;
      interfaces = byte 5 i;
    }

-- ---- interfaces, and a device with its interfaces

pub interface_sound : IsSoundRow interface_form
interface_sound = record {
  found = λ b are there. (cells_found 4 0 b there, tt);
  size = λ x more fits. refl;
  row = λ x more fits. refl;
}

-- an interface is read of its own four bytes
interface_front : (b : List ℕ) → interface_at (take 4 b) ≡ interface_at b
interface_front [] = refl
interface_front (w ∷ []) = refl
interface_front (w ∷ x ∷ []) = refl
interface_front (w ∷ x ∷ y ∷ []) = refl
interface_front (w ∷ x ∷ y ∷ z ∷ bs) = refl

-- pieces of four bytes are interfaces
pub chunks_rows : (n k : ℕ) (b : List ℕ) → n ≤ k → map interface_at (take n (first_chunks 4 k b)) ≡ rows_at interface_form n b
chunks_rows zero k b le = refl
chunks_rows (suc n) zero b le = absurd (omega arith)
chunks_rows (suc n) (suc k) b le =
    ap (λ (i : IfaceRow). i ∷ map interface_at (take n (first_chunks 4 k (drop 4 b)))) (interface_front b)
    ∙ ap (λ (is : List IfaceRow). interface_at b ∷ is) (chunks_rows n k (drop 4 b) (omega arith))

pub interfaces_size : (n : ℕ) (b : List ℕ) → rows_size interface_form n b ≡ n * 4
interfaces_size zero b = refl
interfaces_size (suc n) b = let e = interfaces_size n (drop 4 b) in omega (arith, e)

interfaces_long : (xs : List IfaceRow) → length (flat_map interface_bytes xs) ≡ length xs * 4
interfaces_long [] = refl
interfaces_long (x ∷ xs) = let e = interfaces_long xs in omega (arith, length-append (interface_bytes x) (flat_map interface_bytes xs), e)

listed_found : (b : List ℕ) → AreBytes b → 312 + byte_at 311 b * 4 ≤ length b → (listed_bytes (listed_at b) ≡ take (312 + byte_at 311 b * 4) b) × IsListed (listed_at b)
listed_found b are there =
    let n = byte_at 311 b in
    let behind = drop 312 b in
    let long : n * 4 ≤ length behind = omega (arith, length-drop 312 b) in
    let device = device_found b are (omega arith) in
    let rows = rows_found interface_form interface_sound n behind (AreBytes-drop 312 b are) (rw (interfaces_size n behind) long) in
    let spelled : flat_map interface_bytes (rows_at interface_form n behind) ≡ part 312 (n * 4) b = rows.0 ∙ ap (λ (k : ℕ). take k behind) (interfaces_size n behind) in
    (then 312 (n * 4) b _ _ device.0 spelled, (device.1, sym rows.1))

-- how many interfaces the bytes of a listed device tell
told : (l : Listed) (rest : List ℕ) → IsListed l → byte_at 311 (device_bytes l.device ++ rest) ≡ length l.interfaces
told l rest fits = ap (λ (d : DeviceRow). d.interfaces) (device_again l.device rest fits.0) ∙ fits.1

listed_size : (l : Listed) (more : List ℕ) → IsListed l → 312 + byte_at 311 (listed_bytes l ++ more) * 4 ≡ length (listed_bytes l)
listed_size l more fits =
    let rows = flat_map interface_bytes l.interfaces in
    let e = ap (byte_at 311) (append_assoc (device_bytes l.device) rows more) ∙ told l (rows ++ more) fits in
    ap (λ (n : ℕ). 312 + n * 4) e ∙ sym (longer 312 (length l.interfaces * 4) _ _ (device_long l.device fits.0) (interfaces_long l.interfaces))

listed_again : (l : Listed) (more : List ℕ) → IsListed l → listed_at (listed_bytes l ++ more) ≡ l
listed_again l more fits =
    let rows = flat_map interface_bytes l.interfaces in
    let rest = rows ++ more in
    let x = device_bytes l.device ++ rest in
    let device = device_again l.device rest fits.0 in
    let behind : drop 312 x ≡ rest = drop_at (device_bytes l.device) rest 312 (device_long l.device fits.0) in
    let interfaces : rows_at interface_form (byte_at 311 x) (drop 312 x) ≡ l.interfaces =
    ap (λ (n : ℕ). rows_at interface_form n (drop 312 x)) (told l rest fits)
    ∙ ap (rows_at interface_form (length l.interfaces)) behind
    ∙ rows_again interface_form interface_sound l.interfaces more (λ k d lt. tt) in
    ap listed_at (append_assoc (device_bytes l.device) rows more) ∙ (λ i. record { device = device i; interfaces = interfaces i })

pub listed_sound : IsSoundRow listed_form
listed_sound = record { found = listed_found; size = listed_size; row = listed_again }
