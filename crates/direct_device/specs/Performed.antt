-- Performed at most once: how often a submit has been performed where an item of a legal trace stands, by what the item
-- answers. A number names the submit of its last item, up to its end.
use Rattle.usbip_urb.specs.Errors.{is_failed}
use Rattle.std.specs.Prelude.{◌≡◌, ℕ, ◌+◌, ◌==◌, Bool, true, false, if◌then◌else◌, List, [], ◌∷◌, ◌++◌, Option, Some, IfSome, not}
use Rattle.std.specs.List.{find, list_any, AllByRecursion}
use Rattle.std.specs.Ordering.{int_eq}
use Rattle.usb_base.specs.declared.errno.TheConstants.{ECONNRESET}
use Rattle.usb_base.specs.declared.transfer.Transfer.{Transfer}
use Rattle.usb_base.specs.declared.transfer.Outcome.{Outcome}
use Rattle.usbip_urb.specs.declared.packet.UrbPacket.{UrbPacket}
use Rattle.usbip_urb.specs.declared.packet.UrbPacket.TheVariants as urb
use Rattle.model_device.specs.Meaning.{Meaning}
use Rattle.gate_history.specs.client.Verdict.{goes_by_id}
use Rattle.gate_history.specs.client.Ends.{is_cancelled}
use Rattle.direct_device.specs.Direct.{Live, Direct, first_direct, number, is_number}
use Rattle.direct_device.specs.Acting.{Deed, Submit, Unlink, Perform, Answer, Gone, answers}
use Rattle.direct_device.specs.Legal.{AreAllowed, acts}

-- ---- performs

-- how often this number is performed since it was last submitted, where it was so often before
abbrev pub times_performed : ℕ → ℕ → List Deed → ℕ
times_performed n before [] = before
times_performed n before (Submit r ∷ xs) = times_performed n (if r.seqnum == n then 0 else before) xs
times_performed n before (Perform ep k ∷ xs) = times_performed n (if k == n then before + 1 else before) xs
times_performed n before (_ ∷ xs) = times_performed n before xs

-- the device ends no transfer as cancelled by itself
abbrev pub NeverCancels : {S : Type 0} → Meaning S → Type 0
NeverCancels {S = S} m =
    (s : S) (t : Transfer) (done : S × Outcome) → m.perform s t ≡ Some done → is_cancelled done.1.status ≡ false

-- ---- answers

-- an unlink that took its submit back
abbrev pub is_won : UrbPacket → Bool
is_won (urb.RetUnlink p) = int_eq p.status ECONNRESET
is_won _ = false

-- a submit that is answered 0
abbrev pub is_good : UrbPacket → Bool
is_good (urb.RetSubmit p) = not (is_failed p.status)
is_good _ = false

-- ---- items

-- these answers of a submit's own end fit that it was performed so often
pub record FitsAnswers (given : List UrbPacket) (performed : ℕ) (l : Live) : Type 0 where
  pub won : list_any is_won given ≡ true → performed ≡ 0
  pub good : goes_by_id l.load.verdict ≡ true → list_any is_good given ≡ true → performed ≡ 1

abbrev pub FitsEnd : List UrbPacket → ℕ → Option Live → Type 0
FitsEnd given performed answered = IfSome answered (FitsAnswers given performed)

-- none is performed twice, nor, in a session, after its end
pub record FitsPerform {S : Type 0} (d : Direct S) (performed n : ℕ) : Type 0 where
  pub first : performed ≡ 0
  pub live : d.imported ≡ true → list_any (λ (l : Live). is_number n l.load) d.live ≡ true

-- none was performed that an unlink takes back at once, or that the device's loss ends; and where the device never
-- answers cancelled, none that is answered as taken back
abbrev pub Fits : {S : Type 0} → Meaning S → Direct S → (ℕ → ℕ) → Deed → Type 0
Fits m d performed (Perform ep n) = FitsPerform d (performed n) n
Fits m d performed (Unlink by target) = list_any is_won (answers m d (Unlink by target)) ≡ true → performed target ≡ 0
Fits m d performed (Answer n) =
    NeverCancels m → FitsEnd (answers m d (Answer n)) (performed n) (find (λ (l : Live). is_number n l.load) d.live)
Fits m d performed Gone = AllByRecursion (λ (l : Live). performed (number l.load) ≡ 0) d.live
Fits m d performed _ = Unit {0}

-- each item of a legal trace fits the performs before it
abbrev pub ItemsFit : {S : Type 0} → Meaning S → Type 0
ItemsFit {S = S} m =
    (s : S) (before after : List Deed) (x : Deed) → AreAllowed m (first_direct s) (before ++ x ∷ after)
    → Fits m (acts m (first_direct s) before) (λ n. times_performed n 0 before) x
