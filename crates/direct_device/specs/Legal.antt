-- Where an item of a trace is allowed to the device attached directly, and what it answers to a whole trace.
use Rattle.std.specs.Prelude.{◌≡◌, Bool, true, List, [], ◌∷◌, ◌++◌, map, Option, Some, slice_get, IsSome, IsSomeAnd, false}
use Rattle.std.specs.List.{find, list_any, flat_map}
use Rattle.usb_base.specs.declared.transfer.StreamPacket.{StreamPacket}
use Rattle.usbip_urb.specs.declared.packet.UrbPacket.{UrbPacket}
use Rattle.model_device.specs.Meaning.{Meaning}
use Rattle.gate_history.specs.declared.request.Request.{Request}
use Rattle.gate_history.specs.client.Ends.{is_waiting, waits_at}
use Rattle.gate_history.specs.state.Ups.{Up, stream_of}
use Rattle.direct_run.specs.declared.item.Item.{Item}
use Rattle.direct_run.specs.declared.item.Item.TheVariants as item
use Rattle.direct_device.specs.Direct.{first_direct, Load, Live, Direct, as_submission, is_number, normal_of, is_at}
use Rattle.direct_device.specs.Acting.{Deed, Import, Submit, Unlink, Perform, Cancel, Answer, Offer, Arrive, Gone, ClientGone, act, answers, is_cancelled_by, cut_for}

-- ---- one item

-- of those that wait for a stream it is the earliest, and what is held fills it; of the others it is the first that ran
abbrev pub CanAnswerBy : {S : Type 0} → Direct S → Load → Bool → Type 0
CanAnswerBy d l true =
    IsSomeAnd (find (λ (e : Live). waits_at l.request.transfer.ep (as_submission e.load)) d.live) (λ e. (is_number l.request.seqnum e.load ≡ true) × IsSome (cut_for d l))
CanAnswerBy d l false = IsSomeAnd (slice_get d.ran 0) (λ r. is_number l.request.seqnum r.load ≡ true)

abbrev pub CanArrive : Option Up → List StreamPacket → Type 0
CanArrive (Some up) (p ∷ packets) = Unit {0}
CanArrive _ _ = ⊥

-- what is performed is the first of its queue, and the device is ready for it
abbrev pub IsAllowed : {S : Type 0} → Meaning S → Direct S → Deed → Type 0
IsAllowed m d Import = (d.imported ≡ false) × (d.gone ≡ false) × (d.queue ≡ [])
IsAllowed m d (Submit r) = (d.imported ≡ true) × (list_any (λ (l : Live). is_number r.seqnum l.load) d.live ≡ false)
IsAllowed m d (Unlink by target) = d.imported ≡ true
IsAllowed m d (Perform ep n) = (d.gone ≡ false) × IsSomeAnd (find (is_at ep) d.queue) (λ q. (is_number n q.load ≡ true) × IsSome (m.perform d.gadget (normal_of q.load)))
IsAllowed m d (Cancel n) = (d.gone ≡ false) × IsSomeAnd (find (is_cancelled_by n) d.queue) (λ q. q.asked ≡ true)
IsAllowed m d (Answer n) = (d.imported ≡ true) × IsSomeAnd (find (λ (l : Live). is_number n l.load) d.live) (λ l. CanAnswerBy d l.load (is_waiting l.load.verdict))
IsAllowed m d (Offer ep) = (d.gone ≡ false) × IsSome (m.offer d.gadget ep)
IsAllowed m d (Arrive ep) = CanArrive (stream_of d.streams ep) (d.way ep)
IsAllowed m d Gone = (d.imported ≡ true) × (d.gone ≡ false) × (d.ran ≡ [])
IsAllowed m d ClientGone = Unit {0}

-- ---- a trace, the earliest item first

abbrev pub acts : {S : Type 0} → Meaning S → Direct S → List Deed → Direct S
acts m d [] = d
acts m d (x ∷ xs) = acts m (act m d x) xs

abbrev pub AreAllowed : {S : Type 0} → Meaning S → Direct S → List Deed → Type 0
AreAllowed m d [] = Unit {0}
AreAllowed m d (x ∷ xs) = IsAllowed m d x × AreAllowed m (act m d x) xs

abbrev pub all_answers : {S : Type 0} → Meaning S → Direct S → List Deed → List UrbPacket
all_answers m d [] = []
all_answers m d (x ∷ xs) = answers m d x ++ all_answers m (act m d x) xs

-- ---- the items of a trace, and the requests of its submits

abbrev pub item_of : Deed → Item
item_of Import = item.Import
item_of (Submit r) = item.Submit r.seqnum
item_of (Unlink by target) = item.Unlink by target
item_of (Perform ep seqnum) = item.Perform ep seqnum
item_of (Cancel seqnum) = item.Cancel seqnum
item_of (Answer seqnum) = item.Answer seqnum
item_of (Offer ep) = item.Offer ep
item_of (Arrive ep) = item.Arrive ep
item_of Gone = item.Gone
item_of ClientGone = item.ClientGone

abbrev pub request_in : Deed → List Request
request_in (Submit r) = r ∷ []
request_in _ = []

-- the items, of which the k-th submit asks what the k-th of these requests asks, are legal, and give these answers
pub record IsDirect {S : Type 0} (m : Meaning S) (s : S) (requests : List Request) (items : List Item) (given : List UrbPacket) : Type 0 where
  pub deeds : List Deed
  pub items-are : items ≡ map item_of deeds
  pub requests-are : requests ≡ flat_map request_in deeds
  pub legal : AreAllowed m (first_direct s) deeds
  pub answers-are : given ≡ all_answers m (first_direct s) deeds
