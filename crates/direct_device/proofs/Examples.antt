-- Short traces, computed: that they are legal, what they answer, and why the law of performs has its premise.
use Rattle.std.proofs.Common.{◌≡◌, ℕ, Bool, true, false, List, [], ◌∷◌, Option, Some, None, refl}
use Rattle.std.specs.Prelude.{replicate, slice_set, pos, negsuc}
use Rattle.usb_base.specs.declared.setup.Setup.{Setup}
use Rattle.usb_base.specs.declared.status.UsbStatus.{UsbStatus}
use Rattle.usb_base.specs.declared.status.UsbStatus.TheVariants.{Success, Cancelled}
use Rattle.usb_base.specs.declared.endpoint.EpTable.{EpTable}
use Rattle.usb_base.specs.declared.endpoint.EpKind.TheVariants.{Bulk}
use Rattle.usb_base.specs.Endpoint.{no_endpoint}
use Rattle.usb_base.specs.Number.{le_at}
use Rattle.control_route.specs.Routes.{route_of}
use Rattle.model_device.specs.Meaning.{Meaning}
use Rattle.model_device.specs.Device.{meaning_of, first_state}
use Rattle.model_device.specs.Keyboard.{keyboard}
use Rattle.gate_history.specs.declared.request.Request.{Request}
use Rattle.gate_history.specs.write.Answers.{ret_submit, ret_unlink}
use Rattle.direct_device.specs.Direct.{first_direct}
use Rattle.direct_device.specs.Acting.{Deed, Import, Submit, Unlink, Perform, Cancel, Answer, Offer, Arrive, Gone, ClientGone}
use Rattle.direct_device.specs.Legal.{AreAllowed, all_answers}
use Rattle.direct_device.specs.Performed.{times_performed}

-- ---- requests, and a device with a bulk IN endpoint

abbrev asks : ℕ → Bool → ℕ → Option Setup → ℕ → Request
asks number is_in ep setup wanted = record {
  seqnum = number;
  is_in = is_in;
  flags = 0;
  packets = 0;
  descs = [];
  transfer = record { ep = ep; setup = setup; wanted = wanted; body = [] };
}

-- of 8 bytes from IN endpoint 1
abbrev read : ℕ → Request
read number = asks number true 129 None 8

-- SET_CONFIGURATION 1
abbrev change : ℕ → Request
change number = asks number false 0 (Some (record { kind = 0; request = 9; value = 1; index = 0; length = 0 })) 0

abbrev table : EpTable
table = record {
  rows = slice_set (replicate 32 no_endpoint) 17 (record { kind = Bulk; interval = 0; interface = 0; max_packet = 64 });
}

-- each transfer ends with this status
abbrev device : UsbStatus → Meaning ℕ
device status = record {
  identity = record { speed = 0; class = 0; subclass = 0; protocol = 0; vendor = 0; product = 0; version = 0 };
  configuration = λ s. 1;
  interfaces = λ s. record {
    count = 0;
    interface = replicate 32 0;
    class = replicate 32 0;
    subclass = replicate 32 0;
    protocol = replicate 32 0;
  };
  table = λ s. table;
  perform = λ s t. Some (s, record { status = status; done = 0; body = [] });
  offer = λ s ep. None;
}

-- ---- a keyboard: its configuration is set, and the first key fills the request that waits for it

abbrev typed : List Deed
typed =
    Import ∷ Submit (change 1) ∷ Perform 0 1 ∷ Answer 1 ∷ Submit (read 2) ∷ Offer 129 ∷ Arrive 129 ∷ Answer 2 ∷ []

typed-legal : AreAllowed (meaning_of keyboard) (first_direct (first_state keyboard)) typed
unfolding keyboard route_of le_at
typed-legal =
    ((refl, refl, refl), ((refl, refl), ((refl, (refl, refl)), ((refl, refl), ((refl, refl), ((refl, refl), (tt, ((refl, (refl, refl)), tt))))))))

typed-answers : all_answers (meaning_of keyboard) (first_direct (first_state keyboard)) typed
    ≡ ret_submit (change 1) (pos 0) 0 [] [] ∷ ret_submit (read 2) (pos 0) 8 (0 ∷ 0 ∷ 4 ∷ 0 ∷ 0 ∷ 0 ∷ 0 ∷ 0 ∷ []) [] ∷ []
unfolding keyboard route_of le_at
typed-answers = refl

-- ---- unlinks: one gets there while the request is queued, and the other behind its perform

abbrev wins : List Deed
wins = Import ∷ Submit (read 2) ∷ Unlink 3 2 ∷ Cancel 2 ∷ Answer 2 ∷ []

wins-legal : AreAllowed (device Success) (first_direct 0) wins
wins-legal = ((refl, refl, refl), ((refl, refl), (refl, ((refl, refl), ((refl, refl), tt)))))

wins-answers : all_answers (device Success) (first_direct 0) wins ≡ ret_unlink 3 (negsuc 103) ∷ []
wins-answers = refl

abbrev loses : List Deed
loses = Import ∷ Submit (read 2) ∷ Perform 129 2 ∷ Unlink 3 2 ∷ Answer 2 ∷ []

loses-legal : AreAllowed (device Success) (first_direct 0) loses
loses-legal = ((refl, refl, refl), ((refl, refl), ((refl, (refl, refl)), (refl, ((refl, refl), tt)))))

loses-answers : all_answers (device Success) (first_direct 0) loses ≡ ret_submit (read 2) (pos 0) 0 [] [] ∷ ret_unlink 3 (pos 0) ∷ []
loses-answers = refl

-- what wasn't performed can't be answered
early : AreAllowed (device Success) (first_direct 0) (Import ∷ Submit (read 2) ∷ Answer 2 ∷ []) → ⊥
early h = h.1.1.0.1

-- ---- a change flushes a request that nobody unlinked: it is answered with -104, and was never performed

abbrev flushes : List Deed
flushes = Import ∷ Submit (read 2) ∷ Submit (change 3) ∷ Perform 0 3 ∷ Answer 2 ∷ Answer 3 ∷ []

flushes-legal : AreAllowed (device Success) (first_direct 0) flushes
unfolding route_of
flushes-legal = ((refl, refl, refl), ((refl, refl), ((refl, refl), ((refl, (refl, refl)), ((refl, refl), ((refl, refl), tt))))))

flushes-answers : all_answers (device Success) (first_direct 0) flushes
    ≡ ret_submit (read 2) (negsuc 103) 0 [] [] ∷ ret_submit (change 3) (pos 0) 0 [] [] ∷ []
unfolding route_of
flushes-answers = refl

flushes-performs : times_performed 2 0 flushes ≡ 0
flushes-performs = refl

-- ---- a loss ends all, and an unlink that is under way wins by it

abbrev lost : List Deed
lost = Import ∷ Submit (read 2) ∷ Submit (read 4) ∷ Unlink 5 4 ∷ Gone ∷ Submit (read 6) ∷ []

lost-legal : AreAllowed (device Success) (first_direct 0) lost
lost-legal = ((refl, refl, refl), ((refl, refl), ((refl, refl), (refl, ((refl, refl, refl), ((refl, refl), tt))))))

lost-answers : all_answers (device Success) (first_direct 0) lost
    ≡ ret_submit (read 2) (negsuc 107) 0 [] [] ∷ ret_unlink 5 (negsuc 103) ∷ ret_submit (read 6) (negsuc 107) 0 [] [] ∷ []
lost-answers = refl

-- ---- a client leaves a request behind: the next import waits for its end, and nobody is answered

abbrev leaves : List Deed
leaves = Import ∷ Submit (read 2) ∷ ClientGone ∷ Cancel 2 ∷ Import ∷ []

leaves-legal : AreAllowed (device Success) (first_direct 0) leaves
leaves-legal = ((refl, refl, refl), ((refl, refl), (tt, ((refl, refl), ((refl, refl, refl), tt)))))

leaves-answers : all_answers (device Success) (first_direct 0) leaves ≡ []
leaves-answers = refl

-- ---- a device that answers cancelled by itself has performed what is answered as taken back

abbrev cancels : List Deed
cancels = Import ∷ Submit (read 2) ∷ Unlink 3 2 ∷ Perform 129 2 ∷ Answer 2 ∷ []

cancels-legal : AreAllowed (device Cancelled) (first_direct 0) cancels
cancels-legal = ((refl, refl, refl), ((refl, refl), (refl, ((refl, (refl, refl)), ((refl, refl), tt)))))

cancels-answers : all_answers (device Cancelled) (first_direct 0) cancels ≡ ret_unlink 3 (negsuc 103) ∷ []
cancels-answers = refl

cancels-performs : times_performed 2 0 cancels ≡ 1
cancels-performs = refl
