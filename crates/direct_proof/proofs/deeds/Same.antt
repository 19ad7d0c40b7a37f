-- The moves told as deeds are the moves told as items, and as the submits that are accepted.
use Rattle.std.proofs.Common.{List, map, refl}
use Rattle.std.specs.List.{flat_map}
use Rattle.std.proofs.lemmas.Grind.{flat_map-append}
use Rattle.std.proofs.lemmas.List.{map-append}
use Rattle.direct_run.specs.declared.item.Item.{Item}
use Rattle.direct_run.specs.Moves.{as_items, as_submits}
use Rattle.direct_run.specs.Noted.{item_of_host, performed_item, offered_item}
use Rattle.direct_run.proofs.Tellings.{Agree}
use Rattle.direct_device.specs.Legal.{item_of, request_in}
use Rattle.direct_proof.specs.Deeds.{as_deeds}
use Rattle.direct_proof.proofs.deeds.Carried.{request, host-items, perform-items, offer-items, mark-requests, host-requests}
use Rattle.direct_proof.proofs.deeds.Noted.{told-deeds}

abbrev pub unchanged : List Item → List Item
unchanged items = items

pub items-agree : Agree (map item_of) unchanged as_deeds as_items
items-agree = record {
  none = refl;
  left = map-append item_of;
  right = λ xs ys. refl;
  marks = told-deeds;
  cancels = host-items;
  performs = perform-items;
  offers = offer-items;
}

pub requests-agree : Agree (flat_map request_in) (map request) as_deeds as_submits
requests-agree = record {
  none = refl;
  left = flat_map-append request_in;
  right = map-append request;
  marks = mark-requests;
  cancels = λ submits ns. host-requests (flat_map (item_of_host submits) ns);
  performs = λ submits ep p. host-requests (performed_item submits ep p);
  offers = λ ep o. host-requests (offered_item ep o);
}
