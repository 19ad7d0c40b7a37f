-- The routes of control transfers: a table by bmRequestType and bRequest (USB 2.0, 9.4, tables 9-3 and 9-4; the
-- port's reset, 11.24.2.13). The first row that a setup has decides; a setup with none goes to the device as it is.
use Rattle.std.specs.Prelude.{ℕ, ◌==◌, ◌&&◌, nat_lt, Bool, true, if◌then◌else◌, List, [], ◌∷◌}
use Rattle.std.specs.List.{find}
use Rattle.std.specs.Option.{option_map_or}
use Rattle.usb_base.specs.declared.setup.Setup.{Setup}
use Rattle.usb_base.specs.declared.request.TheConstants.{TO_DEVICE, TO_INTERFACE, TO_PORT, FROM_DEVICE, FROM_INTERFACE, SET_FEATURE, SET_ADDRESS, GET_CONFIGURATION, SET_CONFIGURATION, GET_INTERFACE, SET_INTERFACE, PORT_RESET}
use Rattle.control_route.specs.declared.route.Route.{Route}
use Rattle.control_route.specs.declared.route.Route.TheVariants.{Local, SetConfig, GetConfig, SetAlt, GetAlt, Reset, Plain, Bad}

-- `only` says which setups with this bmRequestType and bRequest the row is for, `good` which of them can be
-- carried out
pub record RouteRow : Type 0 where
  pub request_type : ℕ
  pub request : ℕ
  pub only : Setup → Bool
  pub good : Setup → Bool
  pub route : Setup → Route

abbrev pub any : Setup → Bool
any s = true

abbrev pub has_no_data : Setup → Bool
has_no_data s = s.length == 0

-- wValue and wIndex are fields of two bytes, for numbers of one
abbrev pub is_byte : ℕ → Bool
is_byte n = nat_lt n 256

abbrev pub rows : List RouteRow
rows =
    record { request_type = TO_DEVICE; request = SET_ADDRESS; only = any; good = has_no_data; route = λ s. Local } ∷
    record { request_type = TO_DEVICE; request = SET_CONFIGURATION; only = any; good = λ s. has_no_data s && is_byte s.value; route = λ s. SetConfig s.value } ∷
    record { request_type = FROM_DEVICE; request = GET_CONFIGURATION; only = any; good = any; route = λ s. GetConfig } ∷
    record { request_type = TO_INTERFACE; request = SET_INTERFACE; only = any; good = λ s. has_no_data s && is_byte s.index && is_byte s.value; route = λ s. SetAlt s.index s.value } ∷
    record { request_type = FROM_INTERFACE; request = GET_INTERFACE; only = any; good = λ s. is_byte s.index; route = λ s. GetAlt s.index } ∷
    record { request_type = TO_PORT; request = SET_FEATURE; only = λ s. s.value == PORT_RESET; good = has_no_data; route = λ s. Reset } ∷
    []

abbrev pub is_for : Setup → RouteRow → Bool
is_for s row = (s.kind == row.request_type) && (s.request == row.request) && row.only s

unfoldable pub route_of : Setup → Route
route_of s = option_map_or (λ (row : RouteRow). if row.good s then row.route s else Bad) (find (is_for s) rows) Plain
