-- The requests that a device answers, by bmRequestType and bRequest, and those of features by wValue (USB 2.0, tables
-- 9-3 and 9-4, and 11.24.2.13).
use Rattle.std.specs.Prelude.{ℕ, Bool, ◌==◌, ◌&&◌, Option, Some, None, if◌then◌else◌}
use Rattle.usb_base.specs.declared.setup.Setup.{Setup}
use Rattle.usb_base.specs.declared.request.TheConstants.{TO_DEVICE, TO_INTERFACE, TO_ENDPOINT, TO_PORT, FROM_DEVICE, FROM_INTERFACE, FROM_ENDPOINT}
use Rattle.usb_base.specs.declared.request.TheConstants.{GET_STATUS, CLEAR_FEATURE, SET_FEATURE, SET_ADDRESS, GET_DESCRIPTOR, GET_CONFIGURATION, SET_CONFIGURATION, GET_INTERFACE, SET_INTERFACE, ENDPOINT_HALT, PORT_RESET}
use Rattle.chapter9.specs.declared.requests.ControlRead.TheVariants.{DeviceStatus, InterfaceStatus, EndpointStatus, GetDescriptor, GetConfiguration, GetInterface}
use Rattle.chapter9.specs.declared.requests.ControlWrite.TheVariants.{ClearHalt, SetHalt, SetAddress, SetConfiguration, SetInterface, ResetPort}
use Rattle.chapter9.specs.declared.requests.Request.{Request}
use Rattle.chapter9.specs.declared.requests.Request.TheVariants.{Read, Write}

abbrev pub is_request : Setup → ℕ → ℕ → Bool
is_request s kind request = s.kind == kind && s.request == request

abbrev pub request_of : Setup → Option Request
request_of s =
    if is_request s FROM_DEVICE GET_STATUS then Some (Read DeviceStatus)
    else if is_request s FROM_INTERFACE GET_STATUS then Some (Read InterfaceStatus)
    else if is_request s FROM_ENDPOINT GET_STATUS then Some (Read EndpointStatus)
    else if is_request s FROM_DEVICE GET_DESCRIPTOR then Some (Read GetDescriptor)
    else if is_request s FROM_DEVICE GET_CONFIGURATION then Some (Read GetConfiguration)
    else if is_request s FROM_INTERFACE GET_INTERFACE then Some (Read GetInterface)
    else if is_request s TO_ENDPOINT CLEAR_FEATURE && s.value == ENDPOINT_HALT then Some (Write ClearHalt)
    else if is_request s TO_ENDPOINT SET_FEATURE && s.value == ENDPOINT_HALT then Some (Write SetHalt)
    else if is_request s TO_DEVICE SET_ADDRESS then Some (Write SetAddress)
    else if is_request s TO_DEVICE SET_CONFIGURATION then Some (Write SetConfiguration)
    else if is_request s TO_INTERFACE SET_INTERFACE then Some (Write SetInterface)
    else if is_request s TO_PORT SET_FEATURE && s.value == PORT_RESET then Some (Write ResetPort)
    else None
