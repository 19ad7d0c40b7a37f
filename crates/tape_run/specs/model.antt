-- What is done with a gateway and a modelled device, and the tapes that are made for them.
pub mod Device
pub mod Model
pub mod Made
