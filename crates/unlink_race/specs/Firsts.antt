-- A list without its first element that passes a test, and with that element changed.
pub use Rattle.usb_base.specs.Firsts.{without_first, change_first}
