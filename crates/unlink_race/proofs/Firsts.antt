-- The first element that passes a test: `position`, `find`, `without_first` and `change_first` together.
pub use Rattle.usb_base.proofs.Firsts.{remove_first, position_found, position_past, find_past, took_first, took_none, first_passing, is_some-position, changed_first, counted, uncounted, filter-without_first, without_none, without_first-filter}
