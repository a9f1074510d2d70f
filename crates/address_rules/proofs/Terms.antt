-- Definitions, and laws of the crates below, that the proofs here use, passed on: one `use` in place of many.
pub use Rattle.address_rules.specs.{Claims.NeighboursDecide, Claims.PassIsRule, Pass.Seen, Pass.nothing, Places.Later, Places.Lent, Places.Preceded, Places.Rising, Places.Stands, Places.Wide, Places.nth, declared.RangeBytes.RangeBytes}
unfoldable pub use Rattle.address_rules.specs.{Claims.every_two, Pass.after, Pass.clear_from, Pass.fits, Pass.follows, Pass.pass, Pass.same_of, Places.range_lent, Places.started_at}
pub use Rattle.addresses.proofs.{Lists.both, Lists.judged-end, Lists.judged_malformed, Lists.judged-next, Runs.num_cons}
pub use Rattle.addresses.specs.{Addresses.Entry, Addresses.Range, Addresses.Step, Addresses.done, Addresses.malformed, Addresses.next, Claims.Each, Places.RangeInside, Places.RangeRead, declared.Malformed.Malformed}
unfoldable pub use Rattle.addresses.specs.{Addresses.all_apart, Addresses.all_of, Addresses.apart, Addresses.are_good, Addresses.asks, Addresses.before, Addresses.disjoint, Addresses.entries, Addresses.entries_by, Addresses.entry_at, Addresses.good_range, Addresses.good_ranges, Addresses.good_requests, Addresses.good_value, Addresses.in_order, Addresses.longest_address_value, Addresses.onwards, Addresses.range_at, Addresses.well_formed, Addresses.width_of, Places.range_in, Places.range_placed}
pub use Rattle.wire.proofs.{Numbers.bytes_drop, Numbers.bytes_each, Numbers.bytes_take, Numbers.num_lt, Reading.split}
pub use Rattle.wire.specs.{Bytes.Bytes}
unfoldable pub use Rattle.wire.specs.{Bytes.num}
