-- The cases, by computation. Assumes nothing.
use Rattle.walks.proofs.Words.{refl}
use Rattle.address_cursor.proofs.Terms.{num, num_from, bytes_of, size_of, value_of, read_varint, width_of, address_at, identified, entry_at, range_at, answer_for, answer_at, padded, address_of, next_address, range_of, next_range, AddressesHanded, RangesHanded}

pub addresses_handed : AddressesHanded
unfolding num num_from size_of value_of read_varint width_of address_at identified entry_at padded address_of answer_for answer_at next_address
addresses_handed = refl

pub ranges_handed : RangesHanded
unfolding num num_from bytes_of width_of range_at padded range_of answer_for answer_at next_range
ranges_handed = refl
