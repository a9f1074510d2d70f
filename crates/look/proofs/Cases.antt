-- The cases, computed.
use Rattle.walks.proofs.Words.{refl}
use Rattle.look.proofs.Terms.{num_from, num, largest, size_of, value_of, read_varint, partial_of, starts, is_partial, is_address_type, longest_address_value, front_by, capsule_at, cut_by, parts_by, opted_by, opted, kind_of, extent_by, extent_of, gathers_by, gathers, keeps_by, keeps, parts_for, phase_at, phase_of, reader_of, is_opening, is_makeable, is_makeable_phase, buffer_of, stored_in, place_of, sight_of, look_of, Cases}

pub cases : Cases
unfolding look_of sight_of place_of stored_in buffer_of is_makeable is_makeable_phase is_opening reader_of phase_of phase_at parts_for parts_by cut_by front_by capsule_at extent_of extent_by gathers gathers_by keeps keeps_by kind_of opted opted_by is_address_type longest_address_value partial_of is_partial starts read_varint size_of value_of largest num num_from
cases = refl
