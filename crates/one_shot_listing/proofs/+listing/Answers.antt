-- By what `read_varint` answers at each field: the laws of Rounds.
use Rattle.std.specs.Prelude.{Some}
use Rattle.one_shot_listing.specs.Cycle.{found_of}
use Rattle.short_forms.specs.Short.{varint_of}
use Rattle.walks.proofs.Words.{◌≡◌, refl, sym, ap, ◌∙◌, arith, length, drop, length-drop}
use Rattle.one_shot_listing.proofs.Terms.{read_varint, rest_of}
use Rattle.one_shot_listing.proofs.Rounds.{field_within, type_within, head_within, in_type_lem, in_length_lem, in_value_lem, at_next}
use Rattle.one_shot_listing.proofs.+listing.Goals as goal

-- ---- a type

pub read_type-overflow_add-start : goal.read_type-overflow_add-start
read_type-overflow_add-start t c =
    omega (
      arith,
      field_within c.args.s.now c.args.start _ _ c.requires.within
          (sym (c.read_varint.ensures ∙ ap read_varint (rest_of c.args.s.now c.args.start)) ∙ c.in-Some.is),
    )

pub read_type-read_length-requires : goal.read_type-read_length-requires
read_type-read_length-requires t c =
    let whole : read_varint (drop c.args.start c.args.s.now) ≡ Some (varint_of c.in-Some.ctype.value c.in-Some.ctype.size) =
    sym (c.read_varint.ensures ∙ ap read_varint (rest_of c.args.s.now c.args.start)) ∙ c.in-Some.is in (
      omega (arith, field_within c.args.s.now c.args.start _ _ c.requires.within whole),
      (c.requires, record { ctype = c.in-Some.ctype.value; size = c.in-Some.ctype.size; reads = whole; ends = refl }),
    )

pub read_type-returns-in-None : goal.read_type-returns-in-None
read_type-returns-in-None t c =
    ap (found_of c.args.capsules c.args.headers) (ap length (rest_of c.args.s.now c.args.start) ∙ length-drop c.args.start c.args.s.now)
    ∙ in_type_lem c.args.s.now c.args.start c.requires.within c.args.capsules c.args.headers
    (sym (c.read_varint.ensures ∙ ap read_varint (rest_of c.args.s.now c.args.start)) ∙ c.in-None.is)

-- ---- a length

pub read_length-slice_bounds-read_varint-count : goal.read_length-slice_bounds-read_varint-count
read_length-slice_bounds-read_varint-count t c = omega (arith, type_within c.args.s.now c.args.start c.requires.0.within c.args.at c.requires.1)

pub read_length-slice_bounds-read_varint-start : goal.read_length-slice_bounds-read_varint-start
read_length-slice_bounds-read_varint-start t c = omega (arith, type_within c.args.s.now c.args.start c.requires.0.within c.args.at c.requires.1)

pub read_length-overflow_add-at : goal.read_length-overflow_add-at
read_length-overflow_add-at t c =
    omega (
      arith,
      field_within c.args.s.now c.args.at _ _ (type_within c.args.s.now c.args.start c.requires.0.within c.args.at c.requires.1).1
          (sym (c.read_varint.ensures ∙ ap read_varint (rest_of c.args.s.now c.args.at)) ∙ c.in-Some.is),
    )

pub read_length-read_value-requires : goal.read_length-read_value-requires
read_length-read_value-requires t c =
    let whole : read_varint (drop c.args.at c.args.s.now) ≡ Some (varint_of c.in-Some.length.value c.in-Some.length.size) =
    sym (c.read_varint.ensures ∙ ap read_varint (rest_of c.args.s.now c.args.at)) ∙ c.in-Some.is in (
      omega (arith, field_within c.args.s.now c.args.at _ _ (type_within c.args.s.now c.args.start c.requires.0.within c.args.at c.requires.1).1 whole),
      (c.requires.0, record { middle = c.args.at; type_read = c.requires.1; size = c.in-Some.length.size; reads = whole; ends = refl }),
    )

pub read_length-returns-in-None : goal.read_length-returns-in-None
read_length-returns-in-None t c =
    in_length_lem c.args.s.now c.args.start c.requires.0.within c.args.capsules c.args.headers c.args.at c.requires.1
    (sym (c.read_varint.ensures ∙ ap read_varint (rest_of c.args.s.now c.args.at)) ∙ c.in-None.is)

-- ---- a value

pub read_value-overflow_sub-room : goal.read_value-overflow_sub-room
read_value-overflow_sub-room t c = omega (arith, head_within c.args.s.now c.args.start c.requires.0.within c.args.at c.args.length c.requires.1)

pub read_value-returns-then-room-length : goal.read_value-returns-then-room-length
read_value-returns-then-room-length t c =
    in_value_lem c.args.s.now c.args.start c.requires.0.within c.args.capsules c.args.headers c.args.at c.args.length c.requires.1 (omega arith)

pub read_value-read_type-requires : goal.read_value-read_type-requires
read_value-read_type-requires t c = omega (arith, head_within c.args.s.now c.args.start c.requires.0.within c.args.at c.args.length c.requires.1)

pub read_value-returns : goal.read_value-returns
read_value-returns t c =
    c.read_type.ensures
    ∙ at_next c.args.s.now c.args.start c.requires.0.within c.args.capsules c.args.headers c.args.at c.args.length c.requires.1 (omega arith)
