-- By the first byte and the length: `below_128` and `from_128` of Forms, `front_less`, `read_eight` and `read_four` of Reading.
use Rattle.walks.proofs.Words.{arith, sym, ◌∙◌}
use Rattle.wire.proofs.Terms.{Bytes}
use Rattle.wire.proofs.{Forms.long_incomplete, Forms.below_128, Forms.from_128, Reading.front_none, Reading.front_less, Reading.read_eight, Reading.read_four, Numbers.be_four, Numbers.be_eight, Numbers.bytes_each}
use Rattle.wire.proofs.varint.read_long.Goals as goal
use Rattle.wire.proofs.varint.read_long.Goals.{In-Some}

bytes : (c : In-Some) → Bytes c.args.s.now
bytes c = bytes_each c.args.s.now (λ i. (c.type_inv.s i).fits)

pub returns-in_default : goal.returns-in_default
returns-in_default c = sym (long_incomplete _ (front_none _ (omega (arith, c.in_default.ensures.item.3))))

pub returns-then-first-lt-FIRST_OF_4 : goal.returns-then-first-lt-FIRST_OF_4
returns-then-first-lt-FIRST_OF_4 c = below_128 _ (omega (arith, c.in-Some.ensures.item.3.1 0))

pub long_form-requires : goal.long_form-requires
long_form-requires c =
    let s = c.args.s.now in
    let f = c.in-Some-first_chunk.ensures.cases in
    let k = c.in-Some.ensures.item.3.1 0 in
    let w = read_eight s _ (bytes (goal.at.long_form-requires c).In-Some) f.enough c.from_be_bytes.type_inv (be_eight s _ _ (bytes (goal.at.long_form-requires c).In-Some) f c.from_be_bytes.ensures) in
    (k ∙ w.0, omega arith)

pub returns-in-Some-first_chunk : goal.returns-in-Some-first_chunk
returns-in-Some-first_chunk c =
    let s = c.args.s.now in
    let f = c.in-Some-first_chunk.ensures.cases in
    let k = c.in-Some.ensures.item.3 in
    let w = read_eight s _ (bytes (goal.at.returns-in-Some-first_chunk c).In-Some) f.enough c.from_be_bytes.type_inv (be_eight s _ _ (bytes (goal.at.returns-in-Some-first_chunk c).In-Some) f c.from_be_bytes.ensures) in
    c.long_form.ensures ∙ w.1 ∙ from_128 s k.0 (omega (arith, k.1 0))

pub returns-then-first-ge-FIRST_OF_8 : goal.returns-then-first-ge-FIRST_OF_8
returns-then-first-ge-FIRST_OF_8 c =
    let s = c.args.s.now in
    let k = c.in-Some.ensures.item.3 in
    sym (front_less s 3 k.0 (omega (arith, k.1 0, c.type_inv.s 0)) (omega (arith, c.in_default-first_chunk.ensures.cases))) ∙ from_128 s k.0 (omega (arith, k.1 0))

pub returns-in-Some-first_chunk-2 : goal.returns-in-Some-first_chunk-2
returns-in-Some-first_chunk-2 c =
    let s = c.args.s.now in
    let f = c.in-Some-first_chunk-2.ensures.cases in
    let k = c.in-Some.ensures.item.3 in
    let w = be_four s _ _ (bytes (goal.at.returns-in-Some-first_chunk-2 c).In-Some) f c.from_be_bytes-in-Some-first_chunk-2.ensures in
    rw c.from.ensures (sym (read_four s _ f.enough (omega (arith, k.1 0)) c.from_be_bytes-in-Some-first_chunk-2.type_inv w)) ∙ from_128 s k.0 (omega (arith, k.1 0))

pub returns-in-None : goal.returns-in-None
returns-in-None c =
    let s = c.args.s.now in
    let k = c.in-Some.ensures.item.3 in
    sym (front_less s 2 k.0 (omega (arith, k.1 0)) (omega (arith, c.in-None.ensures.cases))) ∙ from_128 s k.0 (omega (arith, k.1 0))
