-- Stream IDs and quarter stream IDs. Assumes nothing.
use Rattle.std.specs.Prelude.{Some, None}
use Rattle.walks.proofs.Words.{◌≡◌, refl, sym, ap, ◌∙◌, ℕ, ◌-◌, ◌*◌, ◌/◌, ◌%◌, ◌^◌, ◌≤◌, ◌<◌, arith, Bool, true, false, eqb, le-leb, lt-leb, eq-eqb, ne_eqb, eqb-true, eqb-false}
use Rattle.wire.proofs.Terms.{StreamId, Quarter, IsRequestStream, is_request, largest_quarter, quarter_of, stream_of, RequestExactly, QuarterExactly, QuarterBounded}
use Rattle.wire.proofs.Reading.{split}

-- ---- as the code tests

pub quarter-is : (id : StreamId) → id.0 ≤ 2 ^ 62 - 1 → id.0 % 4 ≡ 0 → quarter_of id ≡ Some (record { 0 = id.0 / 4 })
unfolding quarter_of is_request
quarter-is id h e = rw (le-leb id.0 (2 ^ 62 - 1) h, eq-eqb (id.0 % 4) 0 e)

pub quarter_large : (id : StreamId) → 2 ^ 62 - 1 < id.0 → quarter_of id ≡ None
unfolding quarter_of is_request
quarter_large id h = rw (lt-leb id.0 (2 ^ 62 - 1) h)

pub quarter_uneven : (id : StreamId) → id.0 ≤ 2 ^ 62 - 1 → (id.0 % 4 ≡ 0 → ⊥) → quarter_of id ≡ None
unfolding quarter_of is_request
quarter_uneven id h e = rw (le-leb id.0 (2 ^ 62 - 1) h, ne_eqb (id.0 % 4) 0 e)

pub stream-is : (q : Quarter) → q.0 ≤ largest_quarter → stream_of q ≡ Some (record { 0 = q.0 * 4 })
unfolding stream_of
stream-is q h = rw (le-leb q.0 largest_quarter h)

pub stream_large : (q : Quarter) → largest_quarter < q.0 → stream_of q ≡ None
unfolding stream_of
stream_large q h = rw (lt-leb q.0 largest_quarter h)

-- ---- the claims

-- an ID and a quarter that belong together
pub record Pair (id q : ℕ) : Type 0 where
  pub four : id ≡ q * 4
  pub most : q ≤ 2 ^ 60 - 1

quarter_pair : (id : StreamId) (q : Quarter) → quarter_of id ≡ Some q → Pair id.0 q.0
quarter_pair id q e = split id.0 (2 ^ 62 - 1) (λ m. go m (eqb (id.0 % 4) 0) refl) (λ m. no (quarter_large id m))
  where
    no : quarter_of id ≡ None → Pair id.0 q.0
    no d = let z : ◌≡◌ {A = ℕ} 0 1 = cc in absurd (let n : ⊥ = omega arith in n)

    go : id.0 ≤ 2 ^ 62 - 1 → (b : Bool) → eqb (id.0 % 4) 0 ≡ b → Pair id.0 q.0
    go m true y =
        let d = eqb-true (id.0 % 4) 0 y in
        let is_q : record { 0 = id.0 / 4 } ≡ q = cc (quarter-is id m d) in
        let is_n : id.0 / 4 ≡ q.0 = ap (λ (p : Quarter). p.0) is_q in
        record { four = omega arith; most = omega arith }
    go m false y = no (quarter_uneven id m (eqb-false (id.0 % 4) 0 y))

stream_pair : (id : StreamId) (q : Quarter) → stream_of q ≡ Some id → Pair id.0 q.0
unfolding largest_quarter
stream_pair id q e = split q.0 (2 ^ 60 - 1)
    (λ m.
    let is_i : record { 0 = q.0 * 4 } ≡ id = cc (stream-is q m) in
    let is_n : q.0 * 4 ≡ id.0 = ap (λ (i : StreamId). i.0) is_i in
    record { four = omega arith; most = omega arith })
    (λ m. let z : ◌≡◌ {A = ℕ} 0 1 = cc (stream_large q m) in absurd (let n : ⊥ = omega arith in n))

pair_quarter : (id : StreamId) (q : Quarter) → Pair id.0 q.0 → quarter_of id ≡ Some q
pair_quarter id q p =
    let e : id.0 / 4 ≡ q.0 = omega (arith, p.four) in
    quarter-is id (omega (arith, p.four, p.most)) (omega (arith, p.four)) ∙ ap Some (λ i. record { 0 = e i })

pair_stream : (id : StreamId) (q : Quarter) → Pair id.0 q.0 → stream_of q ≡ Some id
unfolding largest_quarter
pair_stream id q p = stream-is q p.most ∙ ap Some (λ i. record { 0 = sym p.four i })

pub request_exactly : RequestExactly
request_exactly id = (λ q. (to q, from q), (never, none))
  where
    to : (q : ℕ) → quarter_of id ≡ Some (record { 0 = q }) → IsRequestStream id.0 × (q * 4 ≡ id.0)
    to q e = let p = quarter_pair id (record { 0 = q }) e in ((omega (arith, p.four), omega (arith, p.four, p.most)), sym p.four)

    from : (q : ℕ) → IsRequestStream id.0 × (q * 4 ≡ id.0) → quarter_of id ≡ Some (record { 0 = q })
    from q h = pair_quarter id (record { 0 = q }) (record { four = sym h.1; most = omega (arith, h.0.1, h.1) })

    never : quarter_of id ≡ None → IsRequestStream id.0 → ⊥
    never e h = let z : ◌≡◌ {A = ℕ} 0 1 = cc (quarter-is id h.1 h.0) in omega arith

    none : (IsRequestStream id.0 → ⊥) → quarter_of id ≡ None
    none n = split id.0 (2 ^ 62 - 1) (λ l. quarter_uneven id l (λ d. n (d, l))) (quarter_large id)

pub quarter_exactly : QuarterExactly
quarter_exactly id q = (λ e. pair_stream id q (quarter_pair id q e), λ e. pair_quarter id q (stream_pair id q e))

pub quarter_bounded : QuarterBounded
unfolding largest_quarter
quarter_bounded id q e = (quarter_pair id q e).most
