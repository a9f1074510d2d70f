-- The quarter and the place in an answer, each told exactly from the rule on that needs it; and the payload. Assumes nothing.
use Rattle.std.specs.Prelude.{Some, None, Result, Ok, Err}
use Rattle.short_forms.specs.Short.{varint_of}
use Rattle.walks.proofs.Words.{◌≡◌, refl, sym, ap, ◌∙◌, ℕ, ◌-◌, ◌^◌, ◌≤◌, ◌<◌, arith, Bool, true, false, cond, Option, List, [], length, leb, ltb}
use Rattle.judging.proofs.Terms.{Refusal, limit_too_large, number_too_large, bad_table, Quarter, read_varint, largest_quarter, Entry, receive_open, has_semantics, Table, is_bad, find, entry_at, entry_of, find_right, Judged, judged_record, judged_entry, judged_read, if_accepted, judged_of, rule_of, quarter_in, place_in, entry_place, after_quarter, is_delivered, if_delivered, payload_of, QuarterRight, PlaceRight, PayloadExactly}
use Rattle.judging.specs.declared.judge.Judged.TheVariants as judged

pub no_some {ℓ} : {X : Type ℓ} {x : ℕ} → None ≡ Some x → X
no_some e = let z : ◌≡◌ {A = ℕ} 0 1 = cc in absurd (let n : ⊥ = omega arith in n)

-- what an answer tells, where q is what was read and `place` where its record stands
data Tells (q : ℕ) (place : Option ℕ) (j : Result Judged Refusal) : Type 0 where
  neither : quarter_in j ≡ None → place_in j ≡ None → rule_of j ≡ None → Tells q place j
  quarter : quarter_in j ≡ Some q → place_in j ≡ None → ((n : ℕ) → rule_of j ≡ Some n → n < 5) → Tells q place j
  both : quarter_in j ≡ Some q → place_in j ≡ place → Tells q place j

-- ---- what each answer tells

pub one : (k n : ℕ) → Some k ≡ Some n → k ≡ n
one k n e = cc

module _ (q : ℕ) (place : Option ℕ) where
  choice : (b : Bool) (x y : Result Judged Refusal) → Tells q place x → Tells q place y → Tells q place (cond b x y)
  choice true x y u v = u
  choice false x y u v = v

  either : (b : Bool) (x y : Judged) → Tells q place (Ok x) → Tells q place (Ok y) → Tells q place (Ok (cond b x y))
  either true x y u v = u
  either false x y u v = v

  refusal : (r : Refusal) → Tells q place (Err r)
  unfolding quarter_in place_in rule_of
  refusal r = neither refl refl refl

entry_tells : (q limit rest : ℕ) (e : Option Entry) → Tells q (entry_place e) (Ok (judged_entry e q limit rest))
unfolding judged_entry judged_record entry_place quarter_in place_in rule_of
entry_tells q limit rest None = quarter refl refl (λ n e. let k = one 4 n e in omega arith)
entry_tells q limit rest (Some found) =
    let c = either q (Some found.place) in
    c (receive_open found.stream) _ _ (c (has_semantics found.stream) _ _ (c (leb rest limit) _ _ (both refl refl) (both refl refl)) (both refl refl)) (both refl refl)

accepted_tells : (q : ℕ) (place : Option ℕ) (t : Table) (streams limit : ℕ) (j : Judged) → Tells q place (Ok j)
    → Tells q place (cond (is_bad t) (Err bad_table) (if_accepted streams limit j))
accepted_tells q p t streams limit j k =
    let c = choice q p in
    c (is_bad t) _ _ (refusal q p bad_table) (c (leb limit 65535) _ _ (c (leb streams (2 ^ 60)) _ _ k (refusal q p number_too_large)) (refusal q p limit_too_large))

tells : (t : Table) (streams limit : ℕ) (frame : List ℕ) (q size : ℕ) → read_varint frame ≡ Some (varint_of q size) → Tells q (entry_place (entry_of q t)) (judged_of t streams limit frame)
unfolding judged_of judged_read quarter_in place_in rule_of
tells t streams limit frame q size e =
    let p = entry_place (entry_of q t) in
    rw e (accepted_tells q p t streams limit _
    (either q p (leb q largest_quarter) _ _
    (either q p (ltb q streams) _ _ (entry_tells q limit (length frame - size) (entry_of q t)) (quarter refl refl (λ n e. let k = one 3 n e in omega arith)))
    (quarter refl refl (λ n e. let k = one 2 n e in omega arith))))

-- where no quarter is read
short : (x y z : Bool)
    → let j = cond x (Err bad_table) (cond y (cond z (Ok judged.ShortFrame) (Err number_too_large)) (Err limit_too_large)) in (quarter_in j ≡ None) × (place_in j ≡ None)
unfolding quarter_in place_in
short true y z = (refl, refl)
short false false z = (refl, refl)
short false true true = (refl, refl)
short false true false = (refl, refl)

short_tells : (t : Table) (streams limit : ℕ) (frame : List ℕ) → read_varint frame ≡ None
    → (quarter_in (judged_of t streams limit frame) ≡ None) × (place_in (judged_of t streams limit frame) ≡ None)
unfolding judged_of judged_read
short_tells t streams limit frame e = rw e (short (is_bad t) (leb limit 65535) (leb streams (2 ^ 60)))

-- ---- the claims

module _ (q : ℕ) (place : Option ℕ) (j : Result Judged Refusal) where
  same_quarter : Tells q place j → (x : ℕ) → quarter_in j ≡ Some x → q ≡ x
  same_quarter (neither a b c) x e = no_some (sym a ∙ e)
  same_quarter (quarter a b c) x e = one q x (sym a ∙ e)
  same_quarter (both a b) x e = one q x (sym a ∙ e)

  quarter_told : Tells q place j → (n : ℕ) → rule_of j ≡ Some n → quarter_in j ≡ Some q
  quarter_told (neither a b c) n e = no_some (sym c ∙ e)
  quarter_told (quarter a b c) n e = a
  quarter_told (both a b) n e = a

  same_place : Tells q place j → (x : ℕ) → place_in j ≡ Some x → place ≡ Some x
  same_place (neither a b c) x e = no_some (sym b ∙ e)
  same_place (quarter a b c) x e = no_some (sym b ∙ e)
  same_place (both a b) x e = sym b ∙ e

  place_told : Tells q place j → (n : ℕ) → rule_of j ≡ Some n → 5 ≤ n → place_in j ≡ place
  place_told (neither a b c) n e l = no_some (sym c ∙ e)
  place_told (quarter a b c) n e l = let k = c n e in absurd (let m : ⊥ = omega arith in m)
  place_told (both a b) n e l = b

found_at : (t : Table) (f : Option ℕ) (i : ℕ) → entry_place (entry_at t f) ≡ Some i → f ≡ Some i
unfolding entry_place entry_at
found_at t None i e = no_some e
found_at t (Some k) i e = ap Some (one k i e)

pub quarter_right : QuarterRight
quarter_right t streams limit frame = (
  λ q size e. let k = tells t streams limit frame q size e in (same_quarter _ _ _ k, quarter_told _ _ _ k),
  λ e. (short_tells t streams limit frame e).0,
)

pub place_right : PlaceRight
place_right t streams limit frame = (
  λ q size e.
      let k = tells t streams limit frame q size e in
      (λ place p. find_right q place t (found_at t (find q t) place (same_place _ _ _ k place p)), place_told _ _ _ k),
  λ e. (short_tells t streams limit frame e).1,
)

-- ---- the payload

none_delivered : (j : Result Judged Refusal) (x : List ℕ) → ((p : Quarter) (place : ℕ) → j ≡ Ok (judged.Delivered p place) → ⊥) → if_delivered j x ≡ []
unfolding if_delivered is_delivered
none_delivered (Err r) x n = refl
none_delivered (Ok judged.ShortFrame) x n = refl
none_delivered (Ok (judged.QuarterTooLarge q)) x n = refl
none_delivered (Ok (judged.BeyondLimit q)) x n = refl
none_delivered (Ok (judged.NoStream q)) x n = refl
none_delivered (Ok (judged.ReceiveClosed q place)) x n = refl
none_delivered (Ok (judged.NoSemantics q place)) x n = refl
none_delivered (Ok (judged.TooLong q place)) x n = refl
none_delivered (Ok (judged.Delivered q place)) x n = absurd (n q place refl)

pub payload_exactly : PayloadExactly
unfolding payload_of after_quarter
payload_exactly t streams limit frame = (
  λ p place q size d v. rw (d, v) (unfold if_delivered is_delivered in refl),
  λ n. none_delivered (judged_of t streams limit frame) _ n,
)
