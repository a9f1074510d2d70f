-- The flags of a record, by what its number leaves at a division by each; a flag cleared, by the difference. Assumes nothing.
use Rattle.walks.proofs.Words.{◌≡◌, refl, sym, ap, subst, ◌∙◌, ℕ, ◌+◌, ◌-◌, ◌/◌, ◌%◌, ◌≤◌, ◌<◌, arith, Bool, true, false, cond, not, ◌&&◌, ◌||◌, or-false, true≢false, false≢true, eqb, ltb, eqb-true, eq-eqb, ne_eqb, lt-ltb, le-ltb, ltb-false, not-false}
use Rattle.stream_records.proofs.Terms.{largest_quarter, StreamRecord, Side, Receive, Send, flag, flag_of, blank, is_used, receive_open, send_open, has_semantics, both_closed, is_blank, is_bad_record, without, with_closed, FlagsExactly, BlankExactly, FreeGood, UsedGood, ClosedExactly, ClosedAlready}

pub or_none : (a b : Bool) → (a || b) ≡ false → (a ≡ false) × (b ≡ false)
or_none false b e = (refl, e)
or_none true b e = absurd (true≢false e)

pub and_both : (a b : Bool) → (a && b) ≡ true → (a ≡ true) × (b ≡ true)
and_both true b e = (refl, e)
and_both false b e = absurd (false≢true e)

pub not_so : (b : Bool) → (b ≡ true → ⊥) → b ≡ false
not_so true n = absurd (n refl)
not_so false n = refl

-- ---- bad records

module _ (r : StreamRecord) where
  abbrev q : ℕ
  q = r.quarter.0

  pub used-bad : is_used r ≡ true → is_bad_record r ≡ (ltb largest_quarter q || both_closed r)
  unfolding is_bad_record
  used-bad u = ap (λ (b : Bool). cond b (ltb largest_quarter q || both_closed r) (not (is_blank r))) u

  pub free_bad : is_used r ≡ false → is_bad_record r ≡ not (is_blank r)
  unfolding is_bad_record
  free_bad u = ap (λ (b : Bool). cond b (ltb largest_quarter q || both_closed r) (not (is_blank r))) u

  pub quarter_large : is_used r ≡ true → largest_quarter < q → true ≡ is_bad_record r
  quarter_large u l = sym (used-bad u ∙ ap (λ (b : Bool). b || both_closed r) (lt-ltb largest_quarter q l))

  pub quarter-fits : is_used r ≡ true → q ≤ largest_quarter → is_bad_record r ≡ not (receive_open r || send_open r)
  unfolding both_closed
  quarter-fits u l = used-bad u ∙ ap (λ (b : Bool). b || both_closed r) (le-ltb largest_quarter q l)

  pub sides_bad : is_used r ≡ true → q ≤ largest_quarter → (a : Bool) → receive_open r ≡ a → not (a || send_open r) ≡ is_bad_record r
  sides_bad u l a e = sym (quarter-fits u l ∙ ap (λ (b : Bool). not (b || send_open r)) e)

  pub blank-is : is_blank r ≡ true → r ≡ blank
  unfolding is_blank
  blank-is e = let z = and_both _ _ e in λ i. record { quarter = record { 0 = eqb-true q 0 z.0 i }; flags = eqb-true r.flags 0 z.1 i }

pub flags_exactly : FlagsExactly
unfolding flag
flags_exactly r = ((eqb-true _ 1, eq-eqb _ 1), (eqb-true _ 1, eq-eqb _ 1), (eqb-true _ 1, eq-eqb _ 1), (eqb-true _ 1, eq-eqb _ 1))

pub blank_exactly : BlankExactly
unfolding is_blank
blank_exactly = (refl, refl, λ r. (blank-is r, λ e. rw e))

pub free_good : FreeGood
unfolding is_bad_record is_blank flag
free_good r u = (λ e. blank-is r (not-false _ (sym (free_bad r u) ∙ e)), λ e. rw e)

pub used_good : UsedGood
unfolding both_closed
used_good r u = (
  λ e.
      let z = or_none _ _ (sym (used-bad r u) ∙ e) in
      (ltb-false _ _ z.0, λ s. false≢true (sym z.1 ∙ (λ i. not (s.0 i || s.1 i)))),
  λ l n. quarter-fits r u l ∙ go (receive_open r) refl (send_open r) refl n,
)
  where
    go : (a : Bool) → receive_open r ≡ a → (b : Bool) → send_open r ≡ b → ((receive_open r ≡ false) × (send_open r ≡ false) → ⊥) → not (receive_open r || send_open r) ≡ false
    go true x b y n = λ i. not (x i || send_open r)
    go false x true y n = λ i. not (x i || y i)
    go false x false y n = absurd (n (x, y))

-- ---- a flag cleared

module _ (bit : ℕ) (r : StreamRecord) where
  abbrev less : StreamRecord
  less = record { quarter = r.quarter; flags = r.flags - bit }

  pub cleared : flag bit r ≡ true → less ≡ without bit r
  unfolding without
  cleared e = ap (λ (b : Bool). cond b less r) (sym e)

  pub clear_already : flag bit r ≡ false → without bit r ≡ r
  unfolding without
  clear_already e = ap (λ (b : Bool). cond b less r) e

  pub set_odd : flag bit r ≡ true → r.flags / bit % 2 ≡ 1
  unfolding flag
  set_odd e = eqb-true _ 1 e

  -- what is the same without a flag that is set is the same in any case
  kept {ℓ} : {A : Type ℓ} (f : StreamRecord → A) → (r.flags / bit % 2 ≡ 1 → f less ≡ f r) → f (without bit r) ≡ f r
  kept f h = go (flag bit r) refl
    where
      go : (b : Bool) → flag bit r ≡ b → f (without bit r) ≡ f r
      go true e = ap f (sym (cleared e)) ∙ h (set_odd e)
      go false e = ap f (clear_already e)

  other_flag : (other : ℕ) → (r.flags / bit % 2 ≡ 1 → (r.flags - bit) / other % 2 ≡ r.flags / other % 2) → flag other (without bit r) ≡ flag other r
  unfolding flag
  other_flag other h = kept (flag other) (λ e. ap (λ (n : ℕ). eqb n 1) (h e))

  is_cleared : (r.flags / bit % 2 ≡ 1 → (r.flags - bit) / bit % 2 ≡ 0) → flag bit (without bit r) ≡ false
  unfolding flag
  is_cleared h = go (flag bit r) refl
    where
      go : (b : Bool) → flag bit r ≡ b → flag bit (without bit r) ≡ false
      go true e = ap (flag bit) (sym (cleared e)) ∙ ne_eqb ((r.flags - bit) / bit % 2) 1 (λ f. let n : ⊥ = omega (arith, h (set_odd e)) in n)
      go false e = ap (flag bit) (clear_already e) ∙ e

-- what is the same from one bit on is the same from the next on
eighths : (n m : ℕ) → n / 4 ≡ m / 4 → n / 8 ≡ m / 8
eighths n m e = let h : (x : ℕ) → x / 4 / 2 ≡ x / 8 = λ x. omega arith in sym (h n) ∙ ap (λ (x : ℕ). x / 2) e ∙ h m

sixteenths : (n m : ℕ) → n / 8 ≡ m / 8 → n / 16 ≡ m / 16
sixteenths n m e = let h : (x : ℕ) → x / 8 / 2 ≡ x / 16 = λ x. omega arith in sym (h n) ∙ ap (λ (x : ℕ). x / 2) e ∙ h m

fourths : (n : ℕ) → n / 2 % 2 ≡ 1 → (n - 2) / 4 ≡ n / 4
fourths n e = omega arith

above_receive : (n : ℕ) → n / 2 % 2 ≡ 1 → (n - 2) / 8 ≡ n / 8
above_receive n e = eighths (n - 2) n (fourths n e)

above_send : (n : ℕ) → n / 4 % 2 ≡ 1 → (n - 4) / 8 ≡ n / 8
above_send n e = omega arith

below_send : (n : ℕ) → n / 4 % 2 ≡ 1 → (n - 4) / 2 % 2 ≡ n / 2 % 2
below_send n e =
    let more : (x : ℕ) → x % 2 ≡ (x + 2) % 2 = λ x. omega arith in
    let h : (n - 4) / 2 + 2 ≡ n / 2 = omega arith in
    more ((n - 4) / 2) ∙ ap (λ (x : ℕ). x % 2) h

pub closed_exactly : ClosedExactly
unfolding with_closed
closed_exactly r = (
  (is_cleared 2 r (λ e. omega arith), other_flag 2 r 4 (λ e. ap (λ (x : ℕ). x % 2) (fourths r.flags e))),
  (is_cleared 4 r (λ e. omega arith), other_flag 4 r 2 (below_send r.flags)),
  λ side. go side,
)
  where
    go : (side : Side)
        → ((with_closed side r).quarter ≡ r.quarter) × (is_used (with_closed side r) ≡ is_used r) × (has_semantics (with_closed side r) ≡ has_semantics r)
        × ((with_closed side r).flags / 16 ≡ r.flags / 16)
    go Receive = (
      kept 2 r (λ s. s.quarter) (λ e. refl),
      other_flag 2 r 1 (λ e. omega arith),
      other_flag 2 r 8 (λ e. ap (λ (x : ℕ). x % 2) (above_receive r.flags e)),
      kept 2 r (λ s. s.flags / 16) (λ e. sixteenths (r.flags - 2) r.flags (above_receive r.flags e)),
    )
    go Send = (
      kept 4 r (λ s. s.quarter) (λ e. refl),
      other_flag 4 r 1 (λ e. omega arith),
      other_flag 4 r 8 (λ e. ap (λ (x : ℕ). x % 2) (above_send r.flags e)),
      kept 4 r (λ s. s.flags / 16) (λ e. sixteenths (r.flags - 4) r.flags (above_send r.flags e)),
    )

pub flag_within : (r : StreamRecord) (side : Side) (bit : ℕ) → bit ≡ flag_of side → flag bit r ≡ true → bit ≤ r.flags
flag_within r Receive bit e f = let h : r.flags / 2 % 2 ≡ 1 = subst (λ (b : ℕ). r.flags / b % 2 ≡ 1) e (set_odd bit r f) in omega (arith, h, e)
flag_within r Send bit e f = let h : r.flags / 4 % 2 ≡ 1 = subst (λ (b : ℕ). r.flags / b % 2 ≡ 1) e (set_odd bit r f) in omega (arith, h, e)

-- a side is closed by clearing its flag
pub without_flag : (r : StreamRecord) (side : Side) (bit : ℕ) → bit ≡ flag_of side → without bit r ≡ with_closed side r
unfolding with_closed
without_flag r Receive bit e = ap (λ (b : ℕ). without b r) e
without_flag r Send bit e = ap (λ (b : ℕ). without b r) e

pub closed_already : ClosedAlready
unfolding with_closed
closed_already r = (clear_already 2 r, clear_already 4 r)

-- ---- both sides closed

pub frees_receive : (r : StreamRecord) → not (send_open r) ≡ both_closed (with_closed Receive r)
unfolding both_closed
frees_receive r = let e = (closed_exactly r).0 in λ i. not (sym e.0 i || sym e.1 i)

pub frees_send : (r : StreamRecord) → not (receive_open r) ≡ both_closed (with_closed Send r)
unfolding both_closed
frees_send r = let e = (closed_exactly r).1 in ap not (sym (or-false (receive_open r))) ∙ (λ i. not (sym e.1 i || sym e.0 i))
